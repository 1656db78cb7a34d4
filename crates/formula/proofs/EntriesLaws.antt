-- The entries where a trace is judged: a step back, in two passes, leads from those of the rest of the trace to those of the whole.
-- Assumes nothing.
use Prim.Native.Nat.{ℕ, ◌≤◌, ◌<◌}
use native.Mathlib.Nat.{le_trans}
use native.Mathlib.Omega.{arith}
use mathlib.Core.Path.{◌≡◌, refl, sym, ap, ap₂, ◌∙◌}
use mathlib.Core.Bool.{Bool, true, false}
use mathlib.Core.List.{List, ◌∷◌}
use lib.Dec.{ltb}
use lib.ListN.{length, get_or-eq_default}
use borrow.Author.Tests.{ltb-true, ltb-false}
use Rattle.basics.specs.Bits.{bit}
use Rattle.basics.specs.Lists.{tabulate}
use Rattle.basics.proofs.ListsLaws.{length_tabulate, get_d_tabulate, table_over}
use Rattle.formula.specs.Semantics.{Trace}
use Rattle.formula.specs.Parts.{Part, part_at}
use Rattle.formula.specs.Values.{owed, owed_on, value_on}
use Rattle.formula.specs.Entries.{entry, entries_on, value_in, owed_in, with_values, with_owed}
use Rattle.formula.proofs.ValuesLaws.{with_same, owed_step, value_out, owed_out}

-- the two bits of an entry
pub entry_value : (v o : Bool) → bit (entry v o) 0 ≡ v
entry_value true true = refl
entry_value true false = refl
entry_value false true = refl
entry_value false false = refl

pub entry_owed : (v o : Bool) → bit (entry v o) 1 ≡ o
entry_owed true true = refl
entry_owed true false = refl
entry_owed false true = refl
entry_owed false false = refl

-- ---- a step back

module _ (ps : List Part) (w : ℕ) (fits : length ps ≤ w) where
  -- the values in entries of which the obligations are any
  values_are : (π : Trace) (o : ℕ → Bool) (i : ℕ) → value_in (tabulate w (λ j. entry (value_on ps π j) (o j))) i ≡ value_on ps π i
  values_are π o i = at (ltb i w) refl
    where
      e : ℕ → ℕ
      e j = entry (value_on ps π j) (o j)

      at : (b : Bool) → ltb i w ≡ b → value_in (tabulate w e) i ≡ value_on ps π i
      at true l = ap (λ n. bit n 0) (get_d_tabulate w e i 0 (ltb-true i w l)) ∙ entry_value (value_on ps π i) (o i)
      at false l =
          let past : w ≤ i = ltb-false i w l in
          ap (λ n. bit n 0) (get_or-eq_default (tabulate w e) 0 {n = i} (rw length_tabulate past))
          ∙ sym (value_out ps i (le_trans fits past) π)

  module _ (a : ℕ) (π : Trace) where
    -- the first pass
    valued : ℕ → ℕ
    valued i = entry (value_on ps (a ∷ π) i) false

    values_written : with_values ps a (length ps) (entries_on ps w π) ≡ tabulate w valued
    unfolding with_values entries_on value_on valued
    values_written =
        table_over (length ps) w _ _ valued fits
        (λ i h. ap (λ v. entry v false) (with_same ps a _ (owed_on ps π) i (λ n l t. owed_there n (omega arith))))
        (λ i h. ap₂ entry (value_out ps i h π ∙ sym (value_out ps i h (a ∷ π))) (owed_out ps i h π))
      where
        owed_there : (n : ℕ) → n < w → owed_in (tabulate w (λ j. entry (value_on ps π j) (owed_on ps π j))) n ≡ owed_on ps π n
        owed_there n h = ap (λ m. bit m 1) (get_d_tabulate w _ n 0 h) ∙ entry_owed (value_on ps π n) (owed_on ps π n)

    -- the second
    owed_written : with_owed ps (length ps) (tabulate w valued) ≡ entries_on ps w (a ∷ π)
    unfolding with_owed entries_on valued
    owed_written =
        table_over (length ps) w _ _ (λ i. entry (value_on ps (a ∷ π) i) (owed_on ps (a ∷ π) i)) fits
        (λ i h. ap₂ (λ v x. entry v (owed (part_at ps i).kind x v)) (values i) (values (part_at ps i).left)
        ∙ ap (entry (value_on ps (a ∷ π) i)) (sym (owed_step ps a π i)))
        (λ i h. ap (entry (value_on ps (a ∷ π) i)) (sym (owed_out ps i h (a ∷ π))))
      where
        values : (i : ℕ) → value_in (tabulate w valued) i ≡ value_on ps (a ∷ π) i
        values i = values_are (a ∷ π) (λ j. false) i

    pub entries_back : with_owed ps (length ps) (with_values ps a (length ps) (entries_on ps w π)) ≡ entries_on ps w (a ∷ π)
    entries_back = ap (with_owed ps (length ps)) values_written ∙ owed_written

  -- the value in an entry is the part's
  pub entries_value : (π : Trace) (i : ℕ) → value_in (entries_on ps w π) i ≡ value_on ps π i
  unfolding entries_on
  entries_value π i = values_are π (owed_on ps π) i

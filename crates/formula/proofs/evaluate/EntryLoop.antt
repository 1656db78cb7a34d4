-- How the code takes the entries back, one entry and one step at a time.
-- Assumes nothing.
use Prim.Native.Nat.{ℕ, suc, ◌+◌, ◌-◌, ◌≤◌, ◌<◌}
use native.Mathlib.Numerals.{add-one}
use native.Mathlib.Omega.{arith}
use mathlib.Core.Path.{◌≡◌, refl, sym, ap, ap₂, ◌∙◌}
use mathlib.Core.Bool.{Bool, true, false, ◌&&◌}
use mathlib.Core.List.{List, ◌++◌}
use lib.Dec.{ltb}
use lib.ListN.{length, get_or, set, drop, replicate, drop_of_length-le}
use lib.Seq.{drop-cons}
use borrow.Author.Tests.{ltb-true, ltb-false}
use Rattle.basics.specs.Bits.{bit}
use Rattle.basics.specs.Lists.{tabulate}
use Rattle.basics.proofs.ListsLaws.{table_zeros, get_d_table, get_d_behind}
use Rattle.basics.proofs.Filling.{table_more}
use Rattle.formula.specs.Parts.{Part, part_at, last_of}
use Rattle.formula.specs.Codes.{parts_in}
use Rattle.formula.specs.Values.{combine, owed, value_with, owed_with, owed_on, value_on}
use Rattle.formula.specs.Entries.{entry, entries_on, value_in, owed_in, with_values, with_owed}
use Rattle.formula.proofs.CodesLaws.{length_in}
use Rattle.formula.proofs.ValuesLaws.{with_any}
use Rattle.formula.proofs.EntriesLaws.{entry_value, entries_back, entries_value}

-- ---- one more part

module _ (ps : List Part) (old : List ℕ) where
  -- its value
  module _ (a : ℕ) where
    abbrev valued : ℕ → ℕ
    valued j = entry (value_with ps a (owed_in old) j) false

    pub values_none : (n : ℕ) → n ≡ 0 → old ≡ with_values ps a n old
    unfolding with_values
    values_none n e = rw e

    pub values_more : (n i : ℕ) → n ≡ i + 1 → i < length old → (r : List ℕ) → r ≡ with_values ps a i old
        → (q : Part) → q ≡ part_at ps i → (s o x y v : Bool) (e : ℕ) → s ≡ bit a q.left → o ≡ owed_in r i → x ≡ value_in r q.left
        → y ≡ value_in r q.right → v ≡ combine q.kind s o (ltb q.left i && x) (ltb q.right i && y) → e ≡ entry v false
        → set r i e ≡ with_values ps a n old
    unfolding with_values
    values_more n i en room r er q eq s o x y v e es eo ex ey ev ee =
        rw en (table_more i valued old r e room er (rw (ee, ev, es, eo, ex, ey, eq) (ap (λ b. entry b false) value)))
      where
        k : Part
        k = part_at ps i

        own : owed_in r i ≡ owed_in old i
        own = rw er (ap (λ m. bit m 1) (get_d_behind valued i i old (omega arith)))

        before : (j : ℕ) → (ltb j i && value_in r j) ≡ (ltb j i && value_with ps a (owed_in old) j)
        before j = at (ltb j i) refl
          where
            at : (b : Bool) → ltb j i ≡ b → (b && value_in r j) ≡ (b && value_with ps a (owed_in old) j)
            at true l = rw er (ap (λ m. bit m 0) (get_d_table valued i j (drop i old) (ltb-true j i l)) ∙ entry_value (value_with ps a (owed_in old) j) false)
            at false l = refl

        value : combine k.kind (bit a k.left) (owed_in r i) (ltb k.left i && value_in r k.left) (ltb k.right i && value_in r k.right)
            ≡ value_with ps a (owed_in old) i
        value =
            ap (λ b. combine k.kind (bit a k.left) b (ltb k.left i && value_in r k.left) (ltb k.right i && value_in r k.right)) own
            ∙ ap₂ (combine k.kind (bit a k.left) (owed_in old i)) (before k.left) (before k.right)
            ∙ sym (with_any ps a (owed_in old) i)

  -- its obligation
  abbrev owing : ℕ → ℕ
  owing j = entry (value_in old j) (owed_with ps (value_in old) j)

  pub owed_none : old ≡ with_owed ps 0 old
  unfolding with_owed
  owed_none = refl

  pub owed_more : (i : ℕ) → i < length old → (r : List ℕ) → r ≡ with_owed ps i old → (q : Part) → q ≡ part_at ps i → (v x o : Bool) (e : ℕ)
      → v ≡ value_in r i → x ≡ value_in r q.left → o ≡ owed q.kind x v → e ≡ entry v o → set r i e ≡ with_owed ps (i + 1) old
  unfolding with_owed
  owed_more i room r er q eq v x o e ev ex eo ee =
      table_more i owing old r e room er (rw (ee, eo, ex, ev, eq, kept i, kept (part_at ps i).left))
    where
      -- the values stay
      kept : (j : ℕ) → value_in r j ≡ value_in old j
      kept j = rw er (at (ltb j i) refl)
        where
          at : (b : Bool) → ltb j i ≡ b → value_in (tabulate i owing ++ drop i old) j ≡ value_in old j
          at true l = ap (λ m. bit m 0) (get_d_table owing i j (drop i old) (ltb-true j i l)) ∙ entry_value (value_in old j) (owed_with ps (value_in old) j)
          at false l = ap (λ m. bit m 0) (get_d_behind owing i j old (ltb-false j i l))

-- ---- one more step

module _ (codes : List ℕ) (w : ℕ) (π : List ℕ) where
  abbrev parts : List Part
  parts = parts_in codes

  -- behind the last step
  pub entries_end : (t : ℕ) → t ≡ length π → replicate w 0 ≡ entries_on parts w (drop t π)
  unfolding entries_on value_on owed_on
  entries_end t e = rw (drop_of_length-le π {i = t} (omega arith)) (sym (table_zeros w))

  -- at an earlier one
  pub entries_step : (t : ℕ) → t < length π → length codes ≤ w → (r u v : List ℕ) → r ≡ entries_on parts w (drop (t + 1) π)
      → u ≡ with_values parts (get_or π t 0) (length codes) r → v ≡ with_owed parts (length codes) u → v ≡ entries_on parts w (drop t π)
  entries_step t h fits r u v er eu ev =
      rw (ev, eu, er, add-one, drop-cons π t 0, ← length_in) (entries_back parts w (rw length_in fits) (get_or π t 0) (drop (suc t) π))

  -- the last part's value in the entries at the first step
  pub last_value_lem : (r : List ℕ) → 0 < length codes → length codes ≤ w → r ≡ entries_on parts w π
      → bit (get_or r (length codes - 1) 0) 0 ≡ value_on parts π (last_of parts)
  last_value_lem r h fits e =
      let last : length codes - 1 ≡ last_of parts = rw length_in (omega arith) in
      rw (e, last) (entries_value parts w (rw length_in fits) π (last_of parts))

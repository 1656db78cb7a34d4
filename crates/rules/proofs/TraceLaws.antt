-- How the code judges a trace: a letter, the letters of a trace, and the verdict.
-- Assumes nothing.
use Rattle.lines.specs.declared.refusal.Refusal.{Refusal}
use Rattle.std.specs.Prelude.{Err, Ok, Result, Option, Some, None}
use Prim.Native.Nat.{ℕ, suc, ◌+◌, ◌-◌, ◌*◌, ◌/◌, ◌%◌, ◌^◌, ◌≤◌, ◌<◌}
use native.Mathlib.Nat.{one-mul}
use native.Mathlib.Numerals.{add-one}
use native.Mathlib.Omega.{arith}
use mathlib.Core.Path.{◌≡◌, refl, sym, ap, ◌∙◌}
use mathlib.Core.Bool.{Bool, true, false, ◌&&◌, ◌||◌, cond}
use mathlib.Core.List.{[], ◌∷◌}
use lib.Bits.{bit_and, and_mask}
use lib.Dec.{eqb, ltb, lit<}
use lib.ListN.{length, get_or, drop, drop_of_length-le}
use lib.Pow.{shl_exact}
use lib.Seq.{drop-cons}
use Rattle.lines.specs.declared.refusal.Refusal.TheVariants.{BadTrace}
use Rattle.formula.specs.Formula.{Formula}
use Rattle.basics.specs.Limits.{kind_limit}
use Rattle.rules.specs.Limits.{trace_limit}
use Rattle.formula.specs.Semantics.{Trace, holds}
use Rattle.formula.specs.Parts.{last_of, parts_of}
use Rattle.formula.specs.Values.{value_on}
use Rattle.rules.specs.Trace.{bad_step, verdict_on}
use Rattle.formula.specs.Letter.{Counts, kind_size, is_letter}
use Rattle.formula.proofs.FormulaValues.{value_parts}

-- ---- a letter

-- a shift of 1
shl_one : (n : ℕ) → n ≤ kind_limit → 1 * 2 ^ n % 65536 ≡ 2 ^ n
shl_one n h = shl_exact 1 n 16 (lit< tt) (omega arith) ∙ one-mul (2 ^ n)

-- the code's test of a letter
pub letter_test : (c : Counts) (a : ℕ) → c.outputs ≤ kind_limit → c.observed ≤ kind_limit → c.hidden ≤ kind_limit
    → ltb (bit_and a (kind_size - 1)) (1 * 2 ^ c.outputs % 65536)
    && (ltb (bit_and (a / kind_size) (kind_size - 1)) (1 * 2 ^ c.observed % 65536) && ltb (a / (kind_size * kind_size)) (1 * 2 ^ c.hidden % 65536))
    ≡ is_letter c a
unfolding is_letter
letter_test c a h i j =
    rw (shl_one c.outputs h, shl_one c.observed i, shl_one c.hidden j, and_mask a kind_limit, and_mask (a / kind_size) kind_limit)

-- ---- the letters from place i on

module _ (c : Counts) (π : Trace) (i : ℕ) where
  pub bad_end : i ≡ length π → bad_step c (i + 1) (drop i π) ≡ None
  unfolding bad_step
  bad_end e = rw (drop_of_length-le π {i = i} (omega arith))

  module _ (h : i < length π) (b : Bool) (e : b ≡ is_letter c (get_or π i 0)) where
    pub bad_more : b ≡ true → bad_step c (i + 1) (drop i π) ≡ bad_step c (i + 1 + 1) (drop (i + 1) π)
    unfolding bad_step
    bad_more t = rw (add-one i, add-one (suc i), drop-cons π i 0, ← e, t)

    pub bad_here : b ≡ false → bad_step c (i + 1) (drop i π) ≡ Some (i + 1)
    unfolding bad_step
    bad_here t = rw (drop-cons π i 0, ← e, t)

-- ---- the verdict

-- whether a trace has a length that is refused
abbrev pub bad_length_lem : Trace → Bool
bad_length_lem π = eqb (length π) 0 || ltb trace_limit (length π)

module _ (c : Counts) (π : Trace) (b : Bool) where
  pub verdict_length : bad_length_lem π ≡ true → verdict_on c π b ≡ Err (BadTrace 0)
  unfolding verdict_on
  verdict_length l = rw l

  pub verdict_step : (n : ℕ) → bad_length_lem π ≡ false → bad_step c 1 π ≡ Some n → verdict_on c π b ≡ Err (BadTrace n)
  unfolding verdict_on
  verdict_step n l e = rw (l, e)

  pub verdict_judged : (v : Bool) → bad_length_lem π ≡ false → ((n : ℕ) → ¬ (bad_step c 1 π ≡ Some n)) → v ≡ b → verdict_on c π b ≡ Ok v
  unfolding verdict_on
  verdict_judged v l n t = rw (l, none (bad_step c 1 π) n, t)
    where
      none : (o : Option ℕ) → ((n : ℕ) → ¬ (o ≡ Some n)) → o ≡ None
      none None h = refl
      none (Some n) h = absurd (h n refl)

-- judging by a formula's parts
pub verdict_holds : (c : Counts) (π : Trace) (φ : Formula) → verdict_on c π (value_on (parts_of φ) π (last_of (parts_of φ))) ≡ verdict_on c π (holds φ π)
verdict_holds c [] φ = verdict_length c [] _ refl ∙ sym (verdict_length c [] _ refl)
verdict_holds c (a ∷ π) φ = ap (verdict_on c (a ∷ π)) (value_parts φ (a ∷ π))

-- What is answered to a trace is what is due: by its length, by its first step with a bit without a signal, or by the value on it.
-- Assumes nothing.
use Rattle.std.specs.Prelude.{Err, Ok, Some, None}
use Prim.Native.Nat.{ℕ, suc, ◌+◌, ◌≤◌}
use native.Mathlib.Nat.{zero-add}
use native.Mathlib.Numerals.{add-one}
use native.Mathlib.Omega.{arith}
use mathlib.Core.Path.{◌≡◌, refl, sym, ap, subst, ◌∙◌}
use mathlib.Core.Logic.{◌⊎◌, inl, inr}
use mathlib.Core.Bool.{Bool, true, false, cond}
use mathlib.Core.List.Memᴰ
use mathlib.Core.List.{[], ◌∷◌}
use borrow.Author.Tests.{eqb-true, eqb-false, ltb-true, ltb-false}
use lib.Dec.{eqb, ltb}
use lib.ListN.{length}
use Rattle.basics.specs.Member.{◌∈◌}
use Rattle.basics.specs.Limits.{kind_limit}
use Rattle.basics.proofs.Booleans.{test, clash, or_cases, or_left, or_right}
use Rattle.lines.specs.declared.refusal.Refusal.TheVariants.{BadTrace}
use Rattle.lines.specs.Refusal.{Told, refused}
use Rattle.formula.specs.Letter.{Counts, IsLetter, is_letter}
use Rattle.formula.specs.Semantics.{Trace}
use Rattle.formula.proofs.LetterLaws.{letter_iff}
use Rattle.rules.specs.Limits.{trace_limit}
use Rattle.rules.specs.Trace.{RightLength, IsTrace, FirstBad, first, later, bad_step, or_bad_step, verdict_on}
use Rattle.rules.specs.Judge.{told_verdict}
use Rattle.rules.proofs.TraceLaws.{bad_length_lem}

-- ---- the length

wrong_length : (π : Trace) → bad_length_lem π ≡ true → ¬ RightLength π
wrong_length π e h = go (or_cases (eqb (length π) 0) (ltb trace_limit (length π)) e)
  where
    go : (eqb (length π) 0 ≡ true) ⊎ (ltb trace_limit (length π) ≡ true) → ⊥
    go (inl z) = omega (arith, eqb-true (length π) 0 z, h)
    go (inr l) = omega (arith, ltb-true trace_limit (length π) l, h)

right_length : (π : Trace) → bad_length_lem π ≡ false → RightLength π
right_length π e =
    let z = eqb-false (length π) 0 (or_left _ (ltb trace_limit (length π)) e) in
    (omega (arith, z), ltb-false trace_limit (length π) (or_right (eqb (length π) 0) _ e))

length_test : (π : Trace) → RightLength π → bad_length_lem π ≡ false
length_test π r = elim (test (bad_length_lem π)) [ inl e ↦ absurd (wrong_length π e r) | inr e ↦ e ]

length_fails : (π : Trace) → ¬ RightLength π → bad_length_lem π ≡ true
length_fails π n = elim (test (bad_length_lem π)) [ inl e ↦ e | inr e ↦ absurd (n (right_length π e)) ]

-- ---- the letters

module _ (c : Counts) (few : (c.outputs ≤ kind_limit) × (c.observed ≤ kind_limit) × (c.hidden ≤ kind_limit)) where
  abbrev AllLetters : Trace → Type 0
  AllLetters π = (a : ℕ) → a ∈ π → IsLetter c a

  -- the search for a bad step ends as the definition says
  data Searched (n : ℕ) (π : Trace) : Type 0 where
    good : bad_step c (suc n) π ≡ None → AllLetters π → Searched n π
    bad : (step : ℕ) → bad_step c (suc n) π ≡ Some (n + step) → FirstBad c π step → Searched n π

  more_letters : (a : ℕ) (π : Trace) → IsLetter c a → AllLetters π → AllLetters (a ∷ π)
  more_letters a π l f b (Memᴰ.head e) = subst (IsLetter c) (sym e) l
  more_letters a π l f b (Memᴰ.tail m) = f b m

  searched : (n : ℕ) (π : Trace) → Searched n π
  unfolding bad_step
  searched n [] = good refl (λ a m. absurd (Memᴰ.not-nil m))
  searched n (a ∷ π) = at (is_letter c a) refl (searched (suc n) π)
    where
      at : (b : Bool) → is_letter c a ≡ b → Searched (suc n) π → Searched n (a ∷ π)
      at true e (good q f) = good (rw (e, q)) (more_letters a π ((letter_iff c few a).0 e) f)
      at true e (bad i q f) =
          let z : suc n + i ≡ n + suc i = omega arith in
          bad (suc i) (rw (e, q) (ap Some z)) (later ((letter_iff c few a).0 e) f)
      at false e _ = bad 1 (rw (e, add-one n)) (first (λ l. clash ((letter_iff c few a).1 l) e))

  -- and the other way round
  all_letters : (π : Trace) → AllLetters π → (n : ℕ) → bad_step c n π ≡ None
  unfolding bad_step
  all_letters [] f n = refl
  all_letters (a ∷ π) f n =
      rw ((letter_iff c few a).1 (f a (Memᴰ.head refl))) (all_letters π (λ b m. f b (Memᴰ.tail m)) (suc n))

  first_bad : {π : Trace} {step : ℕ} → FirstBad c π step → (n : ℕ) → bad_step c (suc n) π ≡ Some (n + step)
  unfolding bad_step
  first_bad (first {a = a} none_such) n =
      elim (test (is_letter c a)) [ inl e ↦ absurd (none_such ((letter_iff c few a).0 e)) | inr e ↦ rw (e, add-one n) ]
  first_bad (later {a = a} {i = i} l f) n =
      let z : suc n + i ≡ n + suc i = omega arith in
      rw ((letter_iff c few a).1 l) (first_bad f (suc n) ∙ ap Some z)

  -- ---- the verdict on a trace on which the value is b

  module _ (π : Trace) (b : Bool) where
    -- what is told, case by case
    pub verdict_cases : (P : Told → Type 0) → (¬ RightLength π → P (refused 16 0))
        → ((step : ℕ) → RightLength π → FirstBad c π step → P (refused 16 step)) → (IsTrace c π → P (told_verdict (Ok b)))
        → P (told_verdict (verdict_on c π b))
    unfolding verdict_on
    verdict_cases P wrong stepped valued =
        elim (test (bad_length_lem π)) [ inl e ↦ rw e (wrong (wrong_length π e)) | inr e ↦ rw e (by_step (right_length π e) (searched 0 π)) ]
      where
        by_step : RightLength π → Searched 0 π → P (told_verdict (or_bad_step (bad_step c 1 π) (Ok b)))
        by_step r (good e f) = rw e (valued (r, f))
        by_step r (bad i e f) = rw (e, zero-add i) (stepped i r f)

    -- and the other way round
    pub length_verdict : ¬ RightLength π → verdict_on c π b ≡ Err (BadTrace 0)
    unfolding verdict_on
    length_verdict n = rw (length_fails π n)

    pub step_verdict : {step : ℕ} → RightLength π → FirstBad c π step → verdict_on c π b ≡ Err (BadTrace step)
    unfolding verdict_on
    step_verdict {step} r f = rw (length_test π r, first_bad f 0, zero-add step)

    pub value_verdict : (v : Bool) → IsTrace c π → b ≡ v → verdict_on c π b ≡ Ok v
    unfolding verdict_on
    value_verdict v t e = rw (length_test π t.0, all_letters π t.1 1, e)

-- What judging by records answers is what is due.
-- Assumes nothing.
use Rattle.lines.specs.declared.refusal.Refusal.{Refusal}
use Rattle.std.specs.Prelude.{Bool, Ok, Result}
use Prim.Native.Nat.{ℕ, ◌≤◌}
use native.Mathlib.Omega.{arith}
use mathlib.Core.Path.{◌≡◌, sym, ap, ◌∙◌, subst}
use mathlib.Core.Logic.{◌↔◌, inl, inr}
use mathlib.Core.Bool.{true, false, cond}
use mathlib.Core.List.{List}
use borrow.Author.Tests.{eqb-true, eqb-false, ltb-true, ltb-false}
use lib.Dec.{eqb, ltb}
use Rattle.basics.specs.Limits.{kind_limit}
use Rattle.basics.proofs.Booleans.{test, clash}
use Rattle.formula.specs.Limits.{part_limit}
use Rattle.formula.specs.Letter.{Counts}
use Rattle.formula.specs.Semantics.{Trace}
use Rattle.formula.specs.declared.parts.Part.{Part}
use Rattle.lines.specs.declared.problem.Sizes.{Sizes}
use Rattle.lines.specs.Refusal.{Told}
use Rattle.rules.specs.Judge.{told_verdict}
use Rattle.rules.specs.Trace.{IsTrace, counts_of, verdict_on}
use Rattle.rules.proofs.VerdictCases.{verdict_cases, length_verdict, step_verdict, value_verdict}
use Rattle.rules.specs.Within.{FewCounted}
use Rattle.records.specs.Judging.{few_counted, last_value, judged_in, Usable, JudgedBy, short_memory, too_many_signals}
use Rattle.records.specs.Judging.{too_many_parts, no_formula, bad_length, bad_step, is_true, is_false}
use Rattle.records.proofs.JudgingLaws.{few_iff, short_is, signals_is, many_is, none_is, value_is}

module _ (room : ℕ) (s : Sizes) (ps : List Part) (π : Trace) where
  abbrev Due : Told → Type 0
  Due = JudgedBy room s ps π

  abbrev c : Counts
  c = counts_of s

  -- an answer is due, by what it is equal to
  due_by : {v : Result Bool Refusal} → judged_in room s ps π ≡ v → Due (told_verdict v) → Due (told_verdict (judged_in room s ps π))
  due_by e d = subst (λ v. Due (told_verdict v)) (sym e) d

  few_of : Usable room s → (c.outputs ≤ kind_limit) × (c.observed ≤ kind_limit) × (c.hidden ≤ kind_limit)
  few_of u = let f = u.few_signals in (f.outputs, f.observed, f.hidden)

  is_value : (u : Usable room s) → judged_in room s ps π ≡ verdict_on c π (last_value ps π)
  is_value u = value_is room s ps π u.lent ((few_iff c).1 u.few_signals) u.few_parts (λ e. omega (arith, u.some_parts))

  value_due : Usable room s → IsTrace c π → Due (told_verdict (Ok (last_value ps π)))
  value_due u t = elim (test (last_value ps π)) [ inl e ↦ rw e (is_true u t e) | inr e ↦ rw e (is_false u t e) ]

  usable_due : Usable room s → Due (told_verdict (judged_in room s ps π))
  usable_due u =
      due_by (is_value u) (verdict_cases c (few_of u) π (last_value ps π) Due (bad_length u) (λ step. bad_step u) (value_due u))

  few_due : s.parts ≤ room → FewCounted c → Due (told_verdict (judged_in room s ps π))
  few_due lent f =
      let few = (few_iff c).1 f in
      elim (test (ltb part_limit s.parts)) [
        | inl e ↦ due_by (many_is room s ps π lent few (ltb-true _ _ e)) (too_many_parts lent f (ltb-true _ _ e))
        | inr e ↦ elim (test (eqb s.parts 0)) [
          | inl z ↦ due_by (none_is room s ps π lent few (ltb-false _ _ e) (eqb-true _ _ z)) (no_formula lent f (eqb-true _ _ z))
          | inr z ↦ usable_due (some_parts lent f (ltb-false _ _ e) (eqb-false _ _ z))
        ]
      ]
    where
      some_parts : s.parts ≤ room → FewCounted c → s.parts ≤ part_limit → ¬ (s.parts ≡ 0) → Usable room s
      some_parts lent f h n = record { lent = lent; few_signals = f; few_parts = h; some_parts = omega (arith, n) }

  judged_due : Due (told_verdict (judged_in room s ps π))
  judged_due =
      elim (test (ltb room s.parts)) [
        | inl e ↦ due_by (short_is room s ps π (ltb-true _ _ e)) (short_memory (ltb-true _ _ e))
        | inr e ↦ elim (test (few_counted c)) [
          | inl f ↦ few_due (ltb-false _ _ e) ((few_iff c).0 f)
          | inr f ↦ due_by (signals_is room s ps π (ltb-false _ _ e) f) (too_many_signals (ltb-false _ _ e) (λ g. clash ((few_iff c).1 g) f))
        ]
      ]

  -- as the call has it
  pub judged_by_lem : (r : Result Bool Refusal) → r ≡ judged_in room s ps π → Due (told_verdict r)
  judged_by_lem r e = subst (λ v. Due (told_verdict v)) (sym e) judged_due

  not_few : ¬ FewCounted c → few_counted c ≡ false
  not_few n = elim (test (few_counted c)) [ inl e ↦ absurd (n ((few_iff c).0 e)) | inr e ↦ e ]

  judged_told : {a : Told} → Due a → told_verdict (judged_in room s ps π) ≡ a
  judged_told (short_memory h) = ap told_verdict (short_is room s ps π h)
  judged_told (too_many_signals l n) = ap told_verdict (signals_is room s ps π l (not_few n))
  judged_told (too_many_parts l f h) = ap told_verdict (many_is room s ps π l ((few_iff c).1 f) h)
  judged_told (no_formula l f e) = ap told_verdict (none_is room s ps π l ((few_iff c).1 f) (omega (arith, e)) e)
  judged_told (bad_length u n) = ap told_verdict (is_value u ∙ length_verdict c (few_of u) π _ n)
  judged_told (bad_step u r f) = ap told_verdict (is_value u ∙ step_verdict c (few_of u) π _ r f)
  judged_told (is_true u t e) = ap told_verdict (is_value u ∙ value_verdict c (few_of u) π _ true t e)
  judged_told (is_false u t e) = ap told_verdict (is_value u ∙ value_verdict c (few_of u) π _ false t e)

  -- exactly so
  pub judged_iff : (a : Told) → (told_verdict (judged_in room s ps π) ≡ a) ↔ Due a
  judged_iff a = (λ e. subst Due e judged_due, judged_told)

-- A trace is judged exactly as it is due: by the refusals, the written grammar and the published meaning. Assumes nothing.
use Rattle.std.specs.Prelude.{Err, Ok}
use Prim.Native.Nat.{ℕ, ◌≤◌}
use native.Mathlib.Omega.{arith}
use mathlib.Core.Path.{◌≡◌, refl, sym, ap, ap₂, subst, ◌∙◌}
use mathlib.Core.Logic.{◌↔◌, ◌⊎◌, inl, inr}
use mathlib.Core.Bool.{Bool, true, false, cond}
use mathlib.Core.List.{List, [], ◌∷◌}
use borrow.Author.Tests.{ltb-true, ltb-false, lt-ltb, le-ltb}
use lib.Dec.{ltb}
use Rattle.basics.specs.Limits.{kind_limit}
use Rattle.basics.proofs.Booleans.{test, clash}
use Rattle.lines.specs.declared.refusal.Refusal.TheVariants.{BadTrace}
use Rattle.lines.proofs.RefusalLaws.{told_apart, one_value, one_number, one_place}
use Rattle.lines.specs.Refusal.{Told, values, refused}
use Rattle.formula.specs.Letter.{Counts}
use Rattle.formula.specs.Semantics.{Trace, holds}
use Rattle.rules.specs.Limits.{work_size}
use Rattle.rules.specs.Problem.{Problem, formula_in, Outcome, accepted, read_problem}
use Rattle.rules.specs.Problem as outcome
use Rattle.rules.specs.Denotes.{Denotes}
use Rattle.rules.specs.Trace.{RightLength, IsTrace, FirstBad, verdict_on}
use Rattle.rules.specs.Satisfies.{Satisfies}
use Rattle.rules.specs.Judge.{judged_by, judged, told_verdict, JudgedAs, short_memory, bad_source, bad_length, bad_step, is_true, is_false}
use Rattle.rules.specs.Within.{counts_in}
use Rattle.rules.proofs.SatisfiesLaws.{holds_iff_satisfies}
use Rattle.rules.proofs.DenotesLaws.{read_denotes, denotes_read}
use Rattle.rules.proofs.RefusesLaws.{refused_iff, told_refused, refuses_number}
use Rattle.rules.proofs.VerdictCases.{verdict_cases, length_verdict, step_verdict, value_verdict}
use Rattle.rules.proofs.WithinLimits.{read_within}

-- ---- a trace by a problem

module _ (work : ℕ) (source : List ℕ) (π : Trace) where
  module _ (p : Problem) (d : Denotes source p) where
    abbrev c : Counts
    c = counts_in p.signals

    few : (c.outputs ≤ kind_limit) × (c.observed ≤ kind_limit) × (c.hidden ≤ kind_limit)
    few = let w = (read_within source p (denotes_read source p d)).few in (w.outputs, w.observed, w.hidden)

    value_as : work_size ≤ work → IsTrace c π → JudgedAs work source π (told_verdict (Ok (holds (formula_in p) π)))
    value_as enough t =
        let (to, from) = holds_iff_satisfies p π t.0.0 in
        elim (test (holds (formula_in p) π)) [
          | inl e ↦ rw e (is_true p enough d t (to e))
          | inr e ↦ rw e (is_false p enough d t (λ s. clash (from s) e))
        ]

    trace_as : work_size ≤ work → JudgedAs work source π (told_verdict (verdict_on c π (holds (formula_in p) π)))
    trace_as enough =
        verdict_cases c few π (holds (formula_in p) π) (JudgedAs work source π) (bad_length p enough d) (λ step. bad_step p enough d) (value_as enough)

  pub judged_as : JudgedAs work source π (told_verdict (judged work source π))
  unfolding judged
  judged_as =
      elim (test (ltb work work_size)) [
        | inl e ↦ rw e (short_memory (ltb-true _ _ e))
        | inr e ↦ rw e (go (ltb-false _ _ e) (read_problem source) refl)
      ]
    where
      go : work_size ≤ work → (o : Outcome) → read_problem source ≡ o → JudgedAs work source π (told_verdict (judged_by o π))
      go enough (accepted p) e = trace_as p (read_denotes source p e) enough
      go enough (outcome.refused r) e = bad_source enough ((refused_iff source r).0 e)

  -- ---- and the other way round

  module _ (enough : work_size ≤ work) (p : Problem) (d : Denotes source p) where
    judged_is : judged work source π ≡ verdict_on (c p d) π (holds (formula_in p) π)
    unfolding judged
    judged_is = rw (le-ltb work work_size enough, denotes_read source p d)

    length_is : ¬ RightLength π → judged work source π ≡ Err (BadTrace 0)
    length_is n = judged_is ∙ length_verdict (c p d) (few p d) π _ n

    step_is : {step : ℕ} → RightLength π → FirstBad (c p d) π step → judged work source π ≡ Err (BadTrace step)
    step_is r f = judged_is ∙ step_verdict (c p d) (few p d) π _ r f

    value_is : (v : Bool) → IsTrace (c p d) π → holds (formula_in p) π ≡ v → judged work source π ≡ Ok v
    value_is v t e = judged_is ∙ value_verdict (c p d) (few p d) π _ v t e

    true_is : IsTrace (c p d) π → Satisfies π p → judged work source π ≡ Ok true
    true_is t s = value_is true t ((holds_iff_satisfies p π t.0.0).1 s)

    false_is : IsTrace (c p d) π → ¬ Satisfies π p → judged work source π ≡ Ok false
    false_is t n =
        value_is false t (elim (test (holds (formula_in p) π)) [ inl e ↦ absurd (n ((holds_iff_satisfies p π t.0.0).0 e)) | inr e ↦ e ])

  told_as : {a : Told} → JudgedAs work source π a → told_verdict (judged work source π) ≡ a
  unfolding judged
  told_as (short_memory h) = rw (lt-ltb work work_size h)
  told_as (bad_source enough f) = let r = told_refused source f in rw (le-ltb work work_size enough, r.1) (ap₂ refused r.2 r.3)
  told_as (bad_length p enough d n) = ap told_verdict (length_is enough p d n)
  told_as (bad_step p enough d r f) = ap told_verdict (step_is enough p d r f)
  told_as (is_true p enough d t s) = ap told_verdict (true_is enough p d t s)
  told_as (is_false p enough d t n) = ap told_verdict (false_is enough p d t n)

  -- a trace is judged exactly so
  pub judged_iff : (a : Told) → (told_verdict (judged work source π) ≡ a) ↔ JudgedAs work source π a
  judged_iff a = (λ e. subst (JudgedAs work source π) e judged_as, told_as)

  -- ---- verdict by verdict, in enough memory

  -- a problem is denoted, the trace is one over its signals, and this holds
  abbrev Over : (Problem → Type 0) → Type 0
  Over P = (p : Problem) × Denotes source p × IsTrace (counts_in p.signals) π × P p

  -- a problem is denoted, and the trace is refused at this step
  abbrev RefusedAt : ℕ → Type 0
  RefusedAt step =
      (p : Problem) × Denotes source p × (((step ≡ 0) × ¬ RightLength π) ⊎ (RightLength π × FirstBad (counts_in p.signals) π step))

  was_true : {a : Told} → JudgedAs work source π a → a ≡ values (1 ∷ []) → Over (Satisfies π)
  was_true (short_memory h) e = told_apart e
  was_true (bad_source enough f) e = told_apart e
  was_true (bad_length p enough d n) e = told_apart e
  was_true (bad_step p enough d r f) e = told_apart e
  was_true (is_true p enough d t s) e = (p, d, t, s)
  was_true (is_false p enough d t n) e = absurd (omega (arith, one_value e))

  was_false : {a : Told} → JudgedAs work source π a → a ≡ values (0 ∷ []) → Over (λ p. ¬ Satisfies π p)
  was_false (short_memory h) e = told_apart e
  was_false (bad_source enough f) e = told_apart e
  was_false (bad_length p enough d n) e = told_apart e
  was_false (bad_step p enough d r f) e = told_apart e
  was_false (is_true p enough d t s) e = absurd (omega (arith, one_value e))
  was_false (is_false p enough d t n) e = (p, d, t, n)

  was_refused : (step : ℕ) {a : Told} → JudgedAs work source π a → a ≡ refused 16 step → RefusedAt step
  was_refused step (short_memory h) e = absurd (omega (arith, one_number e))
  was_refused step (bad_source enough f) e = absurd (omega (arith, one_number e, refuses_number f))
  was_refused step (bad_length p enough d n) e = (p, d, inl (sym (one_place e), n))
  was_refused step (bad_step p enough d r f) e = (p, d, inr (r, subst (FirstBad (counts_in p.signals) π) (one_place e) f))
  was_refused step (is_true p enough d t s) e = told_apart (sym e)
  was_refused step (is_false p enough d t n) e = told_apart (sym e)

  module _ (enough : work_size ≤ work) where
    pub true_iff : (judged work source π ≡ Ok true) ↔ Over (Satisfies π)
    true_iff = (λ e. was_true judged_as (ap told_verdict e), λ h. true_is enough h.0 h.1 h.2 h.3)

    pub false_iff : (judged work source π ≡ Ok false) ↔ Over (λ p. ¬ Satisfies π p)
    false_iff = (λ e. was_false judged_as (ap told_verdict e), λ h. false_is enough h.0 h.1 h.2 h.3)

    pub bad_trace_iff : (step : ℕ) → (judged work source π ≡ Err (BadTrace step)) ↔ RefusedAt step
    bad_trace_iff step = (λ e. was_refused step judged_as (ap told_verdict e), back)
      where
        back : RefusedAt step → judged work source π ≡ Err (BadTrace step)
        back (p, d, inl h) = rw h.0 (length_is enough p d h.1)
        back (p, d, inr h) = step_is enough p d h.0 h.1

-- Judging a trace by a problem's text: what the call answers, what it leaves, and what is due.
-- Assumes nothing.
use Rattle.lines.specs.declared.refusal.Refusal.{Refusal}
use Rattle.std.specs.Prelude.{ℕ, ◌≤◌, ◌<◌, cond, List, [], ◌∷◌, ltb, length, replicate, Bool, Err, Ok, Result, false, true}
use Rattle.lines.specs.declared.refusal.Refusal.TheVariants.{ShortMemory}
use Rattle.rules.specs.Limits.{work_size}
use Rattle.formula.specs.Semantics.{Trace, holds}
use Rattle.rules.specs.Problem.{Problem, formula_in, Outcome, accepted, read_problem}
use Rattle.rules.specs.Problem as outcome
use Rattle.lines.specs.Refusal.{Told, values, refused, told_refusal}
use Rattle.rules.specs.Denotes.{Denotes}
use Rattle.rules.specs.Refuses.{Refuses}
use Rattle.rules.specs.Satisfies.{Satisfies}
use Rattle.rules.specs.Trace.{RightLength, IsTrace, FirstBad, verdict_on}
use Rattle.rules.specs.Within.{counts_in}

abbrev pub judged_by : Outcome → Trace → Result Bool Refusal
judged_by (accepted p) π = verdict_on (counts_in p.signals) π (holds (formula_in p) π)
judged_by (outcome.refused r) π = Err r

-- the answer, with work memory of so many bytes
unfoldable pub judged : ℕ → List ℕ → Trace → Result Bool Refusal
judged n source π = cond (ltb n work_size) (Err ShortMemory) (judged_by (read_problem source) π)

-- work memory that is too short stays as it is, and any other is cleared
abbrev pub work_after : List ℕ → List ℕ
work_after w = cond (ltb (length w) work_size) w (replicate (length w) 0)

-- a verdict in the reference's terms: 1 for true and 0 for false
abbrev pub told_verdict : Result Bool Refusal → Told
told_verdict (Ok true) = values (1 ∷ [])
told_verdict (Ok false) = values (0 ∷ [])
told_verdict (Err r) = told_refusal r

-- what is to be answered, by the refusals (REFERENCE.md, Refusals), the written grammar and the published meaning
pub data JudgedAs (work : ℕ) (source : List ℕ) (π : Trace) : Told → Type 0 where
  short_memory : work < work_size → JudgedAs work source π (refused 12 0)
  bad_source : {number place : ℕ} → work_size ≤ work → Refuses source number place → JudgedAs work source π (refused number place)
  bad_length : (p : Problem) → work_size ≤ work → Denotes source p → ¬ RightLength π → JudgedAs work source π (refused 16 0)
  bad_step : (p : Problem) {step : ℕ} → work_size ≤ work → Denotes source p → RightLength π → FirstBad (counts_in p.signals) π step
      → JudgedAs work source π (refused 16 step)
  is_true : (p : Problem) → work_size ≤ work → Denotes source p → IsTrace (counts_in p.signals) π → Satisfies π p
      → JudgedAs work source π (values (1 ∷ []))
  is_false : (p : Problem) → work_size ≤ work → Denotes source p → IsTrace (counts_in p.signals) π → ¬ Satisfies π p
      → JudgedAs work source π (values (0 ∷ []))

-- Judging a recorded trace (a run in the trade's words; REFERENCE.md, Judging): which traces are refused, and the verdict on the others.
-- Assumes nothing.
use Rattle.lines.specs.declared.refusal.Refusal.{Refusal}
use Rattle.std.specs.Prelude.{ℕ, suc, ◌≤◌, Bool, ◌||◌, cond, [], ◌∷◌, eqb, ltb, length, Err, Ok, Result, false, true, Option, Some, None}
use Rattle.lines.specs.declared.refusal.Refusal.TheVariants.{BadTrace}
use Rattle.lines.specs.declared.problem.Sizes.{Sizes}
use Rattle.rules.specs.Limits.{trace_limit}
use Rattle.basics.specs.Member.{◌∈◌}
use Rattle.formula.specs.Letter.{Counts, IsLetter, is_letter}
use Rattle.formula.specs.Semantics.{Trace}

-- ---- which traces are judged

-- 1 to 1,000 steps
abbrev pub RightLength : Trace → Type 0
RightLength π = (1 ≤ length π) × (length π ≤ trace_limit)

-- a trace over these signals: of a right length, and with no bit without a signal
abbrev pub IsTrace : Counts → Trace → Type 0
IsTrace c π = RightLength π × ((a : ℕ) → a ∈ π → IsLetter c a)

-- the first step, counted from 1, that has a bit without a signal
pub data FirstBad (c : Counts) : Trace → ℕ → Type 0 where
  first : {a : ℕ} {π : Trace} → ¬ IsLetter c a → FirstBad c (a ∷ π) 1
  later : {a : ℕ} {π : Trace} {i : ℕ} → IsLetter c a → FirstBad c π i → FirstBad c (a ∷ π) (suc i)

-- ---- how they are judged

abbrev pub counts_of : Sizes → Counts
counts_of s = record { outputs = s.outputs; observed = s.observed; hidden = s.hidden }

-- the first step with a bit without a signal, the first letter being step n
unfoldable pub bad_step : Counts → ℕ → Trace → Option ℕ
bad_step c n [] = None
bad_step c n (a ∷ π) = cond (is_letter c a) (bad_step c (suc n) π) (Some n)

abbrev pub or_bad_step : Option ℕ → Result Bool Refusal → Result Bool Refusal
or_bad_step None v = v
or_bad_step (Some n) v = Err (BadTrace n)

-- the verdict on a trace over these signals, on which the formula's value is b
unfoldable pub verdict_on : Counts → Trace → Bool → Result Bool Refusal
verdict_on c π b =
    cond (eqb (length π) 0 || ltb trace_limit (length π)) (Err (BadTrace 0)) (or_bad_step (bad_step c 1 π) (Ok b))

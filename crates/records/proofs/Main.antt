-- The theorems of this crate. Assumes nothing.
use Rattle.std.specs.Prelude.{Err, Ok, false}
use Prim.Native.Nat.{ℕ, ◌≤◌, ◌<◌}
use mathlib.Core.Path.{◌≡◌}
use mathlib.Core.Logic.{◌↔◌, ◌⊎◌}
use mathlib.Core.Bool.{true}
use mathlib.Core.List.{List}
use lib.ListN.{length, take, drop}
use Rattle.formula.specs.Limits.{part_limit}
use Rattle.formula.specs.Formula.{size}
use Rattle.formula.specs.Letter.{Counts}
use Rattle.formula.specs.Semantics.{Trace}
use Rattle.formula.specs.declared.parts.Part.{Part}
use Rattle.formula.specs.Parts.{last_of, Earlier, formula_at}
use Rattle.lines.specs.declared.problem.Sizes.{Sizes}
use Rattle.lines.specs.declared.refusal.Refusal.TheVariants.{BadTrace}
use Rattle.lines.specs.Refusal.{Told, refused}
use Rattle.rules.specs.Limits.{work_size}
use Rattle.rules.specs.Problem.{Problem, formula_in, problem_parts}
use Rattle.rules.specs.Satisfies.{Satisfies}
use Rattle.rules.specs.Denotes.{Denotes}
use Rattle.rules.specs.Refuses.{Refuses}
use Rattle.rules.specs.Trace.{RightLength, IsTrace, FirstBad}
use Rattle.rules.specs.Reading.{sizes_of, reading_of}
use Rattle.rules.specs.Judge.{judged, told_verdict, JudgedAs}
use Rattle.rules.specs.Within.{FewCounted, counts_in}
use Rattle.records.specs.Reading.{read_into, told_read, records_after, ListedAs}
use Rattle.records.specs.Judging.{few_counted, judged_in, JudgedBy, verdict_once}
use Rattle.records.proofs.ListedIffDue
use Rattle.records.proofs.JudgingLaws
use Rattle.records.proofs.JudgedByIffDue
use Rattle.records.proofs.ReadOnce

-- ---- reading a text into lent records: `told_read` is what `read_parts` answers, as numbers, and `records_after` what it leaves

module _ (source : List ℕ) (old : List Part) where
  -- whole: they are these exactly where these are due
  pub reading : (a : Told) (new : List Part) → ((told_read source old ≡ a) × (records_after source old ≡ new)) ↔ ListedAs source old a new
  reading = ListedIffDue.listed_iff source old

  -- 12: fewer than 96 records are lent
  pub short_memory : (told_read source old ≡ refused 12 0) ↔ (length old < part_limit)
  short_memory = ListedIffDue.short_iff source old

  -- 1 to 8: the text denotes no problem, and this is why
  pub refused_text : part_limit ≤ length old → (number place : ℕ) → number ≤ 8
      → (told_read source old ≡ refused number place) ↔ Refuses source number place
  refused_text = ListedIffDue.refused_iff source old

  -- a refusal leaves all records as they were
  pub records_kept : (number place : ℕ) → told_read source old ≡ refused number place → records_after source old ≡ old
  records_kept = ListedIffDue.records_kept source old

  -- otherwise the sizes of the problem that the text denotes
  pub answered : (s : Sizes) → (reading_of (read_into (length old) source) ≡ Ok s)
      ↔ ((part_limit ≤ length old) × ((p : Problem) × Denotes source p × (s ≡ sizes_of p)))
  answered = ReadOnce.read_iff source old

  -- with its parts at the front
  module _ (enough : part_limit ≤ length old) (p : Problem) (denotes : Denotes source p) where
    pub parts_written : take (size (formula_in p)) (records_after source old) ≡ problem_parts p
    parts_written = ReadOnce.after_front source old enough p denotes

    -- the operands of each stand before it, and the last is the whole formula
    abbrev front : List Part
    front = take (size (formula_in p)) (records_after source old)

    pub operands_earlier : (i : ℕ) → i < size (formula_in p) → Earlier front i
    operands_earlier = ReadOnce.after_earlier source old enough p denotes

    pub formula_back : formula_at front (last_of front) ≡ formula_in p
    formula_back = ReadOnce.after_formula source old enough p denotes

    -- the records behind are as they were
    pub records_behind : drop (size (formula_in p)) (records_after source old) ≡ drop (size (formula_in p)) old
    records_behind = ReadOnce.after_rest source old enough p denotes

-- ---- judging by lent records, whatever they hold: `judged_in` is what `judge_parts` answers

pub judging : (room : ℕ) (s : Sizes) (ps : List Part) (π : Trace) (a : Told)
    → (told_verdict (judged_in room s ps π) ≡ a) ↔ JudgedBy room s ps π a
judging = JudgedByIffDue.judged_iff

-- the test of the counts of signals finds every count that is too large
pub few_counted_lem : (c : Counts) → (few_counted c ≡ true) ↔ FewCounted c
few_counted_lem = JudgingLaws.few_iff

-- ---- read once, judge many: a text was read into records, and these sizes were answered. `verdict_once` is what
-- `judge_parts` answers to the records that were left and to these sizes

module _ (source : List ℕ) (old : List Part) (s : Sizes) (read : reading_of (read_into (length old) source) ≡ Ok s) (π : Trace) where
  -- it is what `judge` answers to the text, in enough work memory, and what is due for the text
  pub as_judged : (work : ℕ) → work_size ≤ work → verdict_once source old s π ≡ judged work source π
  as_judged work enough = ReadOnce.as_judged source old s read work enough π

  pub once_due : (work : ℕ) → work_size ≤ work → JudgedAs work source π (told_verdict (verdict_once source old s π))
  once_due work enough = ReadOnce.once_due source old s read work enough π

  -- verdict by verdict
  pub judged_true : (verdict_once source old s π ≡ Ok true)
      ↔ ((p : Problem) × Denotes source p × IsTrace (counts_in p.signals) π × Satisfies π p)
  judged_true = ReadOnce.true_iff source old s read π

  pub judged_false : (verdict_once source old s π ≡ Ok false)
      ↔ ((p : Problem) × Denotes source p × IsTrace (counts_in p.signals) π × (¬ Satisfies π p))
  judged_false = ReadOnce.false_iff source old s read π

  pub judged_bad : (step : ℕ) → (verdict_once source old s π ≡ Err (BadTrace step))
      ↔ ((p : Problem) × Denotes source p × (((step ≡ 0) × ¬ RightLength π) ⊎ (RightLength π × FirstBad (counts_in p.signals) π step)))
  judged_bad = ReadOnce.bad_trace_iff source old s read π

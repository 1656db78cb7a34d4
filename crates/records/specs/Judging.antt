-- Judging a trace by lent records of parts, whatever they hold: what is answered, and what is due.
-- Assumes nothing.
use Rattle.lines.specs.declared.refusal.Refusal.{Refusal}
use Rattle.std.specs.Prelude.{ℕ, ◌+◌, ◌≤◌, ◌<◌, ◌≡◌, Bool, true, false, ◌&&◌, cond, List, [], ◌∷◌, ◌++◌, eqb, leb, ltb, length, take, drop, replicate, Err, Result}
use Rattle.basics.specs.Limits.{kind_limit, signal_limit}
use Rattle.formula.specs.Limits.{part_limit}
use Rattle.formula.specs.Letter.{Counts}
use Rattle.formula.specs.Semantics.{Trace}
use Rattle.formula.specs.declared.parts.Part.{Part}
use Rattle.formula.specs.Parts.{last_of}
use Rattle.formula.specs.Codes.{codes_of}
use Rattle.formula.specs.Values.{value_on}
use Rattle.lines.specs.declared.problem.Sizes.{Sizes}
use Rattle.lines.specs.declared.refusal.Refusal.TheVariants.{ShortMemory, TooManySignals, TooManyParts, NoFormula}
use Rattle.lines.specs.Refusal.{Told, values, refused}
use Rattle.rules.specs.Within.{FewCounted}
use Rattle.rules.specs.Trace.{RightLength, IsTrace, FirstBad, counts_of, verdict_on}
use Rattle.records.specs.declared.listing.PartList.{PartList}
use Rattle.records.specs.Reading.{records_after}

-- ---- the answer

-- whether there are few enough signals of each kind, and in all
unfoldable pub few_counted : Counts → Bool
few_counted c =
    leb c.outputs kind_limit && (leb c.observed kind_limit
    && (leb c.hidden kind_limit && leb (c.outputs + c.observed + c.hidden) signal_limit))

-- the value of the last of some parts on a trace, an operand that does not stand before its part counting as false there
abbrev pub last_value : List Part → Trace → Bool
last_value ps π = value_on ps π (last_of ps)

-- where `room` records are lent, and ps are those that s counts
unfoldable pub judged_in : ℕ → Sizes → List Part → Trace → Result Bool Refusal
judged_in room s ps π =
    cond (ltb room s.parts) (Err ShortMemory)
    (cond (few_counted (counts_of s))
    (cond (ltb part_limit s.parts) (Err (TooManyParts 0))
    (cond (eqb s.parts 0) (Err NoFormula)
    (verdict_on (counts_of s) π (last_value ps π))))
    (Err (TooManySignals 0)))

-- what is answered to the records that are left after a text was read, with these sizes
abbrev pub verdict_once : List ℕ → List Part → Sizes → Trace → Result Bool Refusal
verdict_once source old s π = judged_in (length (records_after source old)) s (take s.parts (records_after source old)) π

-- ---- what is due

-- sizes by which a trace can be judged, where so many records are lent
pub record Usable (room : ℕ) (s : Sizes) : Type 0 where
  pub lent : s.parts ≤ room
  pub few_signals : FewCounted (counts_of s)
  pub few_parts : s.parts ≤ part_limit
  pub some_parts : 0 < s.parts

-- the answer, as numbers
pub data JudgedBy (room : ℕ) (s : Sizes) (ps : List Part) (π : Trace) : Told → Type 0 where
  -- 12: fewer records are lent than s counts
  short_memory : room < s.parts → JudgedBy room s ps π (refused 12 0)
  -- 4, 7, 8: s counts too many signals, too many parts, or none
  too_many_signals : s.parts ≤ room → ¬ FewCounted (counts_of s) → JudgedBy room s ps π (refused 4 0)
  too_many_parts : s.parts ≤ room → FewCounted (counts_of s) → part_limit < s.parts → JudgedBy room s ps π (refused 7 0)
  no_formula : s.parts ≤ room → FewCounted (counts_of s) → s.parts ≡ 0 → JudgedBy room s ps π (refused 8 0)
  -- 16: the trace is not one over these signals
  bad_length : Usable room s → ¬ RightLength π → JudgedBy room s ps π (refused 16 0)
  bad_step : {step : ℕ} → Usable room s → RightLength π → FirstBad (counts_of s) π step → JudgedBy room s ps π (refused 16 step)
  is_true : Usable room s → IsTrace (counts_of s) π → last_value ps π ≡ true → JudgedBy room s ps π (values (1 ∷ []))
  is_false : Usable room s → IsTrace (counts_of s) π → last_value ps π ≡ false → JudgedBy room s ps π (values (0 ∷ []))

-- ---- what the code keeps

-- how many records are listed: those that s counts, but none where it counts more than are lent or may be
abbrev pub count_taken : ℕ → Sizes → ℕ
count_taken room s = cond (ltb room s.parts) 0 (cond (ltb part_limit s.parts) 0 s.parts)

-- the numbers of the first n parts, with zeros behind them
abbrev pub list_to : List Part → ℕ → PartList
list_to ps n = record { codes = codes_of (take n ps) ++ drop n (replicate part_limit 0) }

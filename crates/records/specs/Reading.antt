-- Reading a problem into lent records of its parts: what is answered, what is left in them, and what is due.
-- Assumes nothing.
use Rattle.lines.specs.declared.refusal.Refusal.{Refusal}
use Rattle.lines.specs.declared.problem.Sizes.{Sizes}
use Rattle.std.specs.Prelude.{ℕ, ◌≤◌, ◌<◌, cond, List, [], ltb, length, replicate, Err, Ok, Result}
use Rattle.basics.specs.Lists.{written}
use Rattle.formula.specs.Limits.{part_limit}
use Rattle.formula.specs.declared.parts.Part.{Part}
use Rattle.lines.specs.declared.refusal.Refusal.TheVariants.{ShortMemory}
use Rattle.lines.specs.Memory.{stored_from}
use Rattle.lines.specs.Refusal.{Told}
use Rattle.lines.specs.Refusal as told
use Rattle.rules.specs.Problem.{Problem, problem_parts, Outcome, accepted, refused, read_problem}
use Rattle.rules.specs.Reading.{reading_of, told_reading, told_problem}
use Rattle.rules.specs.Denotes.{Denotes}
use Rattle.rules.specs.Refuses.{Refuses}
use Rattle.records.specs.declared.listing.Listing.{Listing}

-- what reading gives where so many records are lent
unfoldable pub read_into : ℕ → List ℕ → Outcome
read_into room source = cond (ltb room part_limit) (refused ShortMemory) (read_problem source)

-- the parts that it gives
abbrev pub parts_given : Outcome → List Part
parts_given (accepted p) = problem_parts p
parts_given (refused r) = []

-- the records afterwards: the parts stand at the front, and those behind are as they were
abbrev pub records_after : List ℕ → List Part → List Part
records_after source old = written (parts_given (read_into (length old) source)) old

-- the answer, as numbers
abbrev pub told_read : List ℕ → List Part → Told
told_read source old = told_reading (reading_of (read_into (length old) source))

-- ---- what is due

-- the answer, as numbers, and the records afterwards
pub data ListedAs (source : List ℕ) (old : List Part) : Told → List Part → Type 0 where
  -- 12: fewer records are lent than a formula may have parts
  short_memory : length old < part_limit → ListedAs source old (told.refused 12 0) old
  -- 1 to 8: the text denotes no problem
  bad_source : part_limit ≤ length old → (number place : ℕ) → Refuses source number place
      → ListedAs source old (told.refused number place) old
  -- the formula's parts at the front, with the numbers of signals, parts and temporal operators, and the order's
  listed : part_limit ≤ length old → (p : Problem) → Denotes source p → ListedAs source old (told_problem p) (written (problem_parts p) old)

-- ---- what the code keeps

abbrev pub count_of : Result Sizes Refusal → ℕ
count_of (Ok s) = s.parts
count_of (Err r) = 0

-- how many parts there are, their numbers with zeros behind them, and what reading gave
abbrev pub listing_of : Outcome → Listing
listing_of o = record { count = length (parts_given o); codes = stored_from (parts_given o) 0 (replicate part_limit 0); reading = reading_of o }

-- What a call may say no to (REFERENCE.md, Refusals): the number of each refusal and its place.
-- Assumes nothing.
use Rattle.std.specs.Prelude.{ℕ, List}
use Rattle.lines.specs.declared.refusal.Refusal.{Refusal}
use Rattle.lines.specs.declared.refusal.Refusal.TheVariants.{LongSource, BadLine, NameTwice, TooManySignals, BadFormula}
use Rattle.lines.specs.declared.refusal.Refusal.TheVariants.{UnknownName, TooManyParts, NoFormula, TooManyStates, TooManyBeliefs}
use Rattle.lines.specs.declared.refusal.Refusal.TheVariants.{Unrealizable, ShortMemory, BadTable, Stopped, BadObservation, BadTrace, BadText}

abbrev pub number_of : Refusal → ℕ
number_of LongSource = 1
number_of (BadLine n) = 2
number_of (NameTwice n) = 3
number_of (TooManySignals n) = 4
number_of (BadFormula n) = 5
number_of (UnknownName n) = 6
number_of (TooManyParts n) = 7
number_of NoFormula = 8
number_of TooManyStates = 9
number_of TooManyBeliefs = 10
number_of Unrealizable = 11
number_of ShortMemory = 12
number_of BadTable = 13
number_of Stopped = 14
number_of BadObservation = 15
number_of (BadTrace n) = 16
number_of (BadText n) = 17

-- a line or a step, counted from 1, or 0
abbrev pub place_of : Refusal → ℕ
place_of LongSource = 0
place_of (BadLine n) = n
place_of (NameTwice n) = n
place_of (TooManySignals n) = n
place_of (BadFormula n) = n
place_of (UnknownName n) = n
place_of (TooManyParts n) = n
place_of NoFormula = 0
place_of TooManyStates = 0
place_of TooManyBeliefs = 0
place_of Unrealizable = 0
place_of ShortMemory = 0
place_of BadTable = 0
place_of Stopped = 0
place_of BadObservation = 0
place_of (BadTrace n) = n
place_of (BadText n) = n

-- an answer in the reference's terms: its values, or a refusal's number and place
pub data Told : Type 0 where
  values : List ℕ → Told
  refused : (number place : ℕ) → Told

abbrev pub told_refusal : Refusal → Told
told_refusal r = refused (number_of r) (place_of r)

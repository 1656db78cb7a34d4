-- Obligations (REFERENCE.md, States): what the parts of a formula need to know of the next step. There is one bit for each
-- temporal operator, in the order of the parts, and on top one for the whole formula. A pattern gives every obligation a bit;
-- all zero fits "no next step".
-- Assumes nothing.
use Rattle.std.specs.Prelude.{ℕ, zero, suc, ◌+◌, Bool, true, false, length}
use mathlib.Core.List.{List, [], ◌∷◌, ◌++◌, map, foldr}
use Rattle.basics.specs.Bits.{bit, digit, from_bits}
use Rattle.formula.specs.Semantics.{Trace}
use Rattle.formula.specs.declared.parts.Part.{Part}
use Rattle.formula.specs.Parts.{byte_of, is_temporal, part_at, last_of}
use Rattle.formula.specs.Values.{value_with, owed_with}

-- part i is a temporal operator
abbrev pub is_operator : List Part → ℕ → Bool
is_operator ps i = is_temporal (byte_of (part_at ps i).kind)

-- how many of them stand before part i: the number of its obligation, if it is one of them
unfoldable pub number_of : List Part → ℕ → ℕ
number_of ps zero = 0
number_of ps (suc i) = number_of ps i + digit (is_operator ps i)

-- how many of them there are
unfoldable pub operators_of : List Part → ℕ
operators_of ps = number_of ps (length ps)

abbrev pub only_if : {A : Type 0} → Bool → A → List A
only_if true x = x ∷ []
only_if false x = []

-- those among the first n parts, upward
unfoldable pub spots_to : List Part → ℕ → List ℕ
spots_to ps zero = []
spots_to ps (suc n) = spots_to ps n ++ only_if (is_operator ps n) n

-- all of them
unfoldable pub spots : List Part → List ℕ
spots ps = spots_to ps (length ps)

-- ---- one step back

-- the value of part i at a step with letter a, from a pattern p about the next step
unfoldable pub value_at : List Part → ℕ → ℕ → ℕ → Bool
value_at ps a p = value_with ps a (λ i. bit p (number_of ps i))

-- the obligation of part i about that step
unfoldable pub owed_at : List Part → ℕ → ℕ → ℕ → Bool
owed_at ps a p i = owed_with ps (value_at ps a p) i

-- the pattern about the present step that letter a makes of pattern p about the next step
unfoldable pub back : List Part → ℕ → ℕ → ℕ
back ps a p = from_bits (map (owed_at ps a p) (spots ps) ++ (value_at ps a p (last_of ps) ∷ []))

-- the pattern that the steps of a trace meet
unfoldable pub pattern_on : List Part → Trace → ℕ
pattern_on ps π = foldr (back ps) 0 π

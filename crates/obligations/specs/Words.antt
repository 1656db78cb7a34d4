-- Patterns `word_size` at a time: a number whose bit j is a test's answer on pattern j of a block. Block w has the patterns from w * word_size on.
-- Assumes nothing.
use Rattle.std.specs.Prelude.{ℕ, ◌+◌, ◌*◌, Bool, List}
use Rattle.formula.specs.declared.formula.Op.{Op}
use Rattle.basics.specs.Bits.{bit, from_bits}
use Rattle.basics.specs.Limits.{word_size}
use Rattle.basics.specs.Lists.{tabulate}
use Rattle.formula.specs.declared.parts.Part.{Part}
use Rattle.formula.specs.Values.{combine, owed}
use Rattle.obligations.specs.Obligation.{value_at, back}

-- a word's answers as one number
unfoldable pub lanes : (ℕ → Bool) → ℕ
lanes f = from_bits (tabulate word_size f)

-- the same answer everywhere
unfoldable pub all_lanes : Bool → ℕ
all_lanes b = lanes (λ j. b)

-- obligation k in the patterns of block w
unfoldable pub obligation_lanes : ℕ → ℕ → ℕ
obligation_lanes k w = lanes (λ j. bit (w * word_size + j) k)

-- values and obligations of a part, lane by lane
unfoldable pub combine_lanes : Op → ℕ → ℕ → ℕ → ℕ → ℕ
combine_lanes k s o x y = lanes (λ j. combine k (bit s j) (bit o j) (bit x j) (bit y j))

unfoldable pub owed_lanes : Op → ℕ → ℕ → ℕ
owed_lanes k x v = lanes (λ j. owed k (bit x j) (bit v j))

-- the value of part i at a step with letter a
unfoldable pub value_lanes : List Part → ℕ → ℕ → ℕ → ℕ
value_lanes ps a w i = lanes (λ j. value_at ps a (w * word_size + j) i)

-- bit k of the patterns that letter a carries back
unfoldable pub back_lanes : List Part → ℕ → ℕ → ℕ → ℕ
back_lanes ps a w k = lanes (λ j. bit (back ps a (w * word_size + j)) k)

-- What code keeps of a formula: its parts, a number for each, and for a block of letters the values of all parts.
-- Assumes nothing.
use Rattle.std.specs.Prelude.{ℕ, zero, suc, ◌+◌, ◌*◌, ◌≤◌, ◌<◌, List, length, get_or}
use Rattle.std.proofs.Props.{props}
use Rattle.std.proofs.lemmas.List.Edits.{sets}
use Rattle.basics.specs.Bits.{bit}
use Rattle.formula.specs.Codes.{parts_in}
use Rattle.basics.specs.Limits.{operator_limit}
use Rattle.formula.specs.Limits.{part_limit}
use Rattle.basics.specs.Lists.{tabulate}
use Rattle.formula.specs.declared.parts.Part.{Part}
use Rattle.formula.specs.Parts.{part_at, arity, AllReady}
use Rattle.obligations.specs.Obligation.{number_of, operators_of}
use Rattle.obligations.specs.Words.{all_lanes, obligation_lanes, combine_lanes}

-- ---- the parts

-- numbers hold parts, each after what its value reads at the same step, with all operands among them, and not too many
pub record Stored (codes : List ℕ) : Type 0 where
  pub ready : AllReady (parts_in codes)
  pub inside : (i : ℕ) → i < length codes → 1 ≤ arity (part_at (parts_in codes) i).kind → (part_at (parts_in codes) i).left < length codes
  pub some : 0 < length codes
  pub few : length codes ≤ part_limit
  pub operators : operators_of (parts_in codes) ≤ operator_limit

-- which is said in one way at most, so that a struct may keep it
ready_prop : (ps : List Part) → IsProp (AllReady ps)
unfolding AllReady
ready_prop ps = Prim.hlevel props

pub stored_prop : (codes : List ℕ) → IsProp (Stored codes)
stored_prop codes = Prim.hlevel (props, ready_prop)

-- for each part how many temporal operators stand before it
unfoldable pub numbers_of : List Part → List ℕ
numbers_of ps = tabulate (length ps) (number_of ps)

-- ---- the values of all parts, for a block of letters: entry i * block_size + x is part i's at letter x

-- letters that are evaluated together
abbrev pub block_size : ℕ
block_size = 16

-- the word of part q at letter x, from its obligation's and those of its operands
unfoldable pub part_lane : Part → ℕ → List ℕ → List ℕ → ℕ → ℕ
part_lane q o letters v x =
    combine_lanes q.kind (all_lanes (bit (get_or letters x 0) q.left)) o (get_or v (q.left * block_size + x) 0) (get_or v (q.right * block_size + x) 0)

-- the memory with the words of part q written, which is part i
unfoldable pub with_part : Part → ℕ → List ℕ → ℕ → List ℕ → List ℕ
with_part q o letters i v = sets v (i * block_size) (tabulate block_size (part_lane q o letters v))

-- the memory with the words of the first n parts written, one after another, for block w of patterns
unfoldable pub values_to : List Part → List ℕ → ℕ → ℕ → List ℕ → List ℕ
values_to ps letters w zero v = v
values_to ps letters w (suc i) v = with_part (part_at ps i) (obligation_lanes (number_of ps i) w) letters i (values_to ps letters w i v)

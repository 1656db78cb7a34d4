-- Parts in memory: one number for each, with the operator's byte lowest, then its left and its right number.
-- Assumes nothing.
use Rattle.std.specs.Prelude.{ℕ, ◌+◌, ◌*◌, ◌/◌, ◌%◌, List, map}
use Rattle.formula.specs.Parts.{byte_of, op_of}
use Rattle.formula.specs.declared.parts.Part.{Part}

abbrev pub code_of : Part → ℕ
code_of q = byte_of q.kind + 256 * q.left + 65536 * q.right

abbrev pub codes_of : List Part → List ℕ
codes_of ps = map code_of ps

-- the part that a number holds
unfoldable pub part_of : ℕ → Part
part_of n = record { kind = op_of (n % 256); left = n / 256 % 256; right = n / 65536 % 256 }

unfoldable pub parts_in : List ℕ → List Part
parts_in codes = map part_of codes

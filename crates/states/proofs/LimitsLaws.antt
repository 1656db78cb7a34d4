-- What is used of the limits, and what follows for planes and maps over no more operators.
-- Assumes nothing.
use Prim.Native.Nat.{ℕ, suc, ◌+◌, ◌-◌, ◌*◌, ◌^◌, ◌≤◌}
use native.Mathlib.Omega.{arith}
use mathlib.Core.Path.{◌≡◌, refl}
use lib.Pow.{pow_mono}
use lib.Dec.{lit≤}
use Rattle.basics.specs.Limits.{operator_limit, word_bits, word_size}
use Rattle.search.specs.Limits.{letter_limit, map_size}
use Rattle.search.specs.Maps.{planes_of}
use Rattle.search.proofs.HalfSets.{planes_bits}
use Rattle.states.specs.Limits.{slot_size, plane_count}

-- the words of all planes hold a whole map: there are no fewer operators than a word has patterns for
planes_whole : plane_count * word_size ≡ map_size
planes_whole = refl

-- an entry of a map is a byte
pub slot_byte : slot_size ≤ 8
slot_byte = omega arith

-- the letters are numbered in two bytes
pub letter_bytes : letter_limit ≤ 2 ^ 16
letter_bytes = lit≤ tt

-- ---- what follows

-- a pattern's bits have a word each
pub slot_room : (d : ℕ) → d ≤ operator_limit → suc d ≤ slot_size
slot_room d h = omega (arith, h)

-- a map has room for the patterns of m planes
pub planes_fit : (m : ℕ) → m ≤ plane_count → m * word_size ≤ map_size
planes_fit m h = omega (arith, h, planes_whole)

-- ---- the planes of d operators

-- they have room for every pattern
pub planes_room : (d : ℕ) → 2 ^ d ≤ planes_of d * word_size
planes_room d = rw planes_bits (pow_mono {i = d} {j = d - word_bits + word_bits} (omega arith))

-- and are no more than there are
pub planes_few : (d : ℕ) → d ≤ operator_limit → planes_of d ≤ plane_count
unfolding planes_of
planes_few d h = pow_mono {i = d - word_bits} {j = operator_limit - word_bits} (omega (arith, h))

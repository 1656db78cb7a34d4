-- What is used of the limits, and what follows for sets and maps over no more operators. All else is over any number of them.
-- Assumes nothing.
use Prim.Native.Nat.{ℕ, suc, ◌*◌, ◌^◌, ◌≤◌, ◌<◌}
use native.Mathlib.Omega.{arith}
use mathlib.Core.Path.{◌≡◌, refl, sym, subst}
use lib.Pow.{pow_mono}
use Rattle.basics.specs.Limits.{operator_limit, word_bits}
use Rattle.search.specs.Limits.{state_limit, set_size, map_size}
use Rattle.search.specs.Memory.{set_bytes, half_of}
use Rattle.search.proofs.HalfSets.{half_small}
use Rattle.search.proofs.PackedSets.{packing}
use Rattle.search.proofs.SlotsLaws.{Packing}

-- a map fills a word at least
operators_many : word_bits ≤ operator_limit
operators_many = omega arith

-- a set has a bit for each pattern
set_bits : set_size * 8 ≡ 2 ^ suc operator_limit
set_bits = refl

-- the number of a place is a byte
pub place_byte : state_limit < 2 ^ 8
place_byte = omega arith

module _ (d : ℕ) (few : d ≤ operator_limit) where
  -- a set over d operators fits its place, and is read back from it
  pub set_room : 2 ^ suc d ≤ set_size * 8
  set_room = subst (λ n. 2 ^ suc d ≤ n) (sym set_bits) (pow_mono {i = suc d} {j = suc operator_limit} (omega (arith, few)))

  pub set_packing : Packing set_size (2 ^ suc d) set_bytes
  set_packing = packing set_size d set_room

  -- the bytes that differ after a letter are in a map
  pub half_map : half_of d * 8 ≤ map_size
  half_map = half_small d operator_limit few (omega (arith, operators_many))

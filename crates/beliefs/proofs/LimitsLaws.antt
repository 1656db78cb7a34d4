-- What is used of the limits: states have their bits in a belief, and numbers of pairs and beliefs are kept in bytes.
-- Assumes nothing.
use Prim.Native.Nat.{◌*◌, ◌^◌, ◌≤◌}
use native.Mathlib.Omega.{arith}
use Rattle.search.specs.Limits.{state_limit}
use Rattle.play.specs.Limits.{belief_limit, pair_limit}
use Rattle.beliefs.specs.BeliefMemory.{belief_size}

pub state_bits : state_limit ≤ belief_size * 8
state_bits = omega arith

pub pair_byte : pair_limit ≤ 2 ^ 8
pair_byte = omega arith

pub belief_byte : belief_limit ≤ 2 ^ 8
belief_byte = omega arith

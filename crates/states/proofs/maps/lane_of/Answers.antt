-- `states::maps::lane_of` meets its contract, by that of `from_bits`.
-- Assumes nothing.
use Prim.Native.Nat.{◌+◌, ◌/◌, ◌^◌}
use mathlib.Core.Path.{◌≡◌, ◌∙◌}
use lib.Bits.{bit_and}
use lib.Dec.{eqb}
use lib.ListN.{get_or}
use borrow.Author.Rules.{rules}
use Rattle.basics.proofs.BitsLaws.{bit_test}
use Rattle.states.specs.Planes.{lane_of}
use Rattle.states.proofs.LimitsLaws.{slot_byte}
use Rattle.states.proofs.maps.lane_of.Goals as goal

pub from_bits-requires-clause-few : goal.from_bits-requires-clause-few
from_bits-requires-clause-few c = slot_byte

pub returns : goal.returns
unfolding lane_of
returns c = c.from_bits.ensures _ (λ k r h q.
    let e : r ≡ eqb (bit_and (get_or c.args.words.now (c.args.at + k) 0 / 2 ^ c.args.j) 1) 1 = search rules in
    e ∙ bit_test _ c.args.j)

-- `search::sets::start_byte` meets its contract, by that of `from_bits`.
-- Assumes nothing.
use Prim.Native.Nat.{◌+◌, ◌*◌, ◌/◌, ◌^◌}
use mathlib.Core.Path.{◌≡◌, ◌∙◌}
use lib.Bits.{bit_and}
use lib.Dec.{eqb}
use borrow.Author.Rules.{rules}
use Rattle.basics.proofs.BitsLaws.{bit_test}
use Rattle.search.specs.Memory.{start_byte}
use Rattle.search.proofs.sets.start_byte.Goals as goal

pub returns : goal.returns
unfolding start_byte
returns c = c.from_bits.ensures _ (λ j r h q.
    let e : r ≡ eqb (bit_and ((c.args.i * 8 + j) / 2 ^ c.args.d) 1) 1 = search rules in
    e ∙ bit_test _ c.args.d)

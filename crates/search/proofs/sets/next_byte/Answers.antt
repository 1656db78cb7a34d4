-- `search::sets::next_byte` meets its contract, by that of `from_bits`.
-- Assumes nothing.
use Prim.Native.Nat.{◌+◌, ◌*◌}
use mathlib.Core.Path.{◌≡◌}
use mathlib.Core.Bool.{false}
use lib.ListN.{get_or}
use borrow.Author.Rules.{rules}
use Rattle.search.specs.Memory.{next_byte}
use Rattle.search.proofs.sets.next_byte.Goals as goal

pub returns : goal.returns
unfolding next_byte
returns c = c.from_bits.ensures _ (λ j r h q.
    let e : r ≡ get_or c.args.present.now (get_or c.args.entries.now (c.args.b * 8 + j) 0) false = search rules in
    e)

-- `syntax::cells::put_codes` meets its contract. The invariant: the numbers of the cells passed are written.
-- Assumes nothing.
use mathlib.Core.Path.{◌≡◌}
use lib.ListN.{take}
use lib.Seq.{sets}
use Rattle.syntax.specs.Cells.{codes_from}
use Rattle.syntax.proofs.cells.put_codes.Given as goal

abbrev pub invariant-loop-i : goal.invariant-loop-i
invariant-loop-i l = l.parts ≡ sets l.initial.parts l.n (codes_from l.n (take l.i l.cells))

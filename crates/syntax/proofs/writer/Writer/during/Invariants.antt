-- `syntax::writer::Writer::during` meets its contract. The invariant: as many weak nexts are written as there were turns.
-- Assumes nothing.
use Prim.Native.Nat.{◌-◌}
use mathlib.Core.List.{[]}
use Rattle.syntax.specs.Plans.{delay_cells}
use Rattle.syntax.specs.Writer.{Writes}
use Rattle.syntax.proofs.writer.Writer.during.Given as goal

abbrev pub invariant-loop : goal.invariant-loop
invariant-loop l = Writes l.initial.self l.self (delay_cells (l.counter - 1) [])

-- `loader::faults::row_fault` meets its contract. The invariant: the rows before this one are as they must be.
-- Assumes nothing.
use Rattle.loader.proofs.faults.FaultSteps.{RightTo}
use Rattle.loader.proofs.faults.row_fault.Given as goal

abbrev pub invariant-loop-row : goal.invariant-loop-row
invariant-loop-row l =
    RightTo l.table.cells.now l.table.shape l.row

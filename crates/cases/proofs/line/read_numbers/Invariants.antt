-- `cases::line::read_numbers` meets its contract: no more numbers are kept than there is room for. Assumes nothing.
use Rattle.std.proofs.Common.{◌≤◌, ◌-◌, length}
use Rattle.cases.proofs.line.read_numbers.Given as goal

abbrev pub invariant-loop-i : goal.invariant-loop-i
invariant-loop-i l =
    l.n ≤ length l.numbers

abbrev pub decreases-loop-i : goal.decreases-loop-i
decreases-loop-i l =
    length l.list - l.i

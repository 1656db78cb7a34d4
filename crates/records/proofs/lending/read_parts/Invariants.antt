-- `records::lending::read_parts` meets its contract: after i turns the first i parts stand at the front, and the records behind them are
-- as they were. Assumes nothing.
use Rattle.std.proofs.Common.{◌≡◌, length}
use Rattle.records.specs.Reading.{read_into, parts_given}
use Rattle.records.proofs.ReadingLaws.{up_to}
use Rattle.records.proofs.lending.read_parts.Given as goal

abbrev pub invariant-loop-i : goal.invariant-loop-i
invariant-loop-i l = l.parts ≡ up_to l.i (parts_given (read_into (length l.initial.parts) l.source)) l.initial.parts

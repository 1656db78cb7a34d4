-- `records::lending::judge_parts` meets its contract: after i turns the list has the first i records, and their numbers hold them.
-- Assumes nothing.
use Rattle.std.proofs.Common.{◌≡◌, take}
use Rattle.formula.proofs.CodesLaws.{Held}
use Rattle.records.specs.Judging.{list_to}
use Rattle.records.proofs.lending.judge_parts.Given as goal

abbrev pub invariant-loop-i : goal.invariant-loop-i
invariant-loop-i l = (l.l ≡ list_to l.parts l.i) × Held (take l.i l.parts)

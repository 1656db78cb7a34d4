-- `obligations::numbering::number_parts` meets its contract. The invariant: what is written is right for the parts passed.
-- Assumes nothing.
use Prim.Native.Nat.{◌≤◌}
use Rattle.formula.specs.Codes.{parts_in}
use Rattle.obligations.proofs.NumberedParts.{Numbered}
use Rattle.obligations.proofs.numbering.number_parts.Given as goal

abbrev pub invariant-loop-i : goal.invariant-loop-i
invariant-loop-i l = (l.k ≤ l.i) × Numbered (parts_in l.parts) l.initial.numbers l.initial.spots l.i l.k l.numbers l.spots

-- `formula::evaluate::owed_back` meets its contract. The invariant: the obligations of the parts passed are written, from the entries as they were.
-- Assumes nothing.
use mathlib.Core.Path.{◌≡◌}
use Rattle.formula.specs.Codes.{parts_in}
use Rattle.formula.specs.Entries.{with_owed}
use Rattle.formula.proofs.evaluate.owed_back.Given as goal

abbrev pub invariant-loop-i : goal.invariant-loop-i
invariant-loop-i l =
    l.entries ≡ with_owed (parts_in l.parts) l.i l.initial.entries

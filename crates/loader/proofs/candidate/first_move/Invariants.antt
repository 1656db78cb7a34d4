-- `loader::candidate::first_move` meets its contract. The invariant: the line of the row begins at the place, and all rows before it stop.
-- Assumes nothing.
use mathlib.Core.Path.{◌≡◌}
use Rattle.basics.specs.Bounded.{first_that}
use Rattle.loader.specs.Candidate.{goes_on}
use Rattle.loader.proofs.candidate.RowLoop.{RowAt}
use Rattle.loader.proofs.candidate.first_move.Given as goal

abbrev pub invariant-loop-row : goal.invariant-loop-row
invariant-loop-row l =
    RowAt l.text l.at l.row × (first_that (goes_on l.text) l.row ≡ l.row)

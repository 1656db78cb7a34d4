use native.Mathlib.Omega.{arith}
use Rattle.tables.proofs.choosing.BestLoop.{best_end}
use Rattle.tables.proofs.choosing.best_choice.Goals as goal

pub returns : goal.returns
returns c =
    best_end _ _ _ _ _ _ _ _ (omega arith) c.loop-c.invariant

use Prim.Native.Nat.{◌<◌}
use native.Mathlib.Omega.{arith}
use lib.ListN.{length}
use Rattle.basics.proofs.Filling.{table_more}
use Rattle.tables.proofs.choosing.BestLoop.{found_le, all_chosen}
use Rattle.tables.proofs.choosing.put_best.Goals as goal

pub overflow_cast-answers : goal.overflow_cast-answers
overflow_cast-answers c =
    omega (arith, found_le _ _ _ c.best_choice.ensures)

pub loop-s-preserved : goal.loop-s-preserved
loop-s-preserved c =
    let h : c.loop-s.s < length c.args.answers.now = omega arith in
    table_more c.loop-s.s _ c.args.answers.now c.loop-s.answers _ h c.loop-s.invariant c.best_choice.ensures

pub returns : goal.returns
returns c =
    all_chosen _ _ _ _ _ c.loop-s.s _ _ (omega arith) c.loop-s.invariant

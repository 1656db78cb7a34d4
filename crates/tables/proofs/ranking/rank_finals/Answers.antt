use Prim.Native.Nat.{◌<◌}
use native.Mathlib.Omega.{arith}
use mathlib.Core.Path.{◌∙◌}
use lib.ListN.{length}
use Rattle.basics.proofs.Filling.{table_more}
use Rattle.tables.specs.PositionMemory.{first_rank, no_rank}
use Rattle.tables.proofs.ranking.RoundLoop.{first_final, first_other}
use Rattle.tables.proofs.ranking.rank_finals.Goals as goal
use Rattle.tables.proofs.ranking.rank_finals.Goals.{else-arena-k-eq1, then-arena-k-eq1}

pub loop-k-preserved : goal.loop-k-preserved
loop-k-preserved c =
    let h : c.loop-k.k < length c.args.ranks.now = omega arith in
    elim c.if-arena-k-eq1.branch [
      | then-arena-k-eq1 t ↦
          t.ranks-is ∙ table_more c.loop-k.k (first_rank c.args.arena.now.finals.now) c.args.ranks.now c.loop-k.ranks 0 h c.loop-k.invariant (first_final c.args.arena.now.finals.now c.loop-k.k t.if-arena-k-eq1.true)
      | else-arena-k-eq1 t ↦
          t.ranks-is ∙ table_more c.loop-k.k (first_rank c.args.arena.now.finals.now) c.args.ranks.now c.loop-k.ranks no_rank h c.loop-k.invariant (first_other c.args.arena.now.finals.now c.loop-k.k t.if-arena-k-eq1.false)
    ]

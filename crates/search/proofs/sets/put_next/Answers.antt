use native.Mathlib.Omega.{arith}
use mathlib.Core.Path.{◌∙◌}
use Rattle.basics.proofs.Filling.{table_more}
use Rattle.search.proofs.sets.SetLoops.{next_done}
use Rattle.search.proofs.sets.put_next.Goals as goal

pub loop-b-preserved : goal.loop-b-preserved
loop-b-preserved c = table_more c.loop-b.b _ c.args.place.now c.loop-b.place _ (omega arith) c.loop-b.invariant c.next_byte.ensures

pub returns : goal.returns
returns c =
    c.repeat.ensures
    ∙ next_done c.args.present.now c.args.entries.now c.args.h c.loop-b.b c.loop-b.place c.args.place.now (omega arith) (omega arith) c.loop-b.auto.place c.loop-b.invariant

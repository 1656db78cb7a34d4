use Rattle.tables.proofs.writing.RowNumbers.{passed_none, passed_more, passed_found}
use Rattle.tables.proofs.writing.row_of.Goals as goal

pub loop-i-init : goal.loop-i-init
loop-i-init c =
    passed_none c.args.rows.now c.args.k

pub returns-then-rows-i : goal.returns-then-rows-i
returns-then-rows-i c =
    passed_found _ _ _ c.loop-i.i c.requires c.loop-i-test.true c.loop-i.invariant c.if-rows-i.true

pub loop-i-preserved : goal.loop-i-preserved
loop-i-preserved c =
    passed_more _ _ _ c.loop-i.i c.requires c.loop-i-test.true c.loop-i.invariant c.if-rows-i.false

-- `syntax::cells::code_at` meets its contract.
-- Assumes nothing.
use Rattle.syntax.proofs.CellsLaws.{made_leaf, made_prefix, made_infix}
use Rattle.syntax.proofs.cells.code_at.Goals as goal

pub returns-then-x-lt-ONE_SIDED : goal.returns-then-x-lt-ONE_SIDED
returns-then-x-lt-ONE_SIDED c =
    made_leaf _ _ c.if-x-lt-ONE_SIDED.true

pub returns-then-x-lt-TWO_SIDED : goal.returns-then-x-lt-TWO_SIDED
returns-then-x-lt-TWO_SIDED c =
    made_prefix _ _ _ c.index_before-last.ensures c.if-x-lt-ONE_SIDED.false c.if-x-lt-TWO_SIDED.true

pub returns : goal.returns
returns c =
    made_infix _ _ _ c.index_before-last.ensures c.if-x-lt-TWO_SIDED.false _ c.index_before.ensures

-- `tables::answering::answer` meets its contract: the rank of the start says whether there is a table, and is its worst case.
-- Assumes nothing.
use native.Mathlib.Omega.{arith}
use mathlib.Core.Path.{refl}
use Rattle.tables.proofs.PositionMemoryLaws.{ranks_taken}
use Rattle.tables.proofs.answering.StartRank.{start_found, start_small, none_answer, table_answer}
use Rattle.tables.proofs.answering.answer.Goals as goal

pub returns-then-r : goal.returns-then-r
returns-then-r c =
    let whole = none_answer _ _ _ _ _ _ _ c.args.arena.now.positions (ranks_taken _ _ _ _ _ _ _ _ _ c.rank_all.ensures) _ c.if-r.true in
    record { value = whole.0; table_after = whole.1 }

pub put_table-rows-requires-clause-start_ranked : goal.put_table-rows-requires-clause-start_ranked
put_table-rows-requires-clause-start_ranked c =
    start_found _ _ _ _ _ _ _ c.args.arena.now.positions (ranks_taken _ _ _ _ _ _ _ _ _ c.rank_all.ensures) c.if-r.false

pub overflow_cast-result : goal.overflow_cast-result
overflow_cast-result c =
    let ranked = ranks_taken _ _ _ _ _ _ _ _ _ c.rank_all.ensures in
    record { fits = omega (arith, start_small _ _ _ _ _ _ _ c.args.arena.now.positions ranked c.if-r.false) }

pub returns : goal.returns
returns c =
    let whole = table_answer _ _ _ _ _ _ _ c.args.arena.now.positions
    (ranks_taken _ _ _ _ _ _ _ c.rank_all.new.ranks _ c.rank_all.ensures) c.put_table-rows.result _ _ _
    c.if-r.false refl c.put_table-rows.ensures.value c.put_table-rows.ensures.table_after in
    record { value = whole.0; table_after = whole.1 }

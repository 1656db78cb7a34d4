use Rattle.std.proofs.Common.{sym, ◌∙◌, arith}
use Rattle.grammar.proofs.NamesLaws.{bit_here, index_more, no_bit}
use Rattle.grammar.proofs.names.lookup.Goals as goal

pub returns-then-same : goal.returns-then-same
returns-then-same c =
    bit_here _ _ _ (omega arith) (omega arith) (sym c.same.ensures ∙ c.if-same.true) c.loop-b.invariant

pub loop-b-preserved : goal.loop-b-preserved
loop-b-preserved c =
    c.loop-b.invariant ∙ index_more _ _ _ (omega arith) (sym c.same.ensures ∙ c.if-same.false)

pub returns : goal.returns
returns c =
    no_bit _ _ _ (omega arith) c.loop-b.invariant

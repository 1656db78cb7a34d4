use Prim.Native.Nat.{◌-◌}
use native.Mathlib.Omega.{arith}
use mathlib.Core.Path.{◌≡◌, ap, ◌∙◌}
use mathlib.Core.List.{[], ◌++◌}
use Rattle.syntax.specs.Kinds.{and_kind, weak_next_kind}
use Rattle.syntax.specs.Plans.{chain_cells, delay_cells}
use Rattle.syntax.proofs.PlansLaws.{chain_length, delay_length, delay_more, delay_behind}
use Rattle.syntax.proofs.WriterLaws.{writes_then, writes_as}
use Rattle.syntax.proofs.writer.Writer.during.Goals as goal

pub over-requires : goal.over-requires
over-requires c = omega (arith, chain_length, delay_length)

pub loop-preserved : goal.loop-preserved
loop-preserved c =
    writes_as (delay_more c.loop.counter 1 [] c.loop.auto.counter) (writes_then c.loop.invariant c.over.ensures)

pub returns : goal.returns
returns c =
    let chain = chain_cells and_kind weak_next_kind (c.args.last - c.args.first) c.args.a.now in
    let e : c.args.first - 1 ≡ c.loop.counter - 1 = omega arith in
    let behind = delay_behind (c.args.first - 1) chain ∙ ap (λ k. chain ++ delay_cells k []) e in
    writes_as behind (writes_then c.chain.ensures c.loop.invariant)

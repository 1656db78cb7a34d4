use native.Mathlib.Omega.{arith}
use mathlib.Core.Path.{ap, ◌∙◌}
use Rattle.formula.specs.Codes.{parts_in}
use Rattle.formula.specs.Parts.{have_signal}
use Rattle.grammar.specs.Names.{names_in}
use Rattle.usage.specs.Declarations.{declares_unused}
use Rattle.usage.proofs.DeclarationsLaws.{onward}
use Rattle.usage.proofs.using.FirstLoop.{begin, look_on, looked}
use Rattle.usage.proofs.using.first_unused.Goals as goal

pub loop-at-init : goal.loop-at-init
loop-at-init c =
    begin _ _ _

pub overflow_add-line : goal.overflow_add-line
overflow_add-line c =
    omega (arith, c.loop-at.invariant.numbered, c.loop-at.invariant.inside)

pub loop-at-smaller : goal.loop-at-smaller
loop-at-smaller c =
    omega (arith, onward _ c.loop-at.at (omega arith) c.behind-at.result c.behind-at.ensures.upper_bound c.behind-at.ensures.text_value)

pub loop-at-preserved : goal.loop-at-preserved
loop-at-preserved c =
    let u = have_signal (parts_in c.args.parts.now) in
    let names = names_in c.args.names.now in
    look_on u names c.args.source.now c.loop-at.invariant (omega arith) c.behind-at.result c.behind-at.ensures.upper_bound c.behind-at.ensures.text_value _ _
    (c.declares_unused-counts.ensures ∙ ap (declares_unused u names) c.piece.ensures) c.first_of-found.ensures

pub returns : goal.returns
returns c =
    looked _ _ _ c.loop-at.invariant c.loop-at-test.false

use native.Mathlib.Omega.{arith}
use mathlib.Core.Path.{refl, ap, sym, ◌∙◌}
use mathlib.Core.List.{[], ◌∷◌, ◌++◌}
use borrow.Author.Rules.{rules}
use lib.ListN.{length}
use Rattle.basics.specs.Pieces.{field_at}
use Rattle.formula.specs.Codes.{parts_in}
use Rattle.formula.specs.Parts.{have_signal}
use Rattle.grammar.specs.Names.{names_in}
use Rattle.usage.specs.Declarations.{declares_unused}
use Rattle.usage.proofs.DeclarationsLaws.{name_fits, onward}
use Rattle.usage.proofs.using.NamesLoop.{begin, put_on, pass_on, all_put}
use Rattle.usage.proofs.using.put_unused.Goals as goal
use Rattle.usage.proofs.using.put_unused.Goals.{else-declares_unused, then-declares_unused}

pub loop-at-init : goal.loop-at-init
loop-at-init c = begin _ _ _ refl

pub put_name-requires : goal.put_name-requires
put_name-requires c =
    omega (
      arith,
      name_fits c.args.source.now c.loop-at.at (omega arith),
      c.loop-at.invariant.behind_at,
      c.requires,
      c.loop-at.invariant.put.long,
      ap (λ b. length (field_at 1 b ++ (10 ∷ []))) c.piece-line.ensures,
    )

pub loop-at-smaller : goal.loop-at-smaller
loop-at-smaller c =
    omega (arith, onward _ c.loop-at.at (omega arith) c.behind-at.result c.behind-at.ensures.upper_bound c.behind-at.ensures.text_value)

pub loop-at-preserved : goal.loop-at-preserved
loop-at-preserved c =
    let u = have_signal (parts_in c.args.parts.now) in
    let names = names_in c.args.names.now in
    let tested = sym (c.declares_unused.ensures ∙ ap (declares_unused u names) c.piece-line.ensures) in
    elim c.if-declares_unused.branch [
      | then-declares_unused w ↦ put_on u names c.args.source.now c.loop-at.invariant (omega arith) c.behind-at.result c.behind-at.ensures.upper_bound
          c.behind-at.ensures.text_value (tested ∙ w.if-declares_unused.true) (rw (← c.piece-line.ensures, w.out-is) w.put_name.ensures)
      | else-declares_unused w ↦ rw w.out-is
          (pass_on u names c.args.source.now c.loop-at.invariant (omega arith) c.behind-at.result c.behind-at.ensures.upper_bound
          c.behind-at.ensures.text_value (tested ∙ w.if-declares_unused.false))
    ]

pub returns-clause-value : goal.returns-clause-value
returns-clause-value c = (all_put _ _ _ c.loop-at.invariant refl c.requires c.loop-at-test.false).0

pub returns-clause-text_after : goal.returns-clause-text_after
returns-clause-text_after c =
    let whole = (all_put _ _ _ c.loop-at.invariant refl c.requires c.loop-at-test.false).1 in
    let same = c.loop-at.invariant.put.same in
    search (rules, whole, same)

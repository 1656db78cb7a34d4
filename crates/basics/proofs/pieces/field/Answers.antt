use native.Mathlib.Omega.{arith}
use mathlib.Core.Path.{ap, sym, ◌∙◌}
use Rattle.basics.specs.Bytes.{not_tab}
use Rattle.basics.specs.Pieces.{piece, behind, behind_all}
use Rattle.basics.proofs.PiecesLaws.{behind_more}
use Rattle.basics.proofs.pieces.field.Goals as goal

pub loop-preserved : goal.loop-preserved
loop-preserved c =
    (c.behind-start.ensures.upper_bound, c.behind-start.ensures.text_value ∙ ap (behind not_tab) c.loop.invariant.1 ∙ sym (behind_more not_tab c.loop.counter c.args.line.now))

use Prim.Native.Nat.{◌+◌}
use native.Mathlib.Omega.{arith}
use mathlib.Core.Path.{ap₂, ◌∙◌}
use lib.ListN.{set}
use Rattle.syntax.proofs.CellsLaws.{codes_more}
use Rattle.syntax.proofs.cells.put_codes.Goals as goal

pub loop-i-preserved : goal.loop-i-preserved
loop-i-preserved c =
    ap₂ (λ p x. set p (c.args.n + c.loop-i.i) x) c.loop-i.invariant c.code_at.ensures
    ∙ codes_more c.args.parts.now c.args.n c.args.cells.now c.loop-i.i (omega arith)

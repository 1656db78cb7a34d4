-- `basics::pieces::piece` is the piece from the place on.
-- Assumes nothing.
use Prim.Native.Nat.{ℕ, ◌-◌}
use native.Mathlib.Omega.{arith}
use mathlib.Core.Path.{ap, ◌∙◌}
use lib.ListN.{take, drop}
use Rattle.basics.specs.Bytes.{in_class}
use Rattle.basics.proofs.BytesLaws.{past_in}
use Rattle.basics.proofs.PiecesLaws.{piece_is}
use Rattle.basics.proofs.pieces.piece.Goals as goal

pub slice_bounds-result-count : goal.slice_bounds-result-count
slice_bounds-result-count c =
    omega (arith, c.past.ensures, past_in (in_class c.args.class) c.args.text.now c.args.at c.requires)

pub slice_bounds-result-start : goal.slice_bounds-result-start
slice_bounds-result-start c =
    omega (arith, c.past.ensures, past_in (in_class c.args.class) c.args.text.now c.args.at c.requires)

pub slice_bounds-result-end : goal.slice_bounds-result-end
slice_bounds-result-end c =
    omega (arith, c.past.ensures, past_in (in_class c.args.class) c.args.text.now c.args.at c.requires)

pub returns : goal.returns
returns c =
    ap (λ (r : ℕ). take (r - c.args.at) (drop c.args.at c.args.text.now)) c.past.ensures
    ∙ piece_is (in_class c.args.class) c.args.text.now c.args.at

-- `basics::pieces::behind` leaves what stands behind the piece.
-- Assumes nothing.
use Prim.Native.Nat.{ℕ, ◌+◌}
use native.Mathlib.Omega.{arith}
use mathlib.Core.Path.{ap, ◌∙◌}
use lib.ListN.{drop}
use Rattle.basics.specs.Bytes.{in_class}
use Rattle.basics.proofs.BytesLaws.{past_in}
use Rattle.basics.proofs.PiecesLaws.{behind_byte, behind_end}
use Rattle.basics.proofs.pieces.behind.Goals as goal

pub returns-then-end-text : goal.returns-then-end-text
returns-then-end-text c =
    record { upper_bound = omega arith; text_value = ap (λ (r : ℕ). drop (r + 1) c.args.text.now) c.past-end.ensures ∙ behind_byte (in_class c.args.class) c.args.text.now c.args.at }

pub returns-else-end-text : goal.returns-else-end-text
returns-else-end-text c =
    let i = past_in (in_class c.args.class) c.args.text.now c.args.at c.requires in
    let h = behind_end (in_class c.args.class) c.args.text.now c.args.at (omega (arith, c.past-end.ensures, c.if-end-text.false)) in
    record { upper_bound = omega (arith, c.past-end.ensures, i); text_value = ap (λ (r : ℕ). drop r c.args.text.now) c.past-end.ensures ∙ h }

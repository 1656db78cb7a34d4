-- The theorems of this crate. Assumes nothing.
use Prim.Native.Nat.{ℕ, ◌^◌, ◌<◌}
use mathlib.Core.Path.{◌≡◌}
use mathlib.Core.Logic.{◌↔◌}
use mathlib.Core.List.{List}
use Rattle.basics.specs.Text.{decimal}
use Rattle.stepping.specs.Position.{Holds, OnStop, SteppedAs}
use Rattle.stepping.specs.declared.position.Position.{Position}
use Rattle.lines.specs.Refusal.{refused}
use Rattle.play.specs.Limits.{side_limit}
use Rattle.tables.specs.declared.shape.Shape.{Shape}
use Rattle.control.specs.Dialogue.{observation_in}
use Rattle.control.proofs.DialogueLaws

-- a line holds an observation exactly where it is written as the printer writes that number
pub observing : (l : List ℕ) (n : ℕ) → n < side_limit → (observation_in l ≡ n) ↔ (l ≡ decimal n)
observing = DialogueLaws.observed_iff

-- where a cabinet stands on a row that does not stop, any line but the print of a possible observation is answered with 15, and the position stays
pub refusing : (t : List ℕ) (shape : Shape) (p : Position) → Holds t shape p → (¬ OnStop t shape p)
    → (l : List ℕ) → ((n : ℕ) → n < 2 ^ shape.observed → ¬ (l ≡ decimal n)) → SteppedAs t shape (observation_in l) p (refused 15 0) p
refusing = DialogueLaws.other_refused

-- A line that says the order of a step: what each way through its tests answers. Assumes nothing.
use Rattle.lines.specs.declared.refusal.Refusal.{Refusal}
use Rattle.std.specs.Prelude.{Err, None, Ok, Option, Result, Some}
use Prim.Native.Nat.{ℕ}
use mathlib.Core.Path.{◌≡◌, refl, ap}
use Rattle.basics.specs.declared.order.Order.{Order}
use Rattle.lines.specs.declared.refusal.Refusal.TheVariants.{BadLine}
use Rattle.lines.specs.declared.problem.Sizes.{Sizes}
use Rattle.lines.specs.Effect.{order_effect}
use Rattle.lines.specs.Memory.{fix_order, reading_after}

module _ (line : ℕ) (s : Sizes) (named : Option Order) where
  abbrev answer : Result Sizes Refusal
  answer = reading_after (order_effect line s.order named) s

  pub said_twice : (o : Order) → s.order ≡ Some o → Err (BadLine line) ≡ answer
  said_twice o e = rw e refl

  module _ (first : s.order ≡ None) where
    pub said_nothing : named ≡ None → Err (BadLine line) ≡ answer
    said_nothing e = rw (first, e) refl

    pub said : (o : Order) → named ≡ Some o → (t : Sizes) → t ≡ fix_order o s → Ok t ≡ answer
    said o e t i = rw (first, e) (ap Ok i)

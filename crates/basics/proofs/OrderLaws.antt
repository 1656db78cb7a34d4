-- An order is known by its number.
-- Assumes nothing.
use native.Mathlib.Omega.{arith}
use mathlib.Core.Path.{◌≡◌, refl}
use Rattle.basics.specs.declared.order.Order.{Order}
use Rattle.basics.specs.declared.order.Order.TheVariants.{Set, Read}
use Rattle.basics.specs.Order.{order_number}

pub one_order : (o q : Order) → order_number o ≡ order_number q → o ≡ q
one_order Set Set e = refl
one_order Set Read e = absurd (omega arith)
one_order Read Set e = absurd (omega arith)
one_order Read Read e = refl

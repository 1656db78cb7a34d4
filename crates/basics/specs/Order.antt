-- The order of a step in the reference's terms.
-- Assumes nothing.
use Rattle.std.specs.Prelude.{ℕ}
use Rattle.basics.specs.declared.order.Order.{Order}
use Rattle.basics.specs.declared.order.Order.TheVariants.{Set, Read}

abbrev pub order_number : Order → ℕ
order_number Set = 0
order_number Read = 1

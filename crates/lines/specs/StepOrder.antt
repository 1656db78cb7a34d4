-- The order of a step (REFERENCE.md, A problem): what it is where no line says it.
-- Assumes nothing.
use Rattle.std.specs.Prelude.{None, Option, Some}
use Rattle.basics.specs.declared.order.Order.{Order}
use Rattle.basics.specs.declared.order.Order.TheVariants.{Set}

abbrev pub default_order : Order
default_order = Set

-- the order at the end of a text
abbrev pub order_or : Option Order → Order
order_or None = default_order
order_or (Some o) = o

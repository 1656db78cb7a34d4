-- The numbers of parts that are signals. Assumes nothing.
use Prim.Native.Nat.{ℕ}
use mathlib.Core.Path.{◌≡◌, refl, ap}
use mathlib.Core.Bool.{◌&&◌, ◌||◌}
use mathlib.Core.List.{List, [], ◌∷◌}
use lib.Dec.{eqb}
use Rattle.std.specs.List.{list_any}
use Rattle.formula.specs.Codes.{part_of, parts_in}
use Rattle.formula.specs.Parts.{is_signal, have_signal}

-- whether one of these numbers is that of signal b
pub used : (codes : List ℕ) (b : ℕ) → have_signal (parts_in codes) b ≡ list_any (λ code. is_signal (part_of code).kind && eqb (part_of code).left b) codes
unfolding have_signal parts_in
used [] b = refl
used (n ∷ codes) b = ap (λ t. (is_signal (part_of n).kind && eqb (part_of n).left b) || t) (used codes b)

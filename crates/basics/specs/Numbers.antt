-- The numbers that decimal digits stand for.
-- Assumes nothing.
use Rattle.std.specs.Prelude.{ℕ, ◌+◌, ◌-◌, ◌*◌, Bool, cond, ◌&&◌, leb, ltb, Option, Some, None}
use mathlib.Core.List.{List, [], ◌∷◌, foldl}

-- numbers are below this
abbrev pub number_limit : ℕ
number_limit = 65536

unfoldable pub is_digit : ℕ → Bool
is_digit b = leb 48 b && ltb b 58

-- a number with one digit more
unfoldable pub with_digit : Option ℕ → ℕ → Option ℕ
with_digit None b = None
with_digit (Some n) b =
    let m = n * 10 + (b - 48) in
    cond (is_digit b && ltb m number_limit) (Some m) None

-- the number that one or more digits stand for, from the left
unfoldable pub number_in : List ℕ → Option ℕ
number_in [] = None
number_in (b ∷ s) = foldl with_digit (Some 0) (b ∷ s)

abbrev pub value_below : ℕ → Option ℕ → ℕ
value_below limit (Some n) = cond (ltb n limit) n 0
value_below limit None = 0

-- the same where it is below a limit; else 0
abbrev pub number_below : ℕ → List ℕ → ℕ
number_below limit s = value_below limit (number_in s)

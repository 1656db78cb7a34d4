-- Numbers, fields and lines as text.
-- Assumes nothing.
use Rattle.std.specs.Prelude.{ℕ, zero, suc, ◌+◌, ◌/◌, ◌%◌, cond, ltb}
use mathlib.Core.List.{List, [], ◌∷◌, ◌++◌, flat_map}

-- the digits of n; at most `more` of them are split off at the end, one by one
unfoldable pub digits : ℕ → ℕ → List ℕ
digits zero n = (48 + n) ∷ []
digits (suc more) n = cond (ltb n 10) ((48 + n) ∷ []) (digits more (n / 10) ++ ((48 + n % 10) ∷ []))

-- a number in base ten, without leading zeros: no more than n digits stand behind the first
abbrev pub decimal : ℕ → List ℕ
decimal n = digits n n

-- a field stands behind a tab
abbrev pub field : List ℕ → List ℕ
field bytes = 9 ∷ bytes

-- a line is a word and its fields, and ends with byte 10
abbrev pub line : List ℕ → List (List ℕ) → List ℕ
line word fields = word ++ flat_map field fields ++ (10 ∷ [])

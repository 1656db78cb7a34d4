-- How many are listed.
-- Assumes nothing.
use Rattle.std.specs.Prelude.{ℕ, length}
use Rattle.basics.specs.Reach.{Listing, closed, over}

-- how many there are; 0 means more than the limit
abbrev pub count : {A : Type 0} → Listing A → ℕ
count (closed xs) = length xs
count over = 0

-- Where numbered steps lead from things of any kind: states after letters, beliefs after choices.
-- Assumes nothing.
use Rattle.std.specs.Prelude.{ℕ, Bool}
use mathlib.Core.List.{List, [], map, flat_map}
use Rattle.basics.specs.Lists.{padded}
use Rattle.basics.specs.Reach.{Listing, closed, over, index_in, add_all}

-- what the steps lead to from s
abbrev pub steps_over : {K : Type 0} → (K → ℕ → K) → List ℕ → K → List K
steps_over f steps s = map (f s) steps

-- what a thing's own steps lead to from it
abbrev pub own_steps : {K : Type 0} → (K → ℕ → K) → (K → List ℕ) → K → List K
own_steps f steps s = steps_over f (steps s) s

module _ {K : Type 0} (same : K → K → Bool) (f : K → ℕ → K) where
  -- xs, and behind them what the steps lead to from s
  unfoldable pub grown_over : List ℕ → List K → K → List K
  grown_over steps xs s = add_all same xs (steps_over f steps s)

  -- the numbers in xs of what the steps lead to from s
  unfoldable pub row_over : List ℕ → List K → K → List ℕ
  row_over steps xs s = map (λ a. index_in same (f s a) xs) steps

  -- a row for each, by its own steps, of so many entries; nothing if there are too many
  abbrev pub rows_over : (K → List ℕ) → ℕ → Listing K → List ℕ
  rows_over steps width (closed xs) = flat_map (λ s. padded width (row_over (steps s) xs s)) xs
  rows_over steps width over = []

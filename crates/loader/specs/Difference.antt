-- Where two texts differ.
-- Assumes nothing.
use Rattle.std.specs.Prelude.{ℕ, suc, cond, List, [], ◌∷◌, eqb, Option, Some, None}

-- the line of the first difference, the first line having number n; none where they are the same
unfoldable pub difference : ℕ → List ℕ → List ℕ → Option ℕ
difference n [] [] = None
difference n [] (b ∷ t) = Some n
difference n (a ∷ s) [] = Some n
difference n (a ∷ s) (b ∷ t) = cond (eqb a b) (difference (cond (eqb a 10) (suc n) n) s t) (Some n)

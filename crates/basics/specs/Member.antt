-- Entries of a list, and lists without repeats.
-- Assumes nothing.
use Rattle.std.specs.Prelude.{Bool, true, ◌&&◌}
use mathlib.Core.List.{List, [], ◌∷◌, Memᴰ}

infix 4 ◌∈◌
-- x is an entry of xs
abbrev pub ◌∈◌ {ℓ} : {A : Type ℓ} → A → List A → Type ℓ
x ∈ xs = Memᴰ x xs

-- a test passes at every entry (the library's `all` does not compute outside its module)
abbrev pub all_of : {A : Type 0} → (A → Bool) → List A → Bool
all_of ok [] = true
all_of ok (x ∷ xs) = ok x && all_of ok xs

-- no two entries are equal
pub data Distinct {A : Type 0} : List A → Type 0 where
  distinct_nil : Distinct []
  distinct_cons : {x : A} {xs : List A} → ¬ (x ∈ xs) → Distinct xs → Distinct (x ∷ xs)

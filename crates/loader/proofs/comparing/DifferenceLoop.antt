-- The line of the first difference, byte by byte.
-- Assumes nothing.
use Prim.Native.Nat.{ℕ, ◌+◌}
use Rattle.std.specs.Prelude.{Some, None}
use native.Mathlib.Numerals.{add-one}
use native.Mathlib.Omega.{arith}
use mathlib.Core.Path.{◌≡◌, refl}
use mathlib.Core.Logic.{◌⊎◌, inl, inr}
use mathlib.Core.List.{List, [], ◌∷◌}
use lib.ListN.{length}
use borrow.Author.Tests.{eq-eqb, ne_eqb}
use Rattle.loader.specs.Difference.{difference}

-- where both go on
module _ (n : ℕ) (a b : List ℕ) (x y : ℕ) where
  pub differs_here : (x ≡ y → ⊥) → Some n ≡ difference n (x ∷ a) (y ∷ b)
  unfolding difference
  differs_here ne = rw (ne_eqb _ _ ne) refl

  pub line_more : x ≡ y → x ≡ 10 → difference n (x ∷ a) (y ∷ b) ≡ difference (n + 1) a b
  unfolding difference
  line_more same e = rw (eq-eqb _ _ same, eq-eqb _ _ e, add-one n) refl

  pub line_same : x ≡ y → (x ≡ 10 → ⊥) → difference n (x ∷ a) (y ∷ b) ≡ difference n a b
  unfolding difference
  line_same same ne = rw (eq-eqb _ _ same, ne_eqb _ _ ne) refl

-- where one of them ends, or both
module _ (n : ℕ) {X Y : Type 0} {P : X → Type 0} {Q : Y → Type 0} where
  pub both_end : (a b : List ℕ) → ((x : X) × (length a ≡ 0 × P x)) ⊎ ((y : Y) × (length b ≡ 0 × Q y)) → length a ≡ length b
      → None ≡ difference n a b
  unfolding difference
  both_end [] [] ends e = refl
  both_end [] (y ∷ b) ends e = absurd (omega arith)
  both_end (x ∷ a) [] ends e = absurd (omega arith)
  both_end (x ∷ a) (y ∷ b) (inl w) e = absurd (omega (arith, w.1.0))
  both_end (x ∷ a) (y ∷ b) (inr w) e = absurd (omega (arith, w.1.0))

  pub one_ends : (a b : List ℕ) → ((x : X) × (length a ≡ 0 × P x)) ⊎ ((y : Y) × (length b ≡ 0 × Q y)) → (length a ≡ length b → ⊥)
      → Some n ≡ difference n a b
  unfolding difference
  one_ends [] [] ends ne = absurd (ne refl)
  one_ends [] (y ∷ b) ends ne = refl
  one_ends (x ∷ a) [] ends ne = refl
  one_ends (x ∷ a) (y ∷ b) (inl w) ne = absurd (omega (arith, w.1.0))
  one_ends (x ∷ a) (y ∷ b) (inr w) ne = absurd (omega (arith, w.1.0))

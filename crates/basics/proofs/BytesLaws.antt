-- Runs of bytes, and equality of byte strings.
-- Assumes nothing.
use Prim.Native.Nat.{ℕ, suc, ◌+◌, ◌≤◌, ◌<◌, zero}
use native.Mathlib.Numerals.{add-one}
use mathlib.Core.Path.{◌≡◌, refl, ap, ap₂}
use mathlib.Core.Bool.{Bool, true, false, ◌&&◌}
use mathlib.Core.List.{List, [], ◌∷◌}
use borrow.Author.Tests.{eq-eqb, ne_eqb, eqb-true}
use lib.Dec.{eqb}
use lib.Pointwise.{pointwise}
use lib.ListN.{length, drop, get_or, drop_of_length-le, length-drop}
use lib.Seq.{drop-cons}
use Rattle.basics.specs.Bytes.{same_bytes, run, past}
use Rattle.basics.proofs.Booleans.{and_left, and_right, clash}
use native.Mathlib.Omega.{arith}

and_false : (b : Bool) → (b && false) ≡ false
and_false true = refl
and_false false = refl

-- strings that are tested equal are equal
pub same_bytes_lem : (a b : List ℕ) → same_bytes a b ≡ true → a ≡ b
unfolding same_bytes
same_bytes_lem [] [] e = refl
same_bytes_lem [] (y ∷ b) e = clash e refl
same_bytes_lem (x ∷ a) [] e = clash e refl
same_bytes_lem (x ∷ a) (y ∷ b) e =
    ap₂ (λ z l. z ∷ l) (eqb-true x y (and_left (eqb x y) (same_bytes a b) e)) (same_bytes_lem a b (and_right (eqb x y) (same_bytes a b) e))

pub same_refl : (a : List ℕ) → same_bytes a a ≡ true
unfolding same_bytes
same_refl [] = refl
same_refl (x ∷ a) = rw (eq-eqb x x refl) (same_refl a)

pub lengths_differ : (a b : List ℕ) → (length a ≡ length b → ⊥) → same_bytes a b ≡ false
unfolding same_bytes
lengths_differ [] [] n = absurd (n refl)
lengths_differ [] (y ∷ b) n = refl
lengths_differ (x ∷ a) [] n = refl
lengths_differ (x ∷ a) (y ∷ b) n = rw (lengths_differ a b (λ e. n (ap suc e))) (and_false (eqb x y))

module _ (a b : List ℕ) (i : ℕ) (h : i < length a) (k : i < length b) where
  pub same_more : get_or a i 0 ≡ get_or b i 0 → same_bytes (drop i a) (drop i b) ≡ same_bytes (drop (i + 1) a) (drop (i + 1) b)
  unfolding same_bytes
  same_more e = rw (drop-cons a i 0 h, drop-cons b i 0 k, eq-eqb _ _ e, add-one)

  pub same_stop : (get_or a i 0 ≡ get_or b i 0 → ⊥) → same_bytes (drop i a) (drop i b) ≡ false
  unfolding same_bytes
  same_stop n = rw (drop-cons a i 0 h, drop-cons b i 0 k, ne_eqb _ _ n)

pub same_end : (a b : List ℕ) (i : ℕ) → length a ≤ i → length b ≤ i → same_bytes (drop i a) (drop i b) ≡ true
unfolding same_bytes
same_end a b i h k = rw (drop_of_length-le a {i = i} h, drop_of_length-le b {i = i} k)

module _ (p : ℕ → Bool) where
  run_le : (s : List ℕ) → run p s ≤ length s
  unfolding run
  run_le [] = omega arith
  run_le (b ∷ s) = go (p b) (run_le s)
    where
      go : (t : Bool) → run p s ≤ length s → elim t [ true ↦ suc (run p s) | false ↦ zero ] ≤ suc (length s)
      go true h = omega arith
      go false h = omega arith

  pub run_true : (b : ℕ) (s : List ℕ) → p b ≡ true → run p (b ∷ s) ≡ suc (run p s)
  unfolding run
  run_true b s h = rw (h, run)

  pub run_false : (b : ℕ) (s : List ℕ) → p b ≡ false → run p (b ∷ s) ≡ 0
  unfolding run
  run_false b s h = rw (h, run)

  module _ (text : List ℕ) (at : ℕ) where
    pub past_in : at ≤ length text → (at ≤ past p text at) × (past p text at ≤ length text)
    unfolding past
    past_in h = omega (arith, run_le (drop at text), length-drop at text)

    pub past_more : at < length text → p (get_or text at 0) ≡ true → past p text at ≡ past p text (at + 1)
    unfolding past
    past_more h e = rw (drop-cons text at 0 h, run_true _ _ e, add-one) (omega arith)

    pub past_stop : at < length text → p (get_or text at 0) ≡ false → past p text at ≡ at
    unfolding past
    past_stop h e = rw (drop-cons text at 0 h, run_false _ _ e) (omega arith)

    pub past_end : length text ≤ at → past p text at ≡ at
    unfolding past run
    past_end h = rw (drop_of_length-le text h) (omega arith)

-- `==` on byte strings is the same test
pub same_pointwise : (a b : List ℕ) → pointwise eqb a b ≡ same_bytes a b
unfolding same_bytes
same_pointwise [] [] = refl
same_pointwise [] (y ∷ b) = refl
same_pointwise (x ∷ a) [] = refl
same_pointwise (x ∷ a) (y ∷ b) = ap (λ t. eqb x y && t) (same_pointwise a b)

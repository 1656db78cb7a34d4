-- Runs of stores: entries of a list written one after another.
-- Assumes nothing.
use Prim.Native.Nat.{ℕ, zero, suc, ◌+◌, ◌<◌, ◌≤◌}
use native.Mathlib.Nat.{add-zero, add-suc, suc-add, zero-add}
use mathlib.Core.Path.{◌≡◌, refl, sym, ap, ◌∙◌}
use mathlib.Core.List.{List, [], ◌∷◌, ◌++◌}
use lib.ListN.{length, get_or, set, length-set, take, drop}
use lib.Seq.{sets, get_or-set_same, get_or-set_other, sets-eq, paste, paste-suc, take-length}
use Rattle.basics.specs.Lists.{written}
use native.Mathlib.Omega.{arith}
use native.Mathlib.Numerals.{add-one}

-- entries stored behind others are stored with them
pub sets_append {ℓ} : {A : Type ℓ} (l : List A) (i : ℕ) (a b : List A) → sets l i (a ++ b) ≡ sets (sets l i a) (i + length a) b
sets_append l i [] b = ap (λ k. sets l k b) (sym (add-zero i))
sets_append l i (x ∷ a) b = sets_append (set l i x) (suc i) a b ∙ ap (λ k. sets (sets (set l i x) (suc i) a) k b)
    (suc-add i (length a) ∙ sym (add-suc i (length a)))

module _ {A : Type 0} where
  -- one more store at the end
  pub sets_snoc : (l : List A) (i : ℕ) (vs : List A) (a : A) → sets l i (vs ++ (a ∷ [])) ≡ set (sets l i vs) (i + length vs) a
  sets_snoc l i vs a = sets_append l i vs (a ∷ [])

  -- what is not written stays
  pub get_d_sets_other : (l : List A) (i : ℕ) (vs : List A) (n : ℕ) (d : A) → ((k : ℕ) → k < length vs → i + k ≡ n → ⊥) → get_or (sets l i vs) n d ≡ get_or l n d
  get_d_sets_other l i [] n d f = refl
  get_d_sets_other l i (a ∷ vs) n d f =
      get_d_sets_other (set l i a) (suc i) vs n d (λ k h e. f (suc k) (omega arith) (omega arith))
      ∙ get_or-set_other l i n a d (λ e. f 0 (omega arith) (omega arith))

  -- and what is written stands there
  pub get_d_sets_same : (l : List A) (i : ℕ) (vs : List A) (k : ℕ) (d : A) → k < length vs → i + length vs ≤ length l → get_or (sets l i vs) (i + k) d ≡
      get_or vs k d
  get_d_sets_same l i [] k d h s = absurd (omega arith)
  get_d_sets_same l i (a ∷ vs) zero d h s =
      let p : i < length l = omega arith in
      ap (λ n. get_or (sets (set l i a) (suc i) vs) n d) (add-zero i)
      ∙ get_d_sets_other (set l i a) (suc i) vs i d (λ k b e. omega arith)
      ∙ get_or-set_same l i a d p
  get_d_sets_same l i (a ∷ vs) (suc k) d h s =
      let q : suc i + length vs ≤ length (set l i a) = simp length-set (omega arith) in
      let e : i + suc k ≡ suc i + k = omega arith in
      ap (λ n. get_or (sets (set l i a) (suc i) vs) n d) e
      ∙ get_d_sets_same (set l i a) (suc i) vs k d (omega arith) q

-- a loop that puts the bytes of a list one by one
module _ (x : List ℕ) (at : ℕ) (bytes : List ℕ) (i : ℕ) where
  pub paste_more : at + length bytes ≤ length x → i < length bytes → (y : List ℕ) → y ≡ paste x at bytes i
      → set y (at + i) (get_or bytes i 0) ≡ paste x at bytes (i + 1)
  paste_more room h y e =
      ap (λ t. set t (at + i) (get_or bytes i 0)) e ∙ paste-suc x at bytes i 0 (omega arith) h ∙ ap (paste x at bytes) (sym (add-one i))

  pub paste_all : at + length bytes ≤ length x → i ≡ length bytes → (y : List ℕ) → y ≡ paste x at bytes i → y ≡ sets x at bytes
  paste_all room q y e =
      e ∙ ap (paste x at bytes) q ∙ ap (λ l. take at x ++ l ++ drop (at + length bytes) x) (take-length bytes) ∙ sym (sets-eq bytes x at room)

-- bytes put from the front on
pub put_front : (bytes x : List ℕ) → length bytes ≤ length x → sets x 0 bytes ≡ written bytes x
put_front bytes x h = sets-eq bytes x 0 (omega arith) ∙ ap (λ n. bytes ++ drop n x) (zero-add (length bytes))

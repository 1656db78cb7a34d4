-- The numbers of parts from their cells. Assumes nothing.
use Prim.Native.Nat.{ℕ, suc, ◌+◌, ◌-◌, ◌*◌, ◌/◌, ◌%◌, ◌<◌, ◌≤◌}
use native.Mathlib.Nat.{add-zero}
use native.Mathlib.Numerals.{add-one}
use native.Mathlib.Omega.{arith}
use mathlib.Core.Path.{◌≡◌, refl, sym, ap, ap₂, ◌∙◌}
use mathlib.Core.List.{List, [], ◌∷◌, ◌++◌}
use borrow.Author.Tests.{lt-ltb, le-ltb}
use lib.ListN.{length, get_or, set, take}
use lib.Seq.{sets, take-suc, length-take-le}
use Rattle.syntax.specs.Cells.{cell, one_sided, two_sided, code_from, code_at, codes_from}
use Rattle.basics.proofs.Stores.{sets_append}

-- ---- the number of a part

module _ (n k x : ℕ) where
  from_leaf : x < 256 → code_from n k x ≡ k + 256 * x
  from_leaf h = rw (lt-ltb x 256 h)

  from_prefix : 256 ≤ x → x < 512 → code_from n k x ≡ k + 256 * (n - 1)
  from_prefix h i = rw (le-ltb x 256 h, lt-ltb x 512 i)

  from_infix : 512 ≤ x → code_from n k x ≡ k + 256 * (n - 1 - (x - 512)) + 65536 * (n - 1)
  from_infix h = let i : 256 ≤ x = omega arith in rw (le-ltb x 256 i, le-ltb x 512 h)

-- as the code works it out from a cell
module _ (n c : ℕ) where
  pub made_leaf : c / 256 < 256 → c ≡ code_at n c
  unfolding code_at
  made_leaf h = sym (from_leaf n (c % 256) (c / 256) h ∙ omega arith)

  module _ (r : ℕ) (e : r ≡ n - 1 - 0) where
    pub made_prefix : 256 ≤ c / 256 → c / 256 < 512 → c % 256 + 256 * r ≡ code_at n c
    unfolding code_at
    made_prefix h i = sym (from_prefix n (c % 256) (c / 256) h i ∙ omega arith)

    pub made_infix : 512 ≤ c / 256 → (l : ℕ) → l ≡ n - 1 - (c / 256 - 512) → c % 256 + 256 * l + 65536 * r ≡ code_at n c
    unfolding code_at
    made_infix h l f = sym (from_infix n (c % 256) (c / 256) h ∙ omega arith)

module _ (k x : ℕ) (h : k < 256) where
  kind_of : cell k x % 256 ≡ k
  kind_of = omega arith

  beside : cell k x / 256 ≡ x
  beside = omega arith

  code_cell : (n : ℕ) → code_at n (cell k x) ≡ code_from n k x
  unfolding code_at
  code_cell n = ap₂ (code_from n) kind_of beside

pub leaf_code : (k v n : ℕ) → k < 256 → v < 256 → code_at n (cell k (v % 256)) ≡ k + 256 * v + 65536 * 0
leaf_code k v n h i = code_cell k (v % 256) h n ∙ from_leaf n k (v % 256) (omega arith) ∙ omega arith

pub prefix_code : (k n : ℕ) → k < 256 → code_at n (cell k one_sided) ≡ k + 256 * (n - 1) + 65536 * 0
prefix_code k n h = code_cell k 256 h n ∙ from_prefix n k 256 (omega arith) (omega arith) ∙ omega arith

pub infix_code : (k s n : ℕ) → k < 256 → s < 256 → code_at n (cell k (two_sided s)) ≡ k + 256 * (n - 1 - s) + 65536 * (n - 1)
infix_code k s n h i =
    let w : 512 + s % 256 - 512 ≡ s = omega arith in
    code_cell k (two_sided s) h n ∙ from_infix n k (two_sided s) (omega arith) ∙ ap (λ m. k + 256 * (n - 1 - m) + 65536 * (n - 1)) w

-- ---- the numbers of parts

pub length_codes : (n : ℕ) (cs : List ℕ) → length (codes_from n cs) ≡ length cs
unfolding codes_from
length_codes n [] = refl
length_codes n (c ∷ cs) = ap suc (length_codes (suc n) cs)

pub codes_append : (n : ℕ) (xs ys : List ℕ) → codes_from n (xs ++ ys) ≡ codes_from n xs ++ codes_from (n + length xs) ys
unfolding codes_from
codes_append n [] ys = ap (λ k. codes_from k ys) (sym (add-zero n))
codes_append n (x ∷ xs) ys =
    let e : suc n + length xs ≡ n + suc (length xs) = omega arith in
    ap (λ t. code_at n x ∷ t) (codes_append (suc n) xs ys ∙ ap (λ k. codes_from (suc n) xs ++ codes_from k ys) e)

-- those of the first i cells, and one more
pub codes_more : (p : List ℕ) (n : ℕ) (cs : List ℕ) (i : ℕ) → i < length cs
    → set (sets p n (codes_from n (take i cs))) (n + i) (code_at (n + i) (get_or cs i 0)) ≡ sets p n (codes_from n (take (i + 1) cs))
unfolding codes_from
codes_more p n cs i h =
    let e : length (take i cs) ≡ i = length-take-le i cs (omega arith) in
    let f : length (codes_from n (take i cs)) ≡ i = length_codes n (take i cs) ∙ e in
    sym (ap (λ k. sets p n (codes_from n (take k cs))) (add-one i) ∙ ap (λ t. sets p n (codes_from n t)) (take-suc cs i 0 h)
    ∙ ap (sets p n) (codes_append n (take i cs) (get_or cs i 0 ∷ [])) ∙ sets_append p n (codes_from n (take i cs)) _
    ∙ ap₂ (λ k m. set (sets p n (codes_from n (take i cs))) (n + k) (code_at (n + m) (get_or cs i 0))) f e)

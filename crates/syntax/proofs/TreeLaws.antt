-- Cells stored one behind another. Assumes nothing.
use Prim.Native.Nat.{ℕ, ◌+◌, ◌≤◌}
use native.Mathlib.Omega.{arith}
use mathlib.Core.Path.{◌≡◌, refl, sym, ap, ap₂, ◌∙◌}
use mathlib.Core.List.{List, ◌++◌}
use lib.ListN.{length, set, take, drop}
use lib.Seq.{sets, sets-eq, take-append_seam}
use Rattle.basics.proofs.Stores.{sets_append}
use Rattle.syntax.specs.declared.lex.Token.{Token}
use Rattle.syntax.specs.Cells.{cell, one_sided, two_sided}
use Rattle.syntax.specs.Plans.{plan_size}
use Rattle.syntax.specs.Tree.{Tree, leaf, pre, bin, plan, size, cells}
use Rattle.syntax.proofs.PlansLaws.{prefix_length, infix_length, plan_length}

module _ (val : Token → ℕ) where
  pub length_cells : (a : Tree) → length (cells val a) ≡ size a
  unfolding cells size
  length_cells (leaf t) = refl
  length_cells (pre t a) = prefix_length t.kind (cells val a) ∙ ap (λ k. k + 1) (length_cells a)
  length_cells (bin t a b) = infix_length t.kind (cells val a) (cells val b) ∙ ap₂ (λ k m. k + m + 1) (length_cells a) (length_cells b)
  length_cells (plan w a b) = plan_length w (cells val a) (cells val b) ∙ ap₂ (plan_size w) (length_cells a) (length_cells b)

  -- cells stored behind those of a tree
  stored_then : (a : Tree) (l : List ℕ) (n : ℕ) (b : List ℕ) → sets l n (cells val a ++ b) ≡ sets (sets l n (cells val a)) (n + size a) b
  stored_then a l n b = sets_append l n (cells val a) b ∙ ap (λ k. sets (sets l n (cells val a)) (n + k) b) (length_cells a)

  pub stored_pre : (t : Token) (a : Tree) (l : List ℕ) (n : ℕ)
      → sets l n (cells val (pre t a)) ≡ set (sets l n (cells val a)) (n + size a) (cell t.kind one_sided)
  unfolding cells
  stored_pre t a l n = stored_then a l n _

  pub stored_bin : (t : Token) (a b : Tree) (l : List ℕ) (n : ℕ)
      → sets l n (cells val (bin t a b)) ≡ set (sets (sets l n (cells val a)) (n + size a) (cells val b)) (n + size a + size b)
      (cell t.kind (two_sided (size b)))
  unfolding cells
  stored_bin t a b l n =
      stored_then a l n _ ∙ stored_then b (sets l n (cells val a)) (n + size a) _
      ∙ ap (λ k. set (sets (sets l n (cells val a)) (n + size a) (cells val b)) (n + size a + size b) (cell t.kind (two_sided k)))
      (length_cells b)

  -- cells stored from the front on
  stored_front : (a : Tree) (l : List ℕ) → size a ≤ length l → sets l 0 (cells val a) ≡ cells val a ++ drop (size a) l
  stored_front a l h =
      let z : 0 + length (cells val a) ≡ size a = omega (arith, length_cells a) in
      sets-eq (cells val a) l 0 (omega (arith, z, h)) ∙ ap (λ k. cells val a ++ drop k l) z

  -- and taken from there again
  pub stored_taken : (a : Tree) (l : List ℕ) → size a ≤ length l → take (size a) (sets l 0 (cells val a)) ≡ cells val a
  stored_taken a l h =
      ap (take (size a)) (stored_front a l h) ∙ ap (λ k. take k (cells val a ++ drop (size a) l)) (sym (length_cells a))
      ∙ take-append_seam (cells val a) (drop (size a) l)

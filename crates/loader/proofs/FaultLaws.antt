-- What the tests of the ranks find, and where a text that is a table's is at fault by them.
-- Assumes nothing.
use Prim.Native.Nat.{ℕ, ◌+◌, ◌<◌}
use Rattle.std.specs.Prelude.{Option, Some, None}
use native.Mathlib.Decide.{dec_lt}
use native.Mathlib.Nat.{le_refl}
use native.Mathlib.Omega.{arith}
use mathlib.Core.Path.{◌≡◌, refl, sym, ap, ◌∙◌, subst}
use mathlib.Core.Logic.{inl, inr}
use mathlib.Core.Bool.{true, false, not}
use mathlib.Core.List.{List}
use lib.Dec.{eqb}
use borrow.Author.Tests.{lt-ltb, le-ltb, eqb-true, eqb-false, eq-eqb, ne_eqb, not-false}
use Rattle.basics.specs.Bounded.{first_that}
use Rattle.basics.proofs.Booleans.{test, clash}
use Rattle.basics.proofs.BoundedLaws.{first_passes, first_least, first_is, none_first}
use Rattle.basics.proofs.SaysLaws.{says_false}
use Rattle.play.specs.Cells.{rank_cell}
use Rattle.wellformed.specs.WellFormed.{RankedRow, is_ranked}
use Rattle.wellformed.proofs.TestsSay.{ranked_says}
use Rattle.tables.specs.declared.shape.Shape.{Shape}
use Rattle.loader.specs.Candidate.{shape_in, worst_in, cells_in, print_in}
use Rattle.loader.specs.Difference.{difference}
use Rattle.loader.specs.LoadedAs.{misranked, row_fault, rank_fault, fault_in, TextOf}
use Rattle.loader.proofs.DifferenceLaws.{no_difference}
use Rattle.loader.proofs.SameRows.{SameRanks}
use Rattle.loader.proofs.ReadBack.{text_print, text_worst, text_ranks}

-- all ranks of a table are as they must be, or a line is at fault
pub data Ranks (t : List ℕ) (shape : Shape) (worst : ℕ) : Option ℕ → Type 0 where
  all_right : rank_cell shape.order t 0 ≡ worst → ((i : ℕ) → i < shape.rows → RankedRow t shape i) → Ranks t shape worst None
  worst_wrong : (¬ (rank_cell shape.order t 0 ≡ worst)) → Ranks t shape worst (Some 1)
  row_wrong : rank_cell shape.order t 0 ≡ worst → (i : ℕ) → i < shape.rows → (¬ RankedRow t shape i)
      → ((j : ℕ) → j < i → RankedRow t shape j) → Ranks t shape worst (Some (2 + i))

-- ---- the rows

module _ (t : List ℕ) (shape : Shape) where
  abbrev first : ℕ
  first = first_that (misranked t shape) shape.rows

  pub row_here : (i : ℕ) → i < shape.rows → first ≡ i → row_fault t shape ≡ Some (2 + i)
  unfolding row_fault
  row_here i h e = rw (e, lt-ltb i shape.rows h) refl

  pub row_none : first ≡ shape.rows → row_fault t shape ≡ None
  unfolding row_fault
  row_none e = rw (e, le-ltb shape.rows shape.rows (le_refl _)) refl

  wrong : (i : ℕ) → (¬ RankedRow t shape i) → misranked t shape i ≡ true
  unfolding misranked
  wrong i m = ap not (says_false (ranked_says t shape i) m)

  right : (i : ℕ) → RankedRow t shape i → misranked t shape i ≡ false
  unfolding misranked
  right i r = ap not ((ranked_says t shape i).1 r)

  is_right : (i : ℕ) → misranked t shape i ≡ false → RankedRow t shape i
  unfolding misranked
  is_right i e = (ranked_says t shape i).0 (not-false (is_ranked t shape i) e)

-- ---- the ranks

module _ (t : List ℕ) (shape : Shape) (worst : ℕ) where
  abbrev rank : ℕ
  rank = rank_cell shape.order t 0

  pub rank_first : (¬ (rank ≡ worst)) → rank_fault t shape worst ≡ Some 1
  unfolding rank_fault
  rank_first m = rw (ne_eqb rank worst m) refl

  pub rank_rows : rank ≡ worst → rank_fault t shape worst ≡ row_fault t shape
  unfolding rank_fault
  rank_rows e = rw (eq-eqb rank worst e) refl

  ranks_are : (n : Option ℕ) → Ranks t shape worst n → rank_fault t shape worst ≡ n
  ranks_are n (all_right e f) =
      rank_rows e ∙ row_none t shape (none_first (misranked t shape) shape.rows (λ i h. right t shape i (f i h)))
  ranks_are n (worst_wrong m) = rank_first m
  ranks_are n (row_wrong e i h m before) =
      rank_rows e
      ∙ row_here t shape i h (first_is (misranked t shape) shape.rows i h (wrong t shape i m) (λ j l. right t shape j (before j l)))

  pub ranks_found : Ranks t shape worst (rank_fault t shape worst)
  ranks_found =
      elim (test (eqb rank worst)) [
        | inl e ↦ rows (eqb-true rank worst e)
        | inr e ↦ by (Some 1) (worst_wrong (eqb-false rank worst e))
      ]
    where
      by : (n : Option ℕ) → Ranks t shape worst n → Ranks t shape worst (rank_fault t shape worst)
      by n r = subst (Ranks t shape worst) (sym (ranks_are n r)) r

      rows : rank ≡ worst → Ranks t shape worst (rank_fault t shape worst)
      rows e =
          let i = first_that (misranked t shape) shape.rows in
          let before : (j : ℕ) → j < i → RankedRow t shape j = λ j l. is_right t shape j (first_least (misranked t shape) shape.rows j l) in
          elim (dec_lt i shape.rows) [
            | yes l ↦
                by (Some (2 + i)) (row_wrong e i l (λ r. clash (first_passes (misranked t shape) shape.rows l) (right t shape i r)) before)
            | no l ↦ by None (all_right e (λ j b. before j (omega arith)))
          ]

-- those of a table whose ranks pass the same tests
ranks_same : (t u : List ℕ) (a b : Shape) (worst : ℕ) → SameRanks t a u b → (n : Option ℕ) → Ranks t a worst n → Ranks u b worst n
ranks_same t u a b worst r n (all_right e f) = all_right (r.first ∙ e) (λ i h. let l = subst (λ k. i < k) r.rows h in (r.each i l).0 (f i l))
ranks_same t u a b worst r n (worst_wrong m) = worst_wrong (λ e. m (sym r.first ∙ e))
ranks_same t u a b worst r n (row_wrong e i h m before) =
    row_wrong (r.first ∙ e) i (subst (λ k. i < k) (sym r.rows) h) (λ z. m ((r.each i h).1 z))
    (λ j l. (r.each j (omega (arith, h, l))).0 (before j l))

-- ---- a text

module _ (s : List ℕ) where
  pub fault_line : (m : ℕ) → difference 1 s (print_in s) ≡ Some m → fault_in s ≡ Some m
  unfolding fault_in
  fault_line m e = rw e refl

  pub fault_rank : difference 1 s (print_in s) ≡ None → fault_in s ≡ rank_fault (cells_in (shape_in s) s) (shape_in s) (worst_in (shape_in s).rows s)
  unfolding fault_in
  fault_rank e = rw e refl

  -- of some table
  pub text_same : (t : List ℕ) (shape : Shape) (worst : ℕ) → TextOf s t shape worst → difference 1 s (print_in s) ≡ None
  text_same t shape worst is = ap (difference 1 s) (text_print s t shape worst is) ∙ no_difference 1 s

  pub fault_of : (t : List ℕ) (shape : Shape) (worst : ℕ) → TextOf s t shape worst → (n : Option ℕ) → Ranks t shape worst n → fault_in s ≡ n
  fault_of t shape worst is n r =
      let cells = cells_in (shape_in s) s in
      let said = worst_in (shape_in s).rows s in
      let same = ranks_same t cells shape (shape_in s) worst (text_ranks s t shape worst is) n r in
      fault_rank (text_same t shape worst is)
      ∙ ranks_are cells (shape_in s) said n (subst (λ (w : ℕ). Ranks cells (shape_in s) w n) (sym (text_worst s t shape worst is)) same)

-- The tests of a table, in the shape in which the code makes them. `TestsSay` has what they say.
-- Assumes nothing.
use Prim.Native.Nat.{ℕ, ◌+◌, ◌*◌, ◌^◌, ◌≤◌, ◌<◌}
use native.Mathlib.Omega.{arith}
use mathlib.Core.Path.{◌≡◌, refl, sym, ◌∙◌}
use mathlib.Core.Bool.{Bool, true, false, ◌&&◌, ◌||◌}
use mathlib.Core.List.{List}
use lib.Dec.{ltb}
use lib.Pow.{pow_mono}
use borrow.Author.Tests.{lt-ltb, le-ltb, eq-eqb}
use borrow.Author.Tests.{ne_eqb}
use Rattle.basics.specs.Limits.{kind_limit}
use Rattle.play.specs.Limits.{belief_limit, side_limit}
use Rattle.basics.specs.declared.order.Order.{Order}
use Rattle.basics.specs.declared.order.Order.TheVariants.{Set, Read}
use Rattle.play.specs.Cells.{row_size, stop_cell, first_cell, is_stop}
use Rattle.tables.specs.declared.shape.Shape.{Shape}
use Rattle.basics.specs.Bounded.{all}
use Rattle.basics.proofs.BoundedLaws.{all_of, all_fails, all_more, all_done}
use Rattle.wellformed.specs.WellFormed.{first_limit}
use Rattle.wellformed.specs.WellFormed.{is_first, rank_fits, next_count, is_pair, leads_on, is_lower, is_ranked}
use Rattle.wellformed.specs.WellFormed.{is_blank_at, is_blank, is_printable_row}

-- the values of four signals at most
pub side_le : (k : ℕ) → k ≤ kind_limit → 2 ^ k ≤ side_limit
side_le k h = pow_mono {i = k} {j = kind_limit} h

-- the first cell of a row that goes on is no stop
pub first_goes : (o : Order) (c : ℕ) → c < first_limit o → ¬ (c ≡ stop_cell)
first_goes Set c h e = omega arith
first_goes Read c h e = omega arith

-- the product that the code makes
pub size_fits : (o : Order) (rows size : ℕ) → rows ≤ belief_limit → size ≡ row_size o → rows * size < 2 ^ 64
size_fits Set rows size h e = rw e (omega arith)
size_fits Read rows size h e = rw e (omega arith)

-- ---- the first cell of a row

module _ (o : Order) (t : List ℕ) (row x : ℕ) (first : x ≡ first_cell o t row) where
  pub stops : x ≡ stop_cell → is_stop o t row ≡ true
  stops e = eq-eqb (first_cell o t row) stop_cell (sym first ∙ e)

  pub moves : (x ≡ stop_cell → ⊥) → is_stop o t row ≡ false
  moves n = ne_eqb (first_cell o t row) stop_cell (λ e. n (first ∙ e))

-- ---- the tests, each left at the first that fails

and_right_false : (a : Bool) {b : Bool} → b ≡ false → (a && b) ≡ false
and_right_false true e = e
and_right_false false e = refl

module _ (t : List ℕ) (shape : Shape) (row : ℕ) where
  pub leads_fails : (s : ℕ) → s < next_count t shape row → is_pair t shape row s ≡ false → false ≡ leads_on t shape row
  unfolding leads_on
  leads_fails s h f =
      sym (and_right_false (is_first shape.order (first_cell shape.order t row)) (all_fails (next_count t shape row) (is_pair t shape row) s h f))

  pub rank_fails : (s : ℕ) → s < next_count t shape row → is_lower t shape row s ≡ false → false ≡ is_ranked t shape row
  unfolding is_ranked
  rank_fails s h f = sym (and_right_false (rank_fits t shape row) (all_fails (next_count t shape row) (is_lower t shape row) s h f))

  -- the unused cells of an observation
  unfoldable pub blank_at : ℕ → Bool
  blank_at s = ltb s (next_count t shape row) || is_blank_at shape.order t row s

  blank_is : is_blank t shape row ≡ all side_limit blank_at
  unfolding is_blank blank_at
  blank_is = refl

  unused : (s : ℕ) → next_count t shape row ≤ s → blank_at s ≡ is_blank_at shape.order t row s
  unfolding blank_at
  unused s h = rw (le-ltb s (next_count t shape row) h) refl

  pub blank_none : all (next_count t shape row) blank_at ≡ true
  unfolding blank_at
  blank_none = all_of (next_count t shape row) blank_at (λ s h. rw (lt-ltb s (next_count t shape row) h) refl)

  pub blank_more : (s : ℕ) → next_count t shape row ≤ s → is_blank_at shape.order t row s ≡ true → all s blank_at ≡ true → all (s + 1) blank_at ≡ true
  blank_more s h e l = all_more s blank_at l (unused s h ∙ e)

  pub blank_fails : (s : ℕ) → next_count t shape row ≤ s → s < side_limit → is_blank_at shape.order t row s ≡ false → false ≡ is_blank t shape row
  blank_fails s h g e = sym (blank_is ∙ all_fails side_limit blank_at s g (unused s h ∙ e))

  pub blank_passes : (s : ℕ) → s ≡ side_limit → all s blank_at ≡ true → true ≡ is_blank t shape row
  blank_passes s e l = sym (blank_is ∙ all_done s side_limit blank_at e l)

-- ---- all rows

module _ (t : List ℕ) (shape : Shape) where
  pub rows_fail : (row : ℕ) → row < shape.rows → is_printable_row t shape row ≡ false → false ≡ all shape.rows (is_printable_row t shape)
  rows_fail row h f = sym (all_fails shape.rows (is_printable_row t shape) row h f)

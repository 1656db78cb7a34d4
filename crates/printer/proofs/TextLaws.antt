-- The text of a table: its parts in the order in which they are put, and how long it can be.
-- Assumes nothing.
use Prim.Native.Nat.{ℕ, zero, suc, ◌+◌, ◌*◌, ◌^◌, ◌≤◌, ◌<◌}
use native.Mathlib.Nat.{suc-mul}
use native.Mathlib.Omega.{arith}
use mathlib.Core.Path.{◌≡◌, refl, sym, ap, ◌∙◌, subst}
use mathlib.Core.Logic.{inl, inr}
use mathlib.Core.Bool.{Bool, true, false, cond}
use mathlib.Core.List.{List, [], ◌∷◌, ◌++◌, flat_map, append_assoc}
use lib.ListN.{length, length-append}
use borrow.Author.Tests.{eqb-false}
use Rattle.basics.specs.Bytes.{bytes_of}
use Rattle.basics.specs.Limits.{kind_limit}
use Rattle.basics.specs.Lists.{tabulate}
use Rattle.basics.specs.declared.order.Order.{Order}
use Rattle.basics.specs.declared.order.Order.TheVariants.{Set, Read}
use Rattle.play.specs.Limits.{belief_limit, side_limit}
use Rattle.play.specs.Cells.{row_size, next_at, stop_cell, cell_limit, cell, first_cell, is_stop, choice_cell, next_cell, rank_cell}
use Rattle.tables.specs.declared.shape.Shape.{Shape}
use Rattle.printer.specs.Limits.{text_size}
use Rattle.wellformed.specs.WellFormed.{IsFirst, FormedRow, Shaped}
use Rattle.basics.specs.Text.{decimal, field, line}
use Rattle.printer.specs.Text.{shown_from, shown_count, shown_fields, row_fields, row_text, rows_text, table_word, table_text}
use Rattle.basics.proofs.TextLaws.{flat_length, line_parts, field_length, two_length}
use Rattle.wellformed.proofs.WellFormedLaws.{side_le, stops, moves}

-- ---- what a row does, by its first cell

module _ (t : List ℕ) (shape : Shape) (row x : ℕ) (first : x ≡ first_cell shape.order t row) where
  pub stop_field : x ≡ stop_cell → flat_map field (row_fields t shape row) ≡ field (bytes_of "stop")
  unfolding flat_map
  stop_field e = rw (stops shape.order t row x first e) refl

  pub move_fields : (x ≡ stop_cell → ⊥)
      → flat_map field (row_fields t shape row) ≡ flat_map field (shown_fields shape.order t row (2 ^ shape.observed))
  move_fields goes = rw (moves shape.order t row x first goes) refl

-- ---- the printed cells of a row

-- printed cell i
abbrev pub shown : Order → List ℕ → ℕ → ℕ → List ℕ
shown o t row i = decimal (cell o t row (shown_from o + i))

pub shown_inside : (o : Order) (n i : ℕ) → n ≤ side_limit → i < shown_count o n → shown_from o + i < row_size o
shown_inside Set n i h l = omega arith
shown_inside Read n i h l = omega arith

-- ---- lines in the order of their parts

pub row_parts : (t : List ℕ) (shape : Shape) (row rank : ℕ) → rank ≡ rank_cell shape.order t row
    → row_text t shape row ≡ bytes_of "row" ++ (field (decimal row) ++ (field (decimal rank) ++ (flat_map field (row_fields t shape row) ++ (10 ∷ []))))
unfolding flat_map
row_parts t shape row rank e =
    rw e (
    line_parts (bytes_of "row") (decimal row) (decimal (rank_cell shape.order t row) ∷ row_fields t shape row)
    ∙ ap (λ l. bytes_of "row" ++ (field (decimal row) ++ l))
    (append_assoc (field (decimal (rank_cell shape.order t row))) (flat_map field (row_fields t shape row)) (10 ∷ []))
    )

pub row_size_of : (t : List ℕ) (shape : Shape) (row rank : ℕ) → rank ≡ rank_cell shape.order t row
    → length (row_text t shape row)
    ≡ 3 + length (field (decimal row)) + length (field (decimal rank)) + length (flat_map field (row_fields t shape row)) + 1
row_size_of t shape row rank e = ap length (row_parts t shape row rank e) ∙ simp length-append (omega arith)

-- ---- how long they can be

-- things that come in pairs
pairs_length : (n w : ℕ) (f : ℕ → List ℕ) → ((s : ℕ) → s < n → length (field (f (2 * s))) + length (field (f (suc (2 * s)))) ≤ w)
    → length (flat_map field (tabulate (2 * n) f)) ≤ n * w
unfolding flat_map
pairs_length zero w f h = omega arith
pairs_length (suc n) w f h =
    let two : (k : ℕ) → 2 * suc k ≡ suc (suc (2 * k)) = λ k. omega arith in
    let rest = pairs_length n w (λ i. f (suc (suc i)))
    (λ s l. subst (λ (i : ℕ). length (field (f i)) + length (field (f (suc i))) ≤ w) (two s) (h (suc s) (omega arith))) in
    subst (λ (m : ℕ). length (flat_map field (tabulate m f)) ≤ suc n * w) (sym (two n))
    (omega (
      arith,
      suc-mul n w,
      length-append (field (f 0)) (field (f 1) ++ flat_map field (tabulate (2 * n) (λ i. f (suc (suc i))))),
      length-append (field (f 1)) (flat_map field (tabulate (2 * n) (λ i. f (suc (suc i))))),
      h 0 (omega arith),
      rest,
    ))

-- a row that goes on: up to 2 digits for a choice, up to 3 for a next row, and a tab before each
module _ (t : List ℕ) (row rows n : ℕ) (few : rows ≤ belief_limit) (seen : n ≤ side_limit) where
  -- cell i of a row of one choice
  set_length : first_cell Set t row < side_limit → ((s : ℕ) → s < n → next_cell Set t row s < rows) → (i : ℕ) → i < 1 + n
      → length (field (shown Set t row i)) ≤ 4
  set_length first next zero l = field_length 2 (first_cell Set t row) (omega arith)
  set_length first next (suc s) l =
      let e : next_at Set s ≡ 0 + suc s = omega arith in
      subst (λ (i : ℕ). length (field (decimal (cell Set t row i))) ≤ 4) e (field_length 2 (next_cell Set t row s) (omega (arith, next s (omega arith))))

  -- the cells of observation s in a row of pairs
  pair_length : (s : ℕ) → choice_cell Read t row s < side_limit → next_cell Read t row s < rows
      → length (field (shown Read t row (2 * s))) + length (field (shown Read t row (suc (2 * s)))) ≤ 7
  pair_length s choice next =
      let e : next_at Read s ≡ 1 + suc (2 * s) = omega arith in
      omega (
        arith,
        field_length 1 (choice_cell Read t row s) (omega arith),
        subst (λ (i : ℕ). length (field (decimal (cell Read t row i))) ≤ 4) e (field_length 2 (next_cell Read t row s) (omega arith)),
      )

  shown_length : (o : Order) → first_cell o t row < side_limit → ((s : ℕ) → s < n → choice_cell o t row s < side_limit)
      → ((s : ℕ) → s < n → next_cell o t row s < rows) → length (flat_map field (shown_fields o t row n)) ≤ 112
  shown_length Set first choice next = omega (arith, flat_length field (1 + n) 4 (shown Set t row) (set_length first next))
  shown_length Read first choice next = omega (arith, pairs_length n 7 (shown Read t row) (λ s l. pair_length s (choice s l) (next s l)))

first_small : (o : Order) (c : ℕ) → IsFirst o c → (c ≡ stop_cell → ⊥) → c < side_limit
first_small o c (inr e) goes = absurd (goes e)
first_small Set c (inl l) goes = l
first_small Read c (inl l) goes = omega arith

module _ (t : List ℕ) (shape : Shape) (row : ℕ) (few : shape.rows ≤ belief_limit) (seen : shape.observed ≤ kind_limit) (g : FormedRow t shape row) where
  moves_length : is_stop shape.order t row ≡ false → length (flat_map field (shown_fields shape.order t row (2 ^ shape.observed))) ≤ 112
  moves_length e =
      let m = eqb-false (first_cell shape.order t row) stop_cell e in
      shown_length t row shape.rows (2 ^ shape.observed) few (side_le shape.observed seen) shape.order
      (first_small shape.order (first_cell shape.order t row) g.first m) (λ s l. (g.goes s (m, l)).choice) (λ s l. (g.goes s (m, l)).next)

  fields_length : length (flat_map field (row_fields t shape row)) ≤ 112
  unfolding flat_map
  fields_length = go (is_stop shape.order t row) refl
    where
      go : (b : Bool) → is_stop shape.order t row ≡ b
          → length (flat_map field (cond b (bytes_of "stop" ∷ []) (shown_fields shape.order t row (2 ^ shape.observed)))) ≤ 112
      go true e = omega arith
      go false e = moves_length e

  row_length : row < shape.rows → rank_cell shape.order t row < cell_limit → length (row_text t shape row) ≤ 126
  row_length l rank =
      omega (
        arith,
        row_size_of t shape row _ refl,
        field_length 2 row (omega arith),
        field_length 4 (rank_cell shape.order t row) (omega arith),
        fields_length,
      )

word_length : (o : Order) → length (table_word o) ≤ 6
word_length Set = omega arith
word_length Read = omega arith

-- the text of a table has room, whatever its ranks
pub text_fits : (t : List ℕ) (shape : Shape) (worst : ℕ) → Shaped t shape worst → length (table_text t shape worst) ≤ text_size
text_fits t shape worst p =
    let few = p.sized.few in
    let below = p.below in
    omega (
      arith,
      length-append (line (table_word shape.order) (decimal shape.rows ∷ decimal worst ∷ [])) (rows_text t shape shape.rows),
      two_length (table_word shape.order) 2 shape.rows worst (omega arith) (omega arith),
      word_length shape.order,
      flat_length (row_text t shape) shape.rows 126 (λ row. row)
          (λ row l. row_length t shape row few p.sized.seen (p.each row l).formed l (p.each row l).rank),
    )

-- a line of two numbers that a machine word holds has room too: they have at most 20 digits
pub words_fit : (word : List ℕ) (a b : ℕ) → length word ≤ 100 → a < 2 ^ 64 → b < 2 ^ 64 → length (line word (decimal a ∷ decimal b ∷ [])) ≤ text_size
words_fit word a b h ha hb = omega (arith, two_length word 19 a b (omega arith) (omega arith))

-- The first line of a table's text and the lines of its rows, read back.
-- Assumes nothing.
use Prim.Native.Nat.{ℕ, zero, suc, ◌+◌, ◌-◌, ◌^◌, ◌≤◌, ◌<◌}
use native.Mathlib.Decide.{dec_le}
use native.Mathlib.Omega.{arith}
use mathlib.Core.Path.{◌≡◌, refl, sym, ap, ◌∙◌, subst}
use mathlib.Core.Logic.{inl, inr}
use mathlib.Core.Bool.{true, false, cond}
use mathlib.Core.List.{List, []}
use lib.ListN.{length, get_or, get_or-eq_default}
use lib.Pow.{pow_pos, pow-lt}
use borrow.Author.Tests.{lt-ltb, le-leb, eqb-true, eqb-false, ne_eqb}
use Rattle.basics.specs.Bytes.{bytes_of, same_bytes}
use Rattle.basics.specs.Numbers.{is_digit, number_below}
use Rattle.basics.specs.Pieces.{Unparted, field_at}
use Rattle.basics.specs.Text.{decimal}
use Rattle.basics.specs.declared.order.Order.{Order}
use Rattle.basics.specs.declared.order.Order.TheVariants.{Set, Read}
use Rattle.basics.proofs.Booleans.{test, clash}
use Rattle.basics.proofs.BytesLaws.{same_bytes_lem, same_refl}
use Rattle.basics.proofs.ListsLaws.{length_tabulate, get_d_tabulate}
use Rattle.basics.proofs.NumbersLaws.{below_decimal, decimal_some}
use Rattle.basics.proofs.PiecesLaws.{unparted_decimal}
use Rattle.play.specs.Limits.{belief_limit}
use Rattle.play.specs.Cells.{rank_at, row_size, stop_cell, cell_limit, cell, first_cell, is_stop, rank_cell}
use Rattle.play.proofs.CellsLaws.{rank_last}
use Rattle.printer.specs.Text.{shown_from, shown_count, shown_fields, table_word}
use Rattle.wellformed.specs.WellFormed.{Shaped}
use Rattle.tables.specs.declared.shape.Shape.{Shape}
use Rattle.loader.specs.Candidate.{says_stop, rank_in, is_shown, limit_at, move_in, row_in, observed_in, order_in, rows_in}
use Rattle.loader.proofs.ShownCells.{Shown, shown_says, limit_few, stop_zero, shown_low, hidden_zero}
use Rattle.loader.proofs.PrintLines.{head_body, head_word, head_rows, head_worst, row_body, rank_field, row_field}
use Rattle.loader.proofs.CandidateLaws.{move_shown, move_hidden, row_rank, row_stop, row_rest, row_move}

-- ---- the first line

module _ (o : Order) (rows worst : ℕ) where
  pub order_back : order_in (head_body o rows worst) ≡ o
  unfolding order_in same_bytes
  order_back = rw (head_word o rows worst) (word o)
    where
      word : (o : Order) → cond (same_bytes (table_word o) (table_word Read)) Read Set ≡ o
      word Set = refl
      word Read = refl

  module _ (some : 0 < rows) (few : rows ≤ belief_limit) (low : worst < rows) where
    pub rows_back : rows_in (head_body o rows worst) ≡ rows
    unfolding rows_in
    rows_back =
        let e : number_below (suc belief_limit) (field_at 1 (head_body o rows worst)) ≡ rows =
        ap (number_below (suc belief_limit)) (head_rows o rows worst) ∙ below_decimal (suc belief_limit) rows (omega arith) (omega arith) in
        rw (e, ne_eqb rows 0 (λ z. omega arith)) refl

    pub worst_back : number_below rows (field_at 2 (head_body o rows worst)) ≡ worst
    worst_back = ap (number_below rows) (head_worst o rows worst) ∙ below_decimal rows worst low (omega arith)

-- ---- the line of a row

-- a number is not the word
not_stop : (n : ℕ) → same_bytes (decimal n) (bytes_of "stop") ≡ false
unfolding is_digit
not_stop n =
    elim (test (same_bytes (decimal n) (bytes_of "stop"))) [
      | inl e ↦
          let u : Unparted is_digit (bytes_of "stop") =
          subst (Unparted is_digit) (same_bytes_lem (decimal n) (bytes_of "stop") e) (unparted_decimal is_digit digit n) in
          clash u.0 letter
      | inr e ↦ e
    ]
  where
    digit : (b : ℕ) → 48 ≤ b → b < 58 → is_digit b ≡ true
    digit b l h = rw (le-leb 48 b l, lt-ltb b 58 h) refl

    letter : is_digit 115 ≡ false
    letter = refl

-- a shape with another number of observed signals
abbrev pub with_observed : Shape → ℕ → Shape
with_observed shape x = record { rows = shape.rows; observed = x; order = shape.order }

-- how many cells are printed grows with the observations
count_some : (o : Order) (n : ℕ) → 0 < n → 0 < shown_count o n
count_some Set n h = omega arith
count_some Read n h = omega arith

count_more : (o : Order) (m n : ℕ) → m < n → shown_count o m ≤ shown_count o n - 1
count_more Set m n h = omega arith
count_more Read m n h = omega arith

module _ (t : List ℕ) (shape : Shape) (worst : ℕ) (p : Shaped t shape worst) (i : ℕ) (h : i < shape.rows) where
  abbrev body : List ℕ
  body = row_body t shape i

  abbrev o : Order
  o = shape.order

  abbrev count : ℕ
  count = 2 ^ shape.observed

  rank_back : rank_in body ≡ rank_cell o t i
  unfolding rank_in
  rank_back =
      let low = (p.each i h).rank in
      ap (number_below cell_limit) (rank_field t shape i) ∙ below_decimal cell_limit (rank_cell o t i) low (omega (arith, low))

  pub stop_line : is_stop o t i ≡ true → says_stop body ≡ true
  unfolding says_stop
  stop_line e = ap (λ l. same_bytes l (bytes_of "stop")) (row_field t shape i 0 ∙ rw e refl) ∙ same_refl (bytes_of "stop")

  -- a row that goes on
  module _ (goes : is_stop o t i ≡ false) where
    -- printed cell j
    abbrev shown : ℕ → List ℕ
    shown j = decimal (cell o t i (shown_from o + j))

    shown_field : (j : ℕ) → field_at (3 + j) body ≡ get_or (shown_fields o t i count) j []
    shown_field j = row_field t shape i j ∙ rw goes refl

    shown_is : (j : ℕ) → j < shown_count o count → field_at (3 + j) body ≡ shown j
    shown_is j b = shown_field j ∙ get_d_tabulate (shown_count o count) shown j [] b

    pub move_line : says_stop body ≡ false
    unfolding says_stop
    move_line =
        ap (λ l. same_bytes l (bytes_of "stop")) (shown_is 0 (count_some o count (pow_pos shape.observed))) ∙ not_stop (cell o t i (shown_from o + 0))

    no_stop : ¬ (first_cell o t i ≡ stop_cell)
    no_stop = eqb-false (first_cell o t i) stop_cell goes

    -- its cells before the rank, for as many observations and rows
    pub move_back : (k : ℕ) → k < rank_at o → move_in o count shape.rows body k ≡ cell o t i k
    move_back k b =
        elim (test (is_shown o count k)) [
          | inl e ↦
              let (from, to) = (shown_says o count k).0 e in
              let j : shown_from o + (k - shown_from o) ≡ k = omega arith in
              let low = shown_low t shape i (p.each i h) no_stop k (from, to) in
              move_shown o count shape.rows body k (from, to)
              ∙ ap (number_below (limit_at o shape.rows k))
              (shown_is (k - shown_from o) (omega arith) ∙ ap (λ (n : ℕ). decimal (cell o t i n)) j)
              ∙ below_decimal (limit_at o shape.rows k) (cell o t i k) low (omega (arith, low, limit_few o shape.rows k p.sized.few))
          | inr e ↦
              let out : ¬ Shown o count k = λ x. clash ((shown_says o count k).1 x) e in
              move_hidden o count shape.rows body k out ∙ sym (hidden_zero t shape i (p.each i h) no_stop k b out)
        ]

    -- the last field for 2 ^ k observations is there up to the number of observed signals
    last_field : (k : ℕ) → field_at (2 + shown_count o (2 ^ k)) body ≡ get_or (shown_fields o t i count) (shown_count o (2 ^ k) - 1) []
    last_field k =
        let some = count_some o (2 ^ k) (pow_pos k) in
        let e : 2 + shown_count o (2 ^ k) ≡ 3 + (shown_count o (2 ^ k) - 1) = omega arith in
        ap (λ n. field_at n body) e ∙ shown_field (shown_count o (2 ^ k) - 1)

    no_field : (j : ℕ) → shown_count o count ≤ j → get_or (shown_fields o t i count) j [] ≡ []
    no_field j b = get_or-eq_default (shown_fields o t i count) [] {n = j} (rw (length_tabulate (shown_count o count) shown) b)

    pub observed_back : (k : ℕ) → shape.observed ≤ k → observed_in o k body ≡ shape.observed
    unfolding observed_in
    observed_back zero b = omega arith
    observed_back (suc k) b =
        let m = shown_count o (2 ^ suc k) - 1 in
        elim (dec_le shape.observed k) [
          | yes l ↦
              let wide : count < 2 ^ suc k = pow-lt {i = shape.observed} {j = suc k} (omega arith) in
              let none : field_at (2 + shown_count o (2 ^ suc k)) body ≡ [] = last_field (suc k) ∙ no_field m (count_more o count (2 ^ suc k) wide) in
              rw none (observed_back k l)
          | no x ↦
              let e : shape.observed ≡ suc k = omega arith in
              let q : shown_count o count ≡ shown_count o (2 ^ suc k) = ap (λ n. shown_count o (2 ^ n)) e in
              let inside : m < shown_count o count = omega (arith, q, count_some o (2 ^ suc k) (pow_pos (suc k))) in
              let some : field_at (2 + shown_count o (2 ^ suc k)) body ≡ shown m =
              last_field (suc k) ∙ get_d_tabulate (shown_count o count) shown m [] inside in
              rw (some, lt-ltb 0 (length (shown m)) (omega (arith, decimal_some (cell o t i (shown_from o + m))))) (sym e)
        ]

  -- all its cells, by a shape that has the right number of observed signals if the row goes on
  module _ (x : ℕ) (same : is_stop o t i ≡ false → x ≡ shape.observed) where
    abbrev read : List ℕ
    read = row_in (with_observed shape x) body

    stopped : first_cell o t i ≡ stop_cell → says_stop body ≡ true → (k : ℕ) → k < rank_at o → get_or read k 0 ≡ cell o t i k
    stopped e says zero b = row_stop (with_observed shape x) body says ∙ sym e
    stopped e says (suc k) b =
        row_rest (with_observed shape x) body says (suc k) (omega arith) b ∙ sym (stop_zero t shape i (p.each i h) e (suc k) b (omega arith))

    other_back : (k : ℕ) → k < rank_at o → get_or read k 0 ≡ cell o t i k
    other_back k b =
        elim (test (is_stop o t i)) [
          | inl e ↦ stopped (eqb-true (first_cell o t i) stop_cell e) (stop_line e) k b
          | inr e ↦
              row_move (with_observed shape x) body (move_line e) k b
              ∙ ap (λ (m : ℕ). move_in o (2 ^ m) shape.rows body k) (same e) ∙ move_back e k b
        ]

    pub row_back : (k : ℕ) → k < row_size o → get_or read k 0 ≡ cell o t i k
    row_back k b =
        elim (dec_le (suc k) (rank_at o)) [
          | yes l ↦ other_back k l
          | no l ↦
              let last : rank_at o ≡ k = omega (arith, rank_last o) in
              subst (λ (j : ℕ). get_or read j 0 ≡ cell o t i j) last (row_rank (with_observed shape x) body ∙ rank_back)
        ]

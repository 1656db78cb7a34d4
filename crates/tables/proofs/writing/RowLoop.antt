-- One row of the table is written: its next positions are put behind the rows where they are new.
-- Assumes nothing.
use Prim.Native.Nat.{ℕ, ◌+◌, ◌*◌, ◌≤◌, ◌<◌}
use native.Mathlib.Numerals.{add-one}
use native.Mathlib.Omega.{arith}
use mathlib.Core.Path.{◌≡◌, refl, sym, ap, ap₂, ◌∙◌, subst}
use mathlib.Core.Bool.{Bool, true, false}
use mathlib.Core.List.{List, [], ◌∷◌, ◌++◌, foldl-append}
use lib.Dec.{eqb}
use lib.ListN.{length, get_or, take, drop, set, replicate, length-set, length-append, take-append-drop}
use lib.Seq.{length-take-le, take-suc, take-suc-set, take_all, drop-drop, drop-set-lt}
use borrow.Author.Tests.{eq-eqb}
use Rattle.basics.specs.Lists.{tabulate}
use Rattle.basics.specs.Says.{Says}
use Rattle.basics.specs.declared.order.Order.{Order}
use Rattle.basics.proofs.ListsLaws.{length_tabulate, get_d_tabulate}
use Rattle.basics.specs.Reach.{is_in, index_in, add_new, add_all}
use Rattle.basics.proofs.ReachLaws.{added_all}
use Rattle.basics.proofs.GrowingList.{add_old, add_new_lem, index_kept, index_last}
use Rattle.play.specs.Limits.{belief_limit}
use Rattle.play.specs.Cells.{rank_at, row_size, first_of, choice_row, with_rank}
use Rattle.tables.specs.PositionMemory.{next_by, rows_with, row_with, with_pair}
use Rattle.tables.proofs.writing.RowNumbers.{index_le, index_out, index_in_lem}
use Rattle.tables.proofs.writing.RowCells.{rank_put, row_begin, row_more}
use Rattle.basics.proofs.SaysLaws.{eqb_says}

-- ---- a list to which things are added one after another

module _ {A : Type 0} (same : A → A → Bool) (says : (x y : A) → Says (same x y) (x ≡ y)) (l t : List A) where
  -- the first s things of t are added
  abbrev added_to : ℕ → List A
  added_to s = add_all same l (take s t)

  added_none : added_to 0 ≡ l
  unfolding add_all
  added_none = refl

  added_more : (s : ℕ) (d : A) → s < length t → added_to (s + 1) ≡ add_new same (added_to s) (get_or t s d)
  unfolding add_all
  added_more s d h =
      ap added_to (add-one s) ∙ ap (add_all same l) (take-suc t s d h) ∙ foldl-append (add_new same) l (take s t) (get_or t s d ∷ [])

  added_end : (s : ℕ) → length t ≤ s → added_to s ≡ add_all same l t
  added_end s h = ap (add_all same l) (take_all s t h)

  -- what is added later stands behind
  added_tail : (s : ℕ) → (ys : List A) × (add_all same l t ≡ added_to s ++ ys)
  unfolding add_all
  added_tail s =
      let r = added_all same says (drop s t) (added_to s) in
      let e : add_all same l t ≡ add_all same (added_to s) (drop s t) =
      ap (add_all same l) (sym (take-append-drop s t)) ∙ foldl-append (add_new same) l (take s t) (drop s t) in
      (r.tail, e ∙ r.extends)

module _ (o : Order) (moves answers : List ℕ) (choices observations k m : ℕ) (rows₀ : List ℕ) where
  -- the next position for observation s
  abbrev next : ℕ → ℕ
  next = next_by moves choices k answers

  -- the rows once the observations below s are done
  unfoldable pub rows_to : ℕ → List ℕ
  rows_to s = add_all eqb (take m rows₀) (take s (tabulate observations next))

  -- the rows in the end
  abbrev pub rows_all : List ℕ
  rows_all = rows_with moves choices observations k answers (take m rows₀)

  -- the cells once the observations below s are done
  unfoldable pub cells_to : ℕ → List ℕ
  cells_to s = choice_row o s (λ t. get_or answers t 0) (λ t. index_in eqb (next t) rows_all)

  -- the observations below s are done, and there are n rows
  pub record Adding (s n : ℕ) (rows cells : List ℕ) : Type 0 where
    pub long : length rows ≡ belief_limit
    pub few : n ≤ belief_limit
    pub count : n ≡ length (rows_to s)
    pub front : take n rows ≡ rows_to s
    pub rest : drop n rows ≡ drop n rows₀
    pub cells_are : cells ≡ cells_to s

  rows_none : rows_to 0 ≡ take m rows₀
  unfolding rows_to
  rows_none = added_none eqb eqb_says (take m rows₀) (tabulate observations next)

  rows_more : (s : ℕ) → s < observations → rows_to (s + 1) ≡ add_new eqb (rows_to s) (next s)
  unfolding rows_to
  rows_more s h =
      let t : List ℕ = tabulate observations next in
      added_more eqb eqb_says (take m rows₀) t s 0 (subst (λ n. s < n) (sym (length_tabulate observations next)) h)
      ∙ ap (add_new eqb (add_all eqb (take m rows₀) (take s t))) (get_d_tabulate observations next s 0 h)

  rows_end : (s : ℕ) → observations ≤ s → rows_to s ≡ rows_all
  unfolding rows_to rows_with
  rows_end s h =
      added_end eqb eqb_says (take m rows₀) (tabulate observations next) s
      (subst (λ n. n ≤ s) (sym (length_tabulate observations next)) h)

  rows_tail : (s : ℕ) → (ys : List ℕ) × (rows_all ≡ rows_to s ++ ys)
  unfolding rows_to rows_with
  rows_tail s = added_tail eqb eqb_says (take m rows₀) (tabulate observations next) s

  rows_le : (s : ℕ) → length (rows_to s) ≤ length rows_all
  rows_le s = let t = rows_tail s in omega (arith, ap length t.1 ∙ length-append (rows_to s) t.0)

  -- what is there keeps its number
  number_kept : (s x : ℕ) → is_in eqb x (rows_to s) ≡ true → index_in eqb x rows_all ≡ index_in eqb x (rows_to s)
  number_kept s x h = let t = rows_tail s in ap (index_in eqb x) t.1 ∙ (index_kept eqb x (rows_to s) t.0 h).0

  -- ---- turn by turn

  pub adding_begin : (cells : List ℕ) → m ≤ belief_limit → length rows₀ ≡ belief_limit
      → cells ≡ set (replicate (row_size o) 0) 0 (first_of o (λ s. get_or answers s 0)) → Adding 0 m rows₀ cells
  unfolding cells_to
  adding_begin cells few long is =
      record {
        long = long;
        few = few;
        count = sym (ap length rows_none ∙ length-take-le m rows₀ (omega arith));
        front = sym rows_none;
        rest = refl;
        cells_are = is ∙ row_begin (λ t. get_or answers t 0) (λ t. index_in eqb (next t) rows_all) o;
      }

  -- observation s leads to position t, which is found at row j
  module _ (s n : ℕ) (rows cells : List ℕ) (a : Adding s n rows cells) (inside : s < observations) (t j : ℕ)
      (next_is : t ≡ next s) (found : j ≡ index_in eqb t (take n rows)) where
    place : j ≡ index_in eqb t (rows_to s)
    place = found ∙ ap (index_in eqb t) a.front

    pub place_le : j ≤ n
    place_le = omega (arith, place, a.count, index_le eqb t (rows_to s))

    -- the cells of observation s are written
    cells_more : index_in eqb t rows_all ≡ j → (cells' : List ℕ) → cells' ≡ with_pair o cells s (get_or answers s 0) j → cells' ≡ cells_to (s + 1)
    unfolding cells_to
    cells_more e cells' q =
        q ∙ ap₂ (λ l i. with_pair o l s (get_or answers s 0) i) a.cells_are (sym (ap (λ x. index_in eqb x rows_all) (sym next_is) ∙ e))
        ∙ row_more (λ i. get_or answers i 0) (λ i. index_in eqb (next i) rows_all) o s

    grows : rows_to (s + 1) ≡ add_new eqb (rows_to s) t
    grows = rows_more s inside ∙ ap (add_new eqb (rows_to s)) (sym next_is)

    pub adding_old : (j ≡ n → ⊥) → (n' : ℕ) (rows' cells' : List ℕ) → rows' ≡ rows → cells' ≡ with_pair o cells s (get_or answers s 0) j → n' ≡ n
        → Adding (s + 1) n' rows' cells'
    adding_old ne n' rows' cells' p q r =
        let there : is_in eqb t (rows_to s) ≡ true = index_in_lem eqb t (rows_to s) (λ e. ne (place ∙ e ∙ sym a.count)) in
        let e : rows_to s ≡ rows_to (s + 1) = sym (grows ∙ add_old eqb (rows_to s) t there) in
        let is = cells_more (number_kept s t there ∙ sym place) cells' q in
        rw (p, r) (
        record {
          long = a.long;
          few = a.few;
          count = a.count ∙ ap length e;
          front = a.front ∙ e;
          rest = a.rest;
          cells_are = is;
        }
        )

    module _ (is_new : j ≡ n) where
      absent : is_in eqb t (rows_to s) ≡ false
      absent = index_out eqb t (rows_to s) (sym place ∙ is_new ∙ a.count)

      appended : rows_to (s + 1) ≡ rows_to s ++ (t ∷ [])
      appended = grows ∙ add_new_lem eqb (rows_to s) t absent

      longer : length (rows_to (s + 1)) ≡ n + 1
      longer = ap length appended ∙ length-append (rows_to s) (t ∷ []) ∙ ap (λ i. i + 1) (sym a.count)

      -- there is room for one more row
      pub room_left : length rows_all ≤ belief_limit → n < belief_limit
      room_left room = omega (arith, longer, rows_le (s + 1))

      last : (index_in eqb t (rows_to (s + 1)) ≡ n) × (is_in eqb t (rows_to (s + 1)) ≡ true)
      last =
          let r = index_last eqb t (rows_to s) (eq-eqb t t refl) absent in
          (ap (index_in eqb t) appended ∙ r.0 ∙ sym a.count, ap (is_in eqb t) appended ∙ r.1)

      pub adding_new : length rows_all ≤ belief_limit → (n' : ℕ) (rows' cells' : List ℕ) → rows' ≡ set rows n t
          → cells' ≡ with_pair o cells s (get_or answers s 0) j → n' ≡ n + 1 → Adding (s + 1) n' rows' cells'
      adding_new room n' rows' cells' p q r =
          let small : n < belief_limit = room_left room in
          let small' : n < length rows = omega (arith, a.long) in
          let is = cells_more (number_kept (s + 1) t last.1 ∙ last.0 ∙ sym is_new) cells' q in
          rw (p, r) (
          record {
            long = length-set rows n t ∙ a.long;
            few = omega arith;
            count = sym longer;
            front =
                ap (λ i. take i (set rows n t)) (add-one n) ∙ take-suc-set rows n t small' ∙ ap (λ l. l ++ (t ∷ [])) a.front ∙ sym appended;
            rest =
                drop-set-lt (n + 1) rows n t (omega arith) ∙ sym (drop-drop 1 n rows) ∙ ap (drop 1) a.rest ∙ drop-drop 1 n rows₀;
            cells_are = is;
          }
          )

  -- all is done, and the rank is written
  pub adding_end : (s n : ℕ) (rows cells : List ℕ) → s ≡ observations → Adding s n rows cells
      → (rank : ℕ) (cells' : List ℕ) → cells' ≡ set cells (0 * row_size o + rank_at o) rank
      → (n ≡ length rows_all)
      × ((rows ≡ rows_all ++ drop (length rows_all) rows₀) × (cells' ≡ with_rank o rank (row_with o moves choices observations k answers rows_all)))
  unfolding cells_to
  adding_end s n rows cells is_s a rank cells' q =
      let e : rows_to s ≡ rows_all = rows_end s (omega arith) in
      let is_n : n ≡ length rows_all = a.count ∙ ap length e in
      let is : cells ≡ row_with o moves choices observations k answers rows_all =
      a.cells_are ∙ ap (λ i. choice_row o i (λ t. get_or answers t 0) (λ t. index_in eqb (next t) rows_all)) is_s in (
        is_n,
        (
          sym (take-append-drop n rows) ∙ ap₂ ◌++◌ (a.front ∙ e) (a.rest ∙ ap (λ i. drop i rows₀) is_n),
          q ∙ rank_put o cells (row_with o moves choices observations k answers rows_all) rank is,
        ),
      )

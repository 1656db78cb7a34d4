-- Tables whose rows have the same cells are written alike, and their ranks pass the same tests; so the text of a table tells its rows, and
-- no more cells, and its shape, but for observed signals that no row shows.
-- Assumes nothing.
use Prim.Native.Nat.{ℕ, ◌+◌, ◌*◌, ◌^◌, ◌≤◌, ◌<◌}
use native.Mathlib.Omega.{arith}
use mathlib.Core.Path.{◌≡◌, refl, sym, ap, ap₂, ◌∙◌, subst}
use mathlib.Core.Logic.{◌↔◌, inl, inr}
use mathlib.Core.Bool.{Bool, true, false}
use mathlib.Core.List.{List, [], ◌∷◌, ◌++◌}
use lib.Dec.{eqb}
use lib.ListN.{length, take}
use lib.Seq.{length-take-le}
use borrow.Author.Tests.{eqb-true, eq-eqb, ne_eqb}
use Rattle.basics.specs.Bounded.{all}
use Rattle.basics.specs.Bytes.{bytes_of}
use Rattle.basics.specs.Limits.{kind_limit}
use Rattle.basics.specs.Text.{decimal, line}
use Rattle.basics.specs.declared.order.Order.{Order}
use Rattle.basics.proofs.Booleans.{test, clash}
use Rattle.basics.proofs.BoundedLaws.{all_at, all_of}
use Rattle.basics.proofs.ListsLaws.{tabulate_ext}
use Rattle.basics.proofs.TextLaws.{flat_ext}
use Rattle.play.specs.Limits.{side_limit}
use Rattle.play.specs.Cells.{choice_at, next_at, rank_at, row_size, stop_cell, cell_limit, cell, first_cell, is_stop, next_cell, rank_cell}
use Rattle.play.proofs.CellsLaws.{before_inside, choice_inside, next_inside, first_inside, rank_inside, cell_taken, same_cells}
use Rattle.printer.specs.Text.{shown_from, shown_count, shown_fields, row_fields, row_text, table_word, table_text}
use Rattle.wellformed.specs.WellFormed.{IsFirst, Used, GoesOn, FormedRow, RankedRow, Unused, Shaped, Printable}
use Rattle.printer.proofs.TextLaws.{shown_inside}
use Rattle.wellformed.proofs.WellFormedLaws.{side_le}
use Rattle.tables.specs.declared.shape.Shape.{Shape}
use Rattle.loader.specs.LoadedAs.{TextOf, TableOf, told_shape}
use Rattle.loader.proofs.ShownCells.{own_before, blank_own, blank_by}
use Rattle.loader.proofs.RowBack.{with_observed}

-- ---- rows with the same cells

-- row i of two tables
abbrev pub SameRow : Order → List ℕ → List ℕ → ℕ → Type 0
SameRow o t u i = (k : ℕ) → k < row_size o → cell o u i k ≡ cell o t i k

-- tables of such rows, and of no more cells, are the same
pub same_tables : (o : Order) (n : ℕ) (t u : List ℕ) → length t ≡ n * row_size o → length u ≡ n * row_size o → ((i : ℕ) → i < n → SameRow o t u i) → u ≡ t
same_tables o n t u long short same =
    same_cells o n u t short long (λ i h. same i h 0 (first_inside o)) (λ i h s b. same i h (choice_at o s) (choice_inside o s b))
    (λ i h s b. same i h (next_at o s) (next_inside o s b)) (λ i h. same i h (rank_at o) (rank_inside o))

-- such rows are printed alike, with as many observed signals if the row goes on
module _ (t u : List ℕ) (shape : Shape) (x i : ℕ) (seen : shape.observed ≤ kind_limit) (same : SameRow shape.order t u i)
    (shown : is_stop shape.order t i ≡ false → x ≡ shape.observed) where
  abbrev o : Order
  o = shape.order

  same_stop : is_stop o u i ≡ is_stop o t i
  same_stop = ap (λ c. eqb c stop_cell) (same 0 (first_inside o))

  same_moves : row_fields u (with_observed shape x) i ≡ row_fields t shape i
  same_moves =
      elim (test (is_stop o t i)) [
        | inl e ↦ let q : is_stop o u i ≡ true = same_stop ∙ e in rw (q, e) refl
        | inr e ↦
            let q : is_stop o u i ≡ false = same_stop ∙ e in
            let n = 2 ^ shape.observed in
            rw (q, e)
            (ap (λ (m : ℕ). shown_fields o u i (2 ^ m)) (shown e)
            ∙ tabulate_ext (shown_count o n) (λ j. decimal (cell o u i (shown_from o + j))) (λ j. decimal (cell o t i (shown_from o + j)))
            (λ j b. ap decimal (same (shown_from o + j) (shown_inside o n j (side_le shape.observed seen) b))))
      ]

  -- the rank, and what it does
  pub same_fields : decimal (rank_cell o u i) ∷ row_fields u (with_observed shape x) i ≡ decimal (rank_cell o t i) ∷ row_fields t shape i
  same_fields = ap₂ (λ (r : ℕ) fs. decimal r ∷ fs) (same (rank_at o) (rank_inside o)) same_moves

-- ---- a table u with the rows of t, and with as many observed signals as every row that goes on shows

module _ (t u : List ℕ) (shape : Shape) (x : ℕ) (few : x ≤ kind_limit) (same : (i : ℕ) → i < shape.rows → SameRow shape.order t u i)
    (shown : (i : ℕ) → i < shape.rows → is_stop shape.order t i ≡ false → x ≡ shape.observed)
    (formed : (i : ℕ) → i < shape.rows → FormedRow t shape i) where
  abbrev order : Order
  order = shape.order

  abbrev n : ℕ
  n = shape.rows

  abbrev told : Shape
  told = with_observed shape x

  same_first : (i : ℕ) → i < n → first_cell order u i ≡ first_cell order t i
  same_first i h = same i h 0 (first_inside order)

  same_rank : (i : ℕ) → i < n → rank_cell order u i ≡ rank_cell order t i
  same_rank i h = same i h (rank_at order) (rank_inside order)

  first : (i : ℕ) → i < n → IsFirst order (first_cell order u i)
  first i h = subst (IsFirst order) (sym (same_first i h)) (formed i h).first

  -- an observation that a row has cells for
  module _ (i : ℕ) (h : i < n) (s : ℕ) (y : Used u told i s) where
    used : Used t shape i s
    used =
        let goes : ¬ (first_cell order t i ≡ stop_cell) = λ e. y.0 (same_first i h ∙ e) in
        (goes, subst (λ (k : ℕ). s < 2 ^ k) (shown i h (ne_eqb (first_cell order t i) stop_cell goes)) y.1)

    side : s < side_limit
    side = omega (arith, y.1, side_le x few)

    same_next : next_cell order u i s ≡ next_cell order t i s
    same_next = same i h (next_at order s) (next_inside order s side)

    next_low : next_cell order t i s < n
    next_low = ((formed i h).goes s used).next

    goes_on_lem : GoesOn u told i s
    goes_on_lem =
        let low : next_cell order u i s < n = subst (λ k. k < n) (sym same_next) next_low in
        record {
          choice = subst (λ k. k < side_limit) (sym (same i h (choice_at order s) (choice_inside order s side))) ((formed i h).goes s used).choice;
          next = low;
          first = first (next_cell order u i s) low;
        }

    next_rank_lem : rank_cell order u (next_cell order u i s) ≡ rank_cell order t (next_cell order t i s)
    next_rank_lem = ap (λ (j : ℕ). rank_cell order u j) same_next ∙ same_rank (next_cell order t i s) next_low

  rows_formed : (i : ℕ) → i < n → FormedRow u told i
  rows_formed i h = record { first = first i h; goes = goes_on_lem i h }

  rows_ranked : (i : ℕ) → i < n → RankedRow t shape i → RankedRow u told i
  rows_ranked i h r =
      let own = same_rank i h in
      record {
        own = record {
          below = subst (λ k. k < n) (sym own) r.own.below;
          stops = λ e. own ∙ r.own.stops (sym (same_first i h) ∙ e);
          goes = λ m. subst (λ k. 0 < k) (sym own) (r.own.goes (λ e. m (same_first i h ∙ e)));
        };
        lower = λ s y. omega (arith, own, next_rank_lem i h s y, r.lower s (used i h s y));
      }

  unused : (i : ℕ) → i < n → (s : ℕ) → Unused u told i s → Unused t shape i s
  unused i h s y =
      elim (test (is_stop order t i)) [
        | inl e ↦ inl (eqb-true (first_cell order t i) stop_cell e)
        | inr e ↦ elim y [ inl z ↦ inl (sym (same_first i h) ∙ z) | inr b ↦ inr (subst (λ k. 2 ^ k ≤ s) (shown i h e) b) ]
      ]

-- tables whose ranks pass the same tests
pub record SameRanks (t : List ℕ) (a : Shape) (u : List ℕ) (b : Shape) : Type 0 where
  pub rows : b.rows ≡ a.rows
  pub first : rank_cell b.order u 0 ≡ rank_cell a.order t 0
  pub each : (i : ℕ) → i < a.rows → RankedRow t a i ↔ RankedRow u b i

ranks_printable : (t u : List ℕ) (a b : Shape) (worst : ℕ) → SameRanks t a u b → Shaped u b worst → Printable t a worst → Printable u b worst
ranks_printable t u a b worst r shaped p =
    record {
      shaped = shaped;
      first = r.first ∙ p.first;
      ranked = λ i h. let l = subst (λ k. i < k) r.rows h in (r.each i l).0 (p.ranked i l);
    }

module _ (t u : List ℕ) (shape : Shape) (worst : ℕ) (p : Shaped t shape worst)
    (same : (i : ℕ) → i < shape.rows → SameRow shape.order t u i) (room : shape.rows * row_size shape.order ≤ length u)
    (x : ℕ) (few : x ≤ kind_limit) (shown : (i : ℕ) → i < shape.rows → is_stop shape.order t i ≡ false → x ≡ shape.observed) where
  abbrev q : Order
  q = shape.order

  formed : (i : ℕ) → i < shape.rows → FormedRow t shape i
  formed i h = (p.each i h).formed

  rows_shaped : Shaped u (with_observed shape x) worst
  rows_shaped =
      record {
        sized = record { some = p.sized.some; few = p.sized.few; room = room; seen = few };
        below = p.below;
        each = λ i h.
            record {
              formed = rows_formed t u shape x few same shown formed i h;
              blank = λ s b y.
                  blank_by q u i s (λ j own.
                  same i h j (before_inside q j (own_before q s j b own))
                  ∙ blank_own q t i s j ((p.each i h).blank s b (unused t u shape x few same shown formed i h s y)) own);
              rank = subst (λ k. k < cell_limit) (sym (same i h (rank_at q) (rank_inside q))) (p.each i h).rank;
            };
      }

  rows_text_lem : table_text u (with_observed shape x) worst ≡ table_text t shape worst
  rows_text_lem =
      ap (λ l. line (table_word q) (decimal shape.rows ∷ decimal worst ∷ []) ++ l)
      (flat_ext (row_text u (with_observed shape x)) (row_text t shape) shape.rows (λ i. i)
      (λ i h. ap (λ fs. line (bytes_of "row") (decimal i ∷ fs)) (same_fields t u shape x i p.sized.seen (same i h) (shown i h))))

  rows_ranks : SameRanks t shape u (with_observed shape x)
  rows_ranks =
      record {
        rows = refl;
        first = same 0 p.sized.some (rank_at q) (rank_inside q);
        each = λ i h. (
          rows_ranked t u shape x few same shown formed i h,
          rows_ranked u t (with_observed shape x) shape.observed p.sized.seen (λ j b k l. sym (same j b k l))
              (λ j b e. sym (shown j b (ap (λ c. eqb c stop_cell) (sym (same j b 0 (first_inside q))) ∙ e)))
              (rows_formed t u shape x few same shown formed) i h,
        );
      }

-- ---- a table behind whose rows more cells stand

-- is printed as its rows are
pub behind_rows : (t : List ℕ) (shape : Shape) (worst : ℕ) → shape.rows * row_size shape.order ≤ length t
    → Printable (take (shape.rows * row_size shape.order) t) shape worst
    → Printable t shape worst × (table_text t shape worst ≡ table_text (take (shape.rows * row_size shape.order) t) shape worst)
behind_rows t shape worst room p =
    let used = take (shape.rows * row_size shape.order) t in
    let same : (i : ℕ) → i < shape.rows → SameRow shape.order used t i =
    λ i h k b. sym (cell_taken shape.order shape.rows t i h k b) in
    let seen = p.shaped.sized.seen in (
      ranks_printable used t shape shape worst (rows_ranks used t shape worst p.shaped same room shape.observed seen (λ i h e. refl))
          (rows_shaped used t shape worst p.shaped same room shape.observed seen (λ i h e. refl)) p,
      rows_text_lem used t shape worst p.shaped same room shape.observed seen (λ i h e. refl),
    )

-- a table that a text tells, whatever its ranks: no cells but those of its rows, and no observed signals that no row shows
pub record Said (s : List ℕ) (shape : Shape) (worst : ℕ) (cells : List ℕ) : Type 0 where
  pub is : TextOf s cells shape worst
  pub exact : length cells ≡ shape.rows * row_size shape.order
  pub untold : ((i : ℕ) → i < shape.rows → first_cell shape.order cells i ≡ stop_cell) → shape.observed ≡ 0

module _ (s : List ℕ) (shape : Shape) (worst : ℕ) (cells : List ℕ) where
  pub table_said : TableOf s shape worst cells → Said s shape worst cells
  table_said t = record { is = record { shaped = t.printable.shaped; text = t.prints }; exact = t.exact; untold = t.untold }

  pub said_table : Said s shape worst cells → Printable cells shape worst → TableOf s shape worst cells
  said_table said p = record { printable = p; prints = said.is.text; exact = said.exact; untold = said.untold }

module _ (t : List ℕ) (shape : Shape) (worst : ℕ) where
  abbrev size : ℕ
  size = shape.rows * row_size shape.order

  abbrev stops : ℕ → Bool
  stops = is_stop shape.order t

  -- its rows as they are told, with ranks that pass the same tests
  abbrev TellsBy : Shape → Type 0
  TellsBy said = Said (table_text t shape worst) said worst (take size t) × SameRanks t shape (take size t) said

  module _ (p : Shaped t shape worst) where
    tells_by : (x : ℕ) → x ≤ kind_limit → ((i : ℕ) → i < shape.rows → stops i ≡ false → x ≡ shape.observed)
        → (((i : ℕ) → i < shape.rows → stops i ≡ true) → x ≡ 0) → TellsBy (with_observed shape x)
    tells_by x few shown none =
        let same : (i : ℕ) → i < shape.rows → SameRow shape.order t (take size t) i =
        λ i h k b. cell_taken shape.order shape.rows t i h k b in
        let long : length (take size t) ≡ size = length-take-le size t p.sized.room in
        let room : size ≤ length (take size t) = omega (arith, long) in (
          record {
            is = record {
              shaped = rows_shaped t (take size t) shape worst p same room x few shown;
              text = rows_text_lem t (take size t) shape worst p same room x few shown;
            };
            exact = long;
            untold = λ stop. none (λ i h.
                eq-eqb (first_cell shape.order t i) stop_cell (sym (same i h 0 (first_inside shape.order)) ∙ stop i h));
          },
          rows_ranks t (take size t) shape worst p same room x few shown,
        )

    pub tells : TellsBy (told_shape t shape)
    tells =
        elim (test (all shape.rows stops)) [
          | inl e ↦ rw e (tells_by 0 (omega arith) (λ i h f. clash (all_at shape.rows stops e i h) f) (λ stop. refl))
          | inr e ↦ rw e (tells_by shape.observed p.sized.seen (λ i h f. refl) (λ stop. clash (all_of shape.rows stops stop) e))
        ]

  pub table_of_print : Printable t shape worst → TableOf (table_text t shape worst) (told_shape t shape) worst (take size t)
  table_of_print p =
      let (said, ranks) = tells p.shaped in
      said_table (table_text t shape worst) (told_shape t shape) worst (take size t) said
      (ranks_printable t (take size t) shape (told_shape t shape) worst ranks said.is.shaped p)

-- The tests of a table say what a table must be.
-- Assumes nothing.
use Prim.Native.Nat.{ℕ, ◌*◌, ◌^◌, ◌≤◌, ◌<◌}
use native.Mathlib.Nat.{not-suc-le-zero}
use native.Mathlib.Omega.{arith}
use mathlib.Core.Path.{◌≡◌, refl, sym, subst}
use mathlib.Core.Logic.{inl, inr}
use mathlib.Core.Bool.{Bool, true, false, ◌||◌}
use mathlib.Core.List.{List}
use lib.Dec.{eqb, ltb}
use lib.ListN.{length}
use borrow.Author.Tests.{ltb-true, ltb-false, eqb-true, eqb-false, lt-ltb, eq-eqb, ne_eqb}
use Rattle.basics.specs.Limits.{kind_limit}
use Rattle.play.specs.Limits.{belief_limit, side_limit}
use Rattle.basics.specs.declared.order.Order.{Order}
use Rattle.basics.specs.declared.order.Order.TheVariants.{Set, Read}
use Rattle.play.specs.Cells.{row_size, stop_cell, first_cell, is_stop, choice_cell, next_cell, rank_cell, Blank}
use Rattle.tables.specs.declared.shape.Shape.{Shape}
use Rattle.basics.specs.Bounded.{all}
use Rattle.basics.specs.Says.{Says}
use Rattle.basics.proofs.BoundedLaws.{all_says}
use Rattle.basics.proofs.Booleans.{test, or_cases, or_intro_left, or_intro_right}
use Rattle.basics.proofs.SaysLaws.{says_and, says_or, lt_says, le_says, eqb_says}
use Rattle.wellformed.specs.WellFormed.{Sized, first_limit, IsFirst, Used, GoesOn, RankFits, RankedRow, GoodRow, Unused, Printable}
use Rattle.wellformed.specs.WellFormed.{is_sized, is_first, rank_fits, next_count, is_pair, leads_on, Leads, is_lower, is_ranked, is_row}
use Rattle.wellformed.specs.WellFormed.{is_blank_at, is_blank, is_printable_row, is_printable}

module _ (cells : ℕ) (shape : Shape) where
  four : Says (is_sized cells shape)
      ((((0 < shape.rows) × (shape.rows ≤ belief_limit)) × (shape.rows * row_size shape.order ≤ cells)) × (shape.observed ≤ kind_limit))
  four =
      says_and (says_and (says_and (lt_says 0 shape.rows) (le_says shape.rows belief_limit)) (le_says (shape.rows * row_size shape.order) cells))
      (le_says shape.observed kind_limit)

  pub sized_says : Says (is_sized cells shape) (Sized cells shape)
  sized_says = (
    λ e. let p = four.0 e in record { some = p.0.0.0; few = p.0.0.1; room = p.0.1; seen = p.1 },
    λ s. four.1 (((s.some, s.few), s.room), s.seen),
  )

zero_says : (c : ℕ) → Says (eqb c 0) (c ≡ 0)
zero_says c = (eqb-true c 0, eq-eqb c 0)

first_says : (o : Order) (c : ℕ) → Says (is_first o c) (IsFirst o c)
first_says o c = says_or (lt_says c (first_limit o)) (eqb-true c stop_cell, eq-eqb c stop_cell)

blank_says : (o : Order) (t : List ℕ) (row s : ℕ) → Says (is_blank_at o t row s) (Blank o t row s)
blank_says Set t row s = zero_says (next_cell Set t row s)
blank_says Read t row s = says_and (zero_says (choice_cell Read t row s)) (zero_says (next_cell Read t row s))

module _ (t : List ℕ) (shape : Shape) (row : ℕ) where
  abbrev o : Order
  o = shape.order

  -- the observations that the row has cells for, and the others
  used_says : (s : ℕ) → Says (ltb s (next_count t shape row)) (Used t shape row s)
  used_says s =
      elim (test (is_stop o t row)) [
        | inl e ↦ rw e (λ l. absurd (not-suc-le-zero (ltb-true s 0 l)), λ u. absurd (u.0 (eqb-true (first_cell o t row) stop_cell e)))
        | inr f ↦ rw f (λ l. (eqb-false (first_cell o t row) stop_cell f, ltb-true s (2 ^ shape.observed) l), λ u. lt-ltb s (2 ^ shape.observed) u.1)
      ]

  unused : (s : ℕ) → ltb s (next_count t shape row) ≡ false → Unused t shape row s
  unused s e =
      elim (test (is_stop o t row)) [
        | inl i ↦ inl (eqb-true (first_cell o t row) stop_cell i)
        | inr f ↦ inr (ltb-false s (2 ^ shape.observed) (rw f at e))
      ]

  -- a statement on each observation that the row has cells for
  each_says : (each : ℕ → Bool) (Each : ℕ → Type 0) → ((s : ℕ) → Says (each s) (Each s))
      → Says (all (next_count t shape row) each) ((s : ℕ) → Used t shape row s → Each s)
  each_says each Each says =
      let p = all_says (next_count t shape row) each Each says in (
        λ e s u. p.0 e s (ltb-true s (next_count t shape row) ((used_says s).1 u)),
        λ f. p.1 (λ s h. f s ((used_says s).0 (lt-ltb s (next_count t shape row) h))),
      )

  fits_says : Says (rank_fits t shape row) (RankFits t shape row)
  fits_says =
      let rank = rank_cell o t row in
      elim (test (is_stop o t row)) [
        | inl e ↦
            let stop = eqb-true (first_cell o t row) stop_cell e in
            let p = says_and (lt_says rank shape.rows) (zero_says rank) in
            rw e (λ b. record { below = (p.0 b).0; stops = λ h. (p.0 b).1; goes = λ n. absurd (n stop) }, λ f. p.1 (f.below, f.stops stop))
        | inr g ↦
            let goes = eqb-false (first_cell o t row) stop_cell g in
            let p = says_and (lt_says rank shape.rows) (lt_says 0 rank) in
            rw g (λ b. record { below = (p.0 b).0; stops = λ h. absurd (goes h); goes = λ n. (p.0 b).1 }, λ f. p.1 (f.below, f.goes goes))
      ]

module _ (t : List ℕ) (shape : Shape) (row : ℕ) where
  -- an observation's own cells, and the rank of its next row by itself
  abbrev Leading : ℕ → Type 0
  Leading s = GoesOn t shape row s × RankFits t shape (next_cell shape.order t row s)

  pair_says : (s : ℕ) → Says (is_pair t shape row s) (Leading s)
  pair_says s =
      let next = next_cell shape.order t row s in
      let p = says_and (lt_says (choice_cell shape.order t row s) side_limit)
      (says_and (says_and (lt_says next shape.rows) (first_says shape.order (first_cell shape.order t next))) (fits_says t shape next)) in (
        λ e. let q = p.0 e in (record { choice = q.0; next = q.1.0.0; first = q.1.0.1 }, q.1.1),
        λ g. p.1 (g.0.choice, ((g.0.next, g.0.first), g.1)),
      )

  leads_tests : Says (leads_on t shape row) (IsFirst shape.order (first_cell shape.order t row) × ((s : ℕ) → Used t shape row s → Leading s))
  unfolding leads_on
  leads_tests = says_and (first_says shape.order (first_cell shape.order t row)) (each_says t shape row (is_pair t shape row) Leading pair_says)

  -- what the tests of ranks ask
  pub leads_asks : leads_on t shape row ≡ true → Leads t shape row
  leads_asks e s h =
      ((leads_tests.0 e).1 s ((used_says t shape row s).0 (lt-ltb s (next_count t shape row) h))).0.next

  ranked_tests : Says (is_ranked t shape row)
      (RankFits t shape row × ((s : ℕ) → Used t shape row s → rank_cell shape.order t (next_cell shape.order t row s) < rank_cell shape.order t row))
  unfolding is_ranked
  ranked_tests =
      says_and (fits_says t shape row) (each_says t shape row (is_lower t shape row) _
      (λ s. lt_says (rank_cell shape.order t (next_cell shape.order t row s)) (rank_cell shape.order t row)))

  pub ranked_says : Says (is_ranked t shape row) (RankedRow t shape row)
  ranked_says = (
    λ e. let p = ranked_tests.0 e in record { own = p.0; lower = p.1 },
    λ r. ranked_tests.1 (r.own, r.lower),
  )

  row_tests : Says (is_row t shape row)
      ((IsFirst shape.order (first_cell shape.order t row) × ((s : ℕ) → Used t shape row s → Leading s)) × RankedRow t shape row)
  unfolding is_row
  row_tests = says_and leads_tests ranked_says

  pub row_says : Says (is_row t shape row) (GoodRow t shape row)
  row_says = (
    λ e. let ((first, leading), ranked) = row_tests.0 e in
        record { formed = record { first = first; goes = λ s u. (leading s u).0 }; ranked = ranked; next = λ s u. (leading s u).1 },
    λ g. row_tests.1 ((g.formed.first, λ s u. (g.formed.goes s u, g.next s u)), g.ranked),
  )

  abbrev Kept : ℕ → Type 0
  Kept s = Unused t shape row s → Blank shape.order t row s

  blank_at_lem : (s : ℕ) → Says (ltb s (next_count t shape row) || is_blank_at shape.order t row s) (Kept s)
  blank_at_lem s = (to, from)
    where
      to : (ltb s (next_count t shape row) || is_blank_at shape.order t row s) ≡ true → Kept s
      to e u =
          elim (or_cases (ltb s (next_count t shape row)) (is_blank_at shape.order t row s) e) [
            | inl l ↦ let (m, h) = (used_says t shape row s).0 l in absurd (elim u [ inl i ↦ m i | inr l ↦ omega arith ])
            | inr z ↦ (blank_says shape.order t row s).0 z
          ]

      from : Kept s → (ltb s (next_count t shape row) || is_blank_at shape.order t row s) ≡ true
      from z =
          elim (test (ltb s (next_count t shape row))) [
            | inl l ↦ or_intro_left (is_blank_at shape.order t row s) l
            | inr f ↦ or_intro_right (ltb s (next_count t shape row)) ((blank_says shape.order t row s).1 (z (unused t shape row s f)))
          ]

  print_tests : Says (is_printable_row t shape row) (GoodRow t shape row × ((s : ℕ) → s < side_limit → Kept s))
  unfolding is_printable_row is_blank
  print_tests = says_and row_says (all_says side_limit (λ s. ltb s (next_count t shape row) || is_blank_at shape.order t row s) Kept blank_at_lem)

module _ (t : List ℕ) (shape : Shape) (worst : ℕ) where
  -- a row of a table whose rows are all as they must be
  pub printable_row : Printable t shape worst → (row : ℕ) → row < shape.rows → GoodRow t shape row
  printable_row p row h =
      let formed = (p.shaped.each row h).formed in
      record { formed = formed; ranked = p.ranked row h; next = λ s u. (p.ranked _ (formed.goes s u).next).own }

  abbrev PrintedRow : ℕ → Type 0
  PrintedRow row = GoodRow t shape row × ((s : ℕ) → s < side_limit → Unused t shape row s → Blank shape.order t row s)

  three : Says (is_printable t shape worst)
      ((Sized (length t) shape × (rank_cell shape.order t 0 ≡ worst)) × ((row : ℕ) → row < shape.rows → PrintedRow row))
  unfolding is_printable
  three =
      says_and (says_and (sized_says (length t) shape) (eqb_says (rank_cell shape.order t 0) worst))
      (all_says shape.rows (is_printable_row t shape) PrintedRow (print_tests t shape))

  pub printable_says : Says (is_printable t shape worst) (Printable t shape worst)
  printable_says = (to, from)
    where
      to : is_printable t shape worst ≡ true → Printable t shape worst
      to e =
          let ((sized, first), each) = three.0 e in
          record {
            shaped = record {
              sized = sized;
              below = subst (λ (w : ℕ). w < shape.rows) first (each 0 sized.some).0.ranked.own.below;
              each = λ row h.
                  let (good, blank) = each row h in
                  record { formed = good.formed; blank = blank; rank = omega (arith, good.ranked.own.below, sized.few) };
            };
            first = first;
            ranked = λ row h. (each row h).0.ranked;
          }

      from : Printable t shape worst → is_printable t shape worst ≡ true
      from p = three.1 ((p.shaped.sized, p.first), λ row h. (printable_row p row h, (p.shaped.each row h).blank))

  -- of a table whose sizes are as they must be, by the rank of row 0
  module _ (sized : Sized (length t) shape) where
    pub printable_rows : rank_cell shape.order t 0 ≡ worst → all shape.rows (is_printable_row t shape) ≡ is_printable t shape worst
    unfolding is_printable
    printable_rows e = rw ((sized_says (length t) shape).1 sized, eq-eqb _ worst e) refl

    pub printable_not : (x : ℕ) → x ≡ rank_cell shape.order t 0 → (x ≡ worst → ⊥) → eqb x worst ≡ is_printable t shape worst
    unfolding is_printable
    printable_not x rank ne = rw ((sized_says (length t) shape).1 sized, sym rank, ne_eqb x worst ne) refl

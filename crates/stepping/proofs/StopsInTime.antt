-- A cabinet stops in time: a step that is answered leads to a lower rank, whatever the table; and where it may stand on every row, it is
-- refused nothing before it stops, and stops within the rank of the row where it stands.
-- Assumes nothing.
use Rattle.std.specs.Prelude.{Ok}
use Prim.Native.Nat.{ℕ, zero, suc, ◌+◌, ◌^◌, ◌≤◌, ◌<◌, zero-le}
use native.Mathlib.Nat.{le_refl}
use native.Mathlib.Omega.{arith}
use mathlib.Core.Path.{◌≡◌, refl, sym, ap, subst}
use mathlib.Core.Logic.{inl, inr}
use mathlib.Core.Bool.{true, false}
use mathlib.Core.List.{List, [], ◌∷◌}
use borrow.Author.Tests.{eqb-false}
use Rattle.basics.specs.declared.order.Order.{Order}
use Rattle.basics.specs.declared.order.Order.TheVariants.{Set, Read}
use Rattle.basics.proofs.Booleans.{test}
use Rattle.lines.specs.Refusal.{Told, values}
use Rattle.lines.proofs.RefusalLaws.{told_apart}
use Rattle.play.specs.Cells.{stop_cell, first_cell, is_stop, next_cell, rank_cell}
use Rattle.tables.specs.declared.shape.Shape.{Shape}
use Rattle.stepping.specs.declared.position.Position.{Position}
use Rattle.stepping.specs.Position.{start_of, step_of, is_stopped, left_of, told_answer, Standing, start_choice, step_choice, started}
use Rattle.stepping.specs.Position.{Held, Holds, SteppedAs, bad_place, stopped, bad_observation, moved}
use Rattle.stepping.specs.Stopping.{AllPossible, position_after, StopsWithin}
use Rattle.stepping.proofs.PositionLaws.{holding_says}
use Rattle.stepping.proofs.AnswersDue.{start_iff, step_due, step_iff}

-- the standing choice is the row's after a start, and after a step
start_held : (o : Order) (t : List ℕ) → Held o t (record { row = 0; choice = start_choice o t })
start_held Set t = refl
start_held Read t = tt

step_held : (o : Order) (t : List ℕ) (row s : ℕ) → Held o t (record { row = next_cell o t row s; choice = step_choice o t row s })
step_held Set t row s = refl
step_held Read t row s = tt

-- ---- any table

module _ (t : List ℕ) (shape : Shape) where
  abbrev rank : Position → ℕ
  rank p = rank_cell shape.order t p.row

  -- a step that is answered lowers the rank
  pub step_lowers : (s c : ℕ) (p : Position) → told_answer (step_of t shape s p).answer ≡ values (c ∷ []) → rank (step_of t shape s p).position < rank p
  step_lowers s c p = at (told_answer (step_of t shape s p).answer) (step_of t shape s p).position (step_due t shape s p)
    where
      at : (a : Told) (q : Position) → SteppedAs t shape s p a q → a ≡ values (c ∷ []) → rank q < rank p
      at a q (bad_place n) e = told_apart e
      at a q (stopped h o) e = told_apart e
      at a q (bad_observation h n o) e = told_apart e
      at a q (moved h n o) e = h.0.good.ranked.lower s (n, o)

  -- the number that is shown
  shown_there : (p : Position) → Holds t shape p → left_of t shape p ≡ Ok (rank p)
  unfolding left_of
  shown_there p h = rw ((holding_says t shape p).1 h) refl

  stopped_there : (p : Position) → Holds t shape p → is_stopped t shape p ≡ is_stop shape.order t p.row
  unfolding is_stopped
  stopped_there p h = rw ((holding_says t shape p).1 h) refl

-- ---- a table on whose every row the cabinet may stand

module _ (t : List ℕ) (shape : Shape) (stands : (row : ℕ) → row < shape.rows → Standing t shape row) where
  -- it stands on a row after a start, and after every step
  pub start_holds : 0 < shape.rows → (old : Position) → Holds t shape (start_of t shape old).position
  start_holds some old =
      subst (Holds t shape) (sym ((start_iff t shape old _ _).1 (started (stands 0 some))).1) (stands 0 some, start_held shape.order t)

  holds_on : (s : ℕ) (p : Position) → Holds t shape p → (a : Told) (q : Position) → SteppedAs t shape s p a q → Holds t shape q
  holds_on s p h a q (bad_place n) = h
  holds_on s p h a q (stopped k e) = h
  holds_on s p h a q (bad_observation k n o) = h
  holds_on s p h a q (moved k n o) =
      (stands (next_cell shape.order t p.row s) (h.0.good.formed.goes s (n, o)).next, step_held shape.order t p.row s)

  pub step_holds : (s : ℕ) (p : Position) → Holds t shape p → Holds t shape (step_of t shape s p).position
  step_holds s p h = holds_on s p h (told_answer (step_of t shape s p).answer) (step_of t shape s p).position (step_due t shape s p)

  -- where it has stopped
  stops_here : (observation : ℕ → ℕ) (p : Position) → Holds t shape p → is_stop shape.order t p.row ≡ true
      → StopsWithin t shape observation p (rank t shape p)
  stops_here observation p h e =
      record {
        steps = 0;
        within = zero-le;
        goes = λ k l. absurd (omega arith);
        stops = rw (stopped_there t shape p h, e) refl;
        shown = λ k l.
            let z : 0 ≡ k = omega arith in
            subst (λ (k : ℕ). (left : ℕ) × (left_of t shape (position_after t shape observation p k) ≡ Ok left) × (0 ≤ k + left)) z
            (rank t shape p, shown_there t shape p h, zero-le);
      }

  -- one step more
  module _ (observation : ℕ → ℕ) (p : Position) (h : Holds t shape p) (e : is_stop shape.order t p.row ≡ false)
      (possible : observation 0 < 2 ^ shape.observed) where
    abbrev after : Position
    after = (step_of t shape (observation 0) p).position

    answers : told_answer (step_of t shape (observation 0) p).answer ≡ values (step_choice shape.order t p.row (observation 0) ∷ [])
    answers = ((step_iff t shape (observation 0) p _ _).1 (moved h (eqb-false (first_cell shape.order t p.row) stop_cell e) possible)).0

    lowers : rank t shape after < rank t shape p
    lowers = step_lowers t shape (observation 0) _ p answers

    stops_next : StopsWithin t shape (λ k. observation (suc k)) after (rank t shape after) → StopsWithin t shape observation p (rank t shape p)
    stops_next w =
        record {
          steps = suc w.steps;
          within = omega (arith, w.within, lowers);
          goes = goes;
          stops = w.stops;
          shown = shown;
        }
      where
        goes : (k : ℕ) → k < suc w.steps
            → (is_stopped t shape (position_after t shape observation p k) ≡ false)
            × (c : ℕ) × (told_answer (step_of t shape (observation k) (position_after t shape observation p k)).answer ≡ values (c ∷ []))
        goes zero l = (rw (stopped_there t shape p h, e) refl, _, answers)
        goes (suc k) l = w.goes k (omega arith)

        shown : (k : ℕ) → k ≤ suc w.steps
            → (left : ℕ) × (left_of t shape (position_after t shape observation p k) ≡ Ok left) × (suc w.steps ≤ k + left)
        shown zero l = (rank t shape p, shown_there t shape p h, omega (arith, w.within, lowers))
        shown (suc k) l = let (left, q, b) = w.shown k (omega arith) in (left, q, omega arith)

  stops_below : (r : ℕ) (observation : ℕ → ℕ) → AllPossible shape observation → (p : Position) → Holds t shape p → rank t shape p < r
      → StopsWithin t shape observation p (rank t shape p)
  stops_below zero observation possible p h b = absurd (omega arith)
  stops_below (suc r) observation possible p h b =
      elim (test (is_stop shape.order t p.row)) [
        | inl e ↦ stops_here observation p h e
        | inr f ↦
            let q = (step_of t shape (observation 0) p).position in
            stops_next observation p h f (possible 0)
            (stops_below r (λ k. observation (suc k)) (λ k. possible (suc k)) q (step_holds (observation 0) p h)
            (omega (arith, lowers observation p h f (possible 0))))
      ]

  -- from wherever it stands, within the rank of the row
  pub stops_from : (observation : ℕ → ℕ) → AllPossible shape observation → (p : Position) → Holds t shape p
      → StopsWithin t shape observation p (rank t shape p)
  stops_from observation possible p h = stops_below (suc (rank t shape p)) observation possible p h (le_refl _)

  -- started, within that of row 0
  pub stops_started : 0 < shape.rows → (observation : ℕ → ℕ) → AllPossible shape observation → (old : Position)
      → (c : ℕ) × (told_answer (start_of t shape old).answer ≡ values (c ∷ []))
      × StopsWithin t shape observation (start_of t shape old).position (rank_cell shape.order t 0)
  stops_started some observation possible old =
      let (a, q) = (start_iff t shape old _ _).1 (started (stands 0 some)) in
      let row : (start_of t shape old).position.row ≡ 0 = ap (λ (p : Position). p.row) q in (
        start_choice shape.order t,
        a,
        subst (λ (k : ℕ). StopsWithin t shape observation (start_of t shape old).position (rank_cell shape.order t k)) row
            (stops_from observation possible (start_of t shape old).position (start_holds some old)),
      )

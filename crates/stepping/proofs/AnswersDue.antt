-- What a start and a step answer is what is due, and what is due is what they answer.
-- Assumes nothing.
use Rattle.std.specs.Prelude.{Ok}
use Prim.Native.Nat.{ℕ, ◌^◌, ◌<◌}
use native.Mathlib.Omega.{arith}
use mathlib.Core.Path.{◌≡◌, refl, sym, ap, subst}
use mathlib.Core.Logic.{◌↔◌, inl, inr}
use mathlib.Core.Bool.{Bool, true, false}
use mathlib.Core.List.{List, [], ◌∷◌}
use lib.Dec.{eqb, ltb}
use borrow.Author.Tests.{eqb-true, eqb-false, ltb-true, ltb-false, lt-ltb, le-ltb}
use Rattle.basics.specs.Says.{Says}
use Rattle.basics.proofs.Booleans.{test, clash}
use Rattle.basics.proofs.SaysLaws.{says_and, says_false, eqb_says}
use Rattle.lines.specs.Refusal.{Told, values, refused}
use Rattle.lines.proofs.RefusalLaws.{told_apart, one_number}
use Rattle.basics.specs.declared.order.Order.{Order}
use Rattle.basics.specs.declared.order.Order.TheVariants.{Set, Read}
use Rattle.play.specs.Cells.{stop_cell, first_cell, is_stop, next_cell, rank_cell}
use Rattle.tables.specs.declared.shape.Shape.{Shape}
use Rattle.stepping.specs.declared.position.Position.{Position}
use Rattle.stepping.specs.declared.position.Moved.{Moved}
use Rattle.stepping.specs.Position.{answer_of, start_at, move_from, is_standing, is_holding, start_of, step_of, is_stopped, left_of, told_answer, told_left}
use Rattle.stepping.specs.Position.{start_choice, step_choice, StartedAs, bad_start, started}
use Rattle.stepping.specs.Position.{Holds, OnStop, SteppedAs, bad_place, stopped, bad_observation, moved, LeftAs, no_place, shown}
use Rattle.stepping.proofs.PositionLaws.{standing_says, holding_says, in_side, next_in}

told_of : (c : ℕ) → told_answer (Ok (answer_of c)) ≡ values (c ∷ [])
told_of c =
    elim (test (eqb c stop_cell)) [
      | inl t ↦ rw t (ap (λ d. values (d ∷ [])) (sym (eqb-true c stop_cell t)))
      | inr f ↦ rw f refl
    ]

-- ---- the start

told_start : (o : Order) (t : List ℕ)
    → (told_answer (start_at o t).answer ≡ values (start_choice o t ∷ [])) × ((start_at o t).position ≡ record { row = 0; choice = start_choice o t })
told_start Set t = (told_of (first_cell Set t 0), refl)
told_start Read t = (elim (test (is_stop Read t 0)) [ inl e ↦ rw e refl | inr f ↦ rw f refl ], refl)

module _ (t : List ℕ) (shape : Shape) (p : Position) where
  pub start_due : StartedAs t shape p (told_answer (start_of t shape p).answer) (start_of t shape p).position
  unfolding start_of
  start_due =
      let (a, q) = told_start shape.order t in
      elim (test (is_standing t shape 0)) [
        | inl e ↦ rw (e, a, q) (started ((standing_says t shape 0).0 e))
        | inr f ↦ rw f (bad_start (λ w. clash ((standing_says t shape 0).1 w) f))
      ]

  pub start_told : (m : Moved) → m ≡ start_of t shape p → (m ≡ start_of t shape p) × StartedAs t shape p (told_answer m.answer) m.position
  start_told m e = (e, rw e start_due)

  start_answered : (a : Told) (q : Position) → StartedAs t shape p a q → (told_answer (start_of t shape p).answer ≡ a) × ((start_of t shape p).position ≡ q)
  unfolding start_of
  start_answered a q (bad_start n) = rw (says_false (standing_says t shape 0) n) (refl, refl)
  start_answered a q (started w) = rw ((standing_says t shape 0).1 w) (told_start shape.order t)

  pub start_iff : (a : Told) (q : Position)
      → ((told_answer (start_of t shape p).answer ≡ a) × ((start_of t shape p).position ≡ q)) ↔ StartedAs t shape p a q
  start_iff a q =
      (λ e. subst (StartedAs t shape p a) e.1 (subst (λ b. StartedAs t shape p b (start_of t shape p).position) e.0 start_due), start_answered a q)

-- ---- a step

told_step : (o : Order) (t : List ℕ) (row s : ℕ) → (told_answer (move_from o t row s).answer ≡ values (step_choice o t row s ∷ []))
    × ((move_from o t row s).position ≡ record { row = next_cell o t row s; choice = step_choice o t row s })
told_step Set t row s = (told_of (first_cell Set t (next_cell Set t row s)), refl)
told_step Read t row s = (refl, refl)

module _ (t : List ℕ) (shape : Shape) (observation : ℕ) (p : Position) where
  abbrev there : Bool
  there = is_holding t shape p

  abbrev on_stop : Bool
  on_stop = is_stop shape.order t p.row

  abbrev first : ℕ
  first = first_cell shape.order t p.row

  holds_says : Says there (Holds t shape p)
  holds_says = holding_says t shape p

  stop_says : Says on_stop (OnStop t shape p)
  stop_says = eqb_says first stop_cell

  pub step_due : SteppedAs t shape observation p (told_answer (step_of t shape observation p).answer) (step_of t shape observation p).position
  unfolding step_of
  step_due =
      let (a, q) = told_step shape.order t p.row observation in
      elim (test there) [
        | inr f ↦ rw f (bad_place (λ h. clash (holds_says.1 h) f))
        | inl e ↦
            elim (test on_stop) [
              | inl s ↦ rw (e, s) (stopped (holds_says.0 e) (stop_says.0 s))
              | inr g ↦
                  elim (test (ltb observation (2 ^ shape.observed))) [
                    | inl o ↦ rw (e, g, o, a, q) (moved (holds_says.0 e) (eqb-false first stop_cell g) (ltb-true observation (2 ^ shape.observed) o))
                    | inr o ↦ rw (e, g, o) (bad_observation (holds_says.0 e) (eqb-false first stop_cell g) (ltb-false observation (2 ^ shape.observed) o))
                  ]
            ]
      ]

  pub step_told : (m : Moved) → m ≡ step_of t shape observation p
      → (m ≡ step_of t shape observation p) × SteppedAs t shape observation p (told_answer m.answer) m.position
  step_told m e = (e, rw e step_due)

  pub step_moves : is_holding t shape p ≡ true → (¬ OnStop t shape p) → observation < 2 ^ shape.observed
      → step_of t shape observation p ≡ move_from shape.order t p.row observation
  unfolding step_of
  step_moves e n o = rw (e, says_false stop_says n, lt-ltb observation (2 ^ shape.observed) o) refl

  step_answered : (a : Told) (q : Position) → SteppedAs t shape observation p a q
      → (told_answer (step_of t shape observation p).answer ≡ a) × ((step_of t shape observation p).position ≡ q)
  unfolding step_of
  step_answered a q (bad_place n) = rw (says_false holds_says n) (refl, refl)
  step_answered a q (stopped h s) = rw (holds_says.1 h, stop_says.1 s) (refl, refl)
  step_answered a q (bad_observation h n o) =
      rw (holds_says.1 h, says_false stop_says n, le-ltb observation (2 ^ shape.observed) o) (refl, refl)
  step_answered a q (moved h n o) =
      rw (holds_says.1 h, says_false stop_says n, lt-ltb observation (2 ^ shape.observed) o) (told_step shape.order t p.row observation)

  pub step_iff : (a : Told) (q : Position)
      → ((told_answer (step_of t shape observation p).answer ≡ a) × ((step_of t shape observation p).position ≡ q)) ↔ SteppedAs t shape observation p a q
  step_iff a q = (
    λ e. subst (SteppedAs t shape observation p a) e.1
        (subst (λ b. SteppedAs t shape observation p b (step_of t shape observation p).position) e.0 step_due),
    step_answered a q,
  )

  -- refused with 14: on a stop row, whatever the observation
  stopped_says : Says (is_stopped t shape p) (Holds t shape p × OnStop t shape p)
  unfolding is_stopped
  stopped_says = says_and holds_says stop_says

  refused_there : (a : Told) (q : Position) → SteppedAs t shape observation p a q → a ≡ refused 14 0 → Holds t shape p × OnStop t shape p
  refused_there a q (bad_place n) e = absurd (omega (arith, one_number e))
  refused_there a q (stopped h s) e = (h, s)
  refused_there a q (bad_observation h n o) e = absurd (omega (arith, one_number e))
  refused_there a q (moved h n o) e = told_apart (sym e)

  pub stopped_iff : (is_stopped t shape p ≡ true) ↔ (told_answer (step_of t shape observation p).answer ≡ refused 14 0)
  stopped_iff = (
    λ e. let (h, s) = stopped_says.0 e in (step_answered (refused 14 0) p (stopped h s)).0,
    λ e. stopped_says.1 (refused_there (told_answer (step_of t shape observation p).answer) (step_of t shape observation p).position step_due e),
  )

-- ---- the steps left

module _ (t : List ℕ) (shape : Shape) (p : Position) where
  pub left_there : is_holding t shape p ≡ true → LeftAs t shape p (values (rank_cell shape.order t p.row ∷ []))
  left_there e = shown ((holding_says t shape p).0 e)

  pub left_nowhere : is_holding t shape p ≡ false → LeftAs t shape p (refused 13 0)
  left_nowhere f = no_place (λ h. clash ((holding_says t shape p).1 h) f)

  left_due : LeftAs t shape p (told_left (left_of t shape p))
  unfolding left_of
  left_due =
      elim (test (is_holding t shape p)) [
        | inl e ↦ rw e (left_there e)
        | inr f ↦ rw f (left_nowhere f)
      ]

  left_answered : (a : Told) → LeftAs t shape p a → told_left (left_of t shape p) ≡ a
  unfolding left_of
  left_answered a (no_place n) = rw (says_false (holding_says t shape p) n) refl
  left_answered a (shown h) = rw ((holding_says t shape p).1 h) refl

  pub left_iff : (a : Told) → (told_left (left_of t shape p) ≡ a) ↔ LeftAs t shape p a
  left_iff a = (λ e. subst (LeftAs t shape p) e left_due, left_answered a)

-- ---- what the calls by value are proved by

pub ruleset step_laws = (step_told, step_moves, in_side, next_in)

pub ruleset left_laws = (left_there, left_nowhere)

-- The cabinet (REFERENCE.md, The cabinet): its position (a place in the trade's words), what its calls answer and make of it, what is due.
-- Assumes nothing.
use Rattle.std.specs.Prelude.{ℕ, ◌^◌, ◌≤◌, ◌<◌, ◌≡◌, Bool, true, cond, ◌&&◌, List, [], ◌∷◌, eqb, ltb, length, Err, Ok, Result}
use Rattle.lines.specs.declared.refusal.Refusal.{Refusal}
use Rattle.lines.specs.declared.refusal.Refusal.TheVariants.{BadTable, Stopped, BadObservation}
use Rattle.lines.specs.Refusal.{Told, values, refused, told_refusal}
use Rattle.basics.specs.declared.order.Order.{Order}
use Rattle.basics.specs.declared.order.Order.TheVariants.{Set, Read}
use Rattle.play.specs.Cells.{stop_cell, first_cell, is_stop, choice_cell, next_cell, rank_cell}
use Rattle.tables.specs.declared.shape.Shape.{Shape}
use Rattle.stepping.specs.declared.position.Position.{Position}
use Rattle.stepping.specs.declared.position.Answer.{Answer}
use Rattle.stepping.specs.declared.position.Answer.TheVariants.{Choice, Stop, Ready}
use Rattle.stepping.specs.declared.position.Moved.{Moved}
use Rattle.wellformed.specs.WellFormed.{Sized, GoodRow, is_sized, is_row}

-- the answer for a row's first cell under `Set`: 65535 is stop, another number a choice
abbrev pub answer_of : ℕ → Answer
answer_of c = cond (eqb c stop_cell) Stop (Choice c)

-- under `Set`, on a row: its first cell is the standing choice, and answered
abbrev pub move_to : List ℕ → ℕ → Moved
move_to t row = record { position = record { row = row; choice = first_cell Set t row }; answer = Ok (answer_of (first_cell Set t row)) }

-- under `Read`, on row 0: no choice is set yet; the answer is that the cabinet is ready for an observation, or stop
abbrev pub get_ready : List ℕ → Moved
get_ready t = record { position = record { row = 0; choice = stop_cell }; answer = Ok (cond (is_stop Read t 0) Stop Ready) }

-- on row 0
abbrev pub start_at : Order → List ℕ → Moved
start_at Set t = move_to t 0
start_at Read t = get_ready t

-- from a row, by an observation, on to its next row: under `Set` with that row's choice; under `Read` with the old row's choice for the
-- observation, which is answered also where the next row stops
abbrev pub move_from : Order → List ℕ → (row observation : ℕ) → Moved
move_from Set t row s = move_to t (next_cell Set t row s)
move_from Read t row s =
    let c = choice_cell Read t row s in
    record { position = record { row = next_cell Read t row s; choice = c }; answer = Ok (Choice c) }

-- a refusal leaves the position as it was
abbrev pub refused_at : Position → Refusal → Moved
refused_at p r = record { position = p; answer = Err r }

-- the tests of number 13 for a row that the cabinet stands on
abbrev pub is_standing : List ℕ → Shape → ℕ → Bool
is_standing t shape row = is_sized (length t) shape && ltb row shape.rows && is_row t shape row

-- the standing choice is the row's; under `Read` it is not compared
abbrev pub is_held : Order → List ℕ → Position → Bool
is_held Set t p = eqb (first_cell Set t p.row) p.choice
is_held Read t p = true

-- the tests of number 13 for a position
abbrev pub is_holding : List ℕ → Shape → Position → Bool
is_holding t shape p = is_standing t shape p.row && is_held shape.order t p

-- a start ignores the old position, and is tested at row 0
unfoldable pub start_of : List ℕ → Shape → Position → Moved
start_of t shape p = cond (is_standing t shape 0) (start_at shape.order t) (refused_at p BadTable)

-- 13, 14, 15 in this order; then on to the next row for the observation
unfoldable pub step_of : List ℕ → Shape → ℕ → Position → Moved
step_of t shape observation p =
    cond (is_holding t shape p)
    (cond (is_stop shape.order t p.row) (refused_at p Stopped)
    (cond (ltb observation (2 ^ shape.observed)) (move_from shape.order t p.row observation) (refused_at p BadObservation)))
    (refused_at p BadTable)

-- the cabinet stands on a stop row: it asks for no observation, and refuses one with 14
unfoldable pub is_stopped : List ℕ → Shape → Position → Bool
is_stopped t shape p = is_holding t shape p && is_stop shape.order t p.row

-- how many steps are left at most: the rank of its row
unfoldable pub left_of : List ℕ → Shape → Position → Result ℕ Refusal
left_of t shape p = cond (is_holding t shape p) (Ok (rank_cell shape.order t p.row)) (Err BadTable)

-- ---- what is due: the answer in the reference's terms, and the position afterwards

-- a choice, 65535 for stop and where nothing is set yet; or a refusal's number and place
abbrev pub told_answer : Result Answer Refusal → Told
told_answer (Ok (Choice c)) = values (c ∷ [])
told_answer (Ok Stop) = values (stop_cell ∷ [])
told_answer (Ok Ready) = values (stop_cell ∷ [])
told_answer (Err r) = told_refusal r

abbrev pub told_left : Result ℕ Refusal → Told
told_left (Ok r) = values (r ∷ [])
told_left (Err r) = told_refusal r

-- number 13 is not met where the cabinet stands: in the table's sizes, in the row, and in the next rows that it may lead to
pub record Standing (t : List ℕ) (shape : Shape) (row : ℕ) : Type 0 where
  pub sized : Sized (length t) shape
  pub inside : row < shape.rows
  pub good : GoodRow t shape row

-- the choice that stands after a start, and after a step from a row
abbrev pub start_choice : Order → List ℕ → ℕ
start_choice Set t = first_cell Set t 0
start_choice Read t = stop_cell

abbrev pub step_choice : Order → List ℕ → (row observation : ℕ) → ℕ
step_choice Set t row s = first_cell Set t (next_cell Set t row s)
step_choice Read t row s = choice_cell Read t row s

pub data StartedAs (t : List ℕ) (shape : Shape) (p : Position) : Told → Position → Type 0 where
  bad_start : (¬ Standing t shape 0) → StartedAs t shape p (refused 13 0) p
  started : Standing t shape 0
      → StartedAs t shape p (values (start_choice shape.order t ∷ [])) (record { row = 0; choice = start_choice shape.order t })

-- under `Set` the standing choice is the row's
abbrev pub Held : Order → List ℕ → Position → Type 0
Held Set t p = first_cell Set t p.row ≡ p.choice
Held Read t p = Unit {0}

-- number 13 is not met at a position
abbrev pub Holds : List ℕ → Shape → Position → Type 0
Holds t shape p = Standing t shape p.row × Held shape.order t p

-- its row is a stop row
abbrev pub OnStop : List ℕ → Shape → Position → Type 0
OnStop t shape p = first_cell shape.order t p.row ≡ stop_cell

pub data SteppedAs (t : List ℕ) (shape : Shape) (observation : ℕ) (p : Position) : Told → Position → Type 0 where
  bad_place : (¬ Holds t shape p) → SteppedAs t shape observation p (refused 13 0) p
  stopped : Holds t shape p → OnStop t shape p → SteppedAs t shape observation p (refused 14 0) p
  bad_observation : Holds t shape p → (¬ OnStop t shape p) → 2 ^ shape.observed ≤ observation
      → SteppedAs t shape observation p (refused 15 0) p
  moved : Holds t shape p → (¬ OnStop t shape p) → observation < 2 ^ shape.observed
      → SteppedAs t shape observation p (values (step_choice shape.order t p.row observation ∷ []))
      (record { row = next_cell shape.order t p.row observation; choice = step_choice shape.order t p.row observation })

pub data LeftAs (t : List ℕ) (shape : Shape) (p : Position) : Told → Type 0 where
  no_place : (¬ Holds t shape p) → LeftAs t shape p (refused 13 0)
  shown : Holds t shape p → LeftAs t shape p (values (rank_cell shape.order t p.row ∷ []))

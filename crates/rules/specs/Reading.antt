-- What reading a whole problem answers and leaves, and what is due.
-- Assumes nothing.
use Rattle.lines.specs.declared.refusal.Refusal.{Refusal}
use Rattle.std.specs.Prelude.{ℕ, ◌≡◌, List, [], ◌∷◌, length, replicate, Err, Ok, Result, Some}
use Rattle.lines.specs.declared.problem.Sizes.{Sizes}
use Rattle.formula.specs.Formula.{size, operators}
use Rattle.rules.specs.Problem.{Problem, formula_in, problem_parts, Outcome, accepted, refused}
use Rattle.basics.specs.Order.{order_number}
use Rattle.lines.specs.Memory.{stored_from, order_in}
use Rattle.lines.specs.Refusal.{Told, values, told_refusal}
use Rattle.lines.specs.Refusal as told
use Rattle.rules.specs.Denotes.{Denotes}
use Rattle.rules.specs.Refuses.{Refuses}

abbrev pub sizes_of : Problem → Sizes
sizes_of p =
    record {
      outputs = p.signals.outputs;
      observed = p.signals.observed;
      hidden = p.signals.hidden;
      parts = size (formula_in p);
      operators = operators (formula_in p);
      order = Some p.order;
    }

abbrev pub reading_of : Outcome → Result Sizes Refusal
reading_of (accepted p) = Ok (sizes_of p)
reading_of (refused r) = Err r

-- after a refusal the list is open: the whole call clears it
abbrev pub PartsRead : Outcome → List ℕ → List ℕ → Type 0
PartsRead (accepted p) q q' = q' ≡ stored_from (problem_parts p) 0 q
PartsRead (refused r) q q' = Unit {0}

-- the formula's parts at the front of the list, or a list that is all zero
abbrev pub parts_of_outcome : Outcome → List ℕ → List ℕ
parts_of_outcome (accepted p) q = stored_from (problem_parts p) 0 q
parts_of_outcome (refused r) q = replicate (length q) 0

-- ---- what is due

-- a reading in the reference's terms: how many output, observed and hidden signals, parts and temporal operators, and the order's number;
-- or a refusal's number and place
abbrev pub told_reading : Result Sizes Refusal → Told
told_reading (Ok s) = values (s.outputs ∷ s.observed ∷ s.hidden ∷ s.parts ∷ s.operators ∷ order_number (order_in s) ∷ [])
told_reading (Err r) = told_refusal r

-- what is told of a problem
abbrev pub told_problem : Problem → Told
told_problem p =
    values
    (p.signals.outputs ∷ p.signals.observed ∷ p.signals.hidden ∷ size (formula_in p) ∷ operators (formula_in p) ∷ order_number p.order ∷ [])

pub data ReadAs (source : List ℕ) : Told → Type 0 where
  denoted : (p : Problem) → Denotes source p → ReadAs source (told_problem p)
  bad_source : (number place : ℕ) → Refuses source number place → ReadAs source (told.refused number place)

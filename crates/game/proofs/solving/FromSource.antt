-- From the list that holds a problem's parts to the answer for its text.
-- Assumes nothing.
use Rattle.tables.specs.declared.shape.Table.{Table}
use Rattle.std.specs.Prelude.{Err, Result}
use Prim.Native.Nat.{ℕ, ◌≤◌, ◌<◌}
use native.Mathlib.Omega.{arith}
use mathlib.Core.Path.{◌≡◌, refl, sym, ap, ap₂, ◌∙◌, subst}
use mathlib.Core.List.{List}
use lib.ListN.{length, take}
use Rattle.lines.specs.declared.refusal.Refusal.{Refusal}
use Rattle.lines.specs.declared.problem.Sizes.{Sizes}
use Rattle.lines.specs.Memory.{order_in}
use Rattle.basics.specs.Limits.{operator_limit}
use Rattle.rules.specs.Reading.{reading_of, sizes_of}
use Rattle.formula.specs.Codes.{parts_in}
use Rattle.formula.specs.Parts.{part_at, arity}
use Rattle.rules.specs.Problem.{Outcome, problem_parts, accepted, refused}
use Rattle.rules.specs.Trace.{counts_of}
use Rattle.formula.proofs.CodesLaws.{length_in}
use Rattle.rules.proofs.JudgeLaws.{Taken, taken_length, taken_parts, some_parts, few_parts, few_signals, taken_ready}
use Rattle.rules.proofs.ProblemLaws.{inside, temporals_are}
use Rattle.obligations.specs.Obligation.{operators_of}
use Rattle.obligations.specs.Values.{Stored}
use Rattle.rules.proofs.ReadingLaws.{not_refused, same_refusal}
use Rattle.states.specs.Planes.{Sized}
use Rattle.obligations.proofs.OperatorSpots.{operators_are}
use Rattle.game.specs.Solution.{parts_solution, solution}
use Rattle.basics.specs.Lists.{padded, written}
use Rattle.obligations.specs.Letters.{letters_of}
use Rattle.search.specs.Limits.{state_limit}
use Rattle.search.specs.Memory.{sets_of}
use Rattle.states.specs.States.{states_of}
use Rattle.game.specs.SolvedAs.{solved_of, solved_from, cells_of, cells_from}
use Rattle.game.specs.StateMemory.{sets_from}

-- a refusal is handed on
pub refused_right : (o : Outcome) (r : Result Sizes Refusal) (x : Refusal) (table sets : List ℕ) → r ≡ reading_of o → r ≡ Err x
    → (Err x ≡ solved_from o) × ((table ≡ written (cells_from o) table) × (sets ≡ sets_from o sets))
refused_right (accepted p) r x table sets e h = not_refused x _ (sym h ∙ e)
refused_right (refused y) r x table sets e h = (ap Err (same_refusal x y (sym h ∙ e)), (refl, refl))

module _ {o : Outcome} {s : Sizes} {codes : List ℕ} (t : Taken o s codes) where
  -- the numbers of the formula's parts
  abbrev front : List ℕ
  front = take s.parts codes

  operators_taken : operators_of (parts_in front) ≡ (sizes_of t.problem).operators
  operators_taken = ap operators_of (taken_parts t) ∙ operators_are (problem_parts t.problem) ∙ temporals_are t.problem

  inside_taken : (i : ℕ) → i < length front → 1 ≤ arity (part_at (parts_in front) i).kind → (part_at (parts_in front) i).left < length front
  inside_taken i h = rw (← length_in front, taken_parts t) (inside t.problem i (rw (← taken_parts t, length_in front) h))

  pub stored_taken : Stored front
  stored_taken =
      record {
        ready = taken_ready t;
        inside = inside_taken;
        some = some_parts t;
        few = omega (arith, taken_length t, few_parts t);
        operators = subst (λ m. m ≤ operator_limit) (sym operators_taken) t.within.operators;
      }

  pub sized_taken : Sized front s
  sized_taken =
      record {
        operators_are = ap (λ (z : Sizes). z.operators) t.sizes ∙ sym operators_taken;
        outputs_few = (few_signals t).0;
        observed_few = (few_signals t).1;
        hidden_few = (few_signals t).2;
        signals_few = rw t.sizes t.within.few.total;
      }

  -- the answer for these parts and signals is that for the text
  pub source_right : (r : Result Table Refusal) (table table' sets sets' : List ℕ)
      → r ≡ solved_of (order_in s) s.observed (parts_solution (order_in s) (parts_in front) (counts_of s))
      → table' ≡ written (cells_of (parts_solution (order_in s) (parts_in front) (counts_of s))) table
      → sets' ≡ padded (length sets) (sets_of (states_of (parts_in front) (letters_of (counts_of s)) state_limit))
      → (r ≡ solved_from o) × ((table' ≡ written (cells_from o) table) × (sets' ≡ sets_from o sets))
  source_right r table table' sets sets' f g k =
      let same : parts_solution (order_in s) (parts_in front) (counts_of s) ≡ solution t.problem =
      ap₂ (λ (z : Sizes) ps. parts_solution (order_in z) ps (counts_of z)) t.sizes (taken_parts t) in
      rw t.is (
        f ∙ ap₂ (λ (z : Sizes) x. solved_of (order_in z) z.observed x) t.sizes same,
        (
          g ∙ ap (λ x. written (cells_of x) table) same,
          k ∙ ap₂ (λ (z : Sizes) ps. padded (length sets) (sets_of (states_of ps (letters_of (counts_of z)) state_limit))) t.sizes (taken_parts t),
        ),
      )

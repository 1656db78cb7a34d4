-- What crates above use of a problem's parts: how many there are, that each stands behind what its value reads, how many are temporal
-- operators, and that the last is true on a trace exactly where the trace satisfies the problem.
-- Assumes nothing.
use Prim.Native.Nat.{ℕ, ◌≤◌, ◌<◌}
use native.Mathlib.Omega.{arith}
use mathlib.Core.Path.{◌≡◌}
use mathlib.Core.Logic.{◌↔◌}
use mathlib.Core.Bool.{true}
use mathlib.Core.List.{[], ◌∷◌}
use lib.ListN.{length}
use Rattle.formula.specs.Parts.{temporals, parts_of, part_at, last_of, kinds_of, arity, AllReady}
use Rattle.formula.specs.Semantics.{Trace}
use Rattle.formula.specs.Values.{value_on}
use Rattle.rules.specs.Problem.{Problem, formula_in, problem_parts}
use Rattle.rules.specs.Reading.{sizes_of}
use Rattle.rules.specs.Satisfies.{Satisfies}
use Rattle.formula.proofs.FormulaValues.{value_parts}
use Rattle.formula.proofs.PartsLaws.{length_parts, parts_some, parts_ready, parts_inside}
use Rattle.formula.proofs.TemporalCount.{temporals_from}
use Rattle.rules.proofs.SatisfiesLaws.{holds_iff_satisfies}

module _ (p : Problem) where
  pub parts_counted : length (problem_parts p) ≡ (sizes_of p).parts
  parts_counted = length_parts (formula_in p)

  pub some_part : 0 < length (problem_parts p)
  some_part = parts_some (formula_in p)

  pub formed : AllReady (problem_parts p)
  formed = parts_ready (formula_in p)

  pub inside : (i : ℕ) → i < length (problem_parts p) → 1 ≤ arity (part_at (problem_parts p) i).kind
      → (part_at (problem_parts p) i).left < length (problem_parts p)
  inside = parts_inside (formula_in p)

  pub temporals_are : temporals (kinds_of (problem_parts p)) ≡ (sizes_of p).operators
  unfolding parts_of
  temporals_are = temporals_from (formula_in p) 0

  pub means : (π : Trace) → 0 < length π → (value_on (problem_parts p) π (last_of (problem_parts p)) ≡ true) ↔ Satisfies π p
  means [] h = absurd (omega arith)
  means (a ∷ π) h = rw (value_parts (formula_in p) (a ∷ π)) (holds_iff_satisfies p (a ∷ π) h)

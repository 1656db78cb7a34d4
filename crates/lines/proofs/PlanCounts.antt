-- A plan word has as many parts and temporal operators as its formula. Assumes nothing.
use Prim.Native.Nat.{◌-◌}
use native.Mathlib.Omega.{arith}
use mathlib.Core.Path.{◌≡◌}
use Rattle.syntax.specs.declared.plans.PlanWord.{PlanWord}
use Rattle.syntax.specs.declared.plans.PlanWord.TheVariants.{Once, Before, After, Within, During}
use Rattle.syntax.specs.Plans.{InRange, plan_size, plan_operators}
use Rattle.formula.specs.Formula.{Formula, size, operators}
use Rattle.formula.specs.Constraints.{hold}
use Rattle.formula.proofs.ConstraintsCounts.{soon_size, hold_size, delay_size, soon_operators, hold_operators, delay_operators}
use Rattle.lines.specs.Effect.{plan_formula}

pub plan_parts : (w : PlanWord) (φ ψ : Formula) → size (plan_formula w φ ψ) ≡ plan_size w (size φ) (size ψ)
unfolding size plan_size
plan_parts Once φ ψ = omega arith
plan_parts Before φ ψ = omega arith
plan_parts After φ ψ = omega arith
plan_parts (Within steps) φ ψ = let e = soon_size ψ steps in omega arith
plan_parts (During first last) φ ψ =
    let e = delay_size (hold (last - first) φ) (first - 1) in
    let f = hold_size φ (last - first) in
    omega arith

pub plan_operators_lem : (w : PlanWord) (φ ψ : Formula) → InRange w → operators φ ≡ 0 → operators ψ ≡ 0
    → operators (plan_formula w φ ψ) ≡ plan_operators w
unfolding operators plan_operators
plan_operators_lem Once φ ψ n a b = omega arith
plan_operators_lem Before φ ψ n a b = omega arith
plan_operators_lem After φ ψ n a b = omega arith
plan_operators_lem (Within steps) φ ψ n a b = let e = soon_operators ψ b steps in omega arith
plan_operators_lem (During first last) φ ψ (l, m, h) a b =
    let e = delay_operators (hold (last - first) φ) (first - 1) in
    let f = hold_operators φ a (last - first) in
    omega arith

-- Ranks are least worst cases, over any order, from any position and for any goal that it tracks.
-- Assumes nothing.
use Prim.Native.Nat.{ℕ, zero, suc, ◌≤◌, ◌<◌, zero-le}
use native.Mathlib.Nat.{le_refl}
use native.Mathlib.Omega.{arith}
use mathlib.Core.Path.{◌≡◌, subst}
use mathlib.Core.List.{List}
use Rattle.play.specs.Game.{Game, Play}
use Rattle.play.specs.Rank.{Arena}
use Rattle.play.proofs.StepOrder.{StepOrder}
use Rattle.play.proofs.RankLaws.{HasRank}
use Rattle.play.proofs.Plans.{Plan, PlanSteps, plan_run, WinsFor, Tracks, Legal, idle, steps_unique}
use Rattle.play.proofs.LowerBound.{lower}
use Rattle.play.proofs.UpperBound.{follow, Descends, follow_legal, upper}

-- a plan that wins with the least worst case, r
pub record BestPlan (G : Game) (O : StepOrder G.choices G.observations) (Φ : List ℕ → Type 0) (σ : Plan) (r : ℕ) : Type 0 where
  pub legal : Legal O σ
  pub wins : (p : Play G) → (n : ℕ) × PlanSteps G σ p n × Φ (plan_run G σ p n) × (n ≤ r)
  pub reached : (p : Play G) × PlanSteps G σ p r
  pub least : (τ : Plan) → Legal O τ → WinsFor G Φ τ → (p : Play G) × (n : ℕ) × PlanSteps G τ p n × (r ≤ n)

module _ (G : Game) (O : StepOrder G.choices G.observations) (A : Arena) (some_observation : 0 < G.observations) (some_hidden : 0 < G.hiddens)
    (k : A.K) (Φ : List ℕ → Type 0) (T : Tracks G A k Φ) where
  pub plan_least : (r : ℕ) → HasRank O A k r → (τ : Plan) → Legal O τ → WinsFor G Φ τ → (p : Play G) × (n : ℕ) × PlanSteps G τ p n × (r ≤ n)
  plan_least zero a τ l win = let p = idle G some_observation some_hidden in let (n, st, φ) = win p in (p, n, st, zero-le)
  plan_least (suc r) a τ l win = lower G O A some_observation some_hidden r k Φ T (a.1 r (le_refl (suc r))) τ l win

  pub plan_best : (answer : A.K → ℕ → ℕ) (n : ℕ) → Descends O A answer n → (r : ℕ) → r < n → HasRank O A k r → BestPlan G O Φ (follow A answer k) r
  plan_best answer n down r small a = record { legal = l; wins = within; reached = reached; least = plan_least r a }
    where
      l : Legal O (follow A answer k)
      l = follow_legal O A answer n down r k small a.0

      within : (p : Play G) → (m : ℕ) × PlanSteps G (follow A answer k) p m × Φ (plan_run G (follow A answer k) p m) × (m ≤ r)
      within = upper G O A answer n down some_hidden r k Φ small T a.0

      reached : (p : Play G) × PlanSteps G (follow A answer k) p r
      reached =
          let (p, m, st, b) = plan_least r a (follow A answer k) l (λ p. let (m, st, φ, b) = within p in (m, st, φ)) in
          let (j, st', φ, b') = within p in
          let e = steps_unique G (follow A answer k) p m j st st' in
          let e' : m ≡ r = omega arith in
          (p, subst (PlanSteps G (follow A answer k) p) e' st)

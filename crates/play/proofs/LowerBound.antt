-- The lower bound: a plan that wins from a position that is not within r has a play of more than r steps.
-- Assumes nothing.
use Prim.Native.Nat.{ℕ, zero, suc, ◌≤◌, ◌<◌, zero-le, suc-le-suc}
use native.Mathlib.Omega.{arith}
use mathlib.Core.Path.{◌≡◌}
use mathlib.Core.Logic.{inl, inr}
use mathlib.Core.Bool.{false}
use mathlib.Core.Option.{none}
use mathlib.Core.List.{List, []}
use Rattle.play.specs.Game.{Game, Play}
use Rattle.play.specs.Rank.{Arena}
use Rattle.basics.proofs.Booleans.{clash, or_left, or_right}
use Rattle.play.proofs.StepOrder.{StepOrder}
use Rattle.play.proofs.RankLaws.{In}
use Rattle.play.proofs.Plans.{◌∷ˢ◌, Plan, after, Goes, goes_or_final, PlanSteps, plan_run, WinsFor, AfterStep, Tracks, tracks_step, Legal, legal_after, reply, idle, wins_after}

module _ (G : Game) (O : StepOrder G.choices G.observations) (A : Arena) (some_observation : 0 < G.observations) (some_hidden : 0 < G.hiddens) where
  -- at a position that does not stop, a plan that wins goes on
  pub goes : (k : A.K) (Φ : List ℕ → Type 0) → Tracks G A k Φ → A.final k ≡ false → (σ : Plan) → WinsFor G Φ σ → Goes (σ [])
  goes k Φ T f σ win = elim (goes_or_final (σ [])) [ inl o ↦ o | inr e ↦ stopped e (win (idle G some_observation some_hidden)) ]
    where
      stopped : σ [] ≡ none → (n : ℕ) × PlanSteps G σ (idle G some_observation some_hidden) n
          × Φ (plan_run G σ (idle G some_observation some_hidden) n) → Goes (σ [])
      stopped e (zero, st, φ) = clash ((T [] tt).1 (λ x xb. φ)) f
      stopped e (suc n, st, φ) = st.1 0 (suc-le-suc zero-le)

  -- a play that takes n steps or more, of those that the plan makes
  abbrev pub Lasts : Plan → ℕ → Type 0
  Lasts σ n = (p : Play G) × (m : ℕ) × PlanSteps G σ p m × (n ≤ m)

  longer : (r : ℕ) (σ : Plan) (s : ℕ) (sb : s < G.observations) → Goes (σ []) → Lasts (after σ s) r → Lasts σ (suc r)
  longer r σ s sb o (p, m, st, h) = (
    reply G s sb 0 some_hidden ∷ˢ p,
    suc m,
    (st.0, elim [ zero ↦ λ b. o | suc j ↦ λ b. st.1 j (omega arith) ]),
    suc-le-suc h,
  )

  pub lower : (r : ℕ) (k : A.K) (Φ : List ℕ → Type 0) → Tracks G A k Φ → In O A r k ≡ false
      → (σ : Plan) → Legal O σ → WinsFor G Φ σ → Lasts σ (suc r)
  lower zero k Φ T f σ l win =
      let o = goes k Φ T f σ win in
      let (n, st, φ) = wins_after G some_observation some_hidden Φ σ o.0 o.1 win 0 some_observation (idle G some_observation some_hidden) in
      longer 0 σ 0 some_observation o (idle G some_observation some_hidden, n, st, zero-le)
  lower (suc r) k Φ T f σ l win =
      let o = goes k Φ T (or_left (A.final k) _ f) σ win in
      let al = l [] tt o.0 o.1 in
      let (s, sb, w) = O.refute (λ c s. In O A r (A.move k c s)) (or_right (A.final k) _ f) o.0 al in
      longer (suc r) σ s sb o
      (lower r (A.move k (o.0 s) s) (AfterStep G Φ (o.0 s) s)
      (tracks_step G A k Φ (o.0 s) s (O.below o.0 al s sb) sb T) w
      (after σ s) (legal_after O σ s sb l) (wins_after G some_observation some_hidden Φ σ o.0 o.1 win s sb))

-- The upper bound: to follow, at each position, an answer that leads below its rank wins, in no more steps than the rank.
-- Assumes nothing.
use Prim.Native.Nat.{ℕ, zero, suc, ◌≤◌, ◌<◌, zero-le, suc-le-suc}
use native.Mathlib.Nat.{not-suc-le-zero, le_of_suc-le-suc}
use native.Mathlib.Omega.{arith}
use mathlib.Core.Path.{◌≡◌, sym, ap, ◌∙◌, subst, fun_ext}
use mathlib.Core.Logic.{inl, inr}
use mathlib.Core.Bool.{true, false}
use mathlib.Core.Option.{Option, none, some, some-injective, none-ne-some}
use mathlib.Core.List.{List, [], ◌∷◌}
use Rattle.play.specs.Game.{Game, Play}
use Rattle.play.specs.Rank.{Arena}
use Rattle.basics.proofs.Booleans.{test, clash}
use Rattle.play.proofs.StepOrder.{StepOrder}
use Rattle.play.proofs.RankLaws.{In, HasRank, within_le, rank_of}
use Rattle.play.proofs.Plans.{rest, Plan, after, respond, PlanSteps, plan_run, AfterStep, Tracks, tracks_step, Legal}

-- the plan that gives each position its answer, and stops from a final position on
module _ (A : Arena) (answer : A.K → ℕ → ℕ) where
  abbrev pub follow : A.K → Plan
  follow k [] = elim (A.final k) [ true ↦ none | false ↦ some (answer k) ]
  follow k (s ∷ h) = elim (A.final k) [ true ↦ none | false ↦ follow (A.move k (answer k s) s) h ]

module _ (A : Arena) (answer : A.K → ℕ → ℕ) where
  pub follow_stop : (k : A.K) → A.final k ≡ true → (h : List ℕ) → follow A answer k h ≡ none
  follow_stop k t [] = rw (t, follow)
  follow_stop k t (s ∷ h) = rw (t, follow)

  pub follow_here : (k : A.K) → A.final k ≡ false → follow A answer k [] ≡ some (answer k)
  follow_here k f = rw (f, follow)

  pub follow_on : (k : A.K) → A.final k ≡ false → (s : ℕ) → after (follow A answer k) s ≡ follow A answer (A.move k (answer k s) s)
  follow_on k f s = fun_ext (λ h. rw (f, follow))

module _ {choices observations : ℕ} (O : StepOrder choices observations) (A : Arena) (answer : A.K → ℕ → ℕ) where
  -- the answer at a position of a rank below n leads below that rank
  abbrev pub Descends : ℕ → Type 0
  Descends n =
      (k : A.K) (r : ℕ) → suc r < n → HasRank O A k (suc r)
      → O.Allowed (answer k) × ((s : ℕ) → s < observations → In O A r (A.move k (answer k s) s) ≡ true)

  module _ (n : ℕ) (down : Descends n) where
    -- an unstopped position within r has an allowed answer into r - 1
    step : (r : ℕ) (k : A.K) → suc r < n → A.final k ≡ false → In O A (suc r) k ≡ true
        → O.Allowed (answer k) × ((s : ℕ) → s < observations → In O A r (A.move k (answer k s) s) ≡ true)
    step r k small f t = go (rank_of O A (suc r) k t)
      where
        go : (q : ℕ) × (q ≤ suc r) × HasRank O A k q
            → O.Allowed (answer k) × ((s : ℕ) → s < observations → In O A r (A.move k (answer k s) s) ≡ true)
        go (zero, b, a) = clash a.0 f
        go (suc q, b, a) =
            let (al, on) = down k q (omega arith) a in
            (al, λ s h. within_le O A q r (A.move k (answer k s) s) (le_of_suc-le-suc b) (on s h))

    pub follow_legal : (r : ℕ) (k : A.K) → r < n → In O A r k ≡ true → Legal O (follow A answer k)
    follow_legal zero k small t h v g e = absurd (none-ne-some g (sym (follow_stop A answer k t h) ∙ e))
    follow_legal (suc r) k small t [] v g e =
        elim (test (A.final k)) [
          | inl s ↦ absurd (none-ne-some g (sym (follow_stop A answer k s []) ∙ e))
          | inr f ↦ subst O.Allowed (some-injective (answer k) g (sym (follow_here A answer k f) ∙ e)) (step r k small f t).0
        ]
    follow_legal (suc r) k small t (s ∷ h) v g e =
        elim (test (A.final k)) [
          | inl u ↦ absurd (none-ne-some g (sym (follow_stop A answer k u (s ∷ h)) ∙ e))
          | inr f ↦
              follow_legal r (A.move k (answer k s) s) (omega arith) ((step r k small f t).1 s v.0) h v.1 g
              (sym (ap (λ (σ : Plan). σ h) (follow_on A answer k f s)) ∙ e)
        ]

module _ (G : Game) (O : StepOrder G.choices G.observations) (A : Arena) (answer : A.K → ℕ → ℕ) (n : ℕ) (down : Descends O A answer n)
    (some_hidden : 0 < G.hiddens) where
  -- what a play of the plan comes to, in at most r steps
  abbrev pub Within : ℕ → A.K → (List ℕ → Type 0) → Play G → Type 0
  Within r k Φ p = (m : ℕ) × PlanSteps G (follow A answer k) p m × Φ (plan_run G (follow A answer k) p m) × (m ≤ r)

  ends : (r : ℕ) (k : A.K) (Φ : List ℕ → Type 0) → Tracks G A k Φ → A.final k ≡ true → (p : Play G) → Within r k Φ p
  ends r k Φ T t p =
      (0, (follow_stop A answer k t [], λ m b. absurd (not-suc-le-zero b)), (T [] tt).0 t (λ i. 0) (λ i. some_hidden), zero-le)

  -- one more step before
  later : (r : ℕ) (k : A.K) (Φ : List ℕ → Type 0) → A.final k ≡ false → (p : Play G)
      → let s = (p 0).observation in
      Within r (A.move k (answer k s) s) (AfterStep G Φ (answer k s) s) (rest p) → Within (suc r) k Φ p
  later r k Φ f p (m, st, φ, b) =
      let s = (p 0).observation in
      let here = follow_here A answer k f in
      let on = follow_on A answer k f s in
      let st' : PlanSteps G (after (follow A answer k) s) (rest p) m = subst (λ (σ : Plan). PlanSteps G σ (rest p) m) (sym on) st in (
        suc m,
        (st'.0, elim [ zero ↦ λ h. (answer k, here) | suc j ↦ λ h. st'.1 j (le_of_suc-le-suc h) ]),
        subst (λ (d : Option (ℕ → ℕ)). Φ (G.letter (respond d s) s (p 0).hidden ∷ plan_run G (after (follow A answer k) s) (rest p) m)) (sym here)
            (subst (λ (σ : Plan). Φ (G.letter (answer k s) s (p 0).hidden ∷ plan_run G σ (rest p) m)) (sym on) (φ (p 0).hidden (p 0).hidden_below)),
        suc-le-suc b,
      )

  pub upper : (r : ℕ) (k : A.K) (Φ : List ℕ → Type 0) → r < n → Tracks G A k Φ → In O A r k ≡ true → (p : Play G) → Within r k Φ p
  upper zero k Φ small T t p = ends 0 k Φ T t p
  upper (suc r) k Φ small T t p =
      elim (test (A.final k)) [
        | inl u ↦ ends (suc r) k Φ T u p
        | inr f ↦
            let s = (p 0).observation in
            let (al, on) = step O A answer n down r k small f t in
            later r k Φ f p
            (upper r (A.move k (answer k s) s) (AfterStep G Φ (answer k s) s) (omega arith)
            (tracks_step G A k Φ (answer k s) s (O.below (answer k) al s (p 0).observation_below) (p 0).observation_below T)
            (on s (p 0).observation_below) (rest p))
      ]

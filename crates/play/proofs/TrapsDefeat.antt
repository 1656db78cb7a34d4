-- What defeats a plan: a trap, positions that are not final and that some observation leads back into whatever is chosen. Against
-- every plan there is a play that stays in the trap, so no plan wins from there.
-- Assumes nothing.
use Prim.Native.Nat.{ℕ, zero, suc, ◌≤◌, ◌<◌, zero-le, suc-le-suc}
use native.Mathlib.Nat.{le_of_suc-le-suc}
use native.Mathlib.Omega.{arith}
use mathlib.Core.Path.{◌≡◌, refl, sym, ap, ◌∙◌, subst}
use mathlib.Core.Bool.{false}
use mathlib.Core.Option.{Option, none, some}
use mathlib.Core.List.{List, []}
use Rattle.play.specs.Game.{Game, Play, seen}
use Rattle.play.specs.Rank.{Arena}
use Rattle.play.specs.History.{Possible, know}
use Rattle.basics.proofs.Booleans.{clash}
use Rattle.play.proofs.StepOrder.{StepOrder}
use Rattle.play.proofs.Plans.{rest, Plan, after, respond, Goes, stuck, PlanSteps, plan_run, history, WinsFor, hiding, Tracks, Legal, legal_after, steps_unique, run_letters}

module _ (G : Game) (O : StepOrder G.choices G.observations) where
  -- the choices and observations so far are possible ones
  pub possible : (n : ℕ) (σ : Plan) → Legal O σ → (p : Play G) → ((m : ℕ) → m < n → Goes (σ (seen p m)))
      → Possible G.choices G.observations (history G σ p n)
  possible zero σ l p o = tt
  possible (suc n) σ l p o =
      let (g, e) = o 0 (suc-le-suc zero-le) in
      let s = (p 0).observation in
      let sb = (p 0).observation_below in (
        subst (λ (d : Option (ℕ → ℕ)). respond d s < G.choices) (sym e) (O.below g (l [] tt g e) s sb),
        sb,
        possible n (after σ s) (legal_after O σ s sb l) (rest p) (λ m h. o (suc m) (suc-le-suc h)),
      )

  module _ (A : Arena) (σ : Plan) (l : Legal O σ) (p : Play G) (n : ℕ) (o : (m : ℕ) → m < n → Goes (σ (seen p m)))
      (k : A.K) (Φ : List ℕ → Type 0) (T : Tracks G A k Φ) (unsure : A.final (know A k (history G σ p n)) ≡ false) where
    -- where the position is not final, a plan that wins does not stop
    pub not_stopped : WinsFor G Φ σ → PlanSteps G σ p n → ⊥
    not_stopped win st =
        clash
        ((T (history G σ p n) (possible n σ l p o)).1
        (λ x b.
        let (n', st', φ) = win (hiding G p x b) in
        let e = steps_unique G σ (hiding G p x b) n' n st' st in
        subst Φ (run_letters G σ (hiding G p x b) n) (subst (λ (m : ℕ). Φ (plan_run G σ (hiding G p x b) m)) e φ)))
        unsure

pub record Trap {choices observations : ℕ} (O : StepOrder choices observations) (A : Arena) (P : A.K → Type 0) : Type 0 where
  pub unstopped : (k : A.K) → P k → A.final k ≡ false
  -- the observation against an answer
  pub foil : A.K → (ℕ → ℕ) → ℕ
  pub foil_below : (k : A.K) → P k → (g : ℕ → ℕ) → O.Allowed g → foil k g < observations
  pub stays : (k : A.K) → P k → (g : ℕ → ℕ) → O.Allowed g → P (A.move k (g (foil k g)) (foil k g))

module _ (G : Game) (O : StepOrder G.choices G.observations) (A : Arena) where
  module _ (P : A.K → Type 0) (trap : Trap O A P) where
    -- a play whose observations are those of the trap, as long as the plan goes on
    abbrev pub Foils : A.K → Plan → Play G → Type 0
    Foils k σ p = (n : ℕ) → ((m : ℕ) → m ≤ n → Goes (σ (seen p m))) → (p n).observation ≡ trap.foil (know A k (history G σ p n)) (respond (σ (seen p n)))

    -- it never leaves the trap
    pub trapped : (n : ℕ) (k : A.K) → P k → (σ : Plan) → Legal O σ → (p : Play G) → Foils k σ p
        → ((m : ℕ) → m < n → Goes (σ (seen p m))) → P (know A k (history G σ p n))
    trapped zero k t σ l p f o = t
    trapped (suc n) k t σ l p f o =
        let (g, e) = o 0 (suc-le-suc zero-le) in
        let s = (p 0).observation in
        let r : respond (σ []) ≡ g = ap respond e in
        let is : s ≡ trap.foil k g = f 0 (λ m h. let z : m ≡ 0 = omega arith in rw z (g, e)) ∙ ap (trap.foil k) r in
        let t' : P (A.move k (respond (σ []) s) s) =
        subst (λ (a : ℕ → ℕ). P (A.move k (a s) s)) (sym r) (subst (λ (u : ℕ). P (A.move k (g u) u)) (sym is) (trap.stays k t g (l [] tt g e))) in
        trapped n (A.move k (respond (σ []) s) s) t' (after σ s) (legal_after O σ s (p 0).observation_below l) (rest p)
        (λ i q. f (suc i) (elim [ zero ↦ λ h. (g, e) | suc m ↦ λ h. q m (le_of_suc-le-suc h) ])) (λ m h. o (suc m) (suc-le-suc h))

    module _ (some_observation : 0 < G.observations) (some_hidden : 0 < G.hiddens) where
      -- there is such a play against every plan: at each step the observation, and the position that it leads to
      respite : (d : Option (ℕ → ℕ)) → ((g : ℕ → ℕ) → d ≡ some g → O.Allowed g) → (k : A.K) → P k → (s : ℕ) × (s < G.observations) × (k' : A.K) × P k'
      respite none l k t = (0, some_observation, k, t)
      respite (some g) l k t =
          let s = trap.foil k g in
          (s, trap.foil_below k t g (l g refl), A.move k (g s) s, trap.stays k t g (l g refl))

      respite_is : (d : Option (ℕ → ℕ)) (l : (g : ℕ → ℕ) → d ≡ some g → O.Allowed g) (k : A.K) (t : P k) → Goes d
          → let r = respite d l k t in (r.0 ≡ trap.foil k (respond d)) × (A.move k (respond d r.0) r.0 ≡ r.2)
      unfolding respite
      respite_is none l k t o = stuck refl o
      respite_is (some g) l k t o = (refl, refl)

      gauge : ℕ → (σ : Plan) → Legal O σ → (k : A.K) → P k → (s : ℕ) × (s < G.observations)
      unfolding respite
      gauge zero σ l k t = let r = respite (σ []) (l [] tt) k t in (r.0, r.1)
      gauge (suc i) σ l k t = let r = respite (σ []) (l [] tt) k t in gauge i (after σ r.0) (legal_after O σ r.0 r.1 l) r.2 r.3

      pub against : (σ : Plan) → Legal O σ → (k : A.K) → P k → Play G
      unfolding gauge respite
      against σ l k t i = let r = gauge i σ l k t in record { observation = r.0; hidden = 0; observation_below = r.1; hidden_below = some_hidden }

      pub against_foils : (σ : Plan) (l : Legal O σ) (k : A.K) (t : P k) → Foils k σ (against σ l k t)
      unfolding against gauge respite
      against_foils σ l k t zero o = (respite_is (σ []) (l [] tt) k t (o 0 zero-le)).0
      against_foils σ l k t (suc n) o =
          let r = respite (σ []) (l [] tt) k t in
          let σ' = after σ r.0 in
          let l' = legal_after O σ r.0 r.1 l in
          against_foils σ' l' r.2 r.3 n (λ m h. o (suc m) (suc-le-suc h))
          ∙ ap (λ (k' : A.K). trap.foil (know A k' (history G σ' (against σ' l' r.2 r.3) n)) (respond (σ' (seen (against σ' l' r.2 r.3) n))))
          (sym (respite_is (σ []) (l [] tt) k t (o 0 zero-le)).1)

      pub no_win : (k : A.K) → P k → (Φ : List ℕ → Type 0) → Tracks G A k Φ → (σ : Plan) → Legal O σ → WinsFor G Φ σ → ⊥
      no_win k t Φ T σ l win =
          let p = against σ l k t in
          let (n, st, φ) = win p in
          not_stopped G O A σ l p n st.1 k Φ T (trap.unstopped _ (trapped n k t σ l p (against_foils σ l k t) st.1)) win st

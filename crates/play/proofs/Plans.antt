-- Plays against ranks, done once, over any order of choosing and observing, any positions, and any goal, a property of the trace from
-- here on; a position tracks a goal if it stops exactly where the goal is met whatever was hidden. From the start of the game the goal
-- is that the trace is true.
-- Assumes nothing.
use Prim.Native.Nat.{ℕ, zero, suc, ◌<◌, suc-le-suc}
use native.Mathlib.Decide.{dec_lt}
use native.Mathlib.Omega.{arith}
use mathlib.Core.Path.{◌≡◌, refl, sym, ap, ◌∙◌, subst}
use mathlib.Core.Logic.{◌↔◌, ◌⊎◌, inl, inr}
use mathlib.Core.Bool.{true}
use mathlib.Core.Option.{Option, none, some, none-ne-some}
use mathlib.Core.List.{List, [], ◌∷◌}
use Rattle.basics.specs.Lists.{tabulate}
use Rattle.play.specs.Game.{Game, Reply, Play, seen, AllBelow}
use Rattle.play.specs.Rank.{Arena}
use Rattle.play.specs.History.{History, Possible, know, Hidden, letters}
use Rattle.play.proofs.StepOrder.{StepOrder}

-- ---- plans: strategies that answer each list of past observations by a choice for every observation of the step, or stop

abbrev pub Plan : Type 0
Plan = List ℕ → Option (ℕ → ℕ)

abbrev pub respond : Option (ℕ → ℕ) → ℕ → ℕ
respond none s = 0
respond (some g) s = g s

abbrev pub Goes : Option (ℕ → ℕ) → Type 0
Goes d = (g : ℕ → ℕ) × (d ≡ some g)

module _ (G : Game) where
  abbrev pub PlanSteps : Plan → Play G → ℕ → Type 0
  PlanSteps σ p n = (σ (seen p n) ≡ none) × ((m : ℕ) → m < n → Goes (σ (seen p m)))

  abbrev pub plan_run : Plan → Play G → ℕ → List ℕ
  plan_run σ p n = tabulate n (λ i. G.letter (respond (σ (seen p i)) (p i).observation) (p i).observation (p i).hidden)

-- ---- plays step by step

-- an endless list, one longer at its head
abbrev pub ◌∷ˢ◌ : {A : Type 0} → A → (ℕ → A) → ℕ → A
◌∷ˢ◌ a f zero = a
◌∷ˢ◌ a f (suc i) = f i

infixr 50 ◌∷ˢ◌
abbrev pub rest : {A : Type 0} → (ℕ → A) → ℕ → A
rest f i = f (suc i)

-- what is left of a plan after an observation
abbrev pub after : Plan → ℕ → Plan
after σ s h = σ (s ∷ h)

pub stuck : {X : Type 0} {d : Option (ℕ → ℕ)} → d ≡ none → Goes d → X
stuck e (g, o) = absurd (none-ne-some g (sym e ∙ o))

pub goes_or_final : (d : Option (ℕ → ℕ)) → Goes d ⊎ (d ≡ none)
goes_or_final none = inr refl
goes_or_final (some g) = inl (g, refl)

module _ {choices observations : ℕ} (O : StepOrder choices observations) where
  -- every answer of the plan is allowed
  abbrev pub Legal : Plan → Type 0
  Legal σ = (h : List ℕ) → AllBelow observations h → (g : ℕ → ℕ) → σ h ≡ some g → O.Allowed g

  pub legal_after : (σ : Plan) (s : ℕ) → s < observations → Legal σ → Legal (after σ s)
  legal_after σ s b l h v = l (s ∷ h) (b, v)

module _ (G : Game) where
  -- the choices and observations of the first n steps
  abbrev pub history : Plan → Play G → ℕ → History
  history σ p n = tabulate n (λ i. (respond (σ (seen p i)) (p i).observation, (p i).observation))

  -- every play of the plan stops, with a run that meets the goal
  abbrev pub WinsFor : (List ℕ → Type 0) → Plan → Type 0
  WinsFor Φ σ = (p : Play G) → (n : ℕ) × PlanSteps G σ p n × Φ (plan_run G σ p n)

  -- what is left of a goal after a choice and an observation, whatever was hidden at that step
  abbrev pub AfterStep : (List ℕ → Type 0) → ℕ → ℕ → List ℕ → Type 0
  AfterStep Φ c s w = (x : ℕ) → x < G.hiddens → Φ (G.letter c s x ∷ w)

  pub steps_unique : (σ : Plan) (p : Play G) (m n : ℕ) → PlanSteps G σ p m → PlanSteps G σ p n → m ≡ n
  steps_unique σ p m n a b =
      elim (dec_lt m n) [
        | yes l ↦ stuck a.0 (b.1 m l)
        | no k ↦ elim (dec_lt n m) [ yes l ↦ stuck b.0 (a.1 n l) | no j ↦ omega arith ]
      ]

  -- the run is what the history and the play's hidden values make
  pub run_letters : (σ : Plan) (p : Play G) (n : ℕ) → plan_run G σ p n ≡ letters G (history σ p n) (λ i. (p i).hidden)
  run_letters σ p zero = refl
  run_letters σ p (suc n) =
      ap (λ (w : List ℕ). G.letter (respond (σ []) (p 0).observation) (p 0).observation (p 0).hidden ∷ w)
      (run_letters (after σ (p 0).observation) (rest p) n)

  -- the play with other hidden values
  abbrev pub hiding : Play G → (x : ℕ → ℕ) → Hidden G x → Play G
  hiding p x h i = record { observation = (p i).observation; hidden = x i; observation_below = (p i).observation_below; hidden_below = h i }

  abbrev pub reply : (s : ℕ) → s < G.observations → (x : ℕ) → x < G.hiddens → Reply G
  reply s sb x xb = record { observation = s; hidden = x; observation_below = sb; hidden_below = xb }

  module _ (A : Arena) where
    -- the one law: a position stops exactly where the goal is met whatever was hidden
    abbrev pub Tracks : A.K → (List ℕ → Type 0) → Type 0
    Tracks k Φ =
        (h : History) → Possible G.choices G.observations h → (A.final (know A k h) ≡ true) ↔ ((x : ℕ → ℕ) → Hidden G x → Φ (letters G h x))

    pub tracks_step : (k : A.K) (Φ : List ℕ → Type 0) (c s : ℕ) → c < G.choices → s < G.observations
        → Tracks k Φ → Tracks (A.move k c s) (AfterStep Φ c s)
    tracks_step k Φ c s cb sb T h v =
        let law = T ((c, s) ∷ h) (cb, sb, v) in
        (λ t y yb x xb. law.0 t (x ∷ˢ y) (elim [ zero ↦ xb | suc i ↦ yb i ]), λ f. law.1 (λ x xb. f (rest x) (λ i. xb (suc i)) (x 0) (xb 0)))

  module _ (some_observation : 0 < G.observations) (some_hidden : 0 < G.hiddens) where
    -- some play
    abbrev pub idle : Play G
    idle i = reply 0 some_observation 0 some_hidden

    -- a plan that wins still wins what is left after its first step
    pub wins_after : (Φ : List ℕ → Type 0) (σ : Plan) (g : ℕ → ℕ) → σ [] ≡ some g → WinsFor Φ σ
        → (s : ℕ) → s < G.observations → WinsFor (AfterStep Φ (g s) s) (after σ s)
    wins_after Φ σ g o win s sb p = rest_of (win (reply s sb 0 some_hidden ∷ˢ p))
      where
        -- the steps left are the same whatever is hidden at the first step
        same : (m : ℕ) → PlanSteps G (after σ s) p m → (x : ℕ) (xb : x < G.hiddens)
            → (n : ℕ) × PlanSteps G σ (reply s sb x xb ∷ˢ p) n × Φ (plan_run G σ (reply s sb x xb ∷ˢ p) n)
            → Φ (G.letter (g s) s x ∷ plan_run G (after σ s) p m)
        same m st x xb (zero, st', φ) = stuck st'.0 (g, o)
        same m st x xb (suc n, st', φ) =
            let e = steps_unique (after σ s) p n m (st'.0, λ j h. st'.1 (suc j) (suc-le-suc h)) st in
            subst (λ (l : ℕ). Φ (G.letter (g s) s x ∷ plan_run G (after σ s) p l)) e
            (subst (λ (d : Option (ℕ → ℕ)). Φ (G.letter (respond d s) s x ∷ plan_run G (after σ s) p n)) o φ)

        rest_of : (n : ℕ) × PlanSteps G σ (reply s sb 0 some_hidden ∷ˢ p) n × Φ (plan_run G σ (reply s sb 0 some_hidden ∷ˢ p) n)
            → (n : ℕ) × PlanSteps G (after σ s) p n × AfterStep Φ (g s) s (plan_run G (after σ s) p n)
        rest_of (zero, st, φ) = stuck st.0 (g, o)
        rest_of (suc n, st, φ) =
            let left : PlanSteps G (after σ s) p n = (st.0, λ j h. st.1 (suc j) (suc-le-suc h)) in
            (n, left, λ x xb. same n left x xb (win (reply s sb x xb ∷ˢ p)))

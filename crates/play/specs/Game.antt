-- The game (REFERENCE.md, The game): strategies, plays, their traces and winning, for any numbers of choices, observations (readings in the
-- trade's words) and hidden values, any way to make a letter of them, any meaning of traces, and either order of a step.
-- Assumes nothing.
use Rattle.std.specs.Prelude.{ℕ, ◌≤◌, ◌<◌, ◌≡◌, List, [], ◌∷◌}
use Rattle.basics.specs.Lists.{tabulate}
use Rattle.basics.specs.declared.order.Order.{Order}
use Rattle.basics.specs.declared.order.Order.TheVariants.{Set, Read}

pub record Game : Type 1 where
  -- a choice, an observation and a hidden value are numbers below these
  pub choices : ℕ
  pub observations : ℕ
  pub hiddens : ℕ
  -- the letter of one step, from its choice, its observation and its hidden value
  pub letter : ℕ → ℕ → ℕ → ℕ
  -- what makes a trace, the list of its letters, true
  pub IsTrue : List ℕ → Type 0

-- what one step of a play brings: any values of the observed and of the hidden signals
pub record Reply (G : Game) : Type 0 where
  pub observation : ℕ
  pub hidden : ℕ
  pub observation_below : observation < G.observations
  pub hidden_below : hidden < G.hiddens

-- a play is any endless list of such values, one pair a step
abbrev pub Play : Game → Type 0
Play G = ℕ → Reply G

-- the observations of its first n steps, oldest first
abbrev pub seen : {G : Game} → Play G → ℕ → List ℕ
seen p n = tabulate n (λ i. (p i).observation)

-- what a strategy answers at a step that it takes. Order `Set`: one choice, before the step's observation is read, on which it cannot
-- depend. Order `Read`: a choice for each observation of the step
abbrev pub Answer : Order → Type 0
Answer Set = ℕ
Answer Read = ℕ → ℕ

-- the choice at an observation
abbrev pub chosen : (o : Order) → Answer o → ℕ → ℕ
chosen Set c s = c
chosen Read g s = g s

pub data Decision (o : Order) : Type 0 where
  choose : Answer o → Decision o
  stop : Decision o

-- every number of the list is below n
abbrev pub AllBelow : ℕ → List ℕ → Type 0
AllBelow n [] = Unit {0}
AllBelow n (s ∷ h) = (s < n) × AllBelow n h

-- a strategy maps each finite list of past observations to an answer or to "stop" ..
abbrev pub Strategy : Order → Type 0
Strategy o = List ℕ → Decision o

-- .. the empty list gets an answer, and at every observation it is a choice of the game
pub record IsStrategy (G : Game) {o : Order} (σ : Strategy o) : Type 0 where
  pub opens : (a : Answer o) × (σ [] ≡ choose a)
  pub legal : (h : List ℕ) → AllBelow G.observations h → (a : Answer o) → σ h ≡ choose a
      → (s : ℕ) → s < G.observations → chosen o a s < G.choices

module _ {G : Game} {o : Order} (σ : Strategy o) (p : Play G) where
  -- the play goes on for n steps at least
  abbrev pub GoesOn : ℕ → Type 0
  GoesOn n = (m : ℕ) → m < n → (a : Answer o) × (σ (seen p m) ≡ choose a)

  -- the play takes n steps: the answer to its first n observations is "stop", and no earlier one is
  abbrev pub Steps : ℕ → Type 0
  Steps n = (σ (seen p n) ≡ stop) × GoesOn n

abbrev pub choice_of : {o : Order} → Decision o → ℕ → ℕ
choice_of {o} (choose a) s = chosen o a s
choice_of stop s = 0

module _ (G : Game) {o : Order} (σ : Strategy o) where
  -- the letters of a play's first n steps: to each pair the strategy adds its choice, by its answer to the observations before the step,
  -- which under `Read` has a choice for the step's own observation. The trace of a play that takes n steps is `run p n`
  abbrev pub run : Play G → ℕ → List ℕ
  run p n = tabulate n (λ i. G.letter (choice_of (σ (seen p i)) (p i).observation) (p i).observation (p i).hidden)

  -- it wins: no play goes on for ever, and each ends with a true trace
  abbrev pub Wins : Type 0
  Wins = (p : Play G) → (n : ℕ) × Steps σ p n × G.IsTrue (run p n)

  -- its worst case: no play takes more steps, and one takes as many
  pub record WorstCase (r : ℕ) : Type 0 where
    pub at_most : (p : Play G) (n : ℕ) → Steps σ p n → n ≤ r
    pub reached : (p : Play G) × Steps σ p r

-- a strategy that wins with the least worst case, r
pub record Optimal (G : Game) {o : Order} (σ : Strategy o) (r : ℕ) : Type 0 where
  pub is_strategy : IsStrategy G σ
  pub wins : Wins G σ
  pub worst : WorstCase G σ r
  pub least : (τ : Strategy o) → IsStrategy G τ → Wins G τ → (p : Play G) × (n : ℕ) × Steps τ p n × (r ≤ n)

-- no strategy of the order wins (unwinnable in the trade's words)
abbrev pub Unrealizable : Game → Order → Type 0
Unrealizable G o = (σ : Strategy o) → IsStrategy G σ → ¬ Wins G σ

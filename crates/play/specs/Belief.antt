-- Beliefs: the sets of states that the hidden values allow after the choices and observations so far (REFERENCE.md, Beliefs).
-- The states of a deterministic automaton are numbered from 0; a belief is the list that says of each whether it is in.
-- Assumes nothing.
use Rattle.std.specs.Prelude.{ℕ, Bool, false, not, ◌&&◌, ◌||◌, List, [], ◌∷◌, eqb, get_or}
use Rattle.basics.specs.Lists.{tabulate}
use Rattle.basics.specs.Bounded.{all, any}
use Rattle.play.specs.Rank.{Arena}

pub record Automaton : Type 0 where
  pub states : ℕ
  pub initial : ℕ
  -- the state after a state and a letter
  pub next : ℕ → ℕ → ℕ
  pub accepts : ℕ → Bool

module _ (M : Automaton) where
  -- the state after letters, from a state
  abbrev pub state_from : ℕ → List ℕ → ℕ
  state_from s [] = s
  state_from s (a ∷ w) = state_from (M.next s a) w

abbrev pub Belief : Type 0
Belief = List Bool

abbrev pub has : Belief → ℕ → Bool
has b s = get_or b s false

-- over n states: one state alone
abbrev pub alone : ℕ → ℕ → Belief
alone n i = tabulate n (λ s. eqb s i)

-- the states that some hidden value leads to from a state of the belief; `lead s x` is where value x leads from state s
abbrev pub reached : (n hiddens : ℕ) → (ℕ → ℕ → ℕ) → Belief → Belief
reached n hiddens lead b = tabulate n (λ t. any n (λ s. has b s && any hiddens (λ x. eqb (lead s x) t)))

-- every state of the belief passes
abbrev pub every : (n : ℕ) → (ℕ → Bool) → Belief → Bool
every n ok b = all n (λ s. not (has b s) || ok s)

module _ (M : Automaton) where
  -- at first the initial state alone
  abbrev pub first_belief : Belief
  first_belief = alone M.states M.initial

  -- all its states accept
  abbrev pub final_belief : Belief → Bool
  final_belief b = every M.states M.accepts b

  -- with so many hidden values, and the letter of a choice, an observation and a hidden value
  module _ (hiddens : ℕ) (letter : ℕ → ℕ → ℕ → ℕ) where
    -- after a choice and an observation
    abbrev pub next_belief : Belief → ℕ → ℕ → Belief
    next_belief b c r = reached M.states hiddens (λ s x. M.next s (letter c r x)) b

    abbrev pub beliefs : Arena
    beliefs = record { K = Belief; start = first_belief; move = next_belief; final = final_belief }

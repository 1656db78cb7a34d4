-- What is believed after a history, and how many states and beliefs there are (REFERENCE.md, States and Beliefs): by the states that
-- letters lead to, with no search and no numbers.
-- Assumes nothing.
use Rattle.std.specs.Prelude.{ℕ, suc, ◌≡◌, ◌↔◌, true, List, length}
use Rattle.basics.specs.Member.{◌∈◌, Distinct}
use Rattle.rules.specs.Within.{counts_in}
use Rattle.rules.specs.Problem.{Problem, problem_parts}
use Rattle.obligations.specs.Letters.{letters_of}
use Rattle.search.specs.Limits.{state_limit}
use Rattle.search.specs.PatternSet.{PatternSet, accepts}
use Rattle.states.specs.States.{state_after, IsState}
use Rattle.play.specs.Limits.{belief_limit}
use Rattle.play.specs.History.{History, Possible, Unstopped, AtLeastBeliefs, Hidden, letters}
use Rattle.game.specs.Solution.{game_of}

module _ (p : Problem) where
  -- some hidden values lead to s, with the choices and observations of the history
  abbrev pub Believed : History → PatternSet → Type 0
  Believed h s = (x : ℕ → ℕ) × Hidden (game_of p) x × (state_after (problem_parts p) (letters (game_of p) h x) ≡ s)

  -- a belief is the set of these: two histories lead to the same belief if they allow the same states
  abbrev pub SameBelief : History → History → Type 0
  SameBelief h k = (s : PatternSet) → Believed h s ↔ Believed k s

  -- a final belief (a stop belief in the trade's words): all states that it allows accept
  abbrev pub FinalBelief : History → Type 0
  FinalBelief h = (s : PatternSet) → Believed h s → accepts s ≡ true

  -- the histories whose beliefs count: those that choices and observations make and that pass through no final belief. The belief after one
  -- may be final; nothing counts behind it
  abbrev pub Counted : History → Type 0
  Counted h = Possible (game_of p).choices (game_of p).observations h × Unstopped FinalBelief h

  -- more beliefs count than the limit
  abbrev pub ManyBeliefs : Type 0
  ManyBeliefs = AtLeastBeliefs Counted SameBelief (suc belief_limit)

  -- more states than the limit can be reached
  pub record ManyStates : Type 0 where
    pub states : List PatternSet
    pub count : length states ≡ suc state_limit
    pub distinct : Distinct states
    pub reached : (s : PatternSet) → s ∈ states → IsState (problem_parts p) (letters_of (counts_in p.signals)) s

  -- the limits of states and of beliefs are kept
  abbrev pub Small : Type 0
  Small = (¬ ManyStates) × (¬ ManyBeliefs)

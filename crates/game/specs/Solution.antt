-- The game of a problem, the states behind it by number, and what is answered for it.
-- Assumes nothing.
use Rattle.std.specs.Prelude.{ℕ, ◌^◌, Bool, List, [], length, get_or}
use Rattle.basics.specs.declared.order.Order.{Order}
use Rattle.rules.specs.Within.{counts_in}
use Rattle.formula.specs.declared.parts.Part.{Part}
use Rattle.formula.specs.Letter.{Counts, letter_from}
use Rattle.rules.specs.Problem.{Problem, problem_parts}
use Rattle.rules.specs.Satisfies.{Satisfies}
use Rattle.search.specs.Limits.{state_limit}
use Rattle.obligations.specs.Letters.{letters_of}
use Rattle.search.specs.PatternSet.{PatternSet, accepts}
use Rattle.basics.specs.Reach.{Listing, closed, over, index_in}
use Rattle.search.specs.ReachableSets.{same_set}
use Rattle.states.specs.States.{next_state, states_of}
use Rattle.play.specs.Limits.{belief_limit}
use Rattle.play.specs.Game.{Game}
use Rattle.play.specs.Rank.{Arena}
use Rattle.play.specs.Belief.{Automaton, beliefs}
use Rattle.play.specs.Answer.{Verdict, positions, verdict_of}

-- the controller sets the output signals; a step brings values of the observed and of the hidden ones; a trace is true if it satisfies
-- the problem
abbrev pub game_of : Problem → Game
game_of p =
    record {
      choices = 2 ^ p.signals.outputs;
      observations = 2 ^ p.signals.observed;
      hiddens = 2 ^ p.signals.hidden;
      letter = letter_from;
      IsTrue = λ π. Satisfies π p;
    }

-- listed states by number; the start is the first
abbrev pub automaton_of : List Part → List PatternSet → Automaton
automaton_of ps xs =
    record {
      states = length xs;
      initial = 0;
      next = λ i a. index_in same_set (next_state ps (get_or xs i []) a) xs;
      accepts = λ i. accepts (get_or xs i []);
    }

-- a problem's states, over the letters of its signals
abbrev pub problem_states : Problem → Listing PatternSet
problem_states p = states_of (problem_parts p) (letters_of (counts_in p.signals)) state_limit

-- the beliefs over listed states of a problem
abbrev pub beliefs_of : Problem → List PatternSet → Arena
beliefs_of p xs = beliefs (automaton_of (problem_parts p) xs) (game_of p).hiddens (game_of p).letter

-- what is answered for a problem: too many states, too many beliefs, or the verdict from its beliefs
pub data Solution : Type 0 where
  too_many_states : Solution
  too_many_beliefs : Solution
  verdict : Verdict → Solution

-- from the positions counted, for an order of a step
abbrev pub solution_of : Order → (A : Arena) (same : A.K → A.K → Bool) (choices observations : ℕ) → Listing A.K → Solution
solution_of o A same choices observations (closed all) = verdict (verdict_of o A same choices observations (length all))
solution_of o A same choices observations over = too_many_beliefs

-- from the beliefs over an automaton's states
abbrev pub belief_solution : Order → (M : Automaton) (choices observations hiddens : ℕ) → (ℕ → ℕ → ℕ → ℕ) → Solution
belief_solution o M choices observations hiddens letter =
    let A = beliefs M hiddens letter in
    solution_of o A same_set choices observations (positions A same_set choices observations belief_limit)

-- from the listed states of a formula's parts, with so many signals
abbrev pub solution_from : Order → List Part → Counts → Listing PatternSet → Solution
solution_from o ps c (closed xs) = belief_solution o (automaton_of ps xs) (2 ^ c.outputs) (2 ^ c.observed) (2 ^ c.hidden) letter_from
solution_from o ps c over = too_many_states

-- from a formula's parts
abbrev pub parts_solution : Order → List Part → Counts → Solution
parts_solution o ps c = solution_from o ps c (states_of ps (letters_of c) state_limit)

-- for a problem: that of its order, of its formula's parts and of its signals
abbrev pub solution : Problem → Solution
solution p = parts_solution p.order (problem_parts p) (counts_in p.signals)

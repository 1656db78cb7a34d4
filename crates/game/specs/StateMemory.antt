-- The states in memory: their sets, where they are kept; their tables as an automaton, and what is answered from them.
-- Assumes nothing.
use Rattle.std.specs.Prelude.{ℕ, ◌+◌, ◌*◌, List, length}
use Rattle.basics.specs.declared.order.Order.{Order}
use Rattle.basics.specs.Lists.{padded}
use Rattle.rules.specs.Problem.{Outcome, accepted, refused}
use Rattle.search.specs.Memory.{sets_of}
use Rattle.play.specs.Belief.{Automaton}
use Rattle.beliefs.specs.BeliefMemory.{successor_in, accepts_in}
use Rattle.game.specs.Solution.{problem_states, Solution, belief_solution}

-- the front of the lent work memory before it is cleared: each state's set in its place and zeros behind, or zeros alone if there are
-- too many; a text that is refused leaves it as it was
abbrev pub sets_from : Outcome → List ℕ → List ℕ
sets_from (accepted p) work = padded (length work) (sets_of (problem_states p))
sets_from (refused r) work = work

-- n states, each with its row of successors, letters going by their numbers
abbrev pub automaton_in : (sets successors : List ℕ) → ℕ → Automaton
automaton_in sets successors n = record { states = n; initial = 0; next = successor_in successors; accepts = accepts_in sets }

-- the number of the letter of choice c, observation s and hidden value h
abbrev pub letter_number : (choices observations : ℕ) → ℕ → ℕ → ℕ → ℕ
letter_number choices observations c s h = s * choices + c + h * (choices * observations)

-- what is answered from n states in memory
unfoldable pub memory_solution : Order → (sets successors : List ℕ) (n choices observations hiddens : ℕ) → Solution
memory_solution o sets successors n choices observations hiddens =
    belief_solution o (automaton_in sets successors n) choices observations hiddens (letter_number choices observations)

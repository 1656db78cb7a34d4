-- The states of a formula (REFERENCE.md, States): the sets of obligation patterns that letters can reach.
-- Assumes nothing.
use Rattle.std.specs.Prelude.{ℕ, List}
use Rattle.formula.specs.declared.parts.Part.{Part}
use Rattle.formula.specs.Semantics.{Trace}
use Rattle.search.specs.PatternSet.{PatternSet, start, next, after}
use Rattle.obligations.specs.Obligation.{operators_of, back}
use Rattle.basics.specs.Reach.{Listing}
use Rattle.search.specs.ReachableSets.{reachable_sets, IsReachable}

-- before any letter
unfoldable pub start_state : List Part → PatternSet
start_state ps = start (operators_of ps)

-- after one letter more
unfoldable pub next_state : List Part → PatternSet → ℕ → PatternSet
next_state ps = next (operators_of ps) (back ps)

-- after a trace
unfoldable pub state_after : List Part → Trace → PatternSet
state_after ps π = after (operators_of ps) (back ps) (start_state ps) π

-- all states, over an alphabet, or `over` if there are more than the limit
unfoldable pub states_of : List Part → List ℕ → ℕ → Listing PatternSet
states_of ps letters limit = reachable_sets (operators_of ps) (back ps) letters limit

-- s is the state after some trace of the alphabet's letters
abbrev pub IsState : List Part → List ℕ → PatternSet → Type 0
IsState ps letters s = IsReachable (operators_of ps) (back ps) letters s

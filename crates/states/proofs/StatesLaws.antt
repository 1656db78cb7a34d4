-- The listed states of a formula are exactly those that letters reach.
-- Assumes nothing.
use Prim.Native.Nat.{ℕ, suc, ◌≤◌}
use mathlib.Core.Path.{◌≡◌}
use mathlib.Core.Logic.{◌↔◌}
use mathlib.Core.List.{List}
use lib.ListN.{length}
use Rattle.formula.specs.declared.parts.Part.{Part}
use Rattle.basics.specs.Member.{◌∈◌, Distinct}
use Rattle.search.specs.PatternSet.{PatternSet}
use Rattle.obligations.specs.Obligation.{operators_of, back}
use Rattle.basics.specs.Reach.{closed, over}
use Rattle.states.specs.States.{states_of, IsState}
use Rattle.search.proofs.ReachableSetsLaws.{sets_closed, sets_over}

-- a closed list has each state once, and nothing else
pub states_closed : (ps : List Part) (letters : List ℕ) (limit : ℕ) (xs : List PatternSet) → states_of ps letters limit ≡ closed xs
    → Distinct xs × (length xs ≤ limit) × ((s : PatternSet) → (s ∈ xs) ↔ IsState ps letters s)
unfolding states_of
states_closed ps letters limit xs e = sets_closed (operators_of ps) (back ps) letters limit xs e

-- `over` means that there are more than the limit
pub states_over : (ps : List Part) (letters : List ℕ) (limit : ℕ) → (states_of ps letters limit ≡ over)
    ↔ ((xs : List PatternSet) × (length xs ≡ suc limit) × Distinct xs × ((s : PatternSet) → s ∈ xs → IsState ps letters s))
unfolding states_of
states_over ps letters limit = sets_over (operators_of ps) (back ps) letters limit

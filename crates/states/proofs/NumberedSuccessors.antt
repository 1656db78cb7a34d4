-- The row of a state says which state each letter leads to.
-- Assumes nothing.
use Rattle.basics.proofs.ReachLaws.{index_right, closed_lists}
use Prim.Native.Nat.{ℕ, ◌<◌}
use mathlib.Core.Path.{◌≡◌}
use mathlib.Core.List.Memᴰ
use mathlib.Core.List.{List, []}
use lib.ListN.{length, get_or}
use Rattle.formula.specs.declared.parts.Part.{Part}
use Rattle.basics.specs.Member.{◌∈◌}
use Rattle.search.specs.PatternSet.{PatternSet, start}
use Rattle.obligations.specs.Obligation.{operators_of, back}
use Rattle.basics.specs.Reach.{closed, index_in, reached_step}
use Rattle.search.specs.ReachableSets.{same_set, next_sets, reachable_sets}
use Rattle.states.specs.States.{next_state, states_of}
use Rattle.search.proofs.ReachableSetsLaws.{same_set_says}

-- every letter leads from a listed state to the listed state with the number given
pub successor_right : (ps : List Part) (letters : List ℕ) (limit : ℕ) (xs : List PatternSet) → states_of ps letters limit ≡ closed xs
    → (s : PatternSet) → s ∈ xs → (a : ℕ) → a ∈ letters
    → (index_in same_set (next_state ps s a) xs < length xs) × (get_or xs (index_in same_set (next_state ps s a) xs) [] ≡ next_state ps s a)
unfolding states_of reachable_sets next_sets next_state
successor_right ps letters limit xs e s m a k =
    let listed = closed_lists same_set same_set_says (next_sets (operators_of ps) (back ps) letters) (start (operators_of ps)) limit xs e in
    index_right same_set same_set_says (next_state ps s a) xs []
    ((listed.0.exact (next_state ps s a)).1 (reached_step ((listed.0.exact s).0 m) (Memᴰ.map (next_state ps s) k)))

-- What `explore_beliefs` answers: the beliefs are within their limit, or they are too many and no mark is written.
-- Assumes nothing.
use Rattle.std.specs.Prelude.{None, Some}
use Prim.Native.Nat.{ℕ, ◌≤◌}
use native.Mathlib.Omega.{arith}
use mathlib.Core.Path.{◌≡◌, sym, ap, subst}
use mathlib.Core.List.{List}
use lib.ListN.{length, take}
use lib.Seq.{length-take-le}
use Rattle.basics.specs.Lists.{written}
use Rattle.basics.specs.Reach.{Listing, closed}
use Rattle.search.specs.Slots.{explored_of}
use Rattle.play.specs.Limits.{belief_limit}
use Rattle.play.specs.Belief.{Belief}
use Rattle.play.specs.Table.{list_of}
use Rattle.beliefs.specs.BeliefMemory.{counted_beliefs, finals_of}
use Rattle.beliefs.proofs.ListedBeliefs.{counted_some, counted_over, beliefs_few}

module _ (sets successors : List ℕ) (n pairs hiddens : ℕ) where
  abbrev l : Listing Belief
  l = counted_beliefs sets successors n pairs hiddens belief_limit

  -- the beliefs are k
  module _ (k : ℕ) (got : Some k ≡ explored_of l) where
    abbrev found : (bs : List Belief) × (l ≡ closed bs) × (length bs ≡ k)
    found = counted_some l k got

    abbrev bs : List Belief
    bs = found.0

    pub explored_few : k ≤ belief_limit
    explored_few = subst (λ m. m ≤ belief_limit) found.2 (beliefs_few sets successors n pairs hiddens belief_limit bs found.1)

    -- so bytes with room for the most begin with k
    pub explored_front : (bytes : List ℕ) → belief_limit ≤ length bytes → length (take k bytes) ≡ k
    explored_front bytes room = length-take-le k bytes (omega (arith, explored_few))

  -- they are too many
  module _ (many : None ≡ explored_of l) where
    pub left_finals : (finals : List ℕ) → finals ≡ written (finals_of sets n (list_of l)) finals
    unfolding finals_of
    left_finals finals = ap (λ r. written (finals_of sets n (list_of r)) finals) (sym (counted_over l many))

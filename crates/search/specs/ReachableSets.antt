-- The sets of patterns that letters can reach, for any number of operators and any way of carrying patterns back.
-- Assumes nothing.
use Rattle.std.specs.Prelude.{ℕ, ◌≡◌, Bool, true, false, ◌&&◌, List, [], ◌∷◌, map}
use Rattle.std.specs.Bool.{beq}
use Rattle.basics.specs.Member.{◌∈◌}
use Rattle.search.specs.PatternSet.{PatternSet, start, next, after}
use Rattle.basics.specs.Reach.{Listing, reachable}

-- two tables agree
unfoldable pub same_set : PatternSet → PatternSet → Bool
same_set [] [] = true
same_set [] (c ∷ t) = false
same_set (b ∷ s) [] = false
same_set (b ∷ s) (c ∷ t) = beq b c && same_set s t

module _ (d : ℕ) (back : ℕ → ℕ → ℕ) (letters : List ℕ) where
  -- the sets that letters lead to from a set
  unfoldable pub next_sets : PatternSet → List PatternSet
  next_sets s = map (next d back s) letters

  -- the sets that letters reach from the start, or `over` if there are more than the limit
  unfoldable pub reachable_sets : ℕ → Listing PatternSet
  reachable_sets limit = reachable same_set next_sets (start d) limit

  -- s is the set after some trace of the alphabet's letters, the empty one included
  pub record IsReachable (s : PatternSet) : Type 0 where
    pub trace : List ℕ
    pub spelled : (a : ℕ) → a ∈ trace → a ∈ letters
    pub leads : after d back (start d) trace ≡ s

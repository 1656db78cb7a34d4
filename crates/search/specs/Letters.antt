-- Letters by number and map: what they carry patterns back to, and the sets that they reach.
-- Assumes nothing.
use Rattle.std.specs.Prelude.{ℕ}
use Rattle.basics.specs.Lists.{below}
use Rattle.basics.specs.Reach.{Listing}
use Rattle.search.specs.declared.letters.Letters.{Letters}
use Rattle.search.specs.Limits.{state_limit}
use Rattle.search.specs.PatternSet.{PatternSet}
use Rattle.search.specs.ReachableSets.{reachable_sets}
use Rattle.search.specs.Maps.{map_in}

-- what a letter carries a pattern back to
abbrev pub back_by : Letters → ℕ → ℕ → ℕ
back_by l = map_in l.maps.now l.firsts.now l.operators

-- the sets that the letters reach, or `over` if there are more than the limit of states
abbrev pub reached : Letters → Listing PatternSet
reached l = reachable_sets l.operators (back_by l) (below l.count) state_limit

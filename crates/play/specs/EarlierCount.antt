-- How positions were counted before: behind a final one too. It is here to be compared with (`proofs/KeptAnswers`); no code follows it.
-- Assumes nothing.
use Rattle.std.specs.Prelude.{ℕ, Bool}
use Rattle.basics.specs.Reach.{Listing, reachable}
use Rattle.play.specs.Rank.{Arena}
use Rattle.play.specs.Answer.{all_moves}

-- all positions that choices and observations can reach, or `over` if there are more than the limit
abbrev pub earlier_positions : (A : Arena) (same : A.K → A.K → Bool) (choices observations limit : ℕ) → Listing A.K
earlier_positions A same choices observations limit = reachable same (all_moves A same choices observations) A.start limit

-- What was answered while beliefs behind a final one counted too. It is here to be compared with (`answers_kept` in `proofs/Main`); no code
-- follows it.
-- Assumes nothing.
use Rattle.tables.specs.declared.shape.Table.{Table}
use Rattle.lines.specs.declared.refusal.Refusal.{Refusal}
use Rattle.std.specs.Prelude.{ℕ, suc, cond, List, [], Err, Result}
use Rattle.basics.specs.Reach.{Listing, closed, over}
use Rattle.lines.specs.declared.refusal.Refusal.TheVariants as refusal
use Rattle.lines.specs.Refusal.{Told}
use Rattle.rules.specs.Problem.{Problem, Outcome as Reading, accepted, refused, read_problem}
use Rattle.search.specs.PatternSet.{PatternSet}
use Rattle.search.specs.ReachableSets.{same_set}
use Rattle.play.specs.Limits.{belief_limit}
use Rattle.play.specs.History.{Possible, AtLeastBeliefs}
use Rattle.play.specs.EarlierCount.{earlier_positions}
use Rattle.game.specs.Solution.{game_of, problem_states, beliefs_of, Solution, too_many_states, solution_of}
use Rattle.game.specs.Believed.{SameBelief}
use Rattle.game.specs.SolvedAs.{solved_of, told_solved, is_short, cells_of}

module _ (p : Problem) where
  -- more beliefs than the limit can be reached: every history that choices and observations make counts
  abbrev pub EarlierManyBeliefs : Type 0
  EarlierManyBeliefs = AtLeastBeliefs (Possible (game_of p).choices (game_of p).observations) (SameBelief p) (suc belief_limit)

  -- for a problem, from its listed states
  abbrev pub earlier_from : Listing PatternSet → Solution
  earlier_from (closed xs) =
      solution_of p.order (beliefs_of p xs) same_set (game_of p).choices (game_of p).observations
      (earlier_positions (beliefs_of p xs) same_set (game_of p).choices (game_of p).observations belief_limit)
  earlier_from over = too_many_states

  abbrev pub earlier_solution : Solution
  earlier_solution = earlier_from (problem_states p)

-- for a text, with so much memory lent: the answer ..
abbrev pub earlier_read : Reading → Result Table Refusal
earlier_read (accepted p) = solved_of p.order p.signals.observed (earlier_solution p)
earlier_read (refused r) = Err r

unfoldable pub earlier_told : ℕ → ℕ → List ℕ → Told
earlier_told work table source = told_solved (cond (is_short work table) (Err refusal.ShortMemory) (earlier_read (read_problem source)))

-- .. and what was written to the table
abbrev pub earlier_rows : Reading → List ℕ
earlier_rows (accepted p) = cells_of (earlier_solution p)
earlier_rows (refused r) = []

unfoldable pub earlier_cells : ℕ → ℕ → List ℕ → List ℕ
earlier_cells work table source = cond (is_short work table) [] (earlier_rows (read_problem source))

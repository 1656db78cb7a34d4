-- What is answered for a problem, by cases, each with what makes it due; and what is due in each case is what is answered.
-- Assumes nothing.
use Prim.Native.Nat.{ℕ, ◌≤◌, ◌<◌}
use native.Mathlib.Nat.{lt_of_le_of_lt}
use native.Mathlib.Omega.{arith}
use mathlib.Core.Path.{◌≡◌, refl, sym, ◌∙◌}
use mathlib.Core.List.{List}
use lib.ListN.{length}
use lib.Pow.{pow_mono, pow_pos}
use Rattle.basics.specs.Limits.{kind_limit}
use Rattle.basics.specs.Reach.{Listing, closed, over}
use Rattle.basics.proofs.ReachLaws.{over_iff, closed_not_over}
use Rattle.rules.specs.Within.{counts_in, Few}
use Rattle.rules.specs.Problem.{Problem, problem_parts}
use Rattle.search.specs.PatternSet.{PatternSet}
use Rattle.search.specs.ReachableSets.{same_set}
use Rattle.search.proofs.ReachableSetsLaws.{same_set_says}
use Rattle.play.specs.Limits.{belief_limit}
use Rattle.play.specs.Game.{Game, Unrealizable}
use Rattle.play.specs.Rank.{Arena}
use Rattle.play.specs.Belief.{Belief}
use Rattle.play.specs.Answer.{moves, positions, Verdict, solved, unrealizable, verdict_of, Right}
use Rattle.play.proofs.AnswerLaws.{start_counted, move_counted, answer_right}
use Rattle.play.proofs.AnswerTable.{answer_table, one_answer}
use Rattle.game.specs.Solution.{game_of, problem_states, beliefs_of, Solution, too_many_states, too_many_beliefs, verdict, solution_of}
use Rattle.game.specs.Solution.{solution_from, solution}
use Rattle.game.specs.Believed.{SameBelief, FinalBelief, ManyStates, ManyBeliefs, Small}
use Rattle.game.specs.SolvedAs.{Controller}
use Rattle.game.proofs.StatesJudge.{beliefs_know, some_hidden}
use Rattle.game.proofs.BelievedLaws.{many_states_lem, few_states, beliefs_tell, beliefs_iff}

-- a solution with what makes it due
pub data Solving (p : Problem) : Solution → Type 0 where
  states : ManyStates p → Solving p too_many_states
  beliefs : (¬ ManyStates p) → ManyBeliefs p → Solving p too_many_beliefs
  none : Small p → Unrealizable (game_of p) p.order → Solving p (verdict unrealizable)
  -- the table, and there is no other
  table : Small p → (n r : ℕ) (cells : List ℕ) → Controller p n r cells
      → ((m q : ℕ) (t : List ℕ) → Controller p m q t → (m ≡ n) × (q ≡ r) × (t ≡ cells)) → Solving p (verdict (solved n r cells))

module _ (p : Problem) (few : Few p.signals) where
  abbrev G : Game
  G = game_of p

  pub few_choices : G.choices < 65535
  few_choices = lt_of_le_of_lt (pow_mono {i = p.signals.outputs} {j = kind_limit} few.outputs) (omega arith)

  pub few_observations : G.observations ≤ 16
  few_observations = pow_mono {i = p.signals.observed} {j = kind_limit} few.observed

  module _ (xs : List PatternSet) (listed : problem_states p ≡ closed xs) where
    abbrev A : Arena
    A = beliefs_of p xs

    abbrev counted : Listing Belief
    counted = positions A same_set G.choices G.observations belief_limit

    -- beliefs are counted exactly where they are not too many
    many_told : counted ≡ over → ManyBeliefs p
    many_told e =
        (beliefs_iff p xs listed _).0 ((over_iff same_set same_set_says (moves A same_set G.choices G.observations) A.start belief_limit).0 e)

    many_over : ManyBeliefs p → counted ≡ over
    many_over m =
        (over_iff same_set same_set_says (moves A same_set G.choices G.observations) A.start belief_limit).1 ((beliefs_iff p xs listed _).1 m)

    module _ (all : List Belief) (is : counted ≡ closed all) where
      abbrev answer : Verdict
      answer = verdict_of p.order A same_set G.choices G.observations (length all)

      small : Small p
      small = (few_states p xs listed, λ m. closed_not_over all (sym is ∙ many_over m))

      right : Right belief_limit p.order G answer
      right =
          answer_right p.order G A same_set same_set_says belief_limit all is (beliefs_know p xs listed) (pow_pos p.signals.observed) (some_hidden p)
          few_choices few_observations

      solving_verdict : (v : Verdict) → answer ≡ v → Right belief_limit p.order G v → Solving p (verdict v)
      solving_verdict (solved n r cells) e s =
          let moves_in = move_counted A same_set same_set_says G.choices G.observations belief_limit all is in
          let start_in = start_counted A same_set same_set_says G.choices G.observations belief_limit all is in
          let (t, q) =
          answer_table p.order A same_set same_set_says G.choices G.observations (pow_pos p.signals.observed) few_choices few_observations
          all moves_in start_in (SameBelief p) (FinalBelief p) (beliefs_tell p xs listed) n r cells e in
          table small n r cells (record { is_table = t; rank = q; solves = s })
          (λ m q t c.
          one_answer p.order A same_set same_set_says G.choices G.observations (pow_pos p.signals.observed) few_choices few_observations
          all moves_in start_in (SameBelief p) (FinalBelief p) (beliefs_tell p xs listed) n r cells e m q t c.is_table c.rank)
      solving_verdict unrealizable e u = none small u

    solving_beliefs : (l : Listing Belief) → counted ≡ l → Solving p (solution_of p.order A same_set G.choices G.observations l)
    solving_beliefs (closed all) e = solving_verdict all e (answer all e) refl (right all e)
    solving_beliefs over e = beliefs (few_states p xs listed) (many_told e)

  solving_states : (l : Listing PatternSet) → problem_states p ≡ l → Solving p (solution_from p.order (problem_parts p) (counts_in p.signals) l)
  solving_states (closed xs) e = solving_beliefs xs e (counted xs e) refl
  solving_states over e = states ((many_states_lem p).0 e)

  pub solving : Solving p (solution p)
  solving = solving_states (problem_states p) refl

-- ---- what is due is answered

module _ (p : Problem) where
  pub states_due : (s : Solution) → Solving p s → ManyStates p → s ≡ too_many_states
  states_due s (states m) d = refl
  states_due s (beliefs f m) d = absurd (f d)
  states_due s (none within u) d = absurd (within.0 d)
  states_due s (table within n r cells c one) d = absurd (within.0 d)

  pub beliefs_due : (s : Solution) → Solving p s → (¬ ManyStates p) → ManyBeliefs p → s ≡ too_many_beliefs
  beliefs_due s (states m) f d = absurd (f m)
  beliefs_due s (beliefs f' m) f d = refl
  beliefs_due s (none within u) f d = absurd (within.1 d)
  beliefs_due s (table within n r cells c one) f d = absurd (within.1 d)

  pub none_due : (s : Solution) → Solving p s → Small p → Unrealizable (game_of p) p.order → s ≡ verdict unrealizable
  none_due s (states m) within u = absurd (within.0 m)
  none_due s (beliefs f m) within u = absurd (within.1 m)
  none_due s (none within' u') within u = refl
  none_due s (table within' n r cells c one) within u = absurd (u _ c.solves.optimal.is_strategy c.solves.optimal.wins)

  pub table_due : (s : Solution) → Solving p s → Small p → (n r : ℕ) (cells : List ℕ) → Controller p n r cells → s ≡ verdict (solved n r cells)
  table_due s (states m) within n r cells c = absurd (within.0 m)
  table_due s (beliefs f m) within n r cells c = absurd (within.1 m)
  table_due s (none within' u) within n r cells c = absurd (u _ c.solves.optimal.is_strategy c.solves.optimal.wins)
  table_due s (table within' m q t c' one) within n r cells c = let (a, b, d) = one n r cells c in rw (a, b, d) refl

-- The theorems of this crate. Assumes nothing.
use Prim.Native.Nat.{ℕ, suc, ◌*◌, ◌≤◌, ◌<◌}
use mathlib.Core.Path.{◌≡◌}
use mathlib.Core.Logic.{◌↔◌, ◌⊎◌}
use mathlib.Core.Bool.{Bool}
use mathlib.Core.List.{List, [], ◌∷◌}
use lib.ListN.{length, drop, replicate}
use Rattle.basics.specs.Says.{Says}
use Rattle.basics.specs.Reach.{closed}
use Rattle.lines.specs.Refusal.{Told, values, refused}
use Rattle.rules.specs.Limits.{work_size}
use Rattle.rules.specs.Problem.{Problem}
use Rattle.rules.specs.Satisfies.{Satisfies}
use Rattle.rules.specs.Denotes.{Denotes}
use Rattle.rules.specs.Refuses.{Refuses}
use Rattle.search.specs.PatternSet.{PatternSet}
use Rattle.play.specs.Limits.{side_limit}
use Rattle.play.specs.Cells.{row_size, stop_cell, table_size, rank_cell}
use Rattle.basics.specs.declared.order.Order.{Order}
use Rattle.basics.specs.declared.order.Order.TheVariants.{Set, Read}
use Rattle.basics.specs.Order.{order_number}
use Rattle.play.specs.Game.{Game, Play, Strategy, IsStrategy, Steps, run, Wins}
use Rattle.play.specs.Rank.{Arena}
use Rattle.play.specs.History.{History, Possible, Knows}
use Rattle.play.specs.IsTable.{RankIs, HasAnswer, BestNext}
use Rattle.play.specs.Table.{table_strategy}
use Rattle.play.specs.Answer.{positions, verdict_of, Right}
use Rattle.play.specs.EarlierCount.{earlier_positions}
use Rattle.game.specs.Solution.{game_of, problem_states, beliefs_of}
use Rattle.game.specs.Believed.{FinalBelief, ManyStates, ManyBeliefs}
use Rattle.game.specs.EarlierCount.{EarlierManyBeliefs, earlier_told, earlier_cells}
use Rattle.game.specs.SolvedAs.{told_by, cells_by, table_after, work_after, Controller, Short, SolvedAs}
use Rattle.play.proofs.IsTableLaws
use Rattle.play.proofs.ReadNeverWorse
use Rattle.play.proofs.ReadRank
use Rattle.play.proofs.AnswerLaws
use Rattle.play.proofs.KeptAnswers
use Rattle.game.proofs.StatesJudge
use Rattle.game.proofs.BelievedLaws
use Rattle.game.proofs.SolvedAsLaws
use Rattle.game.proofs.SolvedAsCases
use Rattle.game.proofs.LentMemory
use Rattle.game.proofs.EarlierCountLaws

-- ---- DEMAND 3, for every text and all lent memory: `told_by` is what `solve` answers, in the reference's terms, and `cells_by` what it
-- writes to the table

module _ (source : List ℕ) (work table : ℕ) where
  -- whole: they are these exactly where these are due. The cases of `SolvedAs` follow one by one
  pub demand_3 : (a : Told) (t : List ℕ) → ((told_by work table source ≡ a) × (cells_by work table source ≡ t)) ↔ SolvedAs work table source a t
  demand_3 = SolvedAsLaws.answered_iff source work table

  -- 12: the lent memory is too short
  pub short_memory : (told_by work table source ≡ refused 12 0) ↔ ((work < work_size) ⊎ (table < table_size))
  short_memory = SolvedAsCases.short_memory source work table

  module _ (enough : work_size ≤ work) (room : table_size ≤ table) where
    -- 1 to 8: the text denotes no problem, and this is why
    pub refused_text : (number place : ℕ) → number ≤ 8 → (told_by work table source ≡ refused number place) ↔ Refuses source number place
    refused_text = SolvedAsCases.refused_text source work table enough room

    module _ (p : Problem) (denotes : Denotes source p) where
      -- 9: more than 128 states can be reached
      pub too_many_states_lem : (told_by work table source ≡ refused 9 0) ↔ ManyStates p
      too_many_states_lem = SolvedAsCases.too_many_states_lem source work table enough room p denotes

      -- 10: 9 is not due, and more than 256 beliefs count: those after histories that pass through no final belief
      pub too_many_beliefs_lem : (told_by work table source ≡ refused 10 0) ↔ ((¬ ManyStates p) × ManyBeliefs p)
      too_many_beliefs_lem = SolvedAsCases.too_many_beliefs_lem source work table enough room p denotes

      module _ (few_states : ¬ ManyStates p) (few_beliefs : ¬ ManyBeliefs p) where
        -- 11: no strategy of the problem's order wins
        pub unrealizable : (told_by work table source ≡ refused 11 0) ↔ ((σ : Strategy p.order) → IsStrategy (game_of p) σ → ¬ Wins (game_of p) σ)
        unrealizable = SolvedAsCases.unrealizable source work table enough room p denotes few_states few_beliefs

        -- otherwise the table that the reference lays down is written, and told with its row count, observed signals, order and worst case ..
        pub otherwise : (¬ (told_by work table source ≡ refused 11 0))
            → (n : ℕ) × (r : ℕ) × (told_by work table source ≡ values (n ∷ p.signals.observed ∷ order_number p.order ∷ r ∷ []))
            × Controller p n r (cells_by work table source)
        otherwise = SolvedAsCases.otherwise source work table enough room p denotes few_states few_beliefs

        -- .. and there is only one
        pub controller : (n r : ℕ) (t : List ℕ)
            → ((told_by work table source ≡ values (n ∷ p.signals.observed ∷ order_number p.order ∷ r ∷ [])) × (cells_by work table source ≡ t))
            ↔ Controller p n r t
        controller = SolvedAsCases.controller source work table enough room p denotes few_states few_beliefs

-- ---- WHAT WAS ANSWERED BEFORE, while beliefs behind a final one counted too: `earlier_told` and `earlier_cells`, which differ from `told_by` and
-- `cells_by` in the beliefs that are counted and in nothing else

module _ (source : List ℕ) (work table : ℕ) where
  -- all of it but number 10 is answered still, for a problem of either order: a table with its row count and worst case, cell for cell, and
  -- "unrealizable" as well as every other refusal
  pub answers_kept : (¬ (earlier_told work table source ≡ refused 10 0))
      → (told_by work table source ≡ earlier_told work table source) × (cells_by work table source ≡ earlier_cells work table source)
  answers_kept = EarlierCountLaws.answers_kept source work table

  -- its number 10: more than 256 beliefs could be reached by any histories
  pub earlier_too_many : work_size ≤ work → table_size ≤ table → (p : Problem) → Denotes source p
      → (earlier_told work table source ≡ refused 10 0) ↔ ((¬ ManyStates p) × EarlierManyBeliefs p)
  earlier_too_many enough room = EarlierCountLaws.earlier_too_many source work table (SolvedAsCases.long_enough source work table enough room)

-- ---- what is left in lent memory: a refusal leaves the table as it was, and a table all behind its rows; 12 leaves the work memory as it was,
-- and any other answer leaves it all zero
pub table_kept : (work : ℕ) (source t : List ℕ) (number place : ℕ) → told_by work (length t) source ≡ refused number place → table_after work source t ≡ t
table_kept = LentMemory.table_kept

pub table_rest : (work : ℕ) (source t : List ℕ) (n observed r : ℕ) (o : Order)
    → told_by work (length t) source ≡ values (n ∷ observed ∷ order_number o ∷ r ∷ [])
    → drop (n * row_size o) (table_after work source t) ≡ drop (n * row_size o) t
table_rest = LentMemory.table_rest

pub work_kept : (table : ℕ) (w : List ℕ) → Short (length w) table → work_after table w ≡ w
work_kept = LentMemory.work_kept

pub work_cleared : (table : ℕ) (w : List ℕ) → (¬ Short (length w) table) → work_after table w ≡ replicate (length w) 0
work_cleared = LentMemory.work_cleared

-- what the table is good for: every play of it ends within the worst case, with a trace that satisfies the problem; one play takes so long;
-- and a strategy that wins has a play that takes as long, or longer
pub plays : (p : Problem) (n r : ℕ) (t : List ℕ) → Controller p n r t
    → IsStrategy (game_of p) (table_strategy p.order t)
    × ((play : Play (game_of p)) → (m : ℕ) × (m ≤ r) × Steps (table_strategy p.order t) play m
    × Satisfies (run (game_of p) (table_strategy p.order t) play m) p)
    × ((play : Play (game_of p)) × Steps (table_strategy p.order t) play r)
    × ((σ : Strategy p.order) → IsStrategy (game_of p) σ → Wins (game_of p) σ → (play : Play (game_of p)) × (m : ℕ) × Steps σ play m × (r ≤ m))
plays = SolvedAsCases.plays

-- the last cell of each row is the rank of the row's belief, and that of row 0 the worst case
pub ranks : (p : Problem) (n r : ℕ) (t : List ℕ) (c : Controller p n r t)
    → ((i : ℕ) → i < n
    → RankIs p.order (game_of p).choices (game_of p).observations (FinalBelief p) (c.is_table.history i) (rank_cell p.order t i))
    × (rank_cell p.order t 0 ≡ r)
ranks = SolvedAsCases.ranks

-- the ranks in it are those of the reference (REFERENCE.md, The game), for any histories' final beliefs: a final belief has rank 0 ..
pub final_rank : (o : Order) (choices observations : ℕ) (Final : History → Type 0) → 0 < observations → (h : History)
    → Final h ↔ RankIs o choices observations Final h 0
final_rank = IsTableLaws.final_rank

-- .. that of another is the least r for which the controller can choose so that every observation leads to a rank below r ..
pub other_rank : (o : Order) (choices observations : ℕ) (Final : History → Type 0) → 0 < observations → (h : History) → (¬ Final h) → (r : ℕ)
    → RankIs o choices observations Final h r
    ↔ (HasAnswer o choices observations Final r h × ((q : ℕ) → q < r → ¬ HasAnswer o choices observations Final q h))
other_rank = IsTableLaws.other_rank

-- .. and under `Read` a rank over 0 of a problem's belief is one more than the worst, over observations, of the best next rank
pub read_rank : (p : Problem) → (¬ ManyStates p) → (h : History) → Possible (game_of p).choices (game_of p).observations h → (¬ FinalBelief p h) → (r : ℕ)
    → RankIs Read (game_of p).choices (game_of p).observations (FinalBelief p) h (suc r)
    ↔ (((s : ℕ) → s < (game_of p).observations
    → (q : ℕ) × (q ≤ r) × BestNext Read (game_of p).choices (game_of p).observations (FinalBelief p) h s q)
    × ((s : ℕ) × (s < (game_of p).observations) × BestNext Read (game_of p).choices (game_of p).observations (FinalBelief p) h s r))
read_rank p few = ReadRank.read_rank (game_of p).choices (game_of p).observations (FinalBelief p) (BelievedLaws.final_decided p few)

-- ---- the theory behind it

-- for either order, any game, any positions that know when a trace is sure to be true, and any limit that keeps their number: the table is
-- an optimal strategy of the order and the worst case its own, or no strategy of the order wins
pub any_game : (o : Order) (G : Game) (A : Arena) (same : A.K → A.K → Bool) → ((a b : A.K) → Says (same a b) (a ≡ b)) → (limit : ℕ) (all : List A.K)
    → positions A same G.choices G.observations limit ≡ closed all → Knows G A
    → 0 < G.observations → 0 < G.hiddens → G.choices < stop_cell → G.observations ≤ side_limit
    → Right limit o G (verdict_of o A same G.choices G.observations (length all))
any_game = AnswerLaws.answer_right

-- for either order and any positions: where all that choices and observations reach is within a limit, what counts is within it, and the verdict
-- is the same from either count
pub any_answer_kept : (A : Arena) (same : A.K → A.K → Bool) → ((a b : A.K) → Says (same a b) (a ≡ b)) → (choices observations : ℕ) (o : Order)
    → 0 < observations → choices < stop_cell → observations ≤ side_limit
    → (limit : ℕ) (all : List A.K) → earlier_positions A same choices observations limit ≡ closed all
    → (few : List A.K) × (positions A same choices observations limit ≡ closed few)
    × (verdict_of o A same choices observations (length few) ≡ verdict_of o A same choices observations (length all))
any_answer_kept = KeptAnswers.answer_kept

-- reading first is never worse: whoever wins by setting first also wins by reading first, with the same number of steps in every play
pub read_never_worse : (G : Game) (σ : Strategy Set) → IsStrategy G σ → Wins G σ
    → (τ : Strategy Read) × IsStrategy G τ × Wins G τ × ((p : Play G) (n : ℕ) → Steps σ p n ↔ Steps τ p n)
read_never_worse = ReadNeverWorse.read_never_worse

-- a problem's beliefs know: one is final exactly where every hidden history makes the trace true
pub beliefs_know : (p : Problem) (xs : List PatternSet) → problem_states p ≡ closed xs → Knows (game_of p) (beliefs_of p xs)
beliefs_know = StatesJudge.beliefs_know

-- What the whole call answers and leaves in lent memory, and what is due: demand 3 (GLOSSARY.md), from a source's bytes to whole plays.
-- Assumes nothing.
use Rattle.tables.specs.declared.answering.Outcome.{Outcome}
use Rattle.lines.specs.declared.refusal.Refusal.{Refusal}
use Rattle.tables.specs.declared.shape.Table.{Table}
use Rattle.std.specs.Prelude.{ℕ, ◌*◌, ◌<◌, ◌⊎◌, Bool, cond, ◌||◌, List, [], ◌∷◌, ltb, length, take, replicate, Err, None, Ok, Option, Result, Some}
use Rattle.basics.specs.Lists.{written}
use Rattle.basics.specs.declared.order.Order.{Order}
use Rattle.basics.specs.Order.{order_number}
use Rattle.lines.specs.declared.refusal.Refusal.TheVariants as refusal
use Rattle.lines.specs.Refusal.{Told, values, refused, told_refusal}
use Rattle.rules.specs.Limits.{work_size}
use Rattle.rules.specs.Problem.{Problem, Outcome as Reading, accepted, read_problem}
use Rattle.rules.specs.Problem as reading
use Rattle.rules.specs.Denotes.{Denotes}
use Rattle.rules.specs.Refuses.{Refuses}
use Rattle.tables.specs.Outcome.{outcome_of, table_with}
use Rattle.play.specs.Limits.{belief_limit}
use Rattle.play.specs.Cells.{row_size, table_size}
use Rattle.play.specs.Game.{Unrealizable}
use Rattle.play.specs.IsTable.{RankIs, IsTable}
use Rattle.play.specs.Answer.{cells_of as verdict_cells, Solves}
use Rattle.game.specs.Solution.{game_of, Solution, too_many_states, too_many_beliefs, verdict, solution}
use Rattle.game.specs.Believed.{SameBelief, FinalBelief, ManyStates, ManyBeliefs, Small}

-- ---- the answer

-- for an outcome, for a solution, each with the order of a step and the number of observed signals, for a text
abbrev pub solved_with : Order → ℕ → Option Outcome → Result Table Refusal
solved_with o observed (Some x) = Ok (table_with (record { rows = x.rows; observed = observed; order = o }) x.worst_case)
solved_with o observed None = Err refusal.Unrealizable

abbrev pub solved_of : Order → ℕ → Solution → Result Table Refusal
solved_of o observed (verdict v) = solved_with o observed (outcome_of v)
solved_of o observed too_many_beliefs = Err refusal.TooManyBeliefs
solved_of o observed too_many_states = Err refusal.TooManyStates

abbrev pub solved_from : Reading → Result Table Refusal
solved_from (accepted p) = solved_of p.order p.signals.observed (solution p)
solved_from (reading.refused r) = Err r

-- lent memory that is too short
abbrev pub is_short : ℕ → ℕ → Bool
is_short work table = ltb work work_size || ltb table table_size

unfoldable pub solved_by : ℕ → ℕ → List ℕ → Result Table Refusal
solved_by work table source = cond (is_short work table) (Err refusal.ShortMemory) (solved_from (read_problem source))

-- in the reference's terms: the row count, the number of observed signals, the order's number and the worst case; or a refusal's number
-- and place
abbrev pub told_solved : Result Table Refusal → Told
told_solved (Ok t) = values (t.shape.rows ∷ t.shape.observed ∷ order_number t.shape.order ∷ t.worst_case ∷ [])
told_solved (Err x) = told_refusal x

abbrev pub told_by : ℕ → ℕ → List ℕ → Told
told_by work table source = told_solved (solved_by work table source)

-- ---- what is left in memory

-- the cells of a solution's rows
abbrev pub cells_of : Solution → List ℕ
cells_of (verdict v) = verdict_cells v
cells_of too_many_beliefs = []
cells_of too_many_states = []

abbrev pub cells_from : Reading → List ℕ
cells_from (accepted p) = cells_of (solution p)
cells_from (reading.refused r) = []

-- what is written to the table, at its front: only the used rows change
unfoldable pub cells_by : ℕ → ℕ → List ℕ → List ℕ
cells_by work table source = cond (is_short work table) [] (cells_from (read_problem source))

abbrev pub table_after : ℕ → List ℕ → List ℕ → List ℕ
table_after work source table = written (cells_by work (length table) source) table

unfoldable pub work_after : ℕ → List ℕ → List ℕ
work_after table work = cond (is_short (length work) table) work (replicate (length work) 0)

-- the used rows of a table, by the answer
abbrev pub used_rows : Result Table Refusal → List ℕ → List ℕ
used_rows (Ok t) table = take (t.shape.rows * row_size t.shape.order) table
used_rows (Err x) table = []

-- ---- what is due

-- the table that the reference lays down for a problem (REFERENCE.md, The table), of n rows and with worst case r
pub record Controller (p : Problem) (n r : ℕ) (cells : List ℕ) : Type 0 where
  -- one row per belief met: row 0 the start, rows numbered as first met, the choices that the order takes, next rows by the moves, and the
  -- belief's rank
  pub is_table : IsTable p.order (game_of p).choices (game_of p).observations (SameBelief p) (FinalBelief p) n cells
  -- the worst case is the rank of the start
  pub rank : RankIs p.order (game_of p).choices (game_of p).observations (FinalBelief p) [] r
  -- read as a strategy of the order it wins, with exactly this worst case, which row 0 has as its rank, and no strategy of the order that wins
  -- has a smaller one
  pub solves : Solves belief_limit p.order (game_of p) n r cells

-- lent memory that is too short
abbrev pub Short : (work table : ℕ) → Type 0
Short work table = (work < work_size) ⊎ (table < table_size)

-- DEMAND 3. What is due for a text where so many bytes of work memory and so many cells of a table are lent: the answer in the reference's
-- terms, and the cells that are written.
pub data SolvedAs (work table : ℕ) (source : List ℕ) : Told → List ℕ → Type 0 where
  -- 12: lent memory is too short
  short_memory : Short work table → SolvedAs work table source (refused 12 0) []
  -- 1 to 8: the text denotes no problem
  bad_source : (¬ Short work table) → (number place : ℕ) → Refuses source number place → SolvedAs work table source (refused number place) []
  -- 9: more than 128 states can be reached
  too_many_states_lem : (¬ Short work table) → (p : Problem) → Denotes source p → ManyStates p → SolvedAs work table source (refused 9 0) []
  -- 10: they are within 128, and more than 256 beliefs count
  too_many_beliefs_lem : (¬ Short work table) → (p : Problem) → Denotes source p → (¬ ManyStates p) → ManyBeliefs p
      → SolvedAs work table source (refused 10 0) []
  -- 11: both are within their limits, and no strategy of the problem's order wins
  unrealizable : (¬ Short work table) → (p : Problem) → Denotes source p → Small p → Unrealizable (game_of p) p.order
      → SolvedAs work table source (refused 11 0) []
  -- the table, with its row count, the number of observed signals, the order's number and its worst case
  table : (¬ Short work table) → (p : Problem) → Denotes source p → Small p → (n r : ℕ) (cells : List ℕ) → Controller p n r cells
      → SolvedAs work table source (values (n ∷ p.signals.observed ∷ order_number p.order ∷ r ∷ [])) cells

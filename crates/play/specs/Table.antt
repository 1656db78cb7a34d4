-- Tables: the cells of a solved game, and a table read as a strategy (REFERENCE.md, The table).
-- Assumes nothing.
use Rattle.std.specs.Prelude.{ℕ, ◌*◌, ◌≤◌, ◌<◌, ◌≡◌, ◌⊎◌, Bool, true, false, length}
use mathlib.Core.List.{List, [], ◌∷◌, flat_map}
use Rattle.basics.specs.Lists.{tabulate}
use Rattle.basics.specs.Reach.{Listing, closed, over, index_in, reachable}
use Rattle.basics.specs.declared.order.Order.{Order}
use Rattle.play.specs.Limits.{side_limit}
use Rattle.play.specs.Cells.{row_size, first_of, first_cell, is_stop, choice_cell, next_cell, rank_cell, Blank, stop_row, choice_row, with_rank}
use Rattle.play.specs.Game.{choose, stop, Strategy}
use Rattle.play.specs.Rank.{Arena, answer_of, rank_from, best_answer}

-- a table as a strategy, from a row on: each observation leads to another row, and the answer is that of the row where it ends; behind
-- a stop row it is "stop"
abbrev pub read_from : (o : Order) → List ℕ → ℕ → Strategy o
read_from o t row [] = elim (is_stop o t row) [ true ↦ stop | false ↦ choose (answer_of o (choice_cell o t row)) ]
read_from o t row (s ∷ h) = elim (is_stop o t row) [ true ↦ stop | false ↦ read_from o t (next_cell o t row s) h ]

-- row 0 is the start
abbrev pub table_strategy : (o : Order) → List ℕ → Strategy o
table_strategy o t = read_from o t 0

-- row i of n has for each observation a choice and a next row, which ranks lower; the cells of other observations are 0
pub record GoesRow (o : Order) (choices observations n : ℕ) (t : List ℕ) (i : ℕ) : Type 0 where
  pub first : first_cell o t i ≡ first_of o (choice_cell o t i)
  pub choice : (s : ℕ) → s < observations → choice_cell o t i s < choices
  pub next : (s : ℕ) → s < observations → next_cell o t i s < n
  pub lower : (s : ℕ) → s < observations → rank_cell o t (next_cell o t i s) < rank_cell o t i
  pub unused : (s : ℕ) → observations ≤ s → s < side_limit → Blank o t i s

-- row i stops, and its other cells are 0, the rank too
pub record StopsRow (o : Order) (t : List ℕ) (i : ℕ) : Type 0 where
  pub stop : is_stop o t i ≡ true
  pub rank : rank_cell o t i ≡ 0
  pub unused : (s : ℕ) → s < side_limit → Blank o t i s

-- a table of n rows, and no more cells, each of which stops or goes on, with a rank below n
pub record Laid (o : Order) (choices observations n : ℕ) (t : List ℕ) : Type 0 where
  pub long : length t ≡ n * row_size o
  pub row : (i : ℕ) → i < n → StopsRow o t i ⊎ GoesRow o choices observations n t i
  pub ranked : (i : ℕ) → i < n → rank_cell o t i < n

-- what is listed; nothing if it is too much
abbrev pub list_of : {K : Type 0} → Listing K → List K
list_of (closed xs) = xs
list_of over = []

-- the positions that follow one, observations upward, by the answer given: the choice taken at a position for an observation
abbrev pub followers_by : (A : Arena) → (A.K → ℕ → ℕ) → ℕ → A.K → List A.K
followers_by A answer observations k = elim (A.final k) [ true ↦ [] | false ↦ tabulate observations (λ s. A.move k (answer k s) s) ]

-- one row per position met, numbered as first met, row by row, observations upward; `same` tells whether two positions are the same
abbrev pub rows_by : (A : Arena) → (A.K → A.K → Bool) → (A.K → ℕ → ℕ) → (observations n : ℕ) → List A.K
rows_by A same answer observations n = list_of (reachable same (followers_by A answer observations) A.start n)

-- the table of an arena whose ranks are below n, by the best answer at each position
module _ (o : Order) (A : Arena) (same : A.K → A.K → Bool) (choices observations n : ℕ) where
  abbrev pub followers : A.K → List A.K
  followers = followers_by A (best_answer o A choices observations n) observations

  abbrev pub rows : List A.K
  rows = rows_by A same (best_answer o A choices observations n) observations n

  -- the row of a position, among the rows given, but for its rank
  abbrev pub unranked : List A.K → A.K → List ℕ
  unranked l k =
      elim (A.final k) [
        | true ↦ stop_row o
        | false ↦
            let answer = best_answer o A choices observations n k in
            choice_row o observations answer (λ s. index_in same (A.move k (answer s) s) l)
      ]

  -- the row
  abbrev pub row_of : List A.K → A.K → List ℕ
  row_of l k = with_rank o (rank_from o A choices observations n k) (unranked l k)

  abbrev pub table_cells : List ℕ
  table_cells = let l = rows in flat_map (row_of l) l

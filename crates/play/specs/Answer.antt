-- What is answered for a game, from the positions of an arena: the table and its worst case, or that there is none.
-- Assumes nothing.
use Rattle.std.specs.Prelude.{ℕ, ◌*◌, ◌/◌, ◌%◌, ◌≤◌, ◌<◌, ◌≡◌, Bool, true, false, cond, List, [], ltb, length}
use Rattle.basics.specs.Lists.{tabulate}
use Rattle.basics.specs.Reach.{Listing, reachable}
use Rattle.basics.specs.declared.order.Order.{Order}
use Rattle.play.specs.Cells.{rank_cell}
use Rattle.play.specs.Game.{Game, Optimal, Unrealizable}
use Rattle.play.specs.Rank.{Arena, rank_from}
use Rattle.play.specs.Table.{table_strategy, Laid, rows, table_cells}

module _ (A : Arena) (same : A.K → A.K → Bool) (choices observations : ℕ) where
  -- where all choices and observations lead: pair q is choice q % choices and observation q / choices
  abbrev pub all_moves : A.K → List A.K
  all_moves k = tabulate (choices * observations) (λ q. A.move k (q % choices) (q / choices))

  -- a final position has no moves
  abbrev pub moves : A.K → List A.K
  moves k = elim (A.final k) [ true ↦ [] | false ↦ all_moves k ]

  -- the positions that count: the start, and what moves lead to from one that counts; `over` if there are more than the limit. Under either
  -- order they are the same
  abbrev pub positions : ℕ → Listing A.K
  positions limit = reachable same moves A.start limit

-- a table with its row count and worst case, or "unrealizable"
pub data Verdict : Type 0 where
  solved : (row_count worst_case : ℕ) (cells : List ℕ) → Verdict
  unrealizable : Verdict

module _ (o : Order) (A : Arena) (same : A.K → A.K → Bool) (choices observations : ℕ) where
  -- the worst case is the start's rank, searched below n; n if there is none
  abbrev pub start_rank : ℕ → ℕ
  start_rank n = rank_from o A choices observations n A.start

  -- for a game with n positions: a rank is below their number
  abbrev pub verdict_of : ℕ → Verdict
  verdict_of n =
      cond (ltb (start_rank n) n)
      (solved (length (rows o A same choices observations n)) (start_rank n) (table_cells o A same choices observations n)) unrealizable

-- what is written for a verdict
abbrev pub cells_of : Verdict → List ℕ
cells_of (solved n r cells) = cells
cells_of unrealizable = []

-- a table of n rows with worst case r: read as a strategy it wins, its worst case is r, and no winning strategy has a smaller one; the
-- worst case is below the row count and the rank of row 0, the row count within the limit of positions, and each row has the right cells
pub record Solves (limit : ℕ) (o : Order) (G : Game) (n r : ℕ) (cells : List ℕ) : Type 0 where
  pub optimal : Optimal G (table_strategy o cells) r
  pub below : r < n
  pub first : rank_cell o cells 0 ≡ r
  pub within : n ≤ limit
  pub laid : Laid o G.choices G.observations n cells

-- what a verdict promises: the table solves the game, or no strategy of the order wins
abbrev pub Right : ℕ → Order → Game → Verdict → Type 0
Right limit o G (solved n r cells) = Solves limit o G n r cells
Right limit o G unrealizable = Unrealizable G o

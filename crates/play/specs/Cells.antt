-- The cells of a table: where those of a row stand, for each order of a step. What is printed of a row (`printer/specs/Text`), and which of
-- its cells are choices (`loader/specs/Candidate`), go by it.
-- Assumes nothing.
use Rattle.std.specs.Prelude.{ℕ, ◌+◌, ◌*◌, ◌/◌, ◌%◌, ◌≡◌, Bool, cond, List, ◌∷◌, eqb, ltb, get_or, set, replicate}
use Rattle.basics.specs.Lists.{tabulate}
use Rattle.basics.specs.declared.order.Order.{Order}
use Rattle.basics.specs.declared.order.Order.TheVariants.{Set, Read}
use Rattle.play.specs.Limits.{belief_limit, side_limit}

-- The first cell is 65535 where the table stops. Order `Set`: else it is the row's choice; then the next row for observations 0 to 15.
-- Order `Read`: else it is 0; then for observations 0 to 15 a choice and the next row. Unused cells are 0. The last cell is the row's rank:
-- how many steps are left at most
abbrev pub choice_at : Order → ℕ → ℕ
choice_at Set s = 0
choice_at Read s = 1 + 2 * s

abbrev pub next_at : Order → ℕ → ℕ
next_at Set s = 1 + s
next_at Read s = 2 + 2 * s

abbrev pub rank_at : Order → ℕ
rank_at Set = 1 + side_limit
rank_at Read = 1 + 2 * side_limit

abbrev pub row_size : Order → ℕ
row_size Set = 2 + side_limit
row_size Read = 2 + 2 * side_limit

abbrev pub stop_cell : ℕ
stop_cell = 65535

-- a cell is a number below this
abbrev pub cell_limit : ℕ
cell_limit = 65536

-- cells that a table must have room for, under either order: those of the longer rows
abbrev pub table_size : ℕ
table_size = belief_limit * row_size Read

-- the first cell of a row that does not stop and has choice `answer s` for observation s
abbrev pub first_of : Order → (ℕ → ℕ) → ℕ
first_of Set answer = answer 0
first_of Read answer = 0

-- ---- a row's cells, by what they say

module _ (o : Order) (t : List ℕ) (row : ℕ) where
  -- cell i
  abbrev pub cell : ℕ → ℕ
  cell i = get_or t (row * row_size o + i) 0

  abbrev pub first_cell : ℕ
  first_cell = cell 0

  abbrev pub is_stop : Bool
  is_stop = eqb first_cell stop_cell

  -- the choice for an observation
  abbrev pub choice_cell : ℕ → ℕ
  choice_cell s = cell (choice_at o s)

  -- the next row for an observation
  abbrev pub next_cell : ℕ → ℕ
  next_cell s = cell (next_at o s)

  abbrev pub rank_cell : ℕ
  rank_cell = cell (rank_at o)

-- an observation's own cells are 0
abbrev pub Blank : Order → List ℕ → ℕ → ℕ → Type 0
Blank Set t row s = next_cell Set t row s ≡ 0
Blank Read t row s = (choice_cell Read t row s ≡ 0) × (next_cell Read t row s ≡ 0)

-- ---- rows as they are written: the cells that say what is done, and 0 as the last; then the rank in its place

-- the row of a position where the table stops
unfoldable pub stop_row : Order → List ℕ
stop_row Set = stop_cell ∷ replicate (1 + side_limit) 0
stop_row Read = stop_cell ∷ replicate (1 + 2 * side_limit) 0

-- cell 1 + i of a row of pairs, of which so many are used
abbrev pub pair_cell : (observations : ℕ) → (answer next : ℕ → ℕ) → ℕ → ℕ
pair_cell observations answer next i = cond (ltb (i / 2) observations) (cond (eqb (i % 2) 0) (answer (i / 2)) (next (i / 2))) 0

-- the row where observation s has choice `answer s` and leads to row `next s`
unfoldable pub choice_row : Order → (observations : ℕ) → (answer next : ℕ → ℕ) → List ℕ
choice_row Set observations answer next = answer 0 ∷ tabulate (1 + side_limit) (λ s. cond (ltb s observations) (next s) 0)
choice_row Read observations answer next = 0 ∷ tabulate (1 + 2 * side_limit) (pair_cell observations answer next)

-- a row with its rank
unfoldable pub with_rank : Order → ℕ → List ℕ → List ℕ
with_rank o r row = set row (rank_at o) r

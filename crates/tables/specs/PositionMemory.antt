-- Positions, ranks and rows in memory. Positions are numbers below n. Entry i * pair_limit + s * choices + c of `moves` is where choice c and
-- observation s lead from position i; entry i of `finals` is 1 where position i is final.
-- Assumes nothing.
use Rattle.std.specs.Prelude.{ℕ, suc, ◌+◌, ◌*◌, ◌≤◌, ◌<◌, ◌≡◌, Bool, cond, List, eqb, leb, ltb, length, get_or, set}
use Rattle.basics.specs.Lists.{tabulate}
use Rattle.basics.specs.Reach.{index_in, add_all}
use Rattle.play.specs.Limits.{belief_limit, side_limit, pair_limit}
use Rattle.basics.specs.Bounded.{all, first_that}
use Rattle.basics.specs.declared.order.Order.{Order}
use Rattle.basics.specs.declared.order.Order.TheVariants.{Set, Read}
use Rattle.play.specs.Rank.{Arena, can, rank_from}
use Rattle.play.specs.Cells.{choice_at, next_at, choice_row}

abbrev pub arena_in : ℕ → List ℕ → List ℕ → Arena
arena_in choices moves finals =
    record {
      K = ℕ;
      start = 0;
      move = λ i c s. get_or moves (i * pair_limit + s * choices + c) 0;
      final = λ i. eqb (get_or finals i 0) 1;
    }

-- n positions, closed under moves
pub record Positions (n choices observations : ℕ) (moves finals : List ℕ) : Type 0 where
  pub some : 0 < n
  pub few : n ≤ belief_limit
  pub few_choices : choices ≤ side_limit
  pub few_observations : observations ≤ side_limit
  pub some_choice : 0 < choices
  pub some_observation : 0 < observations
  pub moves_long : length moves ≡ belief_limit * pair_limit
  pub finals_long : length finals ≡ belief_limit
  pub inside : (i c s : ℕ) → i < n → c < choices → s < observations → get_or moves (i * pair_limit + s * choices + c) 0 < n

-- where observation s leads from position k after choice c
unfoldable pub next_of : List ℕ → ℕ → ℕ → ℕ → ℕ → ℕ
next_of moves choices k c s = get_or moves (k * pair_limit + s * choices + c) 0

-- ---- ranks found round by round

-- none yet: a number that is no rank
abbrev pub no_rank : ℕ
no_rank = 65535

-- before any round
unfoldable pub first_rank : List ℕ → ℕ → ℕ
first_rank finals k = cond (eqb (get_or finals k 0) 1) 0 no_rank

-- the rank that choice c leads to from position k at observation s
unfoldable pub rank_after : List ℕ → List ℕ → ℕ → ℕ → ℕ → ℕ → ℕ
rank_after moves ranks choices k c s = get_or ranks (next_of moves choices k c s) 0

-- after the choice every observation leads from position k to a rank below r
unfoldable pub works : List ℕ → List ℕ → ℕ → ℕ → ℕ → ℕ → ℕ → Bool
works moves ranks choices observations r k c = all observations (λ s. ltb (rank_after moves ranks choices k c s) r)

-- the controller can choose, at position k, so that every observation leads to a rank below r
unfoldable pub can_lead : Order → List ℕ → List ℕ → ℕ → ℕ → ℕ → ℕ → Bool
can_lead o moves ranks choices observations r k = can o choices observations (λ c s. ltb (rank_after moves ranks choices k c s) r)

-- the rank of k if it is below r, `no_rank` if not
abbrev pub rank_if_below : Order → (A : Arena) (choices observations r : ℕ) → A.K → ℕ
rank_if_below o A choices observations r k = let q = rank_from o A choices observations r k in cond (ltb q r) q no_rank

-- so for each of n positions: what r rounds find
unfoldable pub ranks_below : Order → (n choices observations r : ℕ) (moves finals : List ℕ) → List ℕ
ranks_below o n choices observations r moves finals = tabulate n (rank_if_below o (arena_in choices moves finals) choices observations r)

-- position k has rank r
unfoldable pub has_rank : Order → (choices observations r : ℕ) (moves finals : List ℕ) → ℕ → Bool
has_rank o choices observations r moves finals k = eqb (rank_from o (arena_in choices moves finals) choices observations (suc r) k) r

-- ---- the choices of a position whose rank is known

-- no choice leads from position k, at observation s, to a lower rank than choice c
unfoldable pub is_best : List ℕ → List ℕ → ℕ → ℕ → ℕ → ℕ → Bool
is_best moves ranks choices k s c = all choices (λ d. leb (rank_after moves ranks choices k c s) (rank_after moves ranks choices k d s))

-- the choice at observation s
abbrev pub answer_at : Order → List ℕ → List ℕ → ℕ → ℕ → ℕ → ℕ → ℕ
answer_at Set moves ranks choices observations k s = first_that (works moves ranks choices observations (get_or ranks k 0) k) choices
answer_at Read moves ranks choices observations k s = first_that (is_best moves ranks choices k s) choices

-- one for each observation
unfoldable pub answers_at : Order → List ℕ → List ℕ → ℕ → ℕ → ℕ → List ℕ
answers_at o moves ranks choices observations k = tabulate observations (answer_at o moves ranks choices observations k)

-- ---- rows of the table, as they are written one after another; `answers` has the choice of position k for each observation

-- they are choices
pub record Choices (choices observations : ℕ) (answers : List ℕ) : Type 0 where
  pub small : (s : ℕ) → s < observations → get_or answers s 0 < choices

-- a row with the choice for observation s written, if it is one of the observation's own cells
abbrev pub with_choice : Order → List ℕ → ℕ → ℕ → List ℕ
with_choice Set cells s c = cells
with_choice Read cells s c = set cells (choice_at Read s) c

-- and with the next row
abbrev pub with_pair : Order → List ℕ → ℕ → ℕ → ℕ → List ℕ
with_pair o cells s c next = set (with_choice o cells s c) (next_at o s) next

-- the next position for observation s
abbrev pub next_by : List ℕ → ℕ → ℕ → List ℕ → ℕ → ℕ
next_by moves choices k answers s = next_of moves choices k (get_or answers s 0) s

-- the rows l, with the next positions of k put behind them where they are new
unfoldable pub rows_with : List ℕ → ℕ → ℕ → ℕ → List ℕ → List ℕ → List ℕ
rows_with moves choices observations k answers l = add_all eqb l (tabulate observations (next_by moves choices k answers))

-- the row of position k among the rows l
abbrev pub row_with : Order → List ℕ → ℕ → ℕ → ℕ → List ℕ → List ℕ → List ℕ
row_with o moves choices observations k answers l =
    choice_row o observations (λ s. get_or answers s 0) (λ s. index_in eqb (next_by moves choices k answers s) l)

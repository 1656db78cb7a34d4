-- The table of a problem (REFERENCE.md, The table), said of histories alone: no position has a number, and nothing is searched.
-- `proofs/TableIs` shows that `table_cells` is such a table, and `proofs/OneTable` that there is only one.
-- Assumes nothing.
use Rattle.std.specs.Prelude.{ℕ, zero, suc, ◌*◌, ◌≤◌, ◌<◌, ◌≡◌, ◌⊎◌, List, [], length}
use Rattle.basics.specs.declared.order.Order.{Order}
use Rattle.basics.specs.declared.order.Order.TheVariants.{Set, Read}
use Rattle.play.specs.Limits.{side_limit}
use Rattle.play.specs.Cells.{row_size, stop_cell, first_of, first_cell, choice_cell, next_cell, rank_cell, Blank}
use Rattle.play.specs.History.{History, onward}

-- the controller can choose so that `Good choice observation` holds at every observation: under `Set` one choice is good at each, under
-- `Read` each has a good one
abbrev pub CanChoose : Order → (choices observations : ℕ) → (ℕ → ℕ → Type 0) → Type 0
CanChoose Set choices observations Good = (c : ℕ) × (c < choices) × ((s : ℕ) → s < observations → Good c s)
CanChoose Read choices observations Good = (s : ℕ) → s < observations → (c : ℕ) × (c < choices) × Good c s

-- ---- ranks; `Final h` says that the belief after h is a stop belief

module _ (o : Order) (choices observations : ℕ) (Final : History → Type 0) where
  -- the belief after h has a rank below r: it is a stop belief, or the controller can choose so that the next rank is below r - 1
  abbrev pub RankBelow : ℕ → History → Type 0
  RankBelow zero h = ⊥
  RankBelow (suc r) h = Final h ⊎ CanChoose o choices observations (λ c s. RankBelow r (onward h c s))

  -- it has rank r
  abbrev pub RankIs : History → ℕ → Type 0
  RankIs h r = RankBelow (suc r) h × (¬ RankBelow r h)

  -- the controller can choose so that every observation leads to a rank below r
  abbrev pub HasAnswer : ℕ → History → Type 0
  HasAnswer r h = CanChoose o choices observations (λ c s. RankBelow r (onward h c s))

  -- after choice c every observation leads to a rank below r
  abbrev pub LeadsBelow : ℕ → History → ℕ → Type 0
  LeadsBelow r h c = (s : ℕ) → s < observations → RankBelow r (onward h c s)

  -- at observation s the best next rank is q
  abbrev pub BestNext : History → ℕ → ℕ → Type 0
  BestNext h s q = ((c : ℕ) × (c < choices) × RankIs (onward h c s) q) × ((c : ℕ) → c < choices → ¬ RankBelow q (onward h c s))

-- ---- choices: `answer s` is the one taken at observation s

-- one choice, the smallest after which every observation leads to a rank below the belief's own
pub record SmallestBelow (choices observations : ℕ) (Final : History → Type 0) (h : History) (answer : ℕ → ℕ) : Type 0 where
  pub choice : ℕ
  pub taken : (s : ℕ) → s < observations → answer s ≡ choice
  pub is_choice : choice < choices
  pub rank : ℕ
  pub is_rank : RankIs Set choices observations Final h rank
  pub leads : LeadsBelow Set choices observations Final rank h choice
  pub smallest : (d : ℕ) → d < choice → ¬ LeadsBelow Set choices observations Final rank h d

-- at an observation the smallest choice that leads to the best next rank
pub record SmallestBest (choices observations : ℕ) (Final : History → Type 0) (h : History) (s c : ℕ) : Type 0 where
  pub is_choice : c < choices
  pub rank : ℕ
  pub best : BestNext Read choices observations Final h s rank
  pub leads : RankIs Read choices observations Final (onward h c s) rank
  pub smallest : (d : ℕ) → d < c → ¬ RankIs Read choices observations Final (onward h d s) rank

-- the choices that the order takes at the belief after h
abbrev pub Takes : Order → (choices observations : ℕ) → (History → Type 0) → History → (ℕ → ℕ) → Type 0
Takes Set choices observations Final h answer = SmallestBelow choices observations Final h answer
Takes Read choices observations Final h answer = (s : ℕ) → s < observations → SmallestBest choices observations Final h s (answer s)

-- ---- the table; `Same h k` says that the beliefs after h and after k are the same

-- row k with observation u comes before row i with observation s: row by row, observations upward
abbrev pub Before : (k u i s : ℕ) → Type 0
Before k u i s = (k < i) ⊎ ((k ≡ i) × (u < s))

-- row i stops, and has no choices and next rows
pub record StopRow (o : Order) (cells : List ℕ) (i : ℕ) : Type 0 where
  pub stop : first_cell o cells i ≡ stop_cell
  pub unused : (s : ℕ) → s < side_limit → Blank o cells i s

module _ (o : Order) (choices observations : ℕ) (Same : History → History → Type 0) (Final : History → Type 0) where
  -- row i has its belief's choices, and for each observation the row of the next belief
  pub record ChoiceRow (n : ℕ) (cells : List ℕ) (history : ℕ → History) (i : ℕ) : Type 0 where
    pub first : first_cell o cells i ≡ first_of o (choice_cell o cells i)
    pub choice : Takes o choices observations Final (history i) (choice_cell o cells i)
    pub next : (s : ℕ) → s < observations
        → (next_cell o cells i s < n) × Same (history (next_cell o cells i s)) (onward (history i) (choice_cell o cells i s) s)
    pub unused : (s : ℕ) → observations ≤ s → s < side_limit → Blank o cells i s

  -- row j is first met from row i at observation s
  pub record MetFrom (cells : List ℕ) (history : ℕ → History) (j i s : ℕ) : Type 0 where
    -- from an earlier row, which does not stop, at an observation that can occur, following the choice taken
    pub earlier : i < j
    pub unstopped : ¬ Final (history i)
    pub observed : s < observations
    pub followed : history j ≡ onward (history i) (choice_cell o cells i s) s
    -- what is met before has a smaller number
    pub first : (k u : ℕ) → u < observations → Before k u i s → next_cell o cells k u < j

  -- THE TABLE, of n rows
  pub record IsTable (n : ℕ) (cells : List ℕ) : Type 0 where
    -- it has no cells but those of its rows
    pub long : length cells ≡ n * row_size o
    -- by which each row is first met
    pub history : ℕ → History
    -- row 0 is the start
    pub start : (0 < n) × (history 0 ≡ [])
    -- one row per belief
    pub one_row : (i j : ℕ) → i < n → j < n → Same (history i) (history j) → i ≡ j
    -- rows are numbered as first met
    pub met : (j : ℕ) → 0 < j → j < n → (i : ℕ) × (s : ℕ) × MetFrom cells history j i s
    -- the row of a stop belief, and that of another
    pub stops : (i : ℕ) → i < n → Final (history i) → StopRow o cells i
    pub goes : (i : ℕ) → i < n → (¬ Final (history i)) → ChoiceRow n cells history i
    -- each carries the rank of its belief
    pub rank : (i : ℕ) → i < n → RankIs o choices observations Final (history i) (rank_cell o cells i)

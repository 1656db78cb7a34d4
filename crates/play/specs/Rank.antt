-- Ranks: how far a position lies from a sure stop (REFERENCE.md, The game).
-- Assumes nothing.
use Rattle.std.specs.Prelude.{ℕ, zero, suc, ◌<◌, pred, ◌≡◌, Bool, true, false, ◌||◌, [], ◌∷◌}
use Rattle.basics.specs.Bounded.{all, any, first_that}
use Rattle.basics.specs.declared.order.Order.{Order}
use Rattle.basics.specs.declared.order.Order.TheVariants.{Set, Read}
use Rattle.play.specs.Game.{Answer, choose, stop, Strategy}

-- what the controller can know: positions, as beliefs are; the first of them, the next one after a choice and an observation, and
-- where it may stop
pub record Arena : Type 1 where
  pub K : Type 0
  pub start : K
  pub move : K → ℕ → ℕ → K
  pub final : K → Bool

-- the controller can choose so that `ok choice observation` holds at every observation: under `Set` some choice is right at every
-- observation, under `Read` at every observation some choice is right
abbrev pub can : Order → (choices observations : ℕ) → (ℕ → ℕ → Bool) → Bool
can Set choices observations ok = any choices (λ c. all observations (λ s. ok c s))
can Read choices observations ok = all observations (λ s. any choices (λ c. ok c s))

-- for any such test, `able`
module _ (A : Arena) (able : (ℕ → ℕ → Bool) → Bool) where
  -- the rank is at most r: a final position, or one from which the controller can see to it that the next rank is at most r - 1
  abbrev pub within : ℕ → A.K → Bool
  within zero k = A.final k
  within (suc r) k = A.final k || able (λ c s. within r (A.move k c s))

  -- the rank is r
  abbrev pub Rank : A.K → ℕ → Type 0
  Rank k r = (within r k ≡ true) × ((q : ℕ) → q < r → within q k ≡ false)

  -- the rank, searched below n; n if there is none below n
  abbrev pub rank_below : ℕ → A.K → ℕ
  rank_below n k = first_that (λ r. within r k) n

-- an answer of the order, from a choice for each observation
abbrev pub answer_of : (o : Order) → (ℕ → ℕ) → Answer o
answer_of Set g = g 0
answer_of Read g = g

module _ (o : Order) (A : Arena) (choices observations : ℕ) where
  abbrev pub RankOf : A.K → ℕ → Type 0
  RankOf k r = Rank A (can o choices observations) k r

  abbrev pub rank_from : ℕ → A.K → ℕ
  rank_from n k = rank_below A (can o choices observations) n k

  -- choice c leads, at observation s, to a rank of at most r
  abbrev pub leads_within : ℕ → A.K → ℕ → ℕ → Bool
  leads_within r k c s = within A (can o choices observations) r (A.move k c s)

  -- the best next rank at an observation, searched below n; n if there is none
  abbrev pub next_rank : ℕ → A.K → ℕ → ℕ
  next_rank n k s = first_that (λ r. any choices (λ c. leads_within r k c s)) n

-- the choice at an observation, ranks being below n. Under `Set` it is the smallest after which every observation leads to a rank below
-- the position's own; under `Read` the smallest that leads to the observation's best next rank
abbrev pub best_answer : (o : Order) (A : Arena) (choices observations n : ℕ) → A.K → ℕ → ℕ
best_answer Set A choices observations n k s =
    let r = pred (rank_from Set A choices observations n k) in
    first_that (λ c. all observations (λ t. leads_within Set A choices observations r k c t)) choices
best_answer Read A choices observations n k s =
    let r = next_rank Read A choices observations n k s in
    first_that (λ c. leads_within Read A choices observations r k c s) choices

module _ (o : Order) (A : Arena) (choices observations n : ℕ) where
  -- the strategy that takes it at each position, and stops from a final position on; the observations are those since position k
  abbrev pub best : A.K → Strategy o
  best k [] = elim (A.final k) [ true ↦ stop | false ↦ choose (answer_of o (best_answer o A choices observations n k)) ]
  best k (s ∷ h) = elim (A.final k) [ true ↦ stop | false ↦ best (A.move k (best_answer o A choices observations n k s) s) h ]

-- The choice of a position (`best_answer`) is the smallest of those that it should be among: under `Set`, of those after which every
-- observation leads to a rank below the position's own; under `Read`, of those that lead from an observation to its best next rank.
-- Assumes nothing.
use Prim.Native.Nat.{ℕ, zero, suc, ◌<◌, pred, suc-le-suc}
use native.Mathlib.Nat.{le_of_suc-le-suc}
use native.Mathlib.Decide.{dec_le}
use native.Mathlib.Omega.{arith}
use mathlib.Core.Path.{◌≡◌, refl, sym, subst}
use mathlib.Core.Logic.{◌↔◌}
use mathlib.Core.Bool.{Bool, true, false}
use Rattle.basics.specs.Bounded.{all, any, first_that}
use Rattle.basics.specs.declared.order.Order.{Order}
use Rattle.basics.specs.declared.order.Order.TheVariants.{Set, Read}
use Rattle.basics.proofs.BoundedLaws.{any_at, any_not, all_at, all_of, first_of, first_least}
use Rattle.basics.proofs.Booleans.{clash}
use Rattle.play.specs.Game.{chosen}
use Rattle.play.specs.Rank.{Arena, RankOf, leads_within, next_rank, answer_of, best_answer}
use Rattle.play.proofs.StepOrder.{order_of}
use Rattle.play.proofs.RankLaws.{In, within_le, rank_of, rank_searched, goes_on_lem}

module _ (o : Order) (A : Arena) (choices observations : ℕ) where
  -- the position has a rank, and it is below r
  abbrev pub RankedBelow : ℕ → A.K → Type 0
  RankedBelow r k = (q : ℕ) × (q < r) × RankOf o A choices observations k q

  pub ranked_iff : (r : ℕ) (k : A.K) → (In (order_of o choices observations) A r k ≡ true) ↔ RankedBelow (suc r) k
  ranked_iff r k = (
    λ t. let (q, b, a) = rank_of (order_of o choices observations) A r k t in (q, suc-le-suc b, a),
    λ e. let (q, b, a) = e in within_le (order_of o choices observations) A q r k (le_of_suc-le-suc b) a.0,
  )

-- ---- `Set`

module _ (A : Arena) (choices observations : ℕ) where
  -- after the choice every observation leads to a rank below r
  abbrev MovesBelow : ℕ → A.K → ℕ → Type 0
  MovesBelow r k c = (s : ℕ) → s < observations → RankedBelow Set A choices observations r (A.move k c s)

  abbrev works : ℕ → A.K → ℕ → Bool
  works r k c = all observations (λ s. leads_within Set A choices observations r k c s)

  works_iff : (r : ℕ) (k : A.K) (c : ℕ) → (works r k c ≡ true) ↔ MovesBelow (suc r) k c
  works_iff r k c = (
    λ t s h.
        (ranked_iff Set A choices observations r (A.move k c s)).0
        (all_at observations (λ s. leads_within Set A choices observations r k c s) t s h),
    λ f.
        all_of observations (λ s. leads_within Set A choices observations r k c s)
        (λ s h. (ranked_iff Set A choices observations r (A.move k c s)).1 (f s h)),
  )

  -- the one choice does so, and no smaller one
  pub takes_below : (n : ℕ) (k : A.K) (r : ℕ) → r < n → A.final k ≡ false → RankOf Set A choices observations k r
      → let c = best_answer Set A choices observations n k 0 in
      (c < choices) × MovesBelow r k c × ((d : ℕ) → d < c → ¬ MovesBelow r k d)
  takes_below n k zero h f a = clash a.0 f
  takes_below n k (suc r) h f a =
      let (c, b, t) = any_at choices (works r k) (goes_on_lem (order_of Set choices observations) A k r a) in
      let (b', w) = first_of (works r k) choices c b t in
      subst (λ (q : ℕ). let c = first_that (works (pred q) k) choices in
      (c < choices) × MovesBelow (suc r) k c × ((d : ℕ) → d < c → ¬ MovesBelow (suc r) k d))
      (sym (rank_searched (order_of Set choices observations) A n (suc r) k h a))
      (b', (works_iff r k (first_that (works r k) choices)).0 w, λ d u l. clash ((works_iff r k d).1 l) (first_least (works r k) choices d u))

-- ---- `Read`

module _ (A : Arena) (choices observations : ℕ) where
  -- at observation s the choice leads to a rank of at most r
  abbrev leads : ℕ → A.K → ℕ → ℕ → Bool
  leads r k s c = leads_within Read A choices observations r k c s

  -- an observation's choice leads to its best next rank q, which is below the position's own: no choice leads below q, and no smaller
  -- one to q
  pub takes_best_next : (n : ℕ) (k : A.K) (r : ℕ) → r < n → A.final k ≡ false → RankOf Read A choices observations k r → (s : ℕ) → s < observations
      → let q = next_rank Read A choices observations n k s in
      let c = best_answer Read A choices observations n k s in
      (c < choices) × (q < r) × RankOf Read A choices observations (A.move k c s) q
      × ((d : ℕ) → d < choices → ¬ RankedBelow Read A choices observations q (A.move k d s))
      × ((d : ℕ) → d < c → ¬ RankOf Read A choices observations (A.move k d s) q)
  takes_best_next n k zero h f a s sb = clash a.0 f
  takes_best_next n k (suc r) h f a s sb =
      let some : ℕ → Bool = λ q. any choices (leads q k s) in
      let q = first_that some n in
      let c = first_that (leads q k s) choices in
      let r_some = all_at observations (λ s. any choices (leads r k s)) (goes_on_lem (order_of Read choices observations) A k r a) s sb in
      let (qb, q_some) = first_of some n r (omega arith) r_some in
      let (d, db, t) = any_at choices (leads q k s) q_some in
      let (cb, w) = first_of (leads q k s) choices d db t in
      let low : (d p : ℕ) → d < choices → p < q → leads p k s d ≡ false =
      λ d p db pb. any_not choices (leads p k s) (first_least some n p pb) d db in (
        cb,
        elim (dec_le q r) [ yes l ↦ suc-le-suc l | no l ↦ clash r_some (first_least some n r (omega arith)) ],
        (w, λ p pb. low c p cb pb),
        λ d db e. clash e.2.0 (low d e.0 db e.1),
        λ d db e. clash e.0 (first_least (leads q k s) choices d db),
      )

-- ---- either order

-- at every observation it is a choice, and leads to a rank below the position's own
pub best_leads : (o : Order) (A : Arena) (choices observations n : ℕ) (k : A.K) (r : ℕ) → r < n → A.final k ≡ false
    → RankOf o A choices observations k r → (s : ℕ) → s < observations
    → let c = best_answer o A choices observations n k s in (c < choices) × RankedBelow o A choices observations r (A.move k c s)
best_leads Set A choices observations n k r h f a s sb =
    let (cb, l, least) = takes_below A choices observations n k r h f a in (cb, l s sb)
best_leads Read A choices observations n k r h f a s sb =
    let (cb, qb, d, low, least) = takes_best_next A choices observations n k r h f a s sb in
    (cb, (next_rank Read A choices observations n k s, qb, d))

-- as an answer of the order
pub best_chosen : (o : Order) (A : Arena) (choices observations n : ℕ) (k : A.K) (s : ℕ)
    → chosen o (answer_of o (best_answer o A choices observations n k)) s ≡ best_answer o A choices observations n k s
best_chosen Set A choices observations n k s = refl
best_chosen Read A choices observations n k s = refl

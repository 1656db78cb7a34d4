-- Ranks searched below a bound, and what entries of an array of ranks say of them.
-- Assumes nothing.
use Prim.Native.Nat.{ℕ, zero, suc, ◌≤◌, ◌<◌}
use native.Mathlib.Nat.{not-suc-le-zero, le_of_suc-le-suc, le_refl}
use native.Mathlib.Decide.{dec_lt}
use native.Mathlib.Omega.{arith}
use mathlib.Core.Path.{◌≡◌, sym, ap, ◌∙◌}
use mathlib.Core.Logic.{inl, inr}
use mathlib.Core.Bool.{Bool, true, false, cond, ◌||◌}
use lib.Dec.{ltb}
use borrow.Author.Tests.{ltb-true, lt-ltb, le-ltb}
use Rattle.basics.specs.declared.order.Order.{Order}
use Rattle.basics.proofs.Booleans.{test, clash}
use Rattle.basics.proofs.BoundedLaws.{first_of, first_is, first_passes, first_least, none_first}
use Rattle.play.specs.Rank.{Arena, can, rank_from}
use Rattle.play.proofs.StepOrder.{StepOrder, order_of, can_ext}
use Rattle.play.proofs.RankLaws.{In, within_le}
use Rattle.tables.specs.PositionMemory.{no_rank, rank_if_below}

module _ (o : Order) (A : Arena) (choices observations : ℕ) where
  abbrev O : StepOrder choices observations
  O = order_of o choices observations

  abbrev rank : ℕ → A.K → ℕ
  rank r k = rank_from o A choices observations r k

  abbrev entry : ℕ → A.K → ℕ
  entry r k = rank_if_below o A choices observations r k

  -- the rank of k is at most q
  abbrev Within : ℕ → A.K → Bool
  Within q k = In O A q k

  -- the rank of k is below r
  abbrev pub Below : ℕ → A.K → Bool
  Below r k = ltb (rank r k) r

  pub entry_ranked : (r : ℕ) (k : A.K) → Below r k ≡ true → entry r k ≡ rank r k
  entry_ranked r k t = ap (λ (b : Bool). cond b (rank r k) no_rank) t

  pub entry_none : (r : ℕ) (k : A.K) → Below r k ≡ false → entry r k ≡ no_rank
  entry_none r k f = ap (λ (b : Bool). cond b (rank r k) no_rank) f

  pub below_of : (r q : ℕ) (k : A.K) → q < r → Within q k ≡ true → Below r k ≡ true
  below_of r q k h t = lt-ltb (rank r k) r (first_of (λ i. Within i k) r q h t).0

  pub below_within : (r : ℕ) (k : A.K) → Below r k ≡ true → (rank r k < r) × (Within (rank r k) k ≡ true)
  below_within r k t = let b = ltb-true (rank r k) r t in (b, first_passes (λ i. Within i k) r b)

  -- a rank that is found stays as it is under a higher bound
  pub rank_kept : (r m : ℕ) (k : A.K) → r ≤ m → Below r k ≡ true → (rank m k ≡ rank r k) × (entry m k ≡ entry r k)
  rank_kept r m k h t =
      let (b, w) = below_within r k t in
      let e : rank m k ≡ rank r k = first_is (λ i. Within i k) m (rank r k) (omega arith) w (first_least (λ i. Within i k) r) in
      (e, entry_ranked m k (below_of m (rank r k) k (omega arith) w) ∙ e ∙ sym (entry_ranked r k t))

  -- one that is found under the higher bound alone is not below the lower one
  pub rank_from_lem : (r m : ℕ) (k : A.K) → Below r k ≡ false → Below m k ≡ true → r ≤ rank m k
  rank_from_lem r m k f t =
      elim (dec_lt (rank m k) r) [ yes l ↦ clash (below_of r (rank m k) k l (below_within m k t).1) f | no l ↦ omega arith ]

  -- an entry below r says that the rank is below r, also one under a higher bound: what a round reads may have been written by itself
  pub entry_below : (r m : ℕ) (k : A.K) → r ≤ m → m ≤ no_rank → ltb (entry m k) r ≡ Below r k
  entry_below r m k h small =
      elim (test (Below r k)) [
        | inl t ↦ ap (λ i. ltb i r) ((rank_kept r m k h t).1 ∙ entry_ranked r k t)
        | inr f ↦
            elim (test (Below m k)) [
              | inl u ↦ ap (λ i. ltb i r) (entry_ranked m k u) ∙ le-ltb (rank m k) r (rank_from_lem r m k f u) ∙ sym f
              | inr g ↦ ap (λ i. ltb i r) (entry_none m k g) ∙ le-ltb no_rank r (omega arith) ∙ sym f
            ]
      ]

  pub below_suc : (q : ℕ) (k : A.K) → Below (suc q) k ≡ Within q k
  below_suc q k =
      elim (test (Within q k)) [
        | inl t ↦ below_of (suc q) q k (le_refl (suc q)) t ∙ sym t
        | inr f ↦
            let none : rank (suc q) k ≡ suc q =
            none_first (λ i. Within i k) (suc q) (λ i h.
            elim (test (Within i k)) [ inl t ↦ clash (within_le O A i q k (le_of_suc-le-suc h) t) f | inr g ↦ g ]) in
            le-ltb (rank (suc q) k) (suc q) (omega arith) ∙ sym f
      ]

  -- the next rank: a final position, or one from which the controller can lead below
  pub below_more : (r : ℕ) (k : A.K) → 0 < r → Below (suc r) k ≡ (A.final k || can o choices observations (λ c s. Below r (A.move k c s)))
  below_more zero k h = absurd (not-suc-le-zero h)
  below_more (suc q) k h =
      below_suc (suc q) k
      ∙ ap (λ (b : Bool). A.final k || b) (can_ext O _ _ (λ c s cb sb. sym (below_suc q (A.move k c s))))

  -- an entry says of every rank below the bound whether the position is within it
  pub entry_within : (q n : ℕ) (k : A.K) → q < n → n ≤ no_rank → Within q k ≡ ltb (entry n k) (suc q)
  entry_within q n k h small = sym (entry_below (suc q) n k h small ∙ below_suc q k)

-- The ranks of histories are those of the reference (REFERENCE.md, The game): a final belief's is 0, and another's the smallest r for
-- which the controller can choose so that every observation leads to a rank below r.
-- Assumes nothing.
use Prim.Native.Nat.{ℕ, zero, suc, ◌≤◌, ◌<◌}
use native.Mathlib.Nat.{le_refl}
use native.Mathlib.Decide.{dec_le}
use native.Mathlib.Omega.{arith}
use mathlib.Core.Path.{◌≡◌, subst}
use mathlib.Core.Logic.{◌↔◌, inl, inr}
use Rattle.basics.specs.declared.order.Order.{Order}
use Rattle.play.specs.History.{History, onward}
use Rattle.play.specs.IsTable.{RankBelow, RankIs, HasAnswer}
use Rattle.play.proofs.CanChoose.{good_choice, choose_map}

module _ (o : Order) (choices observations : ℕ) (Final : History → Type 0) where
  abbrev Below : ℕ → History → Type 0
  Below = RankBelow o choices observations Final

  below_suc : (r : ℕ) (h : History) → Below r h → Below (suc r) h
  below_suc zero h b = absurd b
  below_suc (suc r) h (inl f) = inl f
  below_suc (suc r) h (inr a) =
      inr (choose_map o choices observations (λ c s. Below r (onward h c s)) (λ c s. Below (suc r) (onward h c s))
      (λ c s cb sb. below_suc r (onward h c s)) a)

  pub below_le : (q r : ℕ) (h : History) → q ≤ r → Below q h → Below r h
  below_le q zero h l b = let z : q ≡ 0 = omega arith in subst (λ (n : ℕ). Below n h) z b
  below_le q (suc r) h l b =
      elim (dec_le q r) [
        | yes m ↦ below_suc r h (below_le q r h m b)
        | no m ↦ let z : q ≡ suc r = omega arith in subst (λ (n : ℕ). Below n h) z b
      ]

  -- with a rank, and not final, it has an answer
  pub has_answer : (h : History) → (¬ Final h) → (r : ℕ) → Below (suc r) h → HasAnswer o choices observations Final r h
  has_answer h n r (inl f) = absurd (n f)
  has_answer h n r (inr a) = a

  module _ (some_observation : 0 < observations) (h : History) where
    pub final_rank : Final h ↔ RankIs o choices observations Final h 0
    final_rank = (λ f. (inl f, λ b. b), λ r. at r.0)
      where
        at : Below 1 h → Final h
        at (inl f) = f
        at (inr a) = absurd (good_choice o choices observations (λ c s. Below 0 (onward h c s)) a 0 some_observation).2

    pub other_rank : (¬ Final h) → (r : ℕ)
        → RankIs o choices observations Final h r
        ↔ (HasAnswer o choices observations Final r h × ((q : ℕ) → q < r → ¬ HasAnswer o choices observations Final q h))
    other_rank n r = (λ a. (has_answer h n r a.0, λ q l c. a.1 (below_le (suc q) r h l (inr c))), λ a. (inr a.0, low r a.1))
      where
        low : (r : ℕ) → ((q : ℕ) → q < r → ¬ HasAnswer o choices observations Final q h) → ¬ Below r h
        low zero f b = b
        low (suc q) f b = f q (le_refl (suc q)) (has_answer h n q b)

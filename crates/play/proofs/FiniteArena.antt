-- Finitely many positions: every rank is below their number, and a position without a rank lies in a trap.
-- Assumes nothing.
use Prim.Native.Nat.{ℕ, zero, suc, ◌+◌, ◌≤◌, ◌<◌, zero-le}
use native.Mathlib.Nat.{le_refl}
use native.Mathlib.Omega.{arith}
use mathlib.Core.Path.{◌≡◌, refl}
use mathlib.Core.Logic.{◌⊎◌, inl, inr}
use mathlib.Core.Bool.{Bool, true, false, cond}
use mathlib.Core.List.Memᴰ
use mathlib.Core.List.{List, [], ◌∷◌, Memᴰ}
use lib.ListN.{length}
use Rattle.play.specs.Rank.{Arena}
use Rattle.basics.proofs.Booleans.{test, clash, or_right}
use Rattle.play.proofs.StepOrder.{StepOrder}
use Rattle.play.proofs.RankLaws.{In, HasRank, within_suc, within_le, rank_of, unstopped, goes_on_lem, next_rank_lem}
use Rattle.play.proofs.TrapsDefeat.{Trap}

-- how many elements pass a test
abbrev pub count : {A : Type 0} → (A → Bool) → List A → ℕ
count ok [] = 0
count ok (a ∷ l) = cond (ok a) 1 0 + count ok l

module _ {A : Type 0} (f g : A → Bool) (up : (a : A) → f a ≡ true → g a ≡ true) where
  one_le : (a : A) → cond (f a) 1 0 ≤ cond (g a) 1 0
  one_le a = elim (test (f a)) [ inl t ↦ rw (t, up a t) (le_refl 1) | inr e ↦ rw e zero-le ]

  pub count_le : (l : List A) → count f l ≤ count g l
  count_le [] = zero-le
  count_le (a ∷ l) = omega (arith, one_le a, count_le l)

  pub count_lt : (a : A) → f a ≡ false → g a ≡ true → (l : List A) → Memᴰ a l → count f l < count g l
  count_lt a e t [] m = absurd (Memᴰ.not-nil m)
  count_lt a e t (b ∷ l) m =
      elim (Memᴰ.cases_cons m) [
        | inl p ↦ rw (← p, e, t) (omega (arith, count_le l))
        | inr m' ↦ omega (arith, one_le b, count_lt a e t l m')
      ]

pub count_length : {A : Type 0} (f : A → Bool) (l : List A) → count f l ≤ length l
count_length f [] = zero-le
count_length f (a ∷ l) = elim (test (f a)) [ inl t ↦ rw t (omega (arith, count_length f l)) | inr e ↦ rw e (omega (arith, count_length f l)) ]

module _ {choices observations : ℕ} (O : StepOrder choices observations) (A : Arena) (some_observation : 0 < observations) (ks : List A.K) where
  -- the list has every position that a move from an unstopped one of it leads to
  abbrev pub Closed : Type 0
  Closed =
      (k : A.K) → Memᴰ k ks → A.final k ≡ false
      → (c : ℕ) → c < choices → (s : ℕ) → s < observations → Memᴰ (A.move k c s) ks

  -- from a ranked position some answer leads below its rank, and to listed positions
  abbrev pub Descent : A.K → ℕ → Type 0
  Descent k r =
      (g : ℕ → ℕ) × O.Allowed g
      × ((s : ℕ) → s < observations → (In O A r (A.move k (g s) s) ≡ true) × Memᴰ (A.move k (g s) s) ks)

  module _ (n : ℕ) (descent : (k : A.K) (r : ℕ) → Memᴰ k ks → suc r < n → HasRank O A k (suc r) → Descent k r) where
    rank_count : (r : ℕ) → r < n → (k : A.K) → Memᴰ k ks → HasRank O A k r → r < count (In O A r) ks
    rank_count zero small k m a =
        let low : count (λ (k : A.K). false) ks < count (In O A 0) ks = count_lt (λ k. false) (In O A 0) (λ k e. clash e refl) k refl a.0 ks m in
        omega arith
    rank_count (suc r) small k m a =
        let (g, al, right) = descent k r m small a in
        let (s, b, a') = next_rank_lem O A some_observation k r a g al (λ s h. (right s h).0) in
        let below = rank_count r (omega arith) (A.move k (g s) s) (right s b).1 a' in
        let more = count_lt (In O A r) (In O A (suc r)) (within_suc O A r) k (a.1 r (le_refl (suc r))) a.0 ks m in
        omega arith

    -- a rank below n is below the number of positions
    pub rank_lt_listed : (r : ℕ) → r < n → (k : A.K) → Memᴰ k ks → HasRank O A k r → r < length ks
    rank_lt_listed r small k m a = omega (arith, rank_count r small k m a, count_length (In O A r) ks)

  module _ (closed : Closed) where
    -- a rank is below the number of positions
    pub rank_lt : (r : ℕ) (k : A.K) → Memᴰ k ks → HasRank O A k r → r < length ks
    rank_lt r k m a =
        rank_lt_listed (suc r)
        (λ k q m small a.
        let (g, al, right) = O.answer (λ c s. In O A q (A.move k c s)) (goes_on_lem O A k q a) in
        (g, al, λ s b. (right s b, closed k m (unstopped O A k q a) (g s) (O.below g al s b) s b)))
        r (le_refl (suc r)) k m a

    -- a listed position without a rank
    abbrev pub Lost : A.K → Type 0
    Lost k = Memᴰ k ks × ((r : ℕ) → In O A r k ≡ false)

    -- not within the number of positions: without a rank
    pub lost : (k : A.K) → Memᴰ k ks → In O A (length ks) k ≡ false → Lost k
    lost k m f = (m, λ r. elim (test (In O A r k)) [ inl t ↦ clash (inside (rank_of O A r k t)) f | inr e ↦ e ])
      where
        inside : {r : ℕ} → (q : ℕ) × (q ≤ r) × HasRank O A k q → In O A (length ks) k ≡ true
        inside (q, b, a) = within_le O A q (length ks) k (omega (arith, rank_lt q k m a)) a.0

    pub ranked_or_lost : (k : A.K) → Memᴰ k ks → ((r : ℕ) × (r < length ks) × HasRank O A k r) ⊎ Lost k
    ranked_or_lost k m =
        elim (test (In O A (length ks) k)) [
          | inl t ↦ let (q, b, a) = rank_of O A (length ks) k t in inl (q, rank_lt q k m a, a)
          | inr f ↦ inr (lost k m f)
        ]

    -- observations that lead the positions without a rank to such positions, for every allowed answer, make a trap of them
    abbrev pub lost_trap : (n : ℕ) → length ks ≤ n → (foil : A.K → (ℕ → ℕ) → ℕ)
        → ((k : A.K) (g : ℕ → ℕ) → O.Allowed g → O.able (λ c s. In O A n (A.move k c s)) ≡ false
        → (foil k g < observations) × (In O A n (A.move k (g (foil k g)) (foil k g)) ≡ false))
        → Trap O A Lost
    lost_trap n fits foil foils =
        let right : (k : A.K) → Lost k → (g : ℕ → ℕ) → O.Allowed g → (foil k g < observations) × (In O A n (A.move k (g (foil k g)) (foil k g)) ≡ false) =
        λ k t g al. foils k g al (or_right (A.final k) _ (t.1 (suc n))) in
        record {
          unstopped = λ k t. t.1 0;
          foil = foil;
          foil_below = λ k t g al. (right k t g al).0;
          stays = λ k t g al.
              let s = foil k g in
              let (b, f) = right k t g al in
              lost (A.move k (g s) s) (closed k t.0 (t.1 0) (g s) (O.below g al s b) s b)
              (elim (test (In O A (length ks) (A.move k (g s) s))) [ inl u ↦ clash (within_le O A (length ks) n (A.move k (g s) s) fits u) f | inr e ↦ e ]);
        }

-- Facts on ranks, over any order of choosing and observation.
-- Assumes nothing.
use Prim.Native.Nat.{ℕ, zero, suc, ◌≤◌, ◌<◌, zero-le, suc-le-suc}
use native.Mathlib.Nat.{not-suc-le-zero, le_of_suc-le-suc, le_refl}
use native.Mathlib.Decide.{dec_le}
use native.Mathlib.Omega.{arith}
use mathlib.Core.Path.{◌≡◌, refl}
use mathlib.Core.Logic.{inl, inr}
use mathlib.Core.Bool.{Bool, true, false}
use Rattle.basics.specs.Bounded.{first_that}
use Rattle.play.specs.Rank.{Arena, within, Rank, rank_below}
use Rattle.basics.proofs.BoundedLaws.{first_of, first_is, first_least}
use Rattle.basics.proofs.Booleans.{test, clash, or_cases, or_right, or_intro_left, or_intro_right}
use Rattle.play.proofs.StepOrder.{StepOrder, can_mono}

module _ {choices observations : ℕ} (O : StepOrder choices observations) (A : Arena) where
  -- the ranks of this section
  abbrev pub In : ℕ → A.K → Bool
  In r k = within A O.able r k

  abbrev pub HasRank : A.K → ℕ → Type 0
  HasRank k r = Rank A O.able k r

  pub within_suc : (r : ℕ) (k : A.K) → In r k ≡ true → In (suc r) k ≡ true
  within_suc zero k t = or_intro_left _ t
  within_suc (suc r) k t =
      elim (or_cases (A.final k) _ t) [
        | inl s ↦ or_intro_left _ s
        | inr c ↦ or_intro_right (A.final k) (can_mono O _ _ (λ c s. within_suc r (A.move k c s)) c)
      ]

  pub within_le : (q r : ℕ) (k : A.K) → q ≤ r → In q k ≡ true → In r k ≡ true
  within_le q zero k h t = let z : q ≡ 0 = omega arith in rw z at t
  within_le q (suc r) k h t =
      elim (dec_le q r) [
        | yes l ↦ within_suc r k (within_le q r k l t)
        | no n ↦ let z : q ≡ suc r = omega arith in rw z at t
      ]

  -- a position within r has a rank, of at most r
  pub rank_of : (r : ℕ) (k : A.K) → In r k ≡ true → (q : ℕ) × (q ≤ r) × HasRank k q
  rank_of r k t =
      let (b, o) = first_of (λ q. In q k) (suc r) r (le_refl (suc r)) t in
      (first_that (λ q. In q k) (suc r), le_of_suc-le-suc b, (o, first_least (λ q. In q k) (suc r)))

  pub rank_searched : (n r : ℕ) (k : A.K) → r < n → HasRank k r → rank_below A O.able n k ≡ r
  rank_searched n r k h a = first_is (λ q. In q k) n r h a.0 a.1

  -- a rank over 0: no final position, and the controller can go on to ranks below
  pub unstopped : (k : A.K) (r : ℕ) → HasRank k (suc r) → A.final k ≡ false
  unstopped k r a = a.1 0 (suc-le-suc zero-le)

  -- a final position has rank 0
  pub final_rank : (k : A.K) (r : ℕ) → HasRank k r → A.final k ≡ true → r ≡ 0
  final_rank k zero a t = refl
  final_rank k (suc r) a t = clash t (unstopped k r a)

  pub goes_on_lem : (k : A.K) (r : ℕ) → HasRank k (suc r) → O.able (λ c s. In r (A.move k c s)) ≡ true
  goes_on_lem k r a = elim (or_cases (A.final k) _ a.0) [ inl s ↦ clash s (unstopped k r a) | inr c ↦ c ]

  pub rank_suc : (k : A.K) (r : ℕ) → In r k ≡ false → In (suc r) k ≡ true → HasRank k (suc r)
  rank_suc k r f t =
      (t, λ q h. elim (test (In q k)) [ inl u ↦ clash (within_le q r k (le_of_suc-le-suc h) u) f | inr u ↦ u ])

  -- under any allowed answer that leads below the rank, some observation leads just below it
  pub next_rank_lem : 0 < observations → (k : A.K) (r : ℕ) → HasRank k (suc r) → (g : ℕ → ℕ) → O.Allowed g
      → ((s : ℕ) → s < observations → In r (A.move k (g s) s) ≡ true) → (s : ℕ) × (s < observations) × HasRank (A.move k (g s) s) r
  next_rank_lem some k zero a g al right = (0, some, (right 0 some, λ q h. absurd (not-suc-le-zero h)))
  next_rank_lem some k (suc r) a g al right =
      let (s, h, f) = O.refute (λ c s. In r (A.move k c s)) (or_right (A.final k) _ (a.1 (suc r) (le_refl _))) g al in
      (s, h, rank_suc (A.move k (g s) s) r f (right s h))

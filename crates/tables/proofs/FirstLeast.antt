-- The first number below n whose value is the least: found by one pass, and found as the first whose value is within the least bound.
-- Assumes nothing.
use Prim.Native.Nat.{ℕ, suc, ◌≤◌, ◌<◌}
use native.Mathlib.Decide.{dec_lt}
use native.Mathlib.Omega.{arith}
use mathlib.Core.Path.{◌≡◌, sym, ◌∙◌}
use mathlib.Core.Logic.{inl, inr}
use mathlib.Core.Bool.{Bool}
use lib.Dec.{leb, ltb}
use borrow.Author.Tests.{ltb-true, ltb-false, lt-ltb, le-leb, lt-leb}
use Rattle.basics.specs.Bounded.{all, any, first_that}
use Rattle.basics.proofs.Booleans.{test, clash}
use Rattle.basics.proofs.BoundedLaws.{all_of, all_fails, any_at, any_not, first_passes, first_least, first_is, first_ext}

module _ (f : ℕ → ℕ) where
  -- the value of b is the least of the first c, and b the first such number
  pub record Leading (c b : ℕ) : Type 0 where
    pub inside : b < c
    pub least : (d : ℕ) → d < c → f b ≤ f d
    pub first : (d : ℕ) → d < b → f b < f d

  module _ (n : ℕ) where
    -- no value is lower than that of c
    abbrev pub is_least : ℕ → Bool
    is_least c = all n (λ d. leb (f c) (f d))

    pub leading_end : (b : ℕ) → Leading n b → b ≡ first_that is_least n
    leading_end b l =
        sym (first_is is_least n b l.inside (all_of n (λ d. leb (f b) (f d)) (λ d h. le-leb (f b) (f d) (l.least d h)))
        (λ d h. all_fails n (λ e. leb (f d) (f e)) b l.inside (lt-leb (f d) (f b) (l.first d h))))

    -- the least value, searched below m
    abbrev pub least_below : ℕ → ℕ
    least_below m = first_that (λ r. any n (λ c. ltb (f c) (suc r))) m

    module _ (m : ℕ) (some : least_below m < m) where
      least_le : (d : ℕ) → d < n → least_below m ≤ f d
      least_le d h =
          elim (dec_lt (f d) (least_below m)) [
            | yes l ↦
                let none = any_not n (λ c. ltb (f c) (suc (f d))) (first_least (λ r. any n (λ c. ltb (f c) (suc r))) m (f d) l) d h in
                clash (lt-ltb (f d) (suc (f d)) (omega arith)) none
            | no l ↦ omega arith
          ]

      within_least : (c : ℕ) → c < n → ltb (f c) (suc (least_below m)) ≡ is_least c
      within_least c h =
          elim (test (ltb (f c) (suc (least_below m)))) [
            | inl t ↦
                let b = ltb-true (f c) (suc (least_below m)) t in
                t ∙ sym (all_of n (λ d. leb (f c) (f d)) (λ d i. le-leb (f c) (f d) (omega (arith, least_le d i))))
            | inr g ↦
                let b = ltb-false (f c) (suc (least_below m)) g in
                let (d, i, t) = any_at n (λ c. ltb (f c) (suc (least_below m))) (first_passes (λ r. any n (λ c. ltb (f c) (suc r))) m some) in
                let s = ltb-true (f d) (suc (least_below m)) t in
                g ∙ sym (all_fails n (λ d. leb (f c) (f d)) d i (lt-leb (f c) (f d) (omega arith)))
          ]

      -- so the first number within it is the first whose value is the least
      pub first_within : first_that is_least n ≡ first_that (λ c. ltb (f c) (suc (least_below m))) n
      first_within = first_ext n _ _ (λ c h. sym (within_least c h))

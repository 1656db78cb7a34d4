-- Tests that stand in front of others, in the shape in which code makes them: one by one, left at the first that fails.
-- Assumes nothing.
use Prim.Native.Nat.{ℕ, ◌+◌, ◌≤◌, ◌<◌}
use native.Mathlib.Omega.{arith}
use mathlib.Core.Path.{◌≡◌, refl, sym, ap, ◌∙◌}
use mathlib.Core.Bool.{Bool, true, false, not, ◌&&◌, ◌||◌, true≢false}
use lib.Dec.{leb, ltb}
use borrow.Author.Tests.{leb-true, leb-false, lt-ltb, le-ltb, not-true, not-false}
use Rattle.basics.specs.Bounded.{all}
use Rattle.basics.proofs.Booleans.{or_left, or_right}
use Rattle.basics.proofs.BoundedLaws.{all_fails, all_more, all_done}

-- ---- two tests in front of a third: a holds, and k is below n

module _ (s x : Bool) (k n : ℕ) where
  pub guard_fails : (a : Bool) → a ≡ s → (not a || leb n k) ≡ true → false ≡ (s && ltb k n && x)
  guard_fails true e f = rw (sym e, le-ltb k n (leb-true n k f)) refl
  guard_fails false e f = rw (sym e) refl

  pub guard_left : (a : Bool) → a ≡ s → (not a || leb n k) ≡ false → (b : Bool) → b ≡ x → b ≡ (s && ltb k n && x)
  guard_left true e f b q = rw (sym e, lt-ltb k n (leb-false n k f)) q
  guard_left false e f b q = absurd (true≢false f)

pub guarded : (s a : Bool) (k n : ℕ) → a ≡ s → (not a || leb n k) ≡ false → (s ≡ true) × (k < n)
guarded s a k n e f = (sym e ∙ not-false a (or_left (not a) (leb n k) f), leb-false n k (or_right (not a) (leb n k) f))

-- ---- a test in front of another

module _ (whole x y a : Bool) (is : whole ≡ (x && y)) (e : a ≡ x) where
  pub first_fails : not a ≡ true → false ≡ whole
  first_fails f = sym (is ∙ ap (λ b. b && y) (sym e ∙ not-true a f))

  pub then_second : not a ≡ false → (b : Bool) → b ≡ y → b ≡ whole
  then_second f b q = q ∙ sym (is ∙ ap (λ c. c && y) (sym e ∙ not-false a f))

-- .. and then one for each number below a bound
module _ (whole x a : Bool) (count : ℕ) (each : ℕ → Bool) (is : whole ≡ (x && all count each)) (e : a ≡ x) (f : not a ≡ false)
    (n : ℕ) (m : n ≡ count) where
  whole_is : whole ≡ all n each
  whole_is = sym (then_second whole x (all count each) a is e f (all n each) (ap (λ k. all k each) m))

  pub each_fails : (s : ℕ) → s < n → (b : Bool) → b ≡ each s → not b ≡ true → false ≡ whole
  each_fails s h b q g = sym (whole_is ∙ all_fails n each s h (sym q ∙ not-true b g))

  pub each_passes : (s : ℕ) → s ≤ n → n ≤ s → all s each ≡ true → true ≡ whole
  each_passes s h g l = sym (whole_is ∙ all_done s n each (omega arith) l)

pub each_more : (each : ℕ → Bool) (s : ℕ) (b : Bool) → b ≡ each s → not b ≡ false → all s each ≡ true → all (s + 1) each ≡ true
each_more each s b q f l = all_more s each l (sym q ∙ not-false b f)

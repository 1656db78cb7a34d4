-- What the Boolean operators and the tests of numbers say.
-- Assumes nothing.
use Prim.Native.Nat.{ℕ, ◌≤◌, ◌<◌}
use mathlib.Core.Path.{◌≡◌, refl}
use mathlib.Core.Logic.{◌⊎◌, inl, inr}
use mathlib.Core.Bool.{Bool, true, false, not, ◌&&◌, ◌||◌, false≢true}
use lib.Dec.{eqb, leb, ltb}
use borrow.Author.Tests.{ltb-true, lt-ltb, leb-true, le-leb, eqb-true, eq-eqb}
use Rattle.basics.specs.Says.{Says}

pub says_not : {b : Bool} {P : Type 0} → Says b P → Says (not b) (¬ P)
says_not {b = true} e = (λ h. absurd (false≢true h), λ n. absurd (n (e.0 refl)))
says_not {b = false} e = (λ h p. false≢true (e.1 p), λ n. refl)

pub says_and : {b c : Bool} {P Q : Type 0} → Says b P → Says c Q → Says (b && c) (P × Q)
says_and {b = true} e f = (λ h. (e.0 refl, f.0 h), λ h. f.1 h.1)
says_and {b = false} e f = (λ h. absurd (false≢true h), λ h. e.1 h.0)

pub says_or : {b c : Bool} {P Q : Type 0} → Says b P → Says c Q → Says (b || c) (P ⊎ Q)
says_or {b = true} e f = (λ h. inl (e.0 refl), λ h. refl)
says_or {b = false} {c} {P} {Q} e f = (λ h. inr (f.0 h), back)
  where
    back : P ⊎ Q → c ≡ true
    back (inl p) = absurd (false≢true (e.1 p))
    back (inr q) = f.1 q

pub says_implies : {b c : Bool} {P Q : Type 0} → Says b P → Says c Q → Says (not b || c) (P → Q)
says_implies {b = true} e f = (λ h p. f.0 h, λ k. f.1 (k (e.0 refl)))
says_implies {b = false} e f = (λ h p. absurd (false≢true (e.1 p)), λ k. refl)

-- what a Boolean stands for is decided, so a double negation can be dropped
pub says_stable : {b : Bool} {P : Type 0} → Says b P → ¬ (¬ P) → P
says_stable {b = true} e n = e.0 refl
says_stable {b = false} e n = absurd (n (λ p. false≢true (e.1 p)))

pub says_true : Says true (Unit {0})
says_true = (λ e. tt, λ u. refl)

-- where what it stands for fails, it is false
pub says_false : {b : Bool} {P : Type 0} → Says b P → ¬ P → b ≡ false
says_false {b = true} e n = absurd (n (e.0 refl))
says_false {b = false} e n = refl

-- ---- the tests of numbers

pub lt_says : (a b : ℕ) → Says (ltb a b) (a < b)
lt_says a b = (ltb-true a b, lt-ltb a b)

pub le_says : (a b : ℕ) → Says (leb a b) (a ≤ b)
le_says a b = (leb-true a b, le-leb a b)

pub eqb_says : (a b : ℕ) → Says (eqb a b) (a ≡ b)
eqb_says a b = (eqb-true a b, eq-eqb a b)

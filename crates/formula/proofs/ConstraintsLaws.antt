-- The formula of each plan word means what PDDL 3.0 says, and that of `during` what the request's window does.
-- Assumes nothing.
use Prim.Native.Nat.{ℕ, zero, suc, ◌+◌, ◌-◌, ◌≤◌, ◌<◌}
use native.Mathlib.Nat.{eq-or-lt_of_le, add-zero, add-suc, suc-add}
use native.Mathlib.Decide.{dec_le}
use native.Mathlib.Omega.{arith}
use mathlib.Core.Path.{◌≡◌, sym, subst}
use mathlib.Core.Logic.Iff
use mathlib.Core.Logic.{◌↔◌, ◌⊎◌, inl, inr}
use mathlib.Core.Bool.{Bool, true, false, not}
use lib.ListN.{length, drop}
use Rattle.basics.specs.Says.{Says}
use Rattle.basics.specs.Bounded.{any, first_that}
use Rattle.basics.proofs.Booleans.{test, clash}
use Rattle.basics.proofs.SaysLaws.{says_not, says_stable}
use Rattle.basics.proofs.BoundedLaws.{any_at, any_not, first_le, first_passes, first_least}
use Rattle.formula.specs.Formula.{Formula, Not, Or, F, G}
use Rattle.formula.specs.Semantics.{Trace, Sat, holds}
use Rattle.formula.specs.Constraints.{soon, hold, delay, once, before, after, within, during}
use Rattle.formula.specs.Meanings.{AtMostOnce, HoldDuring, SometimeBefore, SometimeAfter, AlwaysWithin, TrueAt}
use Rattle.formula.proofs.Agreement.{agrees}

-- where a test fails, what it stands for does not hold
says_fails : {b : Bool} {P : Type 0} → Says b P → b ≡ false → ¬ P
says_fails e f p = clash (e.1 p) f

-- of what a test stands for, `Not` with `Or` is an implication
or_implies : {b : Bool} {P Q : Type 0} → Says b P → ((¬ P) ⊎ Q) ↔ (P → Q)
or_implies {b} {P} {Q} e = (λ s p. elim s [ inl n ↦ absurd (n p) | inr q ↦ q ], from (test b))
  where
    from : (b ≡ true) ⊎ (b ≡ false) → (P → Q) → (¬ P) ⊎ Q
    from (inl t) f = inr (f (e.0 t))
    from (inr t) f = inl (says_fails e t)

-- ---- `soon`, `hold` and `delay`

module _ (π : Trace) (φ : Formula) where
  abbrev Soon : ℕ → ℕ → Type 0
  Soon n j = (k : ℕ) × (j ≤ k) × (k ≤ j + n) × (k < length π) × Sat π k φ

  soon_says : (n j : ℕ) → j < length π → Sat π j (soon n φ) ↔ Soon n j
  unfolding Sat soon
  soon_says zero j h =
      (λ p. (j, omega arith, omega arith, h, p), λ (k, a, b, c, p). let e : k ≡ j = omega arith in subst (TrueAt π φ) e p)
  soon_says (suc n) j h = (
    λ s.
        elim s [
          | inl p ↦ (j, omega arith, omega arith, h, p)
          | inr (l, r) ↦ let (k, a, b, c, p) = (soon_says n (suc j) l).0 r in (k, omega arith, omega arith, c, p)
        ],
    λ (k, a, b, c, p).
        elim (eq-or-lt_of_le a) [
          | inl e ↦ inl (subst (TrueAt π φ) (sym e) p)
          | inr l ↦ let m : suc j < length π = omega arith in inr (m, (soon_says n (suc j) m).1 (k, l, omega arith, c, p))
        ],
  )

  abbrev Hold : ℕ → ℕ → Type 0
  Hold n j = (k : ℕ) → j ≤ k → k ≤ j + n → k < length π → Sat π k φ

  hold_says : (n j : ℕ) → j < length π → Sat π j (hold n φ) ↔ Hold n j
  unfolding Sat hold
  hold_says zero j h =
      (λ p k a b c. let e : j ≡ k = omega arith in subst (TrueAt π φ) e p, λ f. f j (omega arith) (omega arith) h)
  hold_says (suc n) j h = (
    λ (p, s) k a b c.
        elim (eq-or-lt_of_le a) [
          | inl e ↦ subst (TrueAt π φ) e p
          | inr l ↦ let m : suc j < length π = omega arith in (hold_says n (suc j) m).0 (s m) k l (omega arith) c
        ],
    λ f. (f j (omega arith) (omega arith) h, λ m. (hold_says n (suc j) m).1 (λ k a b c. f k (omega arith) (omega arith) c)),
  )

  delay_says : (n j : ℕ) → j < length π → Sat π j (delay n φ) ↔ (j + n < length π → Sat π (j + n) φ)
  unfolding Sat delay
  delay_says zero j h = rw add-zero (λ s l. s, λ f. f h)
  delay_says (suc n) j h =
      rw (add-suc, ← suc-add)
      (λ s l. (delay_says n (suc j) (omega arith)).0 (s (omega arith)) l, λ f m. (delay_says n (suc j) m).1 f)

module _ (π : Trace) (i : ℕ) (φ : Formula) where
  -- ---- at-most-once: behind step j, φ stays true as far as a search for a step without it passes

  once_to : Sat π i (once φ) → AtMostOnce π i (TrueAt π φ)
  unfolding Sat
  once_to never j a b p = (j + n, omega arith, omega (arith, first_le stops left), λ k c d. on k (eq-or-lt_of_le c) d, off)
    where
      stops : ℕ → Bool
      stops d = not (holds φ (drop (suc j + d) π))

      left : ℕ
      left = length π - suc j

      n : ℕ
      n = first_that stops left

      says : (d : ℕ) → suc j + d < length π → Says (stops d) (¬ Sat π (suc j + d) φ)
      says d h = says_not (agrees φ π (suc j + d) h)

      on : (k : ℕ) → (j ≡ k) ⊎ (j < k) → k ≤ j + n → Sat π k φ
      on k (inl e) c = subst (TrueAt π φ) e p
      on k (inr l) c =
          let d = k - suc j in
          let e : suc j + d ≡ k = omega arith in
          let h : suc j + d < length π = omega (arith, first_le stops left) in
          subst (TrueAt π φ) e (says_stable (agrees φ π (suc j + d) h) (says_fails (says d h) (first_least stops left d (omega arith))))

      off : (k : ℕ) → j + n < k → k < length π → ¬ Sat π k φ
      off k c d q =
          let out = (says n (omega arith)).0 (first_passes stops left (omega arith)) in
          never (j, a, b, (p, (suc j + n, omega arith, omega arith, (out, (k, omega arith, d, q)))))

  once_from : AtMostOnce π i (TrueAt π φ) → Sat π i (once φ)
  unfolding Sat
  once_from m (j, a, b, (p, (k, c, d, (out, (l, g, h, q))))) =
      let (e, je, el, on, off) = m j a b p in
      elim (dec_le k e) [ yes y ↦ out (on k c y) | no y ↦ off l (omega arith) h q ]

  pub once_says : Sat π i (once φ) ↔ AtMostOnce π i (TrueAt π φ)
  once_says = (once_to, once_from)

  -- ---- hold-during

  pub during_says : (m n : ℕ) → i < length π → 1 ≤ m → m ≤ n → Sat π i (during m n φ) ↔ HoldDuring π i (TrueAt π φ) m n
  during_says m n h lo hi = (to, from)
    where
      first : ℕ
      first = i + (m - 1)

      to : Sat π i (during m n φ) → HoldDuring π i (TrueAt π φ) m n
      to s d a b c =
          let l : first < length π = omega arith in
          (hold_says π φ (n - m) first l).0 ((delay_says π (hold (n - m) φ) (m - 1) i h).0 s l) (i + d) (omega arith) (omega arith) c

      from : HoldDuring π i (TrueAt π φ) m n → Sat π i (during m n φ)
      from f =
          (delay_says π (hold (n - m) φ) (m - 1) i h).1 (λ l. (hold_says π φ (n - m) first l).1 (λ k a b c.
          let e : i + (k - i) ≡ k = omega arith in
          subst (TrueAt π φ) e (f (k - i) (omega arith) (omega arith) (omega arith))))

  -- ---- the words of two formulas

  -- R wherever φ is true: the shape of sometime-after and always-within
  where_true : (χ : Formula) (R : ℕ → Type 0) → ((j : ℕ) → j < length π → Sat π j χ ↔ R j)
      → Sat π i (G (Or (Not φ) χ)) ↔ ((j : ℕ) → i ≤ j → j < length π → Sat π j φ → R j)
  unfolding Sat
  where_true χ R says = (
    λ s j a b p. (says j b).0 ((or_implies (agrees φ π j b)).0 (s j a b) p),
    λ s j a b. (or_implies (agrees φ π j b)).1 (λ p. (says j b).1 (s j a b p)),
  )

  module _ (ψ : Formula) where
    -- ---- sometime-before: a search from step i to step j finds ψ, or φ comes without it

    before_to : Sat π i (before φ ψ) → SometimeBefore π i (TrueAt π φ) (TrueAt π ψ)
    unfolding Sat
    before_to never j a b p = elim (test (any (j - i) passes)) [ inl t ↦ found t | inr f ↦ absurd (never (j, a, b, p, none f)) ]
      where
        passes : ℕ → Bool
        passes d = holds ψ (drop (i + d) π)

        says : (d : ℕ) → d < j - i → Says (passes d) (Sat π (i + d) ψ)
        says d h = agrees ψ π (i + d) (omega arith)

        found : any (j - i) passes ≡ true → (k : ℕ) × (i ≤ k) × (k < j) × Sat π k ψ
        found t = let (d, h, e) = any_at (j - i) passes t in (i + d, omega arith, omega arith, (says d h).0 e)

        none : any (j - i) passes ≡ false → (k : ℕ) → i ≤ k → k < j → ¬ Sat π k ψ
        none f k c l q =
            let e : k ≡ i + (k - i) = omega arith in
            let h : k - i < j - i = omega arith in
            says_fails (says (k - i) h) (any_not (j - i) passes f (k - i) h) (subst (TrueAt π ψ) e q)

    pub before_says : Sat π i (before φ ψ) ↔ SometimeBefore π i (TrueAt π φ) (TrueAt π ψ)
    unfolding Sat
    before_says = (before_to, λ m (j, a, b, p, none). let (k, c, d, q) = m j a b p in none k c d q)

    -- ---- sometime-after and always-within

    pub after_says : Sat π i (after φ ψ) ↔ SometimeAfter π i (TrueAt π φ) (TrueAt π ψ)
    unfolding Sat
    after_says = where_true (F ψ) (λ j. Sat π j (F ψ)) (λ j b. Iff.rfl)

    pub within_says : (n : ℕ) → Sat π i (within n φ ψ) ↔ AlwaysWithin π i (TrueAt π φ) (TrueAt π ψ) n
    within_says n = where_true (soon n ψ) (Soon π ψ n) (soon_says π ψ n)

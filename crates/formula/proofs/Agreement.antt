-- The evaluator agrees with the published relation.
-- Assumes nothing.
use Prim.Native.Nat.{ℕ, zero, suc, ◌+◌, ◌-◌, ◌≤◌, ◌<◌}
use native.Mathlib.Nat.{add-zero, eq-or-lt_of_le}
use native.Mathlib.Decide.{dec_lt}
use native.Mathlib.Omega.{arith}
use mathlib.Core.Path.{◌≡◌, refl, sym, ap, ◌∙◌, subst}
use mathlib.Core.Logic.Iff
use mathlib.Core.Logic.{◌↔◌, ◌⊎◌, inl, inr}
use mathlib.Core.Bool.{Bool, true, false, not, ◌&&◌, ◌||◌, false≢true}
use mathlib.Core.List.{[], ◌∷◌}
use lib.ListN.{length, drop, drop_of_length-le}
use lib.Seq.{drop-cons, get_or-drop}
use Rattle.formula.specs.Formula.{Formula, signal, True, False, Not, And, Or, Implies, X, N, F, G, U, R}
use Rattle.basics.proofs.SaysLaws.{says_true, says_not, says_and, says_or, says_implies, says_stable}
use Rattle.basics.specs.Says.{Says}
use Rattle.formula.specs.Semantics.{Trace, Property, Until, Sat, at_next, eventually, always, until, release, holds}

or_and_congr : {b : Bool} {A B C : Type 0} → Says b A → (B ⊎ (C × (b ≡ true))) ↔ (B ⊎ (C × A))
or_and_congr {b} {A} {B} {C} e = (to, from)
  where
    to : B ⊎ (C × (b ≡ true)) → B ⊎ (C × A)
    to (inl x) = inl x
    to (inr (c, h)) = inr (c, e.0 h)

    from : B ⊎ (C × A) → B ⊎ (C × (b ≡ true))
    from (inl x) = inl x
    from (inr (c, a)) = inr (c, e.1 a)

-- ---- the other operators by `until`

not_or : (b c : Bool) → b && not c ≡ not (not b || c)
not_or true c = refl
not_or false c = refl

not_or_and : (b c d : Bool) → b && (c || not d) ≡ not (not b || (not c && d))
not_or_and true true d = refl
not_or_and true false d = refl
not_or_and false c d = refl

pub eventually_until : (f : Property) (σ : Trace) → eventually f σ ≡ until (λ τ. true) f σ
eventually_until f [] = refl
eventually_until f (a ∷ σ) = ap (λ x. f (a ∷ σ) || x) (eventually_until f σ)

pub always_until : (f : Property) (σ : Trace) → always f σ ≡ not (until (λ τ. true) (λ τ. not (f τ)) σ)
always_until f [] = refl
always_until f (a ∷ σ) = ap (λ x. f (a ∷ σ) && x) (always_until f σ) ∙ not_or (f (a ∷ σ)) _

pub release_until : (f g : Property) (σ : Trace) → release f g σ ≡ not (until (λ τ. not (f τ)) (λ τ. not (g τ)) σ)
release_until f g [] = refl
release_until f g (a ∷ σ) = ap (λ x. g (a ∷ σ) && (f (a ∷ σ) || x)) (release_until f g σ) ∙ not_or_and (g (a ∷ σ)) (f (a ∷ σ)) _

-- ---- `until` on what is left of a run, against `Until`

module _ (π : Trace) (f g : Property) (P Q : ℕ → Type 0)
    (hf : (j : ℕ) → j < length π → Says (f (drop j π)) (P j)) (hg : (j : ℕ) → j < length π → Says (g (drop j π)) (Q j)) where
  until_step : (i : ℕ) → i < length π → Says (until f g (drop i π)) (Q i ⊎ (P i × (until f g (drop (suc i) π) ≡ true)))
  until_step i h = rw (drop-cons π i 0) (rw (← drop-cons π i 0 h) (says_or (hg i h) (says_and (hf i h) (λ e. e, λ e. e))))

  Until-step : (i : ℕ) → i < length π → (Q i ⊎ (P i × Until π P Q (suc i))) ↔ Until π P Q i
  Until-step i h = (to, from)
    where
      to : Q i ⊎ (P i × Until π P Q (suc i)) → Until π P Q i
      to (inl q) = (i, omega arith, h, q, λ k a b. absurd (omega arith))
      to (inr (p, u)) = (u.0, omega (arith, u.1), u.2, u.3, λ k a b. at k (eq-or-lt_of_le a) b)
        where
          at : (k : ℕ) → (i ≡ k) ⊎ (i < k) → k < u.0 → P k
          at k (inl e) b = subst P e p
          at k (inr l) b = u.4 k l b

      from : Until π P Q i → Q i ⊎ (P i × Until π P Q (suc i))
      from u = split (eq-or-lt_of_le u.1)
        where
          split : (i ≡ u.0) ⊎ (i < u.0) → Q i ⊎ (P i × Until π P Q (suc i))
          split (inl e) = inl (subst Q (sym e) u.3)
          split (inr l) = inr (u.4 i (omega arith) l, (u.0, l, u.2, u.3, λ k a b. u.4 k (omega arith) b))

  until_says : (n i : ℕ) → n + i ≡ length π → Says (until f g (drop i π)) (Until π P Q i)
  until_says zero i e = rw (drop_of_length-le π {i = i} (omega arith)) (λ h. absurd (false≢true h), λ u. absurd (omega (arith, u.1, u.2)))
  until_says (suc n) i e =
      let h : i < length π = omega arith in
      Iff.trans (until_step i h) (Iff.trans (or_and_congr (until_says n (suc i) (omega arith))) (Until-step i h))

  pub until_agrees : (i : ℕ) → i < length π → Says (until f g (drop i π)) (Until π P Q i)
  until_agrees i h = until_says (length π - i) i (omega arith)

module _ (π : Trace) (f : Property) (P : ℕ → Type 0) (hf : (j : ℕ) → j < length π → Says (f (drop j π)) (P j)) where
  pub eventually_agrees : (i : ℕ) → i < length π → Says (eventually f (drop i π)) ((j : ℕ) × (i ≤ j) × (j < length π) × P j)
  eventually_agrees i h =
      rw eventually_until
      (Iff.trans (until_agrees π (λ τ. true) f (λ k. Unit {0}) P (λ j l. says_true) hf i h)
      (λ u. (u.0, u.1, u.2, u.3), λ u. (u.0, u.1, u.2, u.3, λ k a b. tt)))

  pub always_agrees : (i : ℕ) → i < length π → Says (always f (drop i π)) ((j : ℕ) → i ≤ j → j < length π → P j)
  always_agrees i h =
      rw always_until
      (Iff.trans (says_not (until_agrees π (λ τ. true) (λ τ. not (f τ)) (λ k. Unit {0}) (λ j. ¬ P j) (λ j l. says_true) (λ j l. says_not (hf j l)) i h))
      (λ n j a b. says_stable (hf j b) (λ np. n (j, a, b, np, λ k c d. tt)), λ all u. u.3 (all u.0 u.1 u.2)))

-- ---- the next step

module _ (π : Trace) (f : Property) (P : Type 0) (i : ℕ) (h : i < length π) (hf : suc i < length π → Says (f (drop (suc i) π)) P) where
  next_in : (d : Bool) → suc i < length π → at_next d f (drop i π) ≡ f (drop (suc i) π)
  next_in d l = rw (drop-cons π i 0, drop-cons π (suc i) 0)

  next_out : (d : Bool) → ¬ (suc i < length π) → at_next d f (drop i π) ≡ d
  next_out d l = rw (drop-cons π i 0) (rw (drop_of_length-le π {i = suc i} (omega arith)))

  pub next_agrees : Says (at_next false f (drop i π)) ((suc i < length π) × P)
  next_agrees = split (dec_lt (suc i) (length π))
    where
      split : Dec (suc i < length π) → Says (at_next false f (drop i π)) ((suc i < length π) × P)
      split (yes l) = rw (next_in false l) (λ e. (l, (hf l).0 e), λ p. (hf l).1 p.1)
      split (no l) = rw (next_out false l) (λ e. absurd (false≢true e), λ p. absurd (l p.0))

  pub weak_next_agrees : Says (at_next true f (drop i π)) (suc i < length π → P)
  weak_next_agrees = split (dec_lt (suc i) (length π))
    where
      split : Dec (suc i < length π) → Says (at_next true f (drop i π)) (suc i < length π → P)
      split (yes l) = rw (next_in true l) (λ e k. (hf l).0 e, λ p. (hf l).1 (p l))
      split (no l) = rw (next_out true l) (λ e k. absurd (l k), λ p. refl)

-- ---- every formula, at every step

pub agrees : (φ : Formula) (π : Trace) (i : ℕ) → i < length π → Says (holds φ (drop i π)) (Sat π i φ)
unfolding holds Sat
agrees (signal b) π i h = rw (get_or-drop i π 0 0, add-zero) Iff.rfl
agrees True π i h = says_true
agrees False π i h = (λ e. absurd (false≢true e), λ p. absurd p)
agrees (Not φ) π i h = says_not (agrees φ π i h)
agrees (And φ ψ) π i h = says_and (agrees φ π i h) (agrees ψ π i h)
agrees (Or φ ψ) π i h = says_or (agrees φ π i h) (agrees ψ π i h)
agrees (Implies φ ψ) π i h = says_implies (agrees φ π i h) (agrees ψ π i h)
agrees (X φ) π i h = next_agrees π (holds φ) (Sat π (suc i) φ) i h (agrees φ π (suc i))
agrees (N φ) π i h = weak_next_agrees π (holds φ) (Sat π (suc i) φ) i h (agrees φ π (suc i))
agrees (F φ) π i h = eventually_agrees π (holds φ) (λ j. Sat π j φ) (agrees φ π) i h
agrees (G φ) π i h = always_agrees π (holds φ) (λ j. Sat π j φ) (agrees φ π) i h
agrees (U φ ψ) π i h = until_agrees π (holds φ) (holds ψ) (λ k. Sat π k φ) (λ j. Sat π j ψ) (agrees φ π) (agrees ψ π) i h
agrees (R φ ψ) π i h =
    rw release_until
    (says_not (until_agrees π (λ τ. not (holds φ τ)) (λ τ. not (holds ψ τ)) (λ k. ¬ Sat π k φ) (λ j. ¬ Sat π j ψ)
    (λ k l. says_not (agrees φ π k l)) (λ j l. says_not (agrees ψ π j l)) i h))

-- a run makes a formula true exactly where the published relation holds at its first step
pub holds_iff_Sat : (φ : Formula) (π : Trace) → 0 < length π → (holds φ π ≡ true) ↔ Sat π 0 φ
holds_iff_Sat φ π h = agrees φ π 0 h

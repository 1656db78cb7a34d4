-- The order of choosing and observation within a step, as the theory uses it: which answers to observations are allowed, and a test of whether some
-- allowed answer is right at every observation. All facts on ranks and plays are shown over it.
-- Assumes nothing.
use Prim.Native.Nat.{ℕ, ◌<◌}
use mathlib.Core.Path.{◌≡◌, refl, sym, ◌∙◌, subst}
use mathlib.Core.Bool.{Bool, true, false}
use mathlib.Core.Logic.{inl, inr}
use Rattle.basics.specs.Bounded.{all, any, first_that}
use Rattle.basics.specs.declared.order.Order.{Order}
use Rattle.basics.specs.declared.order.Order.TheVariants.{Set, Read}
use Rattle.play.specs.Rank.{can}
use Rattle.basics.proofs.BoundedLaws.{all_at, all_not, any_at, any_not, first_of}
use Rattle.basics.proofs.Booleans.{test, clash}

pub record StepOrder (choices observations : ℕ) : Type 1 where
  pub able : (ℕ → ℕ → Bool) → Bool
  -- an answer is a choice for each observation
  pub Allowed : (ℕ → ℕ) → Type 0
  pub below : (g : ℕ → ℕ) → Allowed g → (s : ℕ) → s < observations → g s < choices
  pub answer : (ok : ℕ → ℕ → Bool) → able ok ≡ true → (g : ℕ → ℕ) × Allowed g × ((s : ℕ) → s < observations → ok (g s) s ≡ true)
  pub refute : (ok : ℕ → ℕ → Bool) → able ok ≡ false → (g : ℕ → ℕ) → Allowed g → (s : ℕ) × (s < observations) × (ok (g s) s ≡ false)

module _ {choices observations : ℕ} (O : StepOrder choices observations) where
  pub can_of : (ok : ℕ → ℕ → Bool) (g : ℕ → ℕ) → O.Allowed g → ((s : ℕ) → s < observations → ok (g s) s ≡ true) → O.able ok ≡ true
  can_of ok g a right =
      elim (test (O.able ok)) [ inl t ↦ t | inr f ↦ let (s, h, w) = O.refute ok f g a in clash (right s h) w ]

  pub can_mono : (ok ok' : ℕ → ℕ → Bool) → ((c s : ℕ) → ok c s ≡ true → ok' c s ≡ true) → O.able ok ≡ true → O.able ok' ≡ true
  can_mono ok ok' up t = let (g, a, right) = O.answer ok t in can_of ok' g a (λ s h. up (g s) s (right s h))

  -- the test looks at choices and observations that can occur alone
  pub can_ext : (ok ok' : ℕ → ℕ → Bool) → ((c s : ℕ) → c < choices → s < observations → ok c s ≡ ok' c s) → O.able ok ≡ O.able ok'
  can_ext ok ok' e =
      elim (test (O.able ok)) [
        | inl t ↦ let (g, a, right) = O.answer ok t in t ∙ sym (can_of ok' g a (λ s h. sym (e (g s) s (O.below g a s h) h) ∙ right s h))
        | inr f ↦
            elim (test (O.able ok')) [
              | inl t ↦ let (g, a, right) = O.answer ok' t in clash (can_of ok g a (λ s h. e (g s) s (O.below g a s h) h ∙ right s h)) f
              | inr f' ↦ f ∙ sym f'
            ]
      ]

-- ---- the two orders

-- `Set` allows one choice for all observations, `Read` any choice for each
abbrev pub AllowedIn : Order → (choices observations : ℕ) → (ℕ → ℕ) → Type 0
AllowedIn Set choices observations g = (c : ℕ) × (c < choices) × ((s : ℕ) → g s ≡ c)
AllowedIn Read choices observations g = (s : ℕ) → s < observations → g s < choices

pub allowed_below : (o : Order) (choices observations : ℕ) (g : ℕ → ℕ) → AllowedIn o choices observations g → (s : ℕ) → s < observations → g s < choices
allowed_below Set choices observations g a s h = subst (λ (c : ℕ). c < choices) (sym (a.2 s)) a.1
allowed_below Read choices observations g a s h = a s h

pub allowed_answer : (o : Order) (choices observations : ℕ) (ok : ℕ → ℕ → Bool) → can o choices observations ok ≡ true
    → (g : ℕ → ℕ) × AllowedIn o choices observations g × ((s : ℕ) → s < observations → ok (g s) s ≡ true)
allowed_answer Set choices observations ok t =
    let (c, b, r) = any_at choices (λ c. all observations (λ s. ok c s)) t in
    (λ s. c, (c, b, λ s. refl), all_at observations (λ s. ok c s) r)
allowed_answer Read choices observations ok t =
    let right : (s : ℕ) → s < observations
    → (first_that (λ c. ok c s) choices < choices) × (ok (first_that (λ c. ok c s) choices) s ≡ true) =
    λ s h.
    let (c, b, w) = any_at choices (λ c. ok c s) (all_at observations (λ s. any choices (λ c. ok c s)) t s h) in
    first_of (λ c. ok c s) choices c b w in
    (λ s. first_that (λ c. ok c s) choices, λ s h. (right s h).0, λ s h. (right s h).1)

pub allowed_refute : (o : Order) (choices observations : ℕ) (ok : ℕ → ℕ → Bool) → can o choices observations ok ≡ false
    → (g : ℕ → ℕ) → AllowedIn o choices observations g → (s : ℕ) × (s < observations) × (ok (g s) s ≡ false)
allowed_refute Set choices observations ok f g a =
    let (s, h, w) = all_not observations (λ s. ok a.0 s) (any_not choices (λ c. all observations (λ s. ok c s)) f a.0 a.1) in
    (s, h, subst (λ (c : ℕ). ok c s ≡ false) (sym (a.2 s)) w)
allowed_refute Read choices observations ok f g a =
    let (s, h, w) = all_not observations (λ s. any choices (λ c. ok c s)) f in
    (s, h, any_not choices (λ c. ok c s) w (g s) (a s h))

abbrev pub order_of : Order → (choices observations : ℕ) → StepOrder choices observations
order_of o choices observations =
    record {
      able = can o choices observations;
      Allowed = AllowedIn o choices observations;
      below = allowed_below o choices observations;
      answer = allowed_answer o choices observations;
      refute = allowed_refute o choices observations;
    }

-- Under `Read` the rank of a belief that is not final is one more than the worst, over the observations, of the best next rank
-- (REFERENCE.md, The game).
-- Assumes nothing.
use Prim.Native.Nat.{ℕ, zero, suc, ◌≤◌, ◌<◌, suc-le-suc}
use native.Mathlib.Nat.{eq-or-lt_of_le, le_of_suc-le-suc, le_refl}
use native.Mathlib.Omega.{arith}
use mathlib.Core.Path.{sym, subst}
use mathlib.Core.Logic.{◌↔◌, ◌⊎◌, inl, inr}
use Rattle.basics.specs.declared.order.Order.TheVariants.{Read}
use Rattle.play.specs.History.{History, Possible, onward}
use Rattle.play.specs.IsTable.{RankBelow, RankIs, BestNext}
use Rattle.play.proofs.HistoryLaws.{possible_onward}
use Rattle.play.proofs.IsTableLaws.{below_le, has_answer}

-- ---- searches below a bound for what is decided

abbrev Decided : Type 0 → Type 0
Decided P = P ⊎ (¬ P)

-- the first that P holds of, or none
first_or_none : (n : ℕ) (P : ℕ → Type 0) → ((i : ℕ) → i < n → Decided (P i))
    → ((i : ℕ) × (i < n) × P i × ((j : ℕ) → j < i → ¬ P j)) ⊎ ((i : ℕ) → i < n → ¬ P i)
first_or_none zero P d = inr (λ i h. absurd (omega arith))
first_or_none (suc n) P d =
    elim (first_or_none n P (λ i h. d i (omega arith))) [
      | inl (i, h, p, before) ↦ inl (i, omega arith, p, before)
      | inr before ↦
          elim (d n (le_refl (suc n))) [
            | inl p ↦ inl (n, le_refl (suc n), p, before)
            | inr q ↦
                inr (λ i h. elim (eq-or-lt_of_le (le_of_suc-le-suc h)) [ inl e ↦ subst (λ (j : ℕ). ¬ P j) (sym e) q | inr l ↦ before i l ])
          ]
    ]

-- all, or one that P does not hold of
all_or_not : (n : ℕ) (P : ℕ → Type 0) → ((i : ℕ) → i < n → Decided (P i)) → ((i : ℕ) → i < n → P i) ⊎ ((i : ℕ) × (i < n) × (¬ P i))
all_or_not n P d =
    elim (first_or_none n (λ i. ¬ P i) (λ i h. elim (d i h) [ inl p ↦ inr (λ q. q p) | inr q ↦ inl q ])) [
      | inl (i, h, q, before) ↦ inr (i, h, q)
      | inr never ↦ inl (λ i h. elim (d i h) [ inl p ↦ p | inr q ↦ absurd (never i h q) ])
    ]

-- ---- ranks, where it is decided of the histories that can be whether they are final

module _ (choices observations : ℕ) (Final : History → Type 0)
    (decided : (h : History) → Possible choices observations h → Final h ⊎ (¬ Final h)) where
  abbrev Can : History → Type 0
  Can h = Possible choices observations h

  abbrev Below : ℕ → History → Type 0
  Below = RankBelow Read choices observations Final

  -- at observation s some choice leads to a rank below r
  abbrev SomeBelow : ℕ → History → ℕ → Type 0
  SomeBelow r h s = (c : ℕ) × (c < choices) × Below r (onward h c s)

  some_decided : (r : ℕ) → ((h : History) → Can h → Decided (Below r h))
      → (h : History) → Can h → (s : ℕ) → s < observations → Decided (SomeBelow r h s)
  some_decided r d h p s sb =
      elim (first_or_none choices (λ c. Below r (onward h c s)) (λ c cb. d (onward h c s) (possible_onward choices observations h c s p cb sb))) [
        | inl (c, cb, b, before) ↦ inl (c, cb, b)
        | inr never ↦ inr (λ e. never e.0 e.1 e.2)
      ]

  below_decided : (r : ℕ) (h : History) → Can h → Decided (Below r h)
  below_decided zero h p = inr (λ b. b)
  below_decided (suc r) h p =
      elim (decided h p) [
        | inl f ↦ inl (inl f)
        | inr n ↦
            elim (all_or_not observations (SomeBelow r h) (some_decided r (below_decided r) h p)) [
              | inl all ↦ inl (inr all)
              | inr (s, sb, none) ↦ inr (λ b. none (has_answer Read choices observations Final h n r b s sb))
            ]
      ]

  -- an observation with a next rank of at most r has a best one
  module _ (h : History) (p : Can h) (s : ℕ) (sb : s < observations) where
    none_below : (q : ℕ) → ((j : ℕ) → j < q → ¬ SomeBelow (suc j) h s) → (c : ℕ) → c < choices → ¬ Below q (onward h c s)
    none_below zero f c cb b = b
    none_below (suc q) f c cb b = f q (le_refl (suc q)) (c, cb, b)

    best_next : (r : ℕ) → SomeBelow (suc r) h s → (q : ℕ) × (q ≤ r) × BestNext Read choices observations Final h s q
    best_next r e =
        elim (first_or_none (suc r) (λ q. SomeBelow (suc q) h s) (λ q l. some_decided (suc q) (below_decided (suc q)) h p s sb)) [
          | inl (q, l, (c, cb, b), before) ↦
              let low = none_below q before in
              (q, le_of_suc-le-suc l, ((c, cb, (b, low c cb)), low))
          | inr never ↦ absurd (never r (le_refl (suc r)) e)
        ]

  pub read_rank : (h : History) → Can h → (¬ Final h) → (r : ℕ)
      → RankIs Read choices observations Final h (suc r)
      ↔ (((s : ℕ) → s < observations → (q : ℕ) × (q ≤ r) × BestNext Read choices observations Final h s q)
      × ((s : ℕ) × (s < observations) × BestNext Read choices observations Final h s r))
  read_rank h p n r = (
    λ a.
        let some : (s : ℕ) → s < observations → SomeBelow (suc r) h s = has_answer Read choices observations Final h n (suc r) a.0 in (
          λ s sb. best_next h p s sb r (some s sb),
          elim (all_or_not observations (SomeBelow r h) (some_decided r (below_decided r) h p)) [
            | inl all ↦ absurd (a.1 (inr all))
            | inr (s, sb, none) ↦
                let (c, cb, b) = some s sb in
                (s, sb, ((c, cb, (b, λ m. none (c, cb, m))), λ d db m. none (d, db, m)))
          ],
        ),
    λ e.
        let (next, (s, sb, worst)) = e in (
          inr (λ s sb.
              let (q, l, best) = next s sb in
              let (c, cb, a) = best.0 in
              (c, cb, below_le Read choices observations Final (suc q) (suc r) (onward h c s) (suc-le-suc l) a.0)),
          λ b. let (c, cb, m) = has_answer Read choices observations Final h n r b s sb in worst.1 c cb m,
        ),
  )

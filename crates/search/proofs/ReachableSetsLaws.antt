-- The listed sets are exactly those that letters reach.
-- Assumes nothing.
use Prim.Native.Nat.{ℕ, suc, ◌≤◌}
use mathlib.Core.Path.{◌≡◌, refl, sym, ap₂}
use mathlib.Core.Logic.Iff
use mathlib.Core.Logic.{◌↔◌}
use mathlib.Core.Bool.{Bool, true, false, beq, false≢true}
use mathlib.Core.List.{List, [], ◌∷◌, nil≢cons, cons≢nil, head-eq_of_cons-eq, tail-eq_of_cons-eq}
use lib.ListN.{length}
use Rattle.basics.proofs.SaysLaws.{says_and}
use Rattle.basics.specs.Says.{Says}
use Rattle.basics.specs.Member.{◌∈◌, Distinct}
use Rattle.search.specs.PatternSet.{PatternSet, start, next, after}
use Rattle.basics.specs.Reach.{closed, over, reachable, Reached, Enumerates}
use Rattle.search.specs.ReachableSets.{same_set, next_sets, reachable_sets, IsReachable}
use Rattle.basics.specs.Successors.{steps_over}
use Rattle.basics.proofs.ReachLaws.{closed_lists, over_iff, reached_iff_spelled}

same_bit : (b c : Bool) → Says (beq b c) (b ≡ c)
same_bit true true = (λ e. refl, λ p. refl)
same_bit true false = (λ e. absurd (false≢true e), λ p. sym p)
same_bit false true = (λ e. absurd (false≢true e), λ p. p)
same_bit false false = (λ e. refl, λ p. refl)

pub same_set_says : (s t : PatternSet) → Says (same_set s t) (s ≡ t)
unfolding same_set
same_set_says [] [] = (λ e. refl, λ p. refl)
same_set_says [] (c ∷ t) = (λ e. absurd (false≢true e), λ p. absurd (nil≢cons p))
same_set_says (b ∷ s) [] = (λ e. absurd (false≢true e), λ p. absurd (cons≢nil p))
same_set_says (b ∷ s) (c ∷ t) =
    Iff.trans (says_and (same_bit b c) (same_set_says s t))
    (λ p. ap₂ (λ x xs. x ∷ xs) p.0 p.1, λ p. (head-eq_of_cons-eq p, tail-eq_of_cons-eq p))

module _ (d : ℕ) (back : ℕ → ℕ → ℕ) (letters : List ℕ) where
  reached_iff : (s : PatternSet) → Reached (next_sets d back letters) (start d) s ↔ IsReachable d back letters s
  unfolding after next_sets
  reached_iff s =
      Iff.trans (reached_iff_spelled (next d back) letters (start d) s) (
        λ w. record { trace = w.word; spelled = w.spelled; leads = w.leads },
        λ r. record { word = r.trace; spelled = r.spelled; leads = r.leads },
      )

  -- they are what the letters as steps reach
  pub sets_reachable : (limit : ℕ) → reachable_sets d back letters limit ≡ reachable same_set (steps_over (next d back) letters) (start d) limit
  unfolding reachable_sets next_sets
  sets_reachable limit = refl

  -- a closed list has each reachable set once, and nothing else
  pub sets_closed : (limit : ℕ) (xs : List PatternSet) → reachable_sets d back letters limit ≡ closed xs
      → Distinct xs × (length xs ≤ limit) × ((s : PatternSet) → (s ∈ xs) ↔ IsReachable d back letters s)
  unfolding reachable_sets
  sets_closed limit xs e =
      let l : Enumerates (next_sets d back letters) (start d) xs × (length xs ≤ limit)
      = closed_lists same_set same_set_says (next_sets d back letters) (start d) limit xs e in
      (l.0.distinct, l.1, λ s. Iff.trans (l.0.exact s) (reached_iff s))

  -- `over` means that there are more than the limit
  pub sets_over : (limit : ℕ) → (reachable_sets d back letters limit ≡ over)
      ↔ ((xs : List PatternSet) × (length xs ≡ suc limit) × Distinct xs × ((s : PatternSet) → s ∈ xs → IsReachable d back letters s))
  unfolding reachable_sets
  sets_over limit =
      Iff.trans (over_iff same_set same_set_says (next_sets d back letters) (start d) limit) (
        λ m. (m.some, m.count, m.distinct, λ s k. (reached_iff s).0 (m.sound s k)),
        λ m. record { some = m.0; count = m.1; distinct = m.2; sound = λ s k. (reached_iff s).1 (m.3 s k) },
      )

-- The smallest choice that leads to the lowest rank, in the shape of its loop; choices for all observations.
-- Assumes nothing.
use Prim.Native.Nat.{ℕ, zero, suc, ◌≤◌}
use mathlib.Core.Path.{◌≡◌, refl, sym, ap, ◌∙◌, subst}
use mathlib.Core.Bool.{Bool}
use mathlib.Core.List.{List, ◌∷◌, ◌++◌}
use lib.ListN.{get_or, drop, replicate}
use Rattle.basics.specs.Bounded.{first_that}
use Rattle.basics.specs.Lists.{tabulate, written}
use Rattle.basics.specs.declared.order.Order.TheVariants.{Set, Read}
use Rattle.basics.proofs.BoundedLaws.{first_le}
use Rattle.basics.proofs.ListsLaws.{length_tabulate}
use Rattle.tables.specs.PositionMemory.{rank_after, works, is_best, answer_at, answers_at}
use Rattle.tables.proofs.FirstLeast.{Leading, leading_end}

module _ (moves ranks : List ℕ) (choices k s : ℕ) where
  -- the rank that choice c leads to
  abbrev to : ℕ → ℕ
  to c = rank_after moves ranks choices k c s

  -- of the choices below c, `best` is the smallest that leads to the lowest rank, and that rank is `least`
  pub record Best (c best least : ℕ) : Type 0 where
    pub lowest : least ≡ to best
    pub leading : Leading to c best

  pub best_end : (c best least : ℕ) → c ≡ choices → Best c best least → best ≡ first_that (is_best moves ranks choices k s) choices
  unfolding is_best
  best_end c best least all B = leading_end _ choices best (subst (λ i. Leading to i best) all B.leading)

-- ---- choices for all observations

pub found_le : (p : ℕ → Bool) (n c : ℕ) → c ≡ first_that p n → c ≤ n
found_le p n c e = subst (λ i. i ≤ n) (sym e) (first_le p n)

same_table : (n c : ℕ) → tabulate n (λ s. c) ≡ replicate n c
same_table zero c = refl
same_table (suc n) c = ap (λ l. c ∷ l) (same_table n c)

module _ (moves ranks : List ℕ) (choices observations k : ℕ) where
  -- the same for each
  pub one_answer : (c : ℕ) → c ≡ first_that (works moves ranks choices observations (get_or ranks k 0) k) choices
      → replicate observations c ≡ answers_at Set moves ranks choices observations k
  unfolding answers_at
  one_answer c e = sym (same_table observations c) ∙ ap (λ i. tabulate observations (λ s. i)) e

  -- the observations below s have their best choices
  abbrev pub Chosen : List ℕ → ℕ → List ℕ → Type 0
  Chosen answers₀ s answers = answers ≡ tabulate s (answer_at Read moves ranks choices observations k) ++ drop s answers₀

  pub all_chosen : (s : ℕ) (answers₀ answers : List ℕ) → s ≡ observations → Chosen answers₀ s answers
      → answers ≡ written (answers_at Read moves ranks choices observations k) answers₀
  unfolding answers_at
  all_chosen s answers₀ answers e f =
      f ∙ ap (λ i. tabulate i (answer_at Read moves ranks choices observations k) ++ drop i answers₀) e
      ∙ ap (λ i. tabulate observations (answer_at Read moves ranks choices observations k) ++ drop i answers₀)
      (sym (length_tabulate observations (answer_at Read moves ranks choices observations k)))

-- What the controller can choose (`CanChoose`), under either order of a step.
-- Assumes nothing.
use Prim.Native.Nat.{ℕ, ◌<◌}
use mathlib.Core.Path.{◌≡◌}
use mathlib.Core.Logic.{◌↔◌}
use mathlib.Core.Bool.{Bool, true}
use Rattle.basics.specs.Bounded.{all, any}
use Rattle.basics.specs.declared.order.Order.{Order}
use Rattle.basics.specs.declared.order.Order.TheVariants.{Set, Read}
use Rattle.basics.proofs.BoundedLaws.{any_at, any_of, all_at, all_of}
use Rattle.play.specs.Rank.{can}
use Rattle.play.specs.IsTable.{CanChoose}

-- each observation has a good choice
pub good_choice : (o : Order) (choices observations : ℕ) (Good : ℕ → ℕ → Type 0) → CanChoose o choices observations Good
    → (s : ℕ) → s < observations → (c : ℕ) × (c < choices) × Good c s
good_choice Set choices observations Good (c, b, g) s h = (c, b, g s h)
good_choice Read choices observations Good g s h = g s h

-- where what is good is better, among the choices and observations that can occur
pub choose_map : (o : Order) (choices observations : ℕ) (Good Better : ℕ → ℕ → Type 0)
    → ((c s : ℕ) → c < choices → s < observations → Good c s → Better c s)
    → CanChoose o choices observations Good → CanChoose o choices observations Better
choose_map Set choices observations Good Better up (c, b, g) = (c, b, λ s h. up c s b h (g s h))
choose_map Read choices observations Good Better up g = λ s h. let (c, b, w) = g s h in (c, b, up c s b h w)

-- what `can` tests
pub can_iff : (o : Order) (choices observations : ℕ) (ok : ℕ → ℕ → Bool)
    → (can o choices observations ok ≡ true) ↔ CanChoose o choices observations (λ c s. ok c s ≡ true)
can_iff Set choices observations ok = (
  λ t. let (c, b, w) = any_at choices (λ c. all observations (λ s. ok c s)) t in (c, b, all_at observations (λ s. ok c s) w),
  λ e. let (c, b, w) = e in any_of choices (λ c. all observations (λ s. ok c s)) c b (all_of observations (λ s. ok c s) w),
)
can_iff Read choices observations ok = (
  λ t s h. any_at choices (λ c. ok c s) (all_at observations (λ s. any choices (λ c. ok c s)) t s h),
  λ e.
      all_of observations (λ s. any choices (λ c. ok c s)) (λ s h.
      let (c, b, w) = e s h in
      any_of choices (λ c. ok c s) c b w),
)

-- Letters by number.
-- Assumes nothing.
use Prim.Native.Nat.{ℕ, ◌+◌, ◌*◌, ◌/◌, ◌%◌, ◌^◌, ◌<◌}
use native.Mathlib.Nat.{mul_comm, mul_assoc, add-mul, add_assoc, add_comm}
use mathlib.Core.Path.{◌≡◌, refl, sym, ap, ap₂, ◌∙◌, subst}
use lib.Arith.{digits_div, digits_mod, digits_lt}
use lib.Pow.{pow-add}
use Rattle.formula.specs.Letter.{Counts, kind_size, letter_from}
use Rattle.obligations.specs.Letters.{letter_count, letter_of}
use Rattle.game.specs.StateMemory.{letter_number}

-- a pair's number, from its choice and its observation
pub pair_lt : (choices observations c s : ℕ) → c < choices → s < observations → s * choices + c < choices * observations
pair_lt choices observations c s cb sb = subst (λ m. s * choices + c < m) (mul_comm observations choices) (digits_lt sb cb)

module _ (c : Counts) where
  abbrev x : ℕ
  x = 2 ^ c.outputs

  abbrev y : ℕ
  y = 2 ^ c.observed

  -- how many there are
  pub letter_count_lem : letter_count c ≡ 2 ^ c.hidden * (x * y)
  letter_count_lem =
      pow-add 2 (c.outputs + c.observed) c.hidden ∙ ap (λ n. n * 2 ^ c.hidden) (pow-add 2 c.outputs c.observed)
      ∙ mul_comm (x * y) (2 ^ c.hidden)

  -- the letter of choice k, observation s and hidden value h
  pub letter_at : (k s h : ℕ) → k < x → s < y → letter_of c (letter_number x y k s h) ≡ letter_from k s h
  letter_at k s h kb sb =
      let e : letter_number x y k s h ≡ (h * y + s) * x + k =
      sym (ap (λ n. n + k) (add-mul (h * y) s x) ∙ add_assoc (h * y * x) (s * x) k
      ∙ ap (λ n. n + (s * x + k)) (mul_assoc h y x ∙ ap (λ n. h * n) (mul_comm y x)) ∙ add_comm (h * (x * y)) (s * x + k))
      in
      ap₂ ◌+◌ (ap₂ (λ a b. a + b * kind_size) (ap (λ n. n % x) e ∙ digits_mod (h * y + s) kb)
      (ap (λ n. n / x % y) e ∙ ap (λ n. n % y) (digits_div (h * y + s) kb) ∙ digits_mod h sb))
      (ap (λ n. n * (kind_size * kind_size)) (ap₂ ◌/◌ refl (pow-add 2 c.outputs c.observed) ∙ ap (λ n. n / (x * y)) (add_comm (s * x + k) (h * (x * y)))
      ∙ digits_div h (pair_lt x y k s kb sb)))

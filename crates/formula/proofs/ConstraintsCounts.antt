-- How many parts and temporal operators the plan words' formulas have. Assumes nothing.
use Prim.Native.Nat.{ℕ, zero, suc, ◌+◌, ◌*◌}
use native.Mathlib.Omega.{arith}
use mathlib.Core.Path.{◌≡◌}
use Rattle.formula.specs.Formula.{Formula, size, operators}
use Rattle.formula.specs.Constraints.{soon, hold, delay}

module _ (φ : Formula) where
  pub soon_size : (n : ℕ) → size (soon n φ) ≡ (n + 1) * size φ + 2 * n
  unfolding soon size
  soon_size zero = omega arith
  soon_size (suc n) = let e = soon_size n in omega arith

  pub hold_size : (n : ℕ) → size (hold n φ) ≡ (n + 1) * size φ + 2 * n
  unfolding hold size
  hold_size zero = omega arith
  hold_size (suc n) = let e = hold_size n in omega arith

  pub delay_size : (n : ℕ) → size (delay n φ) ≡ n + size φ
  unfolding delay size
  delay_size zero = omega arith
  delay_size (suc n) = let e = delay_size n in omega arith

  pub delay_operators : (n : ℕ) → operators (delay n φ) ≡ n + operators φ
  unfolding delay operators
  delay_operators zero = omega arith
  delay_operators (suc n) = let e = delay_operators n in omega arith

  -- of an operand without temporal operators
  module _ (none : operators φ ≡ 0) where
    pub soon_operators : (n : ℕ) → operators (soon n φ) ≡ n
    unfolding soon operators
    soon_operators zero = none
    soon_operators (suc n) = let e = soon_operators n in omega arith

    pub hold_operators : (n : ℕ) → operators (hold n φ) ≡ n
    unfolding hold operators
    hold_operators zero = none
    hold_operators (suc n) = let e = hold_operators n in omega arith

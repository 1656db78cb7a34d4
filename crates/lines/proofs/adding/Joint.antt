-- The "and" that joins a formula to those before it.
-- Assumes nothing.
use Prim.Native.Nat.{ℕ, zero, suc, ◌+◌, ◌-◌, ◌*◌, ◌≤◌}
use native.Mathlib.Nat.{add-zero}
use native.Mathlib.Omega.{arith}
use mathlib.Core.Path.{◌≡◌, refl, sym}
use mathlib.Core.List.{List}
use lib.ListN.{set}
use Rattle.lines.specs.Effect.{joint}
use Rattle.lines.specs.Memory.{join_part, stored_from}

pub joint_none : (n count : ℕ) → n ≡ 0 → count ≡ count + joint n
joint_none n count e = rw e (sym (add-zero count))

pub joint_some : (n count : ℕ) → (n ≡ 0 → ⊥) → count + 1 ≡ count + joint n
joint_some zero count f = absurd (f refl)
joint_some (suc n) count f = refl

pub join_none : (n count : ℕ) (p : List ℕ) → n ≡ 0 → p ≡ stored_from (join_part n (count - n)) count p
join_none n count p e = rw e

pub join_some : (n count : ℕ) (p : List ℕ) → (n ≡ 0 → ⊥) → n ≤ count
    → set p count (38 + 256 * (n - 1) + 65536 * (count - 1)) ≡ stored_from (join_part n (count - n)) count p
join_some zero count p f h = absurd (f refl)
join_some (suc n) count p f h =
    let r : count - 1 ≡ n + (count - suc n) = omega arith in
    let l : suc n - 1 ≡ n = omega arith in
    rw (l, r) refl

-- How many bytes of a set differ once a letter was read, for any number d of operators. A byte has 8 = 2 ^ 3 patterns, a word 64 = 2 ^ 6.
-- Assumes nothing.
use Prim.Native.Nat.{ℕ, suc, ◌+◌, ◌-◌, ◌*◌, ◌/◌, ◌%◌, ◌^◌, ◌≤◌, ◌<◌}
use native.Mathlib.Nat.{mul_assoc, mul-add-mod_self_right, div-add-mod', lt_of_lt_of_le}
use native.Mathlib.Omega.{arith}
use mathlib.Core.Path.{◌≡◌, sym, ap, ◌∙◌}
use lib.Pow.{pow-add, pow_pos, pow_mono, mod-mod-pow}
use Rattle.basics.specs.Limits.{word_bits, word_size}
use Rattle.search.specs.Maps.{planes_of}
use Rattle.search.specs.Memory.{half_of}

-- they are for all patterns of d bits, once or more
half_bits : (d : ℕ) → half_of d * 8 ≡ 2 ^ (d - 3 + 3)
unfolding half_of
half_bits d = sym (pow-add 2 (d - 3) 3)

pub half_some : (d : ℕ) → 0 < half_of d
unfolding half_of
half_some d = pow_pos (d - 3)

pub half_small : (d k : ℕ) → d ≤ k → 3 ≤ k → half_of d * 8 ≤ 2 ^ k
half_small d k h l = rw half_bits (pow_mono {i = d - 3 + 3} {j = k} (omega arith))

mod_half : (n d : ℕ) → n % 2 ^ suc d % 2 ^ d ≡ n % 2 ^ d
mod_half n d = let e : suc d ≡ 1 + d = omega arith in ap (λ w. n % 2 ^ w % 2 ^ d) e ∙ mod-mod-pow n 1 d

-- so the pattern of a bit among them has the same d low bits
pub half_pattern : (d b j : ℕ) → (b % half_of d * 8 + j) % 2 ^ d ≡ (b * 8 + j) % 2 ^ suc d % 2 ^ d
half_pattern d b j =
    let h = half_of d in
    let e : b * 8 + j ≡ b / h * (h * 8) + (b % h * 8 + j) = ap (λ n. n * 8 + j) (sym (div-add-mod' b h)) ∙ spreads (b / h) h (b % h) in
    let k : d - 3 + 3 ≡ 3 - d + d = omega arith in
    let c : h * 8 ≡ 2 ^ (3 - d) * 2 ^ d = half_bits d ∙ ap (λ n. 2 ^ n) k ∙ pow-add 2 (3 - d) d in
    let f : b / h * (h * 8) ≡ b / h * 2 ^ (3 - d) * 2 ^ d = ap (λ n. b / h * n) c ∙ sym (mul_assoc (b / h) (2 ^ (3 - d)) (2 ^ d)) in
    sym (mod_half (b * 8 + j) d ∙ ap (λ n. n % 2 ^ d) (e ∙ ap (λ n. n + (b % h * 8 + j)) f)
    ∙ mul-add-mod_self_right (b / h * 2 ^ (3 - d)) (2 ^ d) (b % h * 8 + j))
  where
    spreads : (q h r : ℕ) → (q * h + r) * 8 + j ≡ q * (h * 8) + (r * 8 + j)
    spreads q h r = let a : q * (h * 8) ≡ q * h * 8 = sym (mul_assoc q h 8) in rw a (omega arith)

-- ---- the entries of a map that are read are stored

pub planes_bits : (d : ℕ) → planes_of d * word_size ≡ 2 ^ (d - word_bits + word_bits)
unfolding planes_of
planes_bits d = sym (pow-add 2 (d - word_bits) word_bits)

pub half_stored : (d q : ℕ) → q < half_of d * 8 → q < planes_of d * word_size
half_stored d q l =
    lt_of_lt_of_le l (rw (half_bits, planes_bits) (pow_mono {i = d - 3 + 3} {j = d - word_bits + word_bits} (omega arith)))

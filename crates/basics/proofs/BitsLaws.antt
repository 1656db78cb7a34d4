-- Bits of numbers, numbers made of a table of bits, and how a loop makes one from the highest bit down.
-- Assumes nothing.
use Prim.Native.Nat.{ℕ, ◌/◌, ◌^◌, ◌<◌, zero, suc, ◌+◌, ◌*◌, ◌%◌, ◌-◌, ◌≤◌}
use native.Mathlib.Nat.{div-eq_of_lt, div-one, pow-suc, pow-succ', div-div-eq-div-mul, mul-add-mod_self_right, zero-div, div-add-mod'}
use native.Mathlib.Nat.{mod-lt, div-lt_iff_lt-mul, mod-eq_of_lt, one-mul, add-zero, zero-add}
use mathlib.Core.Path.{◌≡◌, refl, ap, sym, ap₂, ◌∙◌, subst}
use mathlib.Core.Bool.{Bool, true, false, true≢false, false≢true}
use lib.Bits.{bit_and, and_mask, mask_lt}
use lib.Dec.{eqb, lit<}
use Rattle.basics.specs.Bits.{bit, digit, from_bits}
use native.Mathlib.Omega.{arith}
use mathlib.Core.List.{List, [], ◌∷◌}
use lib.Arith.{digits_div, digits_lt}
use lib.Pow.{field, mod-mod-pow, shl_exact}
use lib.ListN.{length, get_or}
use Rattle.basics.specs.Limits.{word_size}
use Rattle.basics.specs.Lists.{tabulate}
use Rattle.basics.proofs.ListsLaws.{length_tabulate, get_d_tabulate, tabulate_ext}

-- the code's test of bit k
pub bit_test : (n k : ℕ) → eqb (bit_and (n / 2 ^ k) 1) 1 ≡ bit n k
bit_test n k = ap (λ m. eqb m 1) (and_mask (n / 2 ^ k) 1)

pub digit_lt : (b : Bool) → digit b < 2
digit_lt true = omega arith
digit_lt false = omega arith

pub digit_is : (b : Bool) → eqb (digit b) 1 ≡ b
digit_is true = refl
digit_is false = refl

-- a number below 2 is a digit
pub one_digit : (x : ℕ) → x < 2 → x ≡ digit (eqb x 1)
one_digit zero h = refl
one_digit (suc zero) h = refl
one_digit (suc (suc x)) h = absurd (omega arith)

-- the lowest bit of a number, as code cuts it out
pub low_digit : (x : ℕ) → bit_and x 1 ≡ digit (eqb (x % 2) 1)
low_digit x = and_mask x 1 ∙ one_digit (x % 2) (omega arith)

pub low_lt : (x : ℕ) → bit_and x 1 < 2
low_lt x = mask_lt x 1

-- a shift of 1
pub shl_one : (k : ℕ) → k < word_size → 1 * 2 ^ k % 2 ^ word_size ≡ 2 ^ k
shl_one k h = shl_exact 1 k word_size (lit< tt) (omega arith) ∙ one-mul (2 ^ k)

-- bit 0 tells whether a number is odd, and the higher bits are those of its half
pub bit_low : (n : ℕ) → bit n 0 ≡ eqb (n % 2) 1
bit_low n = rw div-one

pub bit_high : (n k : ℕ) → bit n (suc k) ≡ bit (n / 2) k
bit_high n k = ap (λ x. eqb (x % 2) 1) (ap (λ y. n / y) (pow-succ' 2 k) ∙ sym (div-div-eq-div-mul n 2 (2 ^ k)))

pub bit_zero : (k : ℕ) → bit 0 k ≡ false
bit_zero k = rw zero-div

bit_cons_zero : (b : Bool) (bs : List Bool) → bit (from_bits (b ∷ bs)) 0 ≡ b
unfolding from_bits
bit_cons_zero b bs = bit_low (from_bits bs * 2 + digit b) ∙ ap (λ x. eqb x 1)
    (mul-add-mod_self_right (from_bits bs) 2 (digit b) ∙ mod-eq_of_lt (digit_lt b)) ∙ digit_is b

bit_cons_suc : (b : Bool) (bs : List Bool) (k : ℕ) → bit (from_bits (b ∷ bs)) (suc k) ≡ bit (from_bits bs) k
unfolding from_bits
bit_cons_suc b bs k = bit_high (from_bits bs * 2 + digit b) k ∙ ap (λ x. bit x k) (digits_div (from_bits bs) (digit_lt b))

-- a number made from bits has those bits, and no others
pub bit-from_bits : (bs : List Bool) (k : ℕ) → bit (from_bits bs) k ≡ get_or bs k false
unfolding from_bits
bit-from_bits [] k = bit_zero k
bit-from_bits (b ∷ bs) zero = bit_cons_zero b bs
bit-from_bits (b ∷ bs) (suc k) = bit_cons_suc b bs k ∙ bit-from_bits bs k

pub from_bits_lt : (bs : List Bool) → from_bits bs < 2 ^ length bs
unfolding from_bits
from_bits_lt [] = omega arith
from_bits_lt (b ∷ bs) = subst (λ x. from_bits bs * 2 + digit b < x) (sym (pow-suc 2 (length bs))) (digits_lt (from_bits_lt bs) (digit_lt b))

-- a number below 2 ^ k has no bit from k on
pub bit_out : (n k : ℕ) → n < 2 ^ k → bit n k ≡ false
bit_out n k h = rw (div-eq_of_lt h)

-- the low bits of a number are those of its remainder
pub bit_mod : (n m k : ℕ) → k < m → bit (n % 2 ^ m) k ≡ bit n k
bit_mod n m k h =
    let e : m ≡ m - suc k + 1 + k = omega arith in
    ap (λ x. eqb (x % 2) 1) (ap (λ w. n % 2 ^ w / 2 ^ k) e ∙ field n (m - suc k + 1) k)
    ∙ ap (λ x. eqb x 1) (mod-mod-pow (n / 2 ^ k) (m - suc k) 1)

-- the bits below w tell a number below 2 ^ w from any other such number
pub bits_ext : (w m n : ℕ) → m < 2 ^ w → n < 2 ^ w → ((k : ℕ) → k < w → bit m k ≡ bit n k) → m ≡ n
bits_ext zero m n h l e = omega arith
bits_ext (suc w) m n h l e =
    sym (div-add-mod' m 2)
    ∙ ap₂ (λ x y. x * 2 + y)
    (bits_ext w (m / 2) (n / 2) (half_lt w m h) (half_lt w n l) (λ k k<. sym (bit_high m k) ∙ e (suc k) (omega arith) ∙ bit_high n k))
    (odd_ext (m % 2) (n % 2) (mod-lt m (omega arith)) (mod-lt n (omega arith)) (sym (bit_low m) ∙ e 0 (omega arith) ∙ bit_low n))
    ∙ div-add-mod' n 2
  where
    half_lt : (v x : ℕ) → x < 2 ^ suc v → x / 2 < 2 ^ v
    half_lt v x b = (div-lt_iff_lt-mul {k = 2} (omega arith)).1 (subst (λ y. x < y) (pow-suc 2 v) b)

    odd_ext : (x y : ℕ) → x < 2 → y < 2 → eqb x 1 ≡ eqb y 1 → x ≡ y
    odd_ext zero zero a b p = refl
    odd_ext zero (suc zero) a b p = absurd (false≢true p)
    odd_ext zero (suc (suc y)) a b p = absurd (omega arith)
    odd_ext (suc zero) zero a b p = absurd (true≢false p)
    odd_ext (suc zero) (suc zero) a b p = refl
    odd_ext (suc zero) (suc (suc y)) a b p = absurd (omega arith)
    odd_ext (suc (suc x)) y a b p = absurd (omega arith)

module _ (n : ℕ) (f : ℕ → Bool) where
  pub bit_table : (j : ℕ) → j < n → bit (from_bits (tabulate n f)) j ≡ f j
  bit_table j h = bit-from_bits (tabulate n f) j ∙ get_d_tabulate n f j false h

  pub table_lt : from_bits (tabulate n f) < 2 ^ n
  table_lt = subst (λ m. from_bits (tabulate n f) < 2 ^ m) (length_tabulate n f) (from_bits_lt (tabulate n f))

  -- a number with the table's bits, and no others, is the table's
  pub table_unique : (x : ℕ) → x < 2 ^ n → ((j : ℕ) → j < n → bit x j ≡ f j) → x ≡ from_bits (tabulate n f)
  table_unique x h e = bits_ext n x (from_bits (tabulate n f)) h table_lt (λ j l. e j l ∙ sym (bit_table j l))

-- the number of the m bits from k on
unfoldable pub table_from : (ℕ → Bool) → ℕ → ℕ → ℕ
table_from f k m = from_bits (tabulate m (λ j. f (k + j)))

module _ (f : ℕ → Bool) where
  from_none : (k : ℕ) → table_from f k 0 ≡ 0
  unfolding table_from from_bits
  from_none k = refl

  -- one more bit, below the others
  from_more : (k m : ℕ) → table_from f k (suc m) ≡ table_from f (suc k) m * 2 + digit (f k)
  unfolding table_from from_bits
  from_more k m =
      ap₂ (λ bs b. from_bits bs * 2 + digit b)
      (tabulate_ext m (λ j. f (k + suc j)) (λ j. f (suc k + j)) (λ j h. ap f (omega arith))) (ap f (add-zero k))

  pub from_all : (m : ℕ) → table_from f 0 m ≡ from_bits (tabulate m f)
  unfolding table_from
  from_all m = ap from_bits (tabulate_ext m (λ j. f (0 + j)) f (λ j h. ap f (zero-add j)))

-- a loop that makes a number of w bits so: n is the number of the bits from j on

module _ (w : ℕ) (f : ℕ → Bool) where
  pub bits_none : 0 ≡ table_from f w 0
  bits_none = sym (from_none f w)

  pub bits_more : (n j x : ℕ) → 0 < j → j ≤ w → n ≡ table_from f j (w - j) → x ≡ digit (f (j - 1))
      → n * 2 + x ≡ table_from f (j - 1) (w - (j - 1))
  bits_more n j x h l e q =
      let k : w - (j - 1) ≡ suc (w - j) = omega arith in
      let i : suc (j - 1) ≡ j = omega arith in
      ap₂ (λ m y. m * 2 + y) (e ∙ ap (λ t. table_from f t (w - j)) (sym i)) q ∙ sym (from_more f (j - 1) (w - j)) ∙ ap (table_from f (j - 1)) (sym k)

  pub bits_done : (n j : ℕ) → j ≤ 0 → n ≡ table_from f j (w - j) → n ≡ table_from f 0 w
  bits_done n j h e =
      let z : j ≡ 0 = omega arith in
      let all : w - j ≡ w = omega arith in
      e ∙ ap₂ (table_from f) z all

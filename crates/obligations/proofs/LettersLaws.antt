-- The letters of a problem: how the code makes them, and that they are the letters of the declared signals.
-- Assumes nothing.
use Prim.Native.Nat.{ℕ, ◌+◌, ◌-◌, ◌*◌, ◌/◌, ◌%◌, ◌^◌, ◌≤◌, ◌<◌}
use native.Mathlib.Nat.{lt_of_lt_of_le, mod-lt, add_comm}
use native.Mathlib.Omega.{arith}
use mathlib.Core.Path.{◌≡◌, refl, sym, ap, ◌∙◌, subst}
use mathlib.Core.Logic.{◌↔◌}
use mathlib.Core.Bool.{Bool, true, false, ◌&&◌, false≢true}
use lib.Arith.{digits_div, digits_mod, digits_lt}
use lib.Bits.{bit_and, bit_or, and_mask, or_shifted_r}
use lib.Pow.{pow-add, pow_mono, pow_pos, shr_lt, shr-shr}
use lib.Dec.{lit≤, ltb}
use borrow.Author.Tests.{lt-ltb, ltb-true}
use Rattle.basics.specs.Limits.{kind_limit, word_size}
use Rattle.basics.specs.Lists.{tabulate}
use Rattle.formula.specs.Letter.{Counts, kind_size, letter_from, is_letter, IsLetter}
use Rattle.formula.proofs.LetterLaws.{letter_iff}
use Rattle.basics.specs.Member.{◌∈◌}
use Rattle.obligations.specs.Letters.{letter_count, letter_of, letters_of}
use Rattle.basics.proofs.BitsLaws.{shl_one}
use Rattle.basics.proofs.MemberLaws.{in_tabulate}

-- ---- shifts

pub shl_pos : (k : ℕ) → k < word_size → 1 ≤ 1 * 2 ^ k % 2 ^ word_size
shl_pos k h = subst (λ x. 1 ≤ x) (sym (shl_one k h)) (pow_pos k)

-- three tests that all pass
all_true : (p q r : Bool) → p && (q && r) ≡ true → (p ≡ true) × (q ≡ true) × (r ≡ true)
all_true true true r e = (refl, refl, e)
all_true true false r e = absurd (false≢true e)
all_true false q r e = absurd (false≢true e)

-- ---- a letter's three fields

field_le : (k : ℕ) → k ≤ kind_limit → 2 ^ k ≤ kind_size
field_le k h = pow_mono {i = k} {j = kind_limit} h

-- side by side, as the code joins them
join_fields : (x y z : ℕ) → x < kind_size → y < kind_size → z < kind_size
    → bit_or (bit_or x (y * kind_size % 2 ^ word_size)) (z * (kind_size * kind_size) % 2 ^ word_size) ≡ letter_from x y z
join_fields x y z a b d =
    let e : y * kind_size % 2 ^ word_size ≡ y * kind_size = omega arith in
    let f : z * (kind_size * kind_size) % 2 ^ word_size ≡ z * (kind_size * kind_size) = omega arith in
    let g : y * kind_size + x < kind_size * kind_size = omega arith in
    rw (e, f, or_shifted_r y kind_limit x a, or_shifted_r z (2 * kind_limit) (y * kind_size + x) g) (omega arith)

-- and each read again
low_field : (x y z : ℕ) → x < kind_size → letter_from x y z % kind_size ≡ x
low_field x y z a = omega arith

middle_field : (x y z : ℕ) → x < kind_size → y < kind_size → letter_from x y z / kind_size % kind_size ≡ y
middle_field x y z a b = omega arith

high_field : (x y z : ℕ) → x < kind_size → y < kind_size → letter_from x y z / (kind_size * kind_size) ≡ z
high_field x y z a b = omega arith

-- ---- the number of a letter

module _ (c : Counts) (x y z : ℕ) (a : x < 2 ^ c.outputs) (b : y < 2 ^ c.observed) (d : z < 2 ^ c.hidden) where
  number : ℕ
  number = (z * 2 ^ c.observed + y) * 2 ^ c.outputs + x

  number_lt : number < letter_count c
  unfolding number
  number_lt =
      let e : 2 ^ c.hidden * 2 ^ c.observed * 2 ^ c.outputs ≡ letter_count c =
      ap (λ n. n * 2 ^ c.outputs) (sym (pow-add 2 c.hidden c.observed)) ∙ sym (pow-add 2 (c.hidden + c.observed) c.outputs) ∙ ap
      (λ k. 2 ^ k) (omega arith) in
      subst (λ n. (z * 2 ^ c.observed + y) * 2 ^ c.outputs + x < n) e (digits_lt (digits_lt d b) a)

  number_high : number / 2 ^ (c.outputs + c.observed) ≡ z
  unfolding number
  number_high =
      sym (shr-shr number c.outputs c.observed)
      ∙ ap (λ n. n / 2 ^ c.observed) (digits_div (z * 2 ^ c.observed + y) a)
      ∙ digits_div z b

  number_letter : letter_of c number ≡ letter_from x y z
  unfolding number
  number_letter =
      rw (number_high, digits_mod (z * 2 ^ c.observed + y) a, digits_div (z * 2 ^ c.observed + y) a, digits_mod z b) refl

  -- the letter of three values that the signals can have is listed
  pub letter_listed : letter_from x y z ∈ letters_of c
  unfolding letters_of
  letter_listed = (in_tabulate (letter_count c) (letter_of c) (letter_from x y z)).1 (number, number_lt, number_letter)

-- ---- few signals of each kind

module _ (c : Counts) (ho : c.outputs ≤ kind_limit) (hs : c.observed ≤ kind_limit) (hh : c.hidden ≤ kind_limit) where
  -- the letter of three values that the signals can have has no other bit
  letter_is : (x y z : ℕ) → x < 2 ^ c.outputs → y < 2 ^ c.observed → z < 2 ^ c.hidden → is_letter c (letter_from x y z) ≡ true
  unfolding is_letter
  letter_is x y z a b d =
      let p = lt_of_lt_of_le a (field_le c.outputs ho) in
      let q = lt_of_lt_of_le b (field_le c.observed hs) in
      rw (
        low_field x y z p,
        middle_field x y z p q,
        high_field x y z p q,
        lt-ltb x (2 ^ c.outputs) a,
        lt-ltb y (2 ^ c.observed) b,
        lt-ltb z (2 ^ c.hidden) d,
      )
      refl

  module _ (i : ℕ) (h : i < letter_count c) where
    first_lt : i % 2 ^ c.outputs < 2 ^ c.outputs
    first_lt = mod-lt i (pow_pos c.outputs)

    second_lt : i / 2 ^ c.outputs % 2 ^ c.observed < 2 ^ c.observed
    second_lt = mod-lt (i / 2 ^ c.outputs) (pow_pos c.observed)

    third_lt : i / 2 ^ (c.outputs + c.observed) < 2 ^ c.hidden
    third_lt = shr_lt c.hidden (c.outputs + c.observed) (subst (λ k. i < 2 ^ k) (add_comm (c.outputs + c.observed) c.hidden) h)

    first_small : i % 2 ^ c.outputs < kind_size
    first_small = lt_of_lt_of_le first_lt (field_le c.outputs ho)

    second_small : i / 2 ^ c.outputs % 2 ^ c.observed < kind_size
    second_small = lt_of_lt_of_le second_lt (field_le c.observed hs)

    third_small : i / 2 ^ (c.outputs + c.observed) < kind_size
    third_small = lt_of_lt_of_le third_lt (field_le c.hidden hh)

    -- the code's letter number i
    abbrev coded : ℕ
    coded =
        bit_or (bit_or (bit_and i (1 * 2 ^ c.outputs % 2 ^ word_size - 1))
        (bit_and (i / 2 ^ c.outputs) (1 * 2 ^ c.observed % 2 ^ word_size - 1) * kind_size % 2 ^ word_size))
        (i / 2 ^ (c.outputs + c.observed) * (kind_size * kind_size) % 2 ^ word_size)

    pub letter_code : coded ≡ letter_of c i
    letter_code =
        rw (shl_one c.outputs (omega arith), shl_one c.observed (omega arith), and_mask i c.outputs, and_mask (i / 2 ^ c.outputs) c.observed)
        (join_fields (i % 2 ^ c.outputs) (i / 2 ^ c.outputs % 2 ^ c.observed) (i / 2 ^ (c.outputs + c.observed)) first_small second_small third_small)

    letter_lt : letter_of c i < kind_size * kind_size * kind_size
    letter_lt = omega (arith, first_small, second_small, third_small)

    -- it fits two bytes
    pub letter_fits : coded < 2 ^ 16
    letter_fits = subst (λ n. n < 2 ^ 16) (sym letter_code) (lt_of_lt_of_le letter_lt (lit≤ tt))

  -- the letters by number are those that pass the test ..
  letters_exact : (a : ℕ) → (a ∈ letters_of c) ↔ (is_letter c a ≡ true)
  unfolding letters_of is_letter
  letters_exact a = (to, λ e. from (all_true (ltb low (2 ^ c.outputs)) (ltb middle (2 ^ c.observed)) (ltb high (2 ^ c.hidden)) e))
    where
      low : ℕ
      low = a % kind_size

      middle : ℕ
      middle = a / kind_size % kind_size

      high : ℕ
      high = a / (kind_size * kind_size)

      to : a ∈ tabulate (letter_count c) (letter_of c) → is_letter c a ≡ true
      to m =
          let r = (in_tabulate (letter_count c) (letter_of c) a).0 m in
          subst (λ n. is_letter c n ≡ true) r.2 (letter_is _ _ _ (first_lt r.0 r.1) (second_lt r.0 r.1) (third_lt r.0 r.1))

      from : (ltb low (2 ^ c.outputs) ≡ true) × (ltb middle (2 ^ c.observed) ≡ true) × (ltb high (2 ^ c.hidden) ≡ true) → a ∈ letters_of c
      from t =
          let whole : letter_from (a % kind_size) (a / kind_size % kind_size) (a / (kind_size * kind_size)) ≡ a = omega arith in
          subst (λ n. n ∈ letters_of c) whole
          (letter_listed c low middle high (ltb-true low (2 ^ c.outputs) t.0) (ltb-true middle (2 ^ c.observed) t.1)
          (ltb-true high (2 ^ c.hidden) t.2))

  -- .. so those of the declared signals, and no others
  pub letters_are : (a : ℕ) → (a ∈ letters_of c) ↔ IsLetter c a
  letters_are a =
      let (to, from) = letters_exact a in
      let (is, was) = letter_iff c (ho, hs, hh) a in
      (λ m. is (to m), λ l. from (was l))

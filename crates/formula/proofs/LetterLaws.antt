-- A letter passes the test of its three fields exactly where it has no bit without a signal. Assumes nothing.
use Prim.Native.Nat.{ℕ, zero, suc, ◌+◌, ◌*◌, ◌-◌, ◌/◌, ◌%◌, ◌^◌, ◌≤◌, ◌<◌}
use native.Mathlib.Nat.{pow-suc, mod-lt, lt_of_lt_of_le}
use native.Mathlib.Decide.{dec_lt}
use native.Mathlib.Omega.{arith}
use mathlib.Core.Path.{◌≡◌, refl, sym, ap, subst, ◌∙◌}
use mathlib.Core.Logic.{◌↔◌, inl, inr}
use mathlib.Core.Bool.{Bool, true, false, ◌&&◌}
use borrow.Author.Tests.{ltb-true, lt-ltb}
use lib.Dec.{eqb, ltb}
use lib.Pow.{pow_mono, pow_pos, shr-shr}
use Rattle.basics.specs.Limits.{kind_limit}
use Rattle.basics.specs.Bits.{bit}
use Rattle.basics.proofs.BitsLaws.{bit_out, bit_mod, bits_ext}
use Rattle.basics.proofs.Booleans.{test, clash, and_true}
use Rattle.formula.specs.Letter.{Counts, HasSignal, IsLetter, kind_size, is_letter}

-- ---- the bits of a number

lt_power : (n : ℕ) → n < 2 ^ n
lt_power zero = omega arith
lt_power (suc n) = subst (λ x. suc n < x) (sym (pow-suc 2 n)) (omega (arith, lt_power n))

bit_above : (n k b : ℕ) → n < 2 ^ k → k ≤ b → bit n b ≡ false
bit_above n k b h l = bit_out n b (lt_of_lt_of_le h (pow_mono {i = k} {j = b} l))

bit_shift : (n m k : ℕ) → bit (n / 2 ^ m) k ≡ bit n (m + k)
bit_shift n m k = ap (λ x. eqb (x % 2) 1) (shr-shr n m k)

-- a number is below 2 ^ k exactly where its bits are below k
module _ (n k : ℕ) where
  bits_below : n < 2 ^ k → (b : ℕ) → bit n b ≡ true → b < k
  bits_below h b t = elim (dec_lt b k) [ yes l ↦ l | no l ↦ clash t (bit_above n k b h (omega arith)) ]

  below_bits : ((b : ℕ) → bit n b ≡ true → b < k) → n < 2 ^ k
  below_bits f =
      subst (λ x. x < 2 ^ k) (sym (bits_ext (n + k) n (n % 2 ^ k) (wide n (omega arith) (lt_power n)) (wide k (omega arith) low) same)) low
    where
      low : n % 2 ^ k < 2 ^ k
      low = mod-lt n (pow_pos k)

      wide : {m : ℕ} (w : ℕ) → w ≤ n + k → m < 2 ^ w → m < 2 ^ (n + k)
      wide w l h = lt_of_lt_of_le h (pow_mono {i = w} {j = n + k} l)

      high : (b : ℕ) → k ≤ b → bit n b ≡ false
      high b l = elim (test (bit n b)) [ inl t ↦ absurd (omega (arith, f b t)) | inr e ↦ e ]

      same : (b : ℕ) → b < n + k → bit n b ≡ bit (n % 2 ^ k) b
      same b _ =
          elim (dec_lt b k) [
            | yes l ↦ sym (bit_mod n k b l)
            | no l ↦ high b (omega arith) ∙ sym (bit_above (n % 2 ^ k) k b low (omega arith))
          ]

-- ---- the fields of a letter

module _ (c : Counts) (few : (c.outputs ≤ kind_limit) × (c.observed ≤ kind_limit) × (c.hidden ≤ kind_limit)) (a : ℕ) where
  -- bit b of the field from bit m on
  field_bit : (m b : ℕ) → b < kind_limit → bit (a / 2 ^ m % kind_size) b ≡ bit a (m + b)
  field_bit m b h = bit_mod (a / 2 ^ m) kind_limit b h ∙ bit_shift a m b

  field_low : (x b : ℕ) → bit (x % kind_size) b ≡ true → b < kind_limit
  field_low x b t = bits_below (x % kind_size) kind_limit (mod-lt x (pow_pos kind_limit)) b t

  -- what the test says
  record Fields : Type 0 where
    outputs : a % kind_size < 2 ^ c.outputs
    observed : a / kind_size % kind_size < 2 ^ c.observed
    hidden : a / (kind_size * kind_size) < 2 ^ c.hidden

  fields : is_letter c a ≡ true → Fields
  unfolding is_letter
  fields e = go (ltb (a % kind_size) (2 ^ c.outputs)) refl (ltb (a / kind_size % kind_size) (2 ^ c.observed)) refl e
    where
      go : (x : Bool) → ltb (a % kind_size) (2 ^ c.outputs) ≡ x → (y : Bool) → ltb (a / kind_size % kind_size) (2 ^ c.observed) ≡ y
          → (x && (y && ltb (a / (kind_size * kind_size)) (2 ^ c.hidden))) ≡ true → Fields
      go true p true q r = record { outputs = ltb-true _ _ p; observed = ltb-true _ _ q; hidden = ltb-true _ _ r }
      go true p false q r = clash r refl
      go false p y q r = clash r refl

  to : is_letter c a ≡ true → IsLetter c a
  to e b t =
      elim (dec_lt b kind_limit) [
        | yes l ↦ inl (bits_below _ _ (fields e).outputs b (bit_mod a kind_limit b l ∙ t))
        | no n ↦ elim (dec_lt b (2 * kind_limit)) [
          | yes l ↦
              let j : kind_limit + (b - kind_limit) ≡ b = omega arith in
              let s = field_bit kind_limit (b - kind_limit) (omega arith) ∙ ap (bit a) j ∙ t in
              let h = bits_below (a / kind_size % kind_size) c.observed (fields e).observed (b - kind_limit) s in
              inr (inl (omega arith, omega (arith, h)))
          | no m ↦
              let j : 2 * kind_limit + (b - 2 * kind_limit) ≡ b = omega arith in
              let s = bit_shift a (2 * kind_limit) (b - 2 * kind_limit) ∙ ap (bit a) j ∙ t in
              let h = bits_below (a / (kind_size * kind_size)) c.hidden (fields e).hidden (b - 2 * kind_limit) s in
              inr (inr (omega arith, omega (arith, h)))
        ]
      ]

  from : IsLetter c a → is_letter c a ≡ true
  unfolding is_letter
  from f = and_true (lt-ltb _ _ (below_bits _ _ outputs)) (and_true (lt-ltb _ _ (below_bits _ _ observed)) (lt-ltb _ _ (below_bits _ _ hidden)))
    where
      outputs : (b : ℕ) → bit (a % kind_size) b ≡ true → b < c.outputs
      outputs b t = let l = field_low a b t in go (f b (sym (bit_mod a kind_limit b l) ∙ t))
        where
          go : HasSignal c b → b < c.outputs
          go (inl h) = h
          go (inr (inl h)) = absurd (omega (arith, field_low a b t, h))
          go (inr (inr h)) = absurd (omega (arith, field_low a b t, h))

      observed : (b : ℕ) → bit (a / kind_size % kind_size) b ≡ true → b < c.observed
      observed b t = go (f (kind_limit + b) (sym (field_bit kind_limit b (field_low (a / kind_size) b t)) ∙ t))
        where
          go : HasSignal c (kind_limit + b) → b < c.observed
          go (inl h) = absurd (omega (arith, few, h))
          go (inr (inl h)) = omega (arith, h)
          go (inr (inr h)) = absurd (omega (arith, field_low (a / kind_size) b t, h))

      hidden : (b : ℕ) → bit (a / (kind_size * kind_size)) b ≡ true → b < c.hidden
      hidden b t = go (f (2 * kind_limit + b) (sym (bit_shift a (2 * kind_limit) b) ∙ t))
        where
          go : HasSignal c (2 * kind_limit + b) → b < c.hidden
          go (inl h) = absurd (omega (arith, few, h))
          go (inr (inl h)) = absurd (omega (arith, few, h))
          go (inr (inr h)) = omega (arith, h)

  pub letter_iff : (is_letter c a ≡ true) ↔ IsLetter c a
  letter_iff = (to, from)

-- A number's digits one by one; a decimal is read back.
-- Assumes nothing.
use Prim.Native.Nat.{ℕ, zero, suc, ◌+◌, ◌-◌, ◌*◌, ◌/◌, ◌%◌, ◌≤◌, ◌<◌}
use native.Mathlib.Numerals.{add-one}
use native.Mathlib.Omega.{arith}
use native.Mathlib.Decide.{dec_lt}
use mathlib.Core.Path.{◌≡◌, refl, sym, ap, subst, ◌∙◌}
use mathlib.Core.Bool.{Bool, true, false, cond, ◌&&◌}
use mathlib.Core.List.{List, [], ◌∷◌, ◌++◌, foldl}
use lib.Dec.{ltb}
use lib.ListN.{length, drop, get_or, drop_of_length-le, length-append}
use lib.Seq.{drop-cons}
use borrow.Author.Tests.{le-leb, lt-leb, lt-ltb, le-ltb, ltb-true}
use Rattle.basics.specs.Numbers.{number_limit, is_digit, with_digit, number_in, value_below, number_below}
use Rattle.std.specs.Prelude.{Option, Some, None}
use Rattle.basics.specs.Text.{digits, decimal}
use Rattle.basics.proofs.Booleans.{cond_elim}

-- a byte behind a number

module _ (n b : ℕ) where
  pub digit_more : 48 ≤ b → b < 58 → n * 10 + (b - 48) < number_limit → Some (n * 10 + (b - 48)) ≡ with_digit (Some n) b
  unfolding with_digit is_digit
  digit_more h k m = rw (le-leb 48 b h, lt-ltb b 58 k, lt-ltb (n * 10 + (b - 48)) number_limit m) refl

  pub digit_large : number_limit ≤ n * 10 + (b - 48) → None ≡ with_digit (Some n) b
  unfolding with_digit
  digit_large h = rw (le-ltb (n * 10 + (b - 48)) number_limit h) (either (is_digit b))
    where
      either : (t : Bool) → None ≡ cond (t && false) (Some (n * 10 + (b - 48))) None
      either true = refl
      either false = refl

  pub digit_low : b < 48 → None ≡ with_digit (Some n) b
  unfolding with_digit is_digit
  digit_low h = rw (lt-leb 48 b h) refl

  pub digit_high : 58 ≤ b → None ≡ with_digit (Some n) b
  unfolding with_digit is_digit
  digit_high h =
      let l : 48 ≤ b = omega arith in
      rw (le-leb 48 b l, le-ltb b 58 h) refl

-- the digits from a place on

pub number_none : (s : List ℕ) → length s ≡ 0 → None ≡ number_in s
unfolding number_in
number_none [] e = refl
number_none (b ∷ s) e = absurd (omega (arith, e))

pub number_some : (s : List ℕ) → (length s ≡ 0 → ⊥) → number_in s ≡ foldl with_digit (Some 0) s
unfolding number_in
number_some [] n = absurd (n refl)
number_some (b ∷ s) n = refl

stays_bad : (s : List ℕ) → foldl with_digit None s ≡ None
unfolding with_digit
stays_bad [] = refl
stays_bad (b ∷ s) = stays_bad s

module _ (s : List ℕ) (i : ℕ) (x : Option ℕ) where
  pub number_more : (y : Option ℕ) → i < length s → y ≡ with_digit x (get_or s i 0)
      → foldl with_digit x (drop i s) ≡ foldl with_digit y (drop (i + 1) s)
  number_more y h e = rw (drop-cons s i 0 h, e, add-one) refl

  pub number_bad : i < length s → None ≡ with_digit x (get_or s i 0) → None ≡ foldl with_digit x (drop i s)
  number_bad h e = sym (number_more None h e ∙ stays_bad (drop (i + 1) s))

  pub number_end : length s ≤ i → x ≡ foldl with_digit x (drop i s)
  number_end h = rw (drop_of_length-le s h) refl

-- a number is below the limit

abbrev Below : Option ℕ → Type 0
Below (Some n) = n < number_limit
Below None = Unit

step_below : (x : Option ℕ) (b : ℕ) → Below (with_digit x b)
unfolding with_digit
step_below None b = tt
step_below (Some n) b = by_test (is_digit b) (ltb (n * 10 + (b - 48)) number_limit) refl
  where
    by_test : (t u : Bool) → ltb (n * 10 + (b - 48)) number_limit ≡ u → Below (cond (t && u) (Some (n * 10 + (b - 48))) None)
    by_test true true e = ltb-true (n * 10 + (b - 48)) number_limit e
    by_test true false e = tt
    by_test false u e = tt

fold_below : (s : List ℕ) (x : Option ℕ) → Below x → Below (foldl with_digit x s)
fold_below [] x h = h
fold_below (b ∷ s) x h = fold_below s (with_digit x b) (step_below x b)

pub number_below_lem : (s : List ℕ) (n : ℕ) → Some n ≡ number_in s → n < number_limit
unfolding number_in
number_below_lem s n e = subst Below (sym e) (in_below s)
  where
    in_below : (s : List ℕ) → Below (number_in s)
    in_below [] = tt
    in_below (b ∷ s) = fold_below s (with_digit (Some 0) b) (step_below (Some 0) b)

-- ---- a decimal is read back

fold_append : (x : Option ℕ) (a b : List ℕ) → foldl with_digit x (a ++ b) ≡ foldl with_digit (foldl with_digit x a) b
fold_append x [] b = refl
fold_append x (d ∷ a) b = fold_append (with_digit x d) a b

fold_digits : (k n : ℕ) → n ≤ k → n < number_limit → foldl with_digit (Some 0) (digits k n) ≡ Some n
unfolding digits
fold_digits zero n h l =
    let e : 0 * 10 + (48 + n - 48) ≡ n = omega arith in
    sym (digit_more 0 (48 + n) (omega arith) (omega arith) (omega arith)) ∙ ap Some e
fold_digits (suc k) n h l =
    elim (dec_lt n 10) [
      | yes s ↦
          let e : 0 * 10 + (48 + n - 48) ≡ n = omega arith in
          rw (lt-ltb n 10 s) (sym (digit_more 0 (48 + n) (omega arith) (omega arith) (omega arith)) ∙ ap Some e)
      | no m ↦
          let e : n / 10 * 10 + (48 + n % 10 - 48) ≡ n = omega arith in
          rw (le-ltb n 10 (omega arith))
          (fold_append (Some 0) (digits k (n / 10)) ((48 + n % 10) ∷ [])
          ∙ ap (λ x. with_digit x (48 + n % 10)) (fold_digits k (n / 10) (omega arith) (omega arith))
          ∙ sym (digit_more (n / 10) (48 + n % 10) (omega arith) (omega arith) (omega arith)) ∙ ap Some e)
    ]

some_digit : (k n : ℕ) → length (digits k n) ≡ 0 → ⊥
unfolding digits
some_digit zero n e = omega (arith, e)
some_digit (suc k) n e =
    elim (dec_lt n 10) [
      | yes s ↦ absurd (omega (arith, rw (lt-ltb n 10 s) at e))
      | no m ↦ absurd (omega (arith, length-append (digits k (n / 10)) ((48 + n % 10) ∷ []), rw (le-ltb n 10 (omega arith)) at e))
    ]

pub decimal_some : (n : ℕ) → length (decimal n) ≡ 0 → ⊥
decimal_some n = some_digit n n

pub number_decimal : (n : ℕ) → n < number_limit → number_in (decimal n) ≡ Some n
number_decimal n h = number_some (decimal n) (decimal_some n) ∙ fold_digits n n (omega arith) h

-- ---- numbers below a limit

pub below_is : (limit : ℕ) (s : List ℕ) (n : ℕ) → Some n ≡ number_in s → n < limit → n ≡ number_below limit s
below_is limit s n e h = rw (sym e, lt-ltb n limit h) refl

pub below_not : (limit : ℕ) (s : List ℕ) (n : ℕ) → Some n ≡ number_in s → limit ≤ n → 0 ≡ number_below limit s
below_not limit s n e h = rw (sym e, le-ltb n limit h) refl

pub below_bad : (limit : ℕ) (s : List ℕ) → None ≡ number_in s → 0 ≡ number_below limit s
below_bad limit s e = rw (sym e) refl

pub below_lt : (limit : ℕ) (s : List ℕ) → 0 < limit → number_below limit s < limit
below_lt limit s h = of (number_in s)
  where
    of : (x : Option ℕ) → value_below limit x < limit
    of (Some n) = cond_elim (λ k. k < limit) (ltb n limit) n 0 (λ e. ltb-true n limit e) (λ e. h)
    of None = h

-- also where the limit is 0
pub below_le : (limit : ℕ) (s : List ℕ) → number_below limit s ≤ limit
below_le zero s = of (number_in s)
  where
    of : (x : Option ℕ) → value_below 0 x ≤ 0
    of (Some n) = rw (le-ltb n 0 (omega arith)) (omega arith)
    of None = omega arith
below_le (suc limit) s = omega (arith, below_lt (suc limit) s (omega arith))

pub below_decimal : (limit n : ℕ) → n < limit → n < number_limit → number_below limit (decimal n) ≡ n
below_decimal limit n h l = sym (below_is limit (decimal n) n (sym (number_decimal n l)) h)

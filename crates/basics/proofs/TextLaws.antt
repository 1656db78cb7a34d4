-- Numbers in base ten; lines in the order of their parts; how long they can be.
-- Assumes nothing.
use Prim.Native.Nat.{ℕ, zero, suc, ◌+◌, ◌/◌, ◌%◌, ◌^◌, ◌≤◌, ◌<◌, ◌*◌}
use native.Mathlib.Nat.{not-suc-le-zero, pow-suc, suc-mul}
use native.Mathlib.Decide.{dec_lt}
use native.Mathlib.Omega.{arith}
use mathlib.Core.Path.{◌≡◌, refl, ap, ap₂, sym, ◌∙◌}
use mathlib.Core.List.{List, [], ◌∷◌, ◌++◌, flat_map, append_assoc, append-nil}
use lib.ListN.{length, length-append}
use borrow.Author.Tests.{lt-ltb, le-ltb}
use Rattle.basics.specs.Text.{digits, decimal, field, line}
use native.Mathlib.Numerals.{add-one}
use Rattle.basics.specs.Lists.{tabulate}

-- more digits may be split off than there are
digits_enough : (m n k : ℕ) → k ≤ m → k ≤ n → digits m k ≡ digits n k
unfolding digits
digits_enough zero zero k a b = refl
digits_enough zero (suc n) k a b = rw (lt-ltb k 10 (omega arith)) refl
digits_enough (suc m) zero k a b = rw (lt-ltb k 10 (omega arith)) refl
digits_enough (suc m) (suc n) k a b = rw (digits_enough m n (k / 10) (omega arith) (omega arith)) refl

-- a number below ten is one digit
pub decimal_small : (n : ℕ) → n < 10 → decimal n ≡ (48 + n) ∷ []
unfolding digits
decimal_small zero h = refl
decimal_small (suc n) h = rw (lt-ltb (suc n) 10 h) refl

abbrev pub last_digit : ℕ → List ℕ
last_digit n = (48 + n % 10) ∷ []

-- any other is the digits of its tenth, and its last digit
pub decimal_more : (n : ℕ) → 10 ≤ n → decimal n ≡ decimal (n / 10) ++ last_digit n
unfolding digits
decimal_more zero h = absurd (not-suc-le-zero h)
decimal_more (suc n) h = rw (le-ltb (suc n) 10 h) (ap (λ l. l ++ last_digit (suc n)) (digits_enough n (suc n / 10) (suc n / 10) (omega arith) (omega arith)))

-- how many digits there are
pub decimal_length : (d n : ℕ) → n < 10 ^ suc d → length (decimal n) ≤ suc d
decimal_length zero n h = rw (decimal_small n h) (omega arith)
decimal_length (suc d) n h =
    elim (dec_lt n 10) [
      | yes l ↦ rw (decimal_small n l) (omega arith)
      | no m ↦
          let tenth : n / 10 < 10 ^ suc d = omega (arith, pow-suc 10 (suc d)) in
          rw (decimal_more n (omega arith), length-append) (omega (arith, decimal_length d (n / 10) tenth))
    ]

-- ---- things of any length one after another

module _ {A : Type 0} (g : A → List ℕ) where
  flat_suc : (n : ℕ) (f : ℕ → A) → flat_map g (tabulate (suc n) f) ≡ flat_map g (tabulate n f) ++ g (f n)
  unfolding flat_map
  flat_suc zero f = append-nil (g (f 0))
  flat_suc (suc n) f = ap (λ t. g (f 0) ++ t) (flat_suc n (λ k. f (suc k))) ∙ sym
      (append_assoc (g (f 0)) (flat_map g (tabulate n (λ k. f (suc k)))) (g (f (suc n))))

  pub flat_more : (n : ℕ) (f : ℕ → A) → flat_map g (tabulate (n + 1) f) ≡ flat_map g (tabulate n f) ++ g (f n)
  flat_more n f = ap (λ k. flat_map g (tabulate k f)) (add-one n) ∙ flat_suc n f

  -- the first i things stand in the text of n things
  pub flat_within : (n : ℕ) (f : ℕ → A) (i : ℕ) → i < n → length (flat_map g (tabulate (i + 1) f)) ≤ length (flat_map g (tabulate n f))
  flat_within zero f i h = absurd (not-suc-le-zero h)
  flat_within (suc n) f i h =
      elim (dec_lt i n) [
        | yes l ↦ omega (arith, flat_within n f i l, ap length (flat_suc n f), length-append (flat_map g (tabulate n f)) (g (f n)))
        | no m ↦ let e : i + 1 ≡ suc n = omega arith in rw e (omega arith)
      ]

  -- how long they are
  pub flat_length : (n w : ℕ) (f : ℕ → A) → ((i : ℕ) → i < n → length (g (f i)) ≤ w) → length (flat_map g (tabulate n f)) ≤ n * w
  unfolding flat_map
  flat_length zero w f h = omega arith
  flat_length (suc n) w f h =
      omega (
        arith,
        suc-mul n w,
        length-append (flat_map g (tabulate n f)) (g (f n)),
        ap length (flat_suc n f),
        flat_length n w f (λ i l. h i (omega arith)),
        h n (omega arith),
      )

-- things that are the same one by one
pub flat_ext : {A : Type 0} (g h : A → List ℕ) (n : ℕ) (f : ℕ → A) → ((i : ℕ) → i < n → g (f i) ≡ h (f i))
    → flat_map g (tabulate n f) ≡ flat_map h (tabulate n f)
unfolding flat_map
flat_ext g h zero f e = refl
flat_ext g h (suc n) f e = ap₂ (λ a b. a ++ b) (e 0 (omega arith)) (flat_ext g h n (λ i. f (suc i)) (λ i l. e (suc i) (omega arith)))

pub line_parts : (word d : List ℕ) (fs : List (List ℕ)) → line word (d ∷ fs) ≡ word ++ (field d ++ (flat_map field fs ++ (10 ∷ [])))
unfolding flat_map
line_parts word d fs =
    append_assoc word (field d ++ flat_map field fs) (10 ∷ []) ∙ ap (λ l. word ++ l) (append_assoc (field d) (flat_map field fs) (10 ∷ []))

pub two_parts : (word : List ℕ) (a b : ℕ) → line word (decimal a ∷ decimal b ∷ []) ≡ word ++ (field (decimal a) ++ (field (decimal b) ++ (10 ∷ [])))
unfolding flat_map
two_parts word a b =
    line_parts word (decimal a) (decimal b ∷ []) ∙ ap (λ l. word ++ (field (decimal a) ++ (l ++ (10 ∷ [])))) (append-nil (field (decimal b)))

-- ---- how long they can be

pub field_length : (d n : ℕ) → n < 10 ^ suc d → length (field (decimal n)) ≤ suc (suc d)
field_length d n h = omega (arith, decimal_length d n h)

-- a line of two numbers
pub two_length : (word : List ℕ) (d a b : ℕ) → a < 10 ^ suc d → b < 10 ^ suc d → length (line word (decimal a ∷ decimal b ∷ [])) ≤ length word + d + d + 5
two_length word d a b ha hb =
    omega (
      arith,
      ap length (two_parts word a b),
      length-append word (field (decimal a) ++ (field (decimal b) ++ (10 ∷ []))),
      length-append (field (decimal a)) (field (decimal b) ++ (10 ∷ [])),
      length-append (field (decimal b)) (10 ∷ []),
      field_length d a ha,
      field_length d b hb,
    )

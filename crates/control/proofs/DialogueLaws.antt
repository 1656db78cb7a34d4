-- The line of an answer as it is put, and the observation that a line holds.
-- Assumes nothing.
use Prim.Native.Nat.{ℕ, ◌+◌, ◌^◌, ◌≤◌, ◌<◌}
use native.Mathlib.Decide.{dec_lt}
use native.Mathlib.Omega.{arith}
use mathlib.Core.Path.{◌≡◌, refl, sym, ap, ◌∙◌}
use mathlib.Core.Logic.{◌↔◌, inl, inr}
use mathlib.Core.Bool.{true, false}
use mathlib.Core.List.{List, [], ◌∷◌, ◌++◌, flat_map}
use lib.ListN.{length, take, length-append}
use lib.Seq.{take_at}
use Rattle.basics.specs.Bytes.{same_bytes}
use Rattle.basics.specs.Numbers.{number_below}
use Rattle.basics.specs.Text.{decimal, field, line}
use Rattle.basics.proofs.Booleans.{test}
use Rattle.basics.proofs.BytesLaws.{same_bytes_lem, same_refl}
use Rattle.basics.proofs.NumbersLaws.{below_lt, below_decimal}
use Rattle.basics.specs.declared.text.Writer.{Writer}
use Rattle.basics.specs.Writer.{Puts}
use Rattle.basics.proofs.WriterLaws.{puts_front}
use Rattle.basics.proofs.TextLaws.{decimal_length, field_length, line_parts}
use Rattle.stepping.specs.Position.{Holds, OnStop, SteppedAs, bad_observation}
use Rattle.stepping.specs.declared.position.Position.{Position}
use Rattle.lines.specs.Refusal.{refused}
use Rattle.play.specs.Limits.{side_limit}
use Rattle.printer.specs.Limits.{text_size}
use Rattle.wellformed.proofs.WellFormedLaws.{side_le}
use Rattle.tables.specs.declared.shape.Shape.{Shape}
use Rattle.control.specs.Dialogue.{word_room, observation_in}

-- ---- an answer is put at the front of a text

-- the parts of a line of a word and one number
pub word_parts : (word : List ℕ) (n : ℕ) → line word (decimal n ∷ []) ≡ word ++ (field (decimal n) ++ (10 ∷ []))
unfolding flat_map
word_parts word n = line_parts word (decimal n) []

pub word_length : (word : List ℕ) (n : ℕ) → length (line word (decimal n ∷ [])) ≡ length word + length (field (decimal n)) + 1
word_length word n = ap length (word_parts word n) ∙ simp length-append (omega arith)

-- it has room
pub word_fits : (word : List ℕ) → length word ≤ word_room → (n : ℕ) → n < 65536 → length (line word (decimal n ∷ [])) ≤ text_size
word_fits word short n small = omega (arith, word_length word n, field_length 4 n (omega arith))

-- ---- an observation

module _ (l : List ℕ) (n : ℕ) (e : n ≡ number_below side_limit l) where
  number_same : same_bytes l (decimal n) ≡ true → n ≡ observation_in l
  unfolding observation_in
  number_same h = rw (sym e, h) refl

  number_other : same_bytes l (decimal n) ≡ false → side_limit ≡ observation_in l
  unfolding observation_in
  number_other h = rw (sym e, h) refl

  -- its number has two digits at most, which are put and compared
  pub digits_fit : length (decimal n) ≤ 2
  digits_fit = decimal_length 1 n (omega (arith, below_lt side_limit l (omega arith)))

  module _ {w v : Writer} (front : w.at ≡ 0) (room : w.text.now ≡ 0 ∷ 0 ∷ []) (p : Puts w v (decimal n)) where
    pub digits_within : v.at ≤ length v.text.now
    digits_within = omega (arith, front, p.at, p.long, digits_fit, ap length room)

    digits_are : take v.at v.text.now ≡ decimal n
    digits_are =
        let f = puts_front front (omega (arith, digits_fit, ap length room)) p in
        ap (take v.at) f.1 ∙ take_at (decimal n) _ v.at (sym f.0)

    pub same_digits : same_bytes l (take v.at v.text.now) ≡ true → n ≡ observation_in l
    same_digits h = number_same (ap (same_bytes l) (sym digits_are) ∙ h)

    pub other_digits : same_bytes l (take v.at v.text.now) ≡ false → side_limit ≡ observation_in l
    other_digits h = number_other (ap (same_bytes l) (sym digits_are) ∙ h)

pub observed_iff : (l : List ℕ) (n : ℕ) → n < side_limit → (observation_in l ≡ n) ↔ (l ≡ decimal n)
observed_iff l n h = (to, from)
  where
    m : ℕ
    m = number_below side_limit l

    to : observation_in l ≡ n → l ≡ decimal n
    to e = elim (test (same_bytes l (decimal m))) [
      | inl s ↦ same_bytes_lem l (decimal m) s ∙ ap decimal (number_same l m refl s ∙ e)
      | inr d ↦ absurd (omega (arith, number_other l m refl d, e))
    ]

    from : l ≡ decimal n → observation_in l ≡ n
    from e =
        let same : number_below side_limit (decimal n) ≡ n = below_decimal side_limit n h (omega arith) in
        rw e (sym (number_same (decimal n) n (sym same) (same_refl (decimal n))))

-- any other line is no observation that the table takes
pub other_refused : (t : List ℕ) (shape : Shape) (p : Position) → Holds t shape p → (¬ OnStop t shape p)
    → (l : List ℕ) → ((n : ℕ) → n < 2 ^ shape.observed → ¬ (l ≡ decimal n)) → SteppedAs t shape (observation_in l) p (refused 15 0) p
other_refused t shape p h goes l other =
    elim (dec_lt (observation_in l) (2 ^ shape.observed)) [
      | yes b ↦
          let few = side_le shape.observed h.0.sized.seen in
          absurd (other (observation_in l) b ((observed_iff l (observation_in l) (omega arith)).0 refl))
      | no b ↦ bad_observation h goes (omega arith)
    ]

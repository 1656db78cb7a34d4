-- Words of answers, and obligations in a block of patterns.
-- Assumes nothing.
use Prim.Native.Nat.{ℕ, zero, suc, ◌+◌, ◌*◌, ◌-◌, ◌/◌, ◌^◌, ◌≤◌, ◌<◌}
use native.Mathlib.Omega.{arith}
use mathlib.Core.Path.{◌≡◌, refl, sym, ap, ◌∙◌}
use mathlib.Core.Bool.{Bool, false}
use lib.Bits.{bit_and}
use lib.Dec.{eqb}
use lib.ListN.{get_or}
use Rattle.std.proofs.lemmas.Nat.Bits.{bit_at_cat_low, bit_at_cat_high}
use mathlib.Core.List.{List, [], ◌∷◌}
use Rattle.basics.specs.Bits.{bit, from_bits}
use Rattle.basics.specs.Limits.{word_bits, word_size}
use Rattle.obligations.specs.Words.{lanes, obligation_lanes}
use Rattle.basics.proofs.BitsLaws.{bit_test, bit_zero, bit_table, table_lt, table_unique}
-- passed on
pub use Rattle.formula.proofs.WordBits.{bit_bit_or}

-- ---- words of answers

pub bit_lanes : (f : ℕ → Bool) (j : ℕ) → j < word_size → bit (lanes f) j ≡ f j
unfolding lanes
bit_lanes f = bit_table word_size f

lanes_lt : (f : ℕ → Bool) → lanes f < 2 ^ word_size
unfolding lanes
lanes_lt f = table_lt word_size f

-- a word with these answers is theirs
pub lanes_unique : (f : ℕ → Bool) (x : ℕ) → x < 2 ^ word_size → ((j : ℕ) → j < word_size → bit x j ≡ f j) → x ≡ lanes f
unfolding lanes
lanes_unique f = table_unique word_size f

pub lanes_ext : (f g : ℕ → Bool) → ((j : ℕ) → j < word_size → f j ≡ g j) → lanes f ≡ lanes g
lanes_ext f g e = lanes_unique g (lanes f) (lanes_lt f) (λ j h. bit_lanes f j h ∙ e j h)

-- the number x has a word's bits, and they are the answers of f
pub record Carries (x : ℕ) (f : ℕ → Bool) : Type 0 where
  pub small : x < 2 ^ word_size
  pub answers : (j : ℕ) → j < word_size → bit x j ≡ f j

pub carried : {x : ℕ} {f : ℕ → Bool} → Carries x f → x ≡ lanes f
carried {x} {f} c = lanes_unique f x c.small c.answers

pub none : Carries 0 (λ j. false)
none = record { small = omega arith; answers = λ j l. bit_zero j }

-- ---- obligations in a block of patterns

-- an obligation that a word has all values of is the same in every block:
-- a block's number stands above the bits of a pattern's place in it
low_block : (x i w : ℕ) → i < word_bits → x ≡ lanes (λ j. bit j i) → x ≡ obligation_lanes i w
unfolding obligation_lanes
low_block x i w h e =
    e ∙ lanes_ext (λ j. bit j i) (λ j. bit (w * word_size + j) i)
    (λ j l. sym (ap (λ m. eqb m 1) (bit_at_cat_low w word_bits j i h)))

abbrev low_words : List ℕ
low_words =
    12297829382473034410 ∷ 14757395258967641292 ∷ 17361641481138401520 ∷ 18374966859414961920 ∷ 18446462603027742720 ∷ 18446744069414584320 ∷ []

pub obligation_low : (k w : ℕ) → k < word_bits → get_or low_words k 0 ≡ obligation_lanes k w
unfolding lanes from_bits
obligation_low zero w h = low_block _ 0 w (omega arith) refl
obligation_low (suc zero) w h = low_block _ 1 w (omega arith) refl
obligation_low (suc (suc zero)) w h = low_block _ 2 w (omega arith) refl
obligation_low (suc (suc (suc zero))) w h = low_block _ 3 w (omega arith) refl
obligation_low (suc (suc (suc (suc zero)))) w h = low_block _ 4 w (omega arith) refl
obligation_low (suc (suc (suc (suc (suc zero))))) w h = low_block _ 5 w (omega arith) refl
obligation_low (suc (suc (suc (suc (suc (suc k)))))) w h = absurd (omega arith)

-- and another has one answer for a whole block
pub obligation_high : (x k w : ℕ) → word_bits ≤ k → x < 2 ^ word_size
    → ((j : ℕ) → j < word_size → bit x j ≡ eqb (bit_and (w / 2 ^ (k - word_bits)) 1) 1) → x ≡ obligation_lanes k w
unfolding obligation_lanes
obligation_high x k w h small e = lanes_unique _ x small (λ j l.
    e j l ∙ bit_test w (k - word_bits) ∙ sym (ap (λ m. eqb m 1) (bit_at_cat_high w word_bits j k l h)))

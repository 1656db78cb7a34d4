-- Bytes made of bits.
-- Assumes nothing.
use Prim.Native.Nat.{ℕ, ◌+◌, ◌*◌, ◌/◌, ◌%◌, ◌^◌, ◌<◌}
use native.Mathlib.Nat.{div-add-mod'}
use native.Mathlib.Omega.{arith}
use mathlib.Core.Path.{◌≡◌, ap, ◌∙◌}
use mathlib.Core.Bool.{Bool}
use lib.ListN.{length, get_or}
use Rattle.basics.specs.Bits.{bit}
use Rattle.basics.specs.Lists.{tabulate}
use Rattle.basics.proofs.ListsLaws.{length_tabulate, get_d_tabulate}
use Rattle.search.specs.Slots.{byte_at, bit_bytes}
use Rattle.basics.proofs.BitsLaws.{from_bits_lt, bit_table}

module _ (f : ℕ → Bool) where
  pub byte_lt : (i : ℕ) → byte_at f i < 2 ^ 8
  unfolding byte_at
  byte_lt i = from_bits_lt (tabulate 8 (λ j. f (i * 8 + j)))

  bit_byte : (i j : ℕ) → j < 8 → bit (byte_at f i) j ≡ f (i * 8 + j)
  unfolding byte_at
  bit_byte i j h = bit_table 8 (λ k. f (i * 8 + k)) j h

module _ (w : ℕ) (f : ℕ → Bool) where
  pub bytes_length : length (bit_bytes w f) ≡ w
  unfolding bit_bytes
  bytes_length = length_tabulate w (byte_at f)

  pub byte_at_lem : (i : ℕ) → i < w → get_or (bit_bytes w f) i 0 ≡ byte_at f i
  unfolding bit_bytes
  byte_at_lem i h = get_d_tabulate w (byte_at f) i 0 h

  pub bit_bytes_lem : (p : ℕ) → p < w * 8 → bit (get_or (bit_bytes w f) (p / 8) 0) (p % 8) ≡ f p
  bit_bytes_lem p h =
      ap (λ x. bit x (p % 8)) (byte_at_lem (p / 8) (omega arith)) ∙ bit_byte f (p / 8) (p % 8) (omega arith) ∙ ap f (div-add-mod' p 8)

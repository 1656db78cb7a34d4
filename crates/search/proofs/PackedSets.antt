-- Sets of patterns in places of any width: a set over few operators is repeated to fill its place.
-- Assumes nothing.
use Prim.Native.Nat.{ℕ, suc, ◌+◌, ◌*◌, ◌/◌, ◌%◌, ◌^◌, ◌<◌, ◌≤◌}
use native.Mathlib.Nat.{mod-lt, mod-eq_of_lt, lt_of_lt_of_le}
use native.Mathlib.Omega.{arith}
use mathlib.Core.Path.{◌≡◌, refl, sym, ap, ◌∙◌, subst}
use mathlib.Core.Bool.{false}
use mathlib.Core.List.{List, ◌++◌}
use lib.Pow.{pow_pos}
use lib.ListN.{length, get_or, drop}
use Rattle.basics.specs.Bits.{bit, from_bits}
use Rattle.basics.specs.Lists.{tabulate}
use Rattle.basics.proofs.ListsLaws.{get_d_tabulate, tabulate_ext}
use Rattle.search.specs.PatternSet.{PatternSet, member, start, next}
use Rattle.search.specs.Slots.{byte_at, bit_bytes}
use Rattle.search.specs.Memory.{packed, start_byte, spread, next_byte, next_bytes, half_of}
use Rattle.basics.proofs.BitsLaws.{bit_mod}
use Rattle.search.proofs.SlotBytes.{bytes_length, bit_bytes_lem}
use Rattle.basics.proofs.Filling.{table_all}
use Rattle.search.proofs.PatternSetLaws.{length_set_of, member-set_of, length_start}
use Rattle.search.proofs.SlotsLaws.{Packing, packing_bits}
use Rattle.search.proofs.HalfSets.{half_some, half_pattern}

-- ---- the bytes of a set

pub packed_length : (w : ℕ) (s : PatternSet) → length (packed w s) ≡ w
unfolding packed
packed_length w s = bytes_length w _

pub bit_packed : (w : ℕ) (s : PatternSet) (p : ℕ) → p < w * 8 → bit (get_or (packed w s) (p / 8) 0) (p % 8) ≡ member s (p % length s)
unfolding packed
bit_packed w s p h = bit_bytes_lem w _ p h

-- a set's bits one by one
pub spread_at_lem : (bytes : List ℕ) (p : ℕ) → p < length bytes * 8 → get_or (spread bytes) p false ≡ bit (get_or bytes (p / 8) 0) (p % 8)
unfolding spread
spread_at_lem bytes p h = get_d_tabulate (length bytes * 8) (λ q. bit (get_or bytes (q / 8) 0) (q % 8)) p false h

-- ---- the start set

start_packed : (w d : ℕ) → tabulate w (start_byte d) ≡ packed w (start d)
unfolding start_byte packed bit_bytes byte_at start
start_packed w d =
    tabulate_ext w (start_byte d) _ (λ i l.
    ap from_bits (tabulate_ext 8 (λ j. bit (i * 8 + j) d) (λ j. member (start d) ((i * 8 + j) % length (start d)))
    (λ j l. sym (ap (λ n. member (start d) ((i * 8 + j) % n)) (length_start d)
    ∙ member-set_of d (λ p. bit p d) ((i * 8 + j) % 2 ^ suc d) (mod-lt (i * 8 + j) (pow_pos (suc d)))
    ∙ bit_mod (i * 8 + j) (suc d) d (omega arith)))))

pub start_done : (d : ℕ) (p w : List ℕ) (i : ℕ) → i ≡ length p → w ≡ tabulate i (start_byte d) ++ drop i p → w ≡ packed (length p) (start d)
start_done d p w i q e = table_all i (length p) (start_byte d) p w q refl e ∙ start_packed (length p) d

-- ---- a set over d operators, where the place has a bit for each pattern

module _ (w d : ℕ) (room : 2 ^ suc d ≤ w * 8) where
  bit_pattern : (s : PatternSet) → length s ≡ 2 ^ suc d → (p : ℕ) → p < 2 ^ suc d → bit (get_or (packed w s) (p / 8) 0) (p % 8) ≡ member s p
  bit_pattern s e p l =
      bit_packed w s p (lt_of_lt_of_le l room) ∙ ap (λ n. member s (p % n)) e ∙ ap (member s) (mod-eq_of_lt l)

  -- it is read back from its bytes
  pub packing : Packing w (2 ^ suc d) (packed w)
  unfolding member
  packing = packing_bits w (2 ^ suc d) (packed w) room (packed_length w) bit_pattern

  spread_packed : (s : PatternSet) → length s ≡ 2 ^ suc d → (p : ℕ) → p < 2 ^ suc d → get_or (spread (packed w s)) p false ≡ member s p
  spread_packed s e p l =
      spread_at_lem (packed w s) p (subst (λ n. p < n * 8) (sym (packed_length w s)) (lt_of_lt_of_le l room)) ∙ bit_pattern s e p l

  -- ---- the next set

  module _ (s : PatternSet) (e : length s ≡ 2 ^ suc d) (back : ℕ → ℕ → ℕ) (a : ℕ) (entries : List ℕ)
      (maps : (q : ℕ) → q < half_of d * 8 → get_or entries q 0 ≡ back a q)
      (reads : (p q : ℕ) → p % 2 ^ d ≡ q % 2 ^ d → back a p ≡ back a q)
      (fits : (p : ℕ) → back a p < 2 ^ suc d) where
    abbrev after : PatternSet
    after = next d back s a

    -- a bit of the next set
    next_bit_lem : (b j : ℕ) → j < 8
        → get_or (spread (packed w s)) (get_or entries (b % half_of d * 8 + j) 0) false ≡ member after ((b * 8 + j) % length after)
    unfolding next
    next_bit_lem b j l =
        let q = b % half_of d * 8 + j in
        let p = (b * 8 + j) % 2 ^ suc d in
        let small : b % half_of d < half_of d = mod-lt b (half_some d) in
        let there : q < half_of d * 8 = omega arith in
        ap (λ x. get_or (spread (packed w s)) x false) (maps q there ∙ reads q p (half_pattern d b j))
        ∙ spread_packed s e (back a p) (fits p)
        ∙ sym (ap (λ n. member after ((b * 8 + j) % n)) (length_set_of d (λ x. member s (back a x)))
        ∙ member-set_of d (λ x. member s (back a x)) p (mod-lt (b * 8 + j) (pow_pos (suc d))))

    next_byte_is : (b : ℕ) → next_byte (spread (packed w s)) entries (b % half_of d) ≡ byte_at (λ p. member after (p % length after)) b
    unfolding next_byte byte_at
    next_byte_is b = ap from_bits (tabulate_ext 8 _ _ (λ j l. next_bit_lem b j l))

    packed_is : packed w after ≡ tabulate w (byte_at (λ p. member after (p % length after)))
    unfolding packed bit_bytes
    packed_is = refl

    -- what `put_next` writes from the bits of a set and a letter's map is the set after the letter
    pub next_packed : next_bytes w (spread (packed w s)) entries (half_of d) ≡ packed w after
    unfolding next_bytes
    next_packed = tabulate_ext w (λ b. next_byte (spread (packed w s)) entries (b % half_of d)) _ (λ b l. next_byte_is b) ∙ sym packed_is

-- Beliefs in memory: what their bytes say, and what the functions on them do step by step.
-- Assumes nothing.
use Prim.Native.Nat.{ℕ, zero, suc, ◌+◌, ◌*◌, ◌/◌, ◌%◌, ◌^◌, ◌≤◌, ◌<◌, zero-le}
use native.Mathlib.Nat.{le_refl, one-mul, pow-suc, div-add-mod', mul-le-mul_right}
use native.Mathlib.Numerals.{add-one}
use native.Mathlib.Decide.{ℕ_discrete, dec_lt}
use native.Mathlib.Omega.{arith}
use mathlib.Core.Path.{◌≡◌, refl, sym, ap, ap₂, ◌∙◌, subst}
use mathlib.Core.Bool.{Bool, true, false, cond, ◌||◌, or-false, or_comm, or_assoc}
use mathlib.Core.List.{List}
use lib.Bits.{bit_or, or_lt}
use lib.Dec.{eqb, eqb-zero-suc, eqb-suc-zero, eqb-suc-suc}
use lib.ListN.{length, get_or, set, replicate, length-set, length-replicate, get_or-replicate, get_or-eq_default}
use lib.Pow.{pow-lt, shl_exact}
use lib.Seq.{ext_get_or, get_or-set_same, get_or-set_other}
use borrow.Author.Tests.{eq-eqb, ne_eqb}
use borrow.Rule.Slice.PartMut.{put_mid, set_mid_at}
use Rattle.basics.specs.Bits.{bit}
use Rattle.basics.specs.Lists.{tabulate, below}
use Rattle.basics.proofs.ListsLaws.{length_tabulate, get_d_tabulate, take_zeros}
use Rattle.search.specs.Limits.{state_limit}
use Rattle.basics.specs.Reach.{reachable}
use Rattle.search.specs.ReachableSets.{same_set}
use Rattle.basics.specs.Successors.{own_steps}
use Rattle.basics.proofs.BitsLaws.{bit_low, bit_high, bit_zero, bits_ext}
use Rattle.obligations.proofs.WordsLaws.{bit_bit_or}
use Rattle.search.proofs.SlotBytes.{bytes_length, byte_at_lem, byte_lt, bit_bytes_lem}
use Rattle.search.proofs.SlotsLaws.{Packing, packing_bits}
use Rattle.basics.specs.Bounded.{any}
use Rattle.play.specs.Belief.{Belief, has, alone}
use Rattle.beliefs.specs.BeliefMemory.{belief_size, pack_belief, is_final, pairs_from, belief_after, counted_beliefs}
use Rattle.beliefs.specs.BeliefMemory.{successor_in, with_state, with_hidden}
use Rattle.basics.proofs.BoundedLaws.{any_suc}
use Rattle.beliefs.proofs.LimitsLaws.{state_bits}

-- ---- bits

-- a power of two has one bit
bit_pow : (k j : ℕ) → bit (2 ^ k) j ≡ eqb k j
bit_pow zero zero = refl
bit_pow zero (suc j) = bit_high 1 j ∙ bit_zero j ∙ sym (eqb-zero-suc j)
bit_pow (suc k) zero =
    let e : 2 ^ suc k ≡ 2 ^ k * 2 = pow-suc 2 k in
    let m : 2 ^ suc k % 2 ≡ 0 = omega arith in
    bit_low (2 ^ suc k) ∙ ap (λ x. eqb x 1) m ∙ sym (eqb-suc-zero k)
bit_pow (suc k) (suc j) =
    let e : 2 ^ suc k ≡ 2 ^ k * 2 = pow-suc 2 k in
    let m : 2 ^ suc k / 2 ≡ 2 ^ k = omega arith in
    bit_high (2 ^ suc k) j ∙ ap (λ x. bit x j) m ∙ bit_pow k j ∙ sym (eqb-suc-suc k j)

-- the bytes are those of one set, and their bits are the answers of f
pub record Bits (bytes : List ℕ) (f : ℕ → Bool) : Type 0 where
  pub long : length bytes ≡ belief_size
  pub small : (i : ℕ) → i < belief_size → get_or bytes i 0 < 2 ^ 8
  pub answers : (p : ℕ) → p < belief_size * 8 → bit (get_or bytes (p / 8) 0) (p % 8) ≡ f p

-- the same test, said otherwise
pub bits_same : {bytes : List ℕ} {f : ℕ → Bool} (g : ℕ → Bool) → Bits bytes f → ((p : ℕ) → p < belief_size * 8 → f p ≡ g p) → Bits bytes g
bits_same g a e = record { long = a.long; small = a.small; answers = λ p h. a.answers p h ∙ e p h }

bits_at : {bytes : List ℕ} {f : ℕ → Bool} → Bits bytes f → (i j : ℕ) → i < belief_size → j < 8 → bit (get_or bytes i 0) j ≡ f (i * 8 + j)
bits_at {bytes} {f} a i j h l =
    let q : (i * 8 + j) / 8 ≡ i = omega arith in
    let r : (i * 8 + j) % 8 ≡ j = omega arith in
    sym (ap₂ (λ x y. bit (get_or bytes x 0) y) q r) ∙ a.answers (i * 8 + j) (omega arith)

-- bytes with the same bits are the same
pub bits_unique : {xs ys : List ℕ} {f g : ℕ → Bool} → Bits xs f → Bits ys g → ((p : ℕ) → p < belief_size * 8 → f p ≡ g p) → xs ≡ ys
bits_unique {xs} {ys} {f} {g} a b e =
    ext_get_or 0 xs ys (a.long ∙ sym b.long) (λ i h. at i (subst (λ n. i < n) a.long h))
  where
    at : (i : ℕ) → i < belief_size → get_or xs i 0 ≡ get_or ys i 0
    at i h =
        bits_ext 8 (get_or xs i 0) (get_or ys i 0) (a.small i h) (b.small i h)
        (λ j l. bits_at a i j h l ∙ e (i * 8 + j) (omega arith) ∙ sym (bits_at b i j h l))

-- ---- the bytes of a belief

pub pack_belief_length : (b : Belief) → length (pack_belief b) ≡ belief_size
unfolding pack_belief
pack_belief_length b = bytes_length belief_size (has b)

-- bit p tells whether state p is in the belief
pub bit-pack_belief : (b : Belief) (p : ℕ) → p < belief_size * 8 → bit (get_or (pack_belief b) (p / 8) 0) (p % 8) ≡ has b p
unfolding pack_belief
bit-pack_belief b p h = bit_bytes_lem belief_size (has b) p h

pub belief_bits : (b : Belief) → Bits (pack_belief b) (has b)
unfolding pack_belief
belief_bits b =
    record {
      long = bytes_length belief_size (has b);
      small = λ i h. subst (λ x. x < 2 ^ 8) (sym (byte_at_lem belief_size (has b) i h)) (byte_lt (has b) i);
      answers = bit_bytes_lem belief_size (has b);
    }

-- a belief of n states has no others
has_out : (n : ℕ) (f : ℕ → Bool) (p : ℕ) → n ≤ p → has (tabulate n f) p ≡ false
has_out n f p h = get_or-eq_default (tabulate n f) false (subst (λ m. m ≤ p) (sym (length_tabulate n f)) h)

-- so a belief that is a table has what the table's test says, if the test fails from n on
pub has_table : (n : ℕ) (f : ℕ → Bool) (p : ℕ) → (n ≤ p → f p ≡ false) → has (tabulate n f) p ≡ f p
has_table n f p out = go (dec_lt p n)
  where
    go : Dec (p < n) → has (tabulate n f) p ≡ f p
    go (yes h) = get_d_tabulate n f p false h
    go (no g) = let h : n ≤ p = omega arith in has_out n f p h ∙ sym (out h)

-- ---- bytes that states are added to

-- no state
pub bits_none : Bits (replicate belief_size 0) (λ p. false)
bits_none = record {
  long = length-replicate {A = ℕ} belief_size 0;
  small = λ i h. subst (λ x. x < 2 ^ 8) (sym (zero_at i h)) (omega arith);
  answers = λ p h. ap (λ x. bit x (p % 8)) (zero_at (p / 8) (omega arith)) ∙ bit_zero (p % 8);
}
  where
    zero_at : (i : ℕ) → i < belief_size → ◌≡◌ {A = ℕ} (get_or (replicate belief_size 0) i 0) 0
    zero_at i h = get_or-replicate belief_size i 0 0 h

-- in one byte a number is known by its remainder
same_byte : (t p : ℕ) → t / 8 ≡ p / 8 → eqb (t % 8) (p % 8) ≡ eqb t p
same_byte t p e = go (ℕ_discrete t p)
  where
    go : Dec (t ≡ p) → eqb (t % 8) (p % 8) ≡ eqb t p
    go (yes q) = eq-eqb (t % 8) (p % 8) (ap (λ x. x % 8) q) ∙ sym (eq-eqb t p q)
    go (no n) = ne_eqb (t % 8) (p % 8) (λ q. n (sym (div-add-mod' t 8) ∙ ap₂ (λ x y. x * 8 + y) e q ∙ div-add-mod' p 8)) ∙ sym (ne_eqb t p n)

-- with one more state
pub bits_state : {bytes : List ℕ} {f : ℕ → Bool} → Bits bytes f → (t : ℕ) → t < belief_size * 8 → Bits (with_state bytes t) (λ p. f p || eqb t p)
unfolding with_state
bits_state {bytes} {f} a t h = record {
  long = length-set bytes (t / 8) new ∙ a.long;
  small = λ i l. small_at i l (ℕ_discrete i (t / 8));
  answers = λ p l. at p l (ℕ_discrete (p / 8) (t / 8));
}
  where
    new : ℕ
    new = bit_or (get_or bytes (t / 8) 0) (2 ^ (t % 8))

    byte : t / 8 < belief_size
    byte = omega arith

    here : get_or (set bytes (t / 8) new) (t / 8) 0 ≡ new
    here = get_or-set_same bytes (t / 8) new 0 (subst (λ n. t / 8 < n) (sym a.long) byte)

    small_at : (i : ℕ) → i < belief_size → Dec (i ≡ t / 8) → get_or (set bytes (t / 8) new) i 0 < 2 ^ 8
    small_at i l (yes e) =
        subst (λ x. x < 2 ^ 8) (sym (ap (λ k. get_or (set bytes (t / 8) new) k 0) e ∙ here))
        (or_lt 8 (get_or bytes (t / 8) 0) (2 ^ (t % 8)) (a.small (t / 8) byte) (pow-lt {i = t % 8} {j = 8} (omega arith)))
    small_at i l (no n) = subst (λ x. x < 2 ^ 8) (sym (get_or-set_other bytes (t / 8) i new 0 n)) (a.small i l)

    at : (p : ℕ) → p < belief_size * 8 → Dec (p / 8 ≡ t / 8) → bit (get_or (set bytes (t / 8) new) (p / 8) 0) (p % 8) ≡ (f p || eqb t p)
    at p l (yes e) =
        ap (λ x. bit x (p % 8)) (ap (λ k. get_or (set bytes (t / 8) new) k 0) e ∙ here)
        ∙ bit_bit_or (get_or bytes (t / 8) 0) (2 ^ (t % 8)) (p % 8)
        ∙ ap₂ ◌||◌ (ap (λ k. bit (get_or bytes k 0) (p % 8)) (sym e) ∙ a.answers p l) (bit_pow (t % 8) (p % 8) ∙ same_byte t p (sym e))
    at p l (no n) =
        ap (λ x. bit x (p % 8)) (get_or-set_other bytes (t / 8) (p / 8) new 0 n) ∙ a.answers p l
        ∙ sym (ap (λ c. f p || c) (ne_eqb t p (λ q. n (ap (λ x. x / 8) (sym q)))) ∙ or-false (f p))

-- state s leads to p by pair q with one of the first h hidden values
unfoldable pub leads_to : List ℕ → ℕ → ℕ → ℕ → ℕ → ℕ → Bool
leads_to successors q pairs h s p = any h (λ k. eqb (successor_in successors s (q + k * pairs)) p)

leads_none : (successors : List ℕ) (q pairs s p : ℕ) → leads_to successors q pairs 0 s p ≡ false
unfolding leads_to
leads_none successors q pairs s p = refl

leads_more : (successors : List ℕ) (q pairs h s p : ℕ)
    → leads_to successors q pairs (suc h) s p ≡ (eqb (successor_in successors s (q + h * pairs)) p || leads_to successors q pairs h s p)
unfolding leads_to
leads_more successors q pairs h s p = any_suc h (λ k. eqb (successor_in successors s (q + k * pairs)) p)

-- the states that the first h hidden values lead to
pub bits_hidden : {bytes : List ℕ} {f : ℕ → Bool} → Bits bytes f → (successors : List ℕ) (s q pairs h : ℕ)
    → ((k : ℕ) → k < h → successor_in successors s (q + k * pairs) < belief_size * 8)
    → Bits (with_hidden successors s q pairs h bytes) (λ p. f p || leads_to successors q pairs h s p)
unfolding with_hidden
bits_hidden {f = f} a successors s q pairs zero small =
    bits_same _ a (λ p l. sym (ap (λ c. f p || c) (leads_none successors q pairs s p) ∙ or-false (f p)))
bits_hidden {f = f} a successors s q pairs (suc h) small =
    bits_same _ (bits_state (bits_hidden a successors s q pairs h (λ k l. small k (omega arith))) (successor_in successors s (q + h * pairs))
    (small h (omega arith)))
    (λ p l. turn (f p) (leads_to successors q pairs h s p) (eqb (successor_in successors s (q + h * pairs)) p)
    ∙ ap (λ c. f p || c) (sym (leads_more successors q pairs h s p)))
  where
    turn : (x y z : Bool) → (x || y || z) ≡ (x || (z || y))
    turn x y z = or_assoc x y z ∙ ap (λ c. x || c) (or_comm y z)

-- a pair with one of the hidden values is a letter
pub letter_lt : (q pairs h hiddens : ℕ) → q < pairs → h < hiddens → q + h * pairs < hiddens * pairs
letter_lt q pairs h hiddens l k = let m : suc h * pairs ≤ hiddens * pairs = mul-le-mul_right pairs k in omega (arith, m)

-- beliefs over n states fill their places, and are read back from them
pub belief_packing : (n : ℕ) → n ≤ state_limit → Packing belief_size n pack_belief
belief_packing n h =
    packing_bits belief_size n pack_belief (omega (arith, state_bits)) pack_belief_length (λ x e p l. bit-pack_belief x p (omega (arith, state_bits)))

-- ---- all beliefs

pub length_first : (n : ℕ) → length (alone n 0) ≡ n
length_first n = length_tabulate n _

pub length_after : (successors : List ℕ) (n pairs hiddens : ℕ) (b : Belief) (q : ℕ) → length (belief_after successors n pairs hiddens b q) ≡ n
unfolding belief_after
length_after successors n pairs hiddens b q = length_tabulate n _

pub beliefs_reachable : (sets successors : List ℕ) (n pairs hiddens limit : ℕ) → counted_beliefs sets successors n pairs hiddens limit
    ≡ reachable same_set (own_steps (belief_after successors n pairs hiddens) (λ b. below (pairs_from sets n pairs b))) (alone n 0) limit
unfolding counted_beliefs
beliefs_reachable sets successors n pairs hiddens limit = refl

-- no more pairs are tried than there are
pub pairs_le : (sets : List ℕ) (n pairs : ℕ) (b : Belief) → pairs_from sets n pairs b ≤ pairs
pairs_le sets n pairs b = at (is_final sets n b)
  where
    at : (f : Bool) → cond f 0 pairs ≤ pairs
    at true = zero-le
    at false = le_refl pairs

-- ---- what the functions do

-- memory that is all zero, with a 1 in front, begins with the belief that has state 0 alone
first_has : (n p : ℕ) → 0 < n → has (alone n 0) p ≡ eqb 0 p
first_has n zero h = has_table n (λ s. eqb s 0) 0 (λ l. absurd (omega arith))
first_has n (suc p) h = has_table n (λ s. eqb s 0) (suc p) (λ l. eqb-suc-zero p) ∙ eqb-suc-zero p ∙ sym (eqb-zero-suc p)

first_bytes : (n : ℕ) → 0 < n → set (replicate belief_size 0) 0 1 ≡ pack_belief (alone n 0)
unfolding with_state
first_bytes n h = bits_unique (bits_state bits_none 0 (omega arith)) (belief_bits (alone n 0)) (λ p l. sym (first_has n p h))

pub first_memory : (n m : ℕ) → 0 < n → belief_size ≤ m → set (replicate m 0) 0 1 ≡ put_mid 0 belief_size (replicate m 0) (pack_belief (alone n 0))
first_memory n m h l =
    let front = take_zeros belief_size m l in
    sym (set_mid_at 0 belief_size 0 (replicate m 0) 1 (omega (arith, ap length front ∙ length-replicate {A = ℕ} belief_size 0)))
    ∙ ap (put_mid 0 belief_size (replicate m 0)) (ap (λ t. set t 0 1) front ∙ first_bytes n h)

-- `add_state`
pub state_set : (bytes : List ℕ) (t : ℕ) → set bytes (t / 8) (bit_or (get_or bytes (t / 8) 0) (1 * 2 ^ (t % 8) % 2 ^ 8)) ≡ with_state bytes t
unfolding with_state
state_set bytes t =
    ap (λ x. set bytes (t / 8) (bit_or (get_or bytes (t / 8) 0) x)) (shl_exact {a = 1} 1 (t % 8) 8 (omega arith) (omega arith) ∙ one-mul (2 ^ (t % 8)))

-- `add_hidden`
pub hidden_none : (successors : List ℕ) (s q pairs : ℕ) (bytes : List ℕ) → bytes ≡ with_hidden successors s q pairs 0 bytes
unfolding with_hidden
hidden_none successors s q pairs bytes = refl

pub hidden_more : (successors : List ℕ) (s q pairs h : ℕ) (bytes w v : List ℕ) (t : ℕ) → w ≡ with_hidden successors s q pairs h bytes
    → t ≡ successor_in successors s (q + h * pairs) → v ≡ with_state w t → v ≡ with_hidden successors s q pairs (h + 1) bytes
unfolding with_hidden
hidden_more successors s q pairs h bytes w v t e at r =
    r ∙ ap₂ with_state e at ∙ sym (ap (λ k. with_hidden successors s q pairs k bytes) (add-one h))

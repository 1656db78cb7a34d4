-- How the code compares the words of letters, reads maps from them, and keeps the maps that differ.
-- Assumes nothing.
use Prim.Native.Nat.{ℕ, zero, suc, ◌+◌, ◌-◌, ◌*◌, ◌/◌, ◌%◌, ◌^◌, ◌≤◌, ◌<◌}
use native.Mathlib.Nat.{add_right_comm, not-suc-le-zero, lt_of_le_of_lt, eq-or-lt_of_le, le_of_suc-le-suc, lt_of_lt_of_le}
use native.Mathlib.Numerals.{add-one}
use native.Mathlib.Omega.{arith}
use mathlib.Core.Path.{◌≡◌, refl, sym, ap, ap₂, ◌∙◌, subst}
use mathlib.Core.Logic.{◌⊎◌, inl, inr}
use mathlib.Core.Bool.{Bool, true, false, cond, true≢false}
use mathlib.Core.List.{List, ◌++◌}
use lib.Arith.{digits_div, digits_mod}
use lib.Dec.{eqb}
use lib.ListN.{length, get_or, drop}
use lib.Seq.{sets, length-sets}
use borrow.Author.Tests.{eq-eqb, ne_eqb}
use borrow.Rule.Slice.PartMut.{mid_of, put_mid}
use Rattle.basics.specs.Bits.{bit, from_bits}
use Rattle.basics.specs.Lists.{tabulate}
use Rattle.basics.proofs.ListsLaws.{length_tabulate, get_d_tabulate, tabulate_ext, get_d_table}
use Rattle.basics.specs.Limits.{word_size}
use Rattle.search.specs.Limits.{letter_limit, map_size}
use Rattle.basics.specs.Bounded.{agree}
use Rattle.states.specs.Limits.{slot_size, plane_size, plane_count}
use Rattle.states.specs.Planes.{slot_at, lane_of, map_of, place_of, same_words, first_of, maps_to}
use Rattle.basics.proofs.BoundedLaws.{agree_none, agree_more, agree_fails, agree_at, first_le, first_passes, first_least, agree_all}
use Rattle.basics.proofs.Stores.{get_d_sets_other, get_d_sets_same}
use Rattle.basics.proofs.LentPart.{mid_sets}
use Rattle.states.proofs.LimitsLaws.{letter_bytes, planes_fit}

-- ---- the words of two letters

-- word y of letter a, plane after plane
unfoldable pub word_at : List ℕ → ℕ → ℕ → ℕ
word_at words a y = get_or words (place_of a y) 0

-- as the code finds it
abbrev code_word : List ℕ → ℕ → ℕ → ℕ
code_word words a y = get_or words (y / slot_size * plane_size + y % slot_size + a * slot_size) 0

word_code : (words : List ℕ) (a y : ℕ) → code_word words a y ≡ word_at words a y
unfolding word_at
word_code words a y = ap (λ i. get_or words i 0) (add_right_comm (y / slot_size * plane_size) (y % slot_size) (a * slot_size))

module _ (words : List ℕ) (a b : ℕ) where
  pub same_none : agree (word_at words a) (word_at words b) 0 ≡ true
  same_none = agree_none (word_at words a) (word_at words b)

  pub same_more : (y : ℕ) → agree (word_at words a) (word_at words b) y ≡ true
      → code_word words a y ≡ code_word words b y → agree (word_at words a) (word_at words b) (y + 1) ≡ true
  same_more y h e = agree_more (word_at words a) (word_at words b) y h (sym (word_code words a y) ∙ e ∙ word_code words b y)

  pub same_fails : (y : ℕ) → y < plane_count * slot_size → (code_word words a y ≡ code_word words b y → ⊥) → false ≡ same_words words a b
  unfolding same_words word_at
  same_fails y h ne =
      sym (agree_fails (word_at words a) (word_at words b) (plane_count * slot_size) y h (λ e. ne (word_code words a y ∙ e ∙ sym (word_code words b y))))

  pub same_all : (y : ℕ) → y ≡ plane_count * slot_size → agree (word_at words a) (word_at words b) y ≡ true → true ≡ same_words words a b
  unfolding same_words word_at
  same_all y e h = sym h ∙ ap (agree (word_at words a) (word_at words b)) e

-- ---- a letter's map

-- entry p
unfoldable pub map_entry : List ℕ → ℕ → ℕ → ℕ
map_entry words a p = lane_of words (slot_at (p / word_size) a) (p % word_size)

-- as the code calls it
pub entry_code : (words : List ℕ) (a p x : ℕ) → x ≡ lane_of words (slot_at (p / word_size) a) (p % word_size) → x ≡ map_entry words a p
unfolding map_entry
entry_code words a p x e = e

-- the loop's end
pub map_all : (words : List ℕ) (a p n : ℕ) (map map₀ : List ℕ) → p ≡ n → map ≡ tabulate p (map_entry words a) ++ drop p map₀
    → map ≡ map_of words a n ++ drop n map₀
unfolding map_of map_entry
map_all words a p n map map₀ e q = q ∙ ap (λ k. tabulate k (map_entry words a) ++ drop k map₀) e

-- ---- the first letter with the same words

module _ (words : List ℕ) where
  same_at : (a b y : ℕ) → same_words words a b ≡ true → y < plane_count * slot_size → word_at words a y ≡ word_at words b y
  unfolding same_words word_at
  same_at a b y e h = agree_at (word_at words a) (word_at words b) (plane_count * slot_size) y e h

  same_trans : (a b d : ℕ) → same_words words a b ≡ true → same_words words b d ≡ true → same_words words a d ≡ true
  unfolding same_words word_at
  same_trans a b d e f = agree_all (word_at words a) (word_at words d) (plane_count * slot_size) (λ y h. same_at a b y e h ∙ same_at b d y f h)

  first_same : (a : ℕ) → first_of words a < a → same_words words a (first_of words a) ≡ true
  unfolding first_of
  first_same a h = first_passes (same_words words a) a h

  first_before : (a : ℕ) → first_of words a ≤ a
  unfolding first_of
  first_before a = first_le (same_words words a) a

  none_before : (a i : ℕ) → i < first_of words a → same_words words a i ≡ false
  unfolding first_of
  none_before a i h = first_least (same_words words a) a i h

  -- it is the first with its own words
  first_first : (a : ℕ) → first_of words (first_of words a) ≡ first_of words a
  first_first a = at (eq-or-lt_of_le (first_before a)) (eq-or-lt_of_le (first_before (first_of words a)))
    where
      at : (first_of words a ≡ a) ⊎ (first_of words a < a)
          → (first_of words (first_of words a) ≡ first_of words a) ⊎ (first_of words (first_of words a) < first_of words a)
          → first_of words (first_of words a) ≡ first_of words a
      at (inl e) s = ap (first_of words) e
      at (inr l) (inl e) = e
      at (inr l) (inr k) =
          absurd (true≢false (sym (same_trans a (first_of words a) (first_of words (first_of words a)) (first_same a l) (first_same (first_of words a) k))
          ∙ none_before a (first_of words (first_of words a)) k))

  -- word k of plane w
  word_in : (a w k : ℕ) → k < slot_size → word_at words a (w * slot_size + k) ≡ get_or words (slot_at w a + k) 0
  unfolding word_at
  word_in a w k h = rw (digits_div w {m = slot_size} h, digits_mod w {m = slot_size} h) refl

  -- letters with the same words have the same map
  map_same : (a b p : ℕ) → same_words words a b ≡ true → p < map_size → map_entry words a p ≡ map_entry words b p
  unfolding map_entry lane_of
  map_same a b p e h =
      ap from_bits
      (tabulate_ext slot_size (λ k. bit (get_or words (slot_at (p / word_size) a + k) 0) (p % word_size))
      (λ k. bit (get_or words (slot_at (p / word_size) b + k) 0) (p % word_size))
      (λ k l. ap (λ x. bit x (p % word_size)) (word k l)))
    where
      word : (k : ℕ) → k < slot_size → get_or words (slot_at (p / word_size) a + k) 0 ≡ get_or words (slot_at (p / word_size) b + k) 0
      word k l = sym (word_in a (p / word_size) k l) ∙ same_at a b (p / word_size * slot_size + k) e (omega arith) ∙ word_in b (p / word_size) k l

  map_first : (a p : ℕ) → p < map_size → map_entry words (first_of words a) p ≡ map_entry words a p
  map_first a p h = at (eq-or-lt_of_le (first_before a))
    where
      at : (first_of words a ≡ a) ⊎ (first_of words a < a) → map_entry words (first_of words a) p ≡ map_entry words a p
      at (inl e) = ap (λ b. map_entry words b p) e
      at (inr l) = sym (map_same a (first_of words a) p (first_same a l) h)

-- it fits two bytes
pub first_small : (words : List ℕ) (a b : ℕ) → b ≡ first_of words a → a < letter_limit → b < 2 ^ 16
first_small words a b e h = lt_of_le_of_lt (subst (λ x. x ≤ a) (sym e) (first_before words a)) (lt_of_lt_of_le h letter_bytes)

-- ---- the maps that are kept

-- for each of n letters the first with the same words, whose map is kept
pub record Classified (m n : ℕ) (words maps firsts : List ℕ) : Type 0 where
  pub before : (a : ℕ) → a < n → get_or firsts a 0 ≤ a
  pub first : (a : ℕ) → a < n → get_or firsts (get_or firsts a 0) 0 ≡ get_or firsts a 0
  pub entry : (a p : ℕ) → a < n → p < m * word_size
      → get_or maps (get_or firsts a 0 * map_size + p) 0 ≡ lane_of words (slot_at (p / word_size) a) (p % word_size)

-- one letter more
module _ (words : List ℕ) (m a : ℕ) (d : List ℕ) (b : ℕ) (is : b ≡ first_of words a) (t : List ℕ) (e : t ≡ maps_to words m a d) where
  -- it is the first with its words, and its map is written, in a part of the memory that is lent
  pub maps_first : b ≡ a → m ≤ plane_count → a * map_size + map_size ≤ length t → (part : List ℕ)
      → part ≡ map_of words a (m * word_size) ++ drop (m * word_size) (mid_of (a * map_size) (a * map_size + map_size - a * map_size) t)
      → put_mid (a * map_size) (a * map_size + map_size - a * map_size) t part ≡ maps_to words m (a + 1) d
  unfolding maps_to map_of
  maps_first q few room part f =
      let new : List ℕ = map_of words a (m * word_size) in
      let long = length_tabulate (m * word_size) _ in
      mid_sets t (a * map_size) (a * map_size + map_size - a * map_size) (m * word_size) new part (omega arith) long (omega (arith, planes_fit m few)) f
      ∙ ap (λ u. sets u (a * map_size) new) e ∙ rw (add-one a, eq-eqb (first_of words a) a (sym is ∙ q))

  -- it is not
  pub maps_other : ¬ (b ≡ a) → t ≡ maps_to words m (a + 1) d
  unfolding maps_to
  maps_other q = e ∙ rw (add-one a, ne_eqb (first_of words a) a (λ p. q (is ∙ p)))

module _ (words : List ℕ) (m : ℕ) (few : m ≤ plane_count) (d : List ℕ) where
  pub length_maps : (n : ℕ) → length (maps_to words m n d) ≡ length d
  unfolding maps_to
  length_maps zero = refl
  length_maps (suc a) = at (eqb (first_of words a) a) (length_maps a)
    where
      at : (b : Bool) → length (maps_to words m a d) ≡ length d
          → length (cond b (sets (maps_to words m a d) (a * map_size) (map_of words a (m * word_size))) (maps_to words m a d)) ≡ length d
      at true h = length-sets (maps_to words m a d) (a * map_size) (map_of words a (m * word_size)) ∙ h
      at false h = h

  -- a letter that is the first with its words has its map
  map_kept : (n : ℕ) → n * map_size ≤ length d → (a p : ℕ) → a < n → first_of words a ≡ a → p < m * word_size
      → get_or (maps_to words m n d) (a * map_size + p) 0 ≡ map_entry words a p
  unfolding maps_to map_of map_entry
  map_kept zero room a p h e l = absurd (not-suc-le-zero h)
  map_kept (suc n) room a p h e l = at (λ k. map_kept n (omega arith) a p k e l) (eq-or-lt_of_le (le_of_suc-le-suc h))
    where
      old : List ℕ
      old = maps_to words m n d

      new : List ℕ
      new = map_of words n (m * word_size)

      long : length new ≡ m * word_size
      long = length_tabulate (m * word_size) _

      here : get_or (sets old (n * map_size) new) (n * map_size + p) 0 ≡ map_entry words n p
      here =
          get_d_sets_same old (n * map_size) new p 0 (subst (λ k. p < k) (sym long) l) (omega (arith, long, length_maps n))
          ∙ get_d_tabulate (m * word_size) (map_entry words n) p 0 l

      kept : (b : Bool) → a < n → get_or (cond b (sets old (n * map_size) new) old) (a * map_size + p) 0 ≡ get_or old (a * map_size + p) 0
      kept true k = get_d_sets_other old (n * map_size) new (a * map_size + p) 0 (λ j g q. omega arith)
      kept false k = refl

      at : (a < n → get_or old (a * map_size + p) 0 ≡ map_entry words a p) → (a ≡ n) ⊎ (a < n)
          → get_or (cond (eqb (first_of words n) n) (sets old (n * map_size) new) old) (a * map_size + p) 0 ≡ map_entry words a p
      at ih (inl q) = rw (q, eq-eqb (first_of words n) n (subst (λ x. first_of words x ≡ x) q e)) here
      at ih (inr k) = kept (eqb (first_of words n) n) k ∙ ih k

  -- so every letter has the map of the first with its words
  pub classified : (n : ℕ) (maps firsts rest : List ℕ) → n * map_size ≤ length d → maps ≡ maps_to words m n d
      → firsts ≡ tabulate n (first_of words) ++ rest → Classified m n words maps firsts
  unfolding map_entry
  classified n maps firsts rest room em ef = record {
    before = λ a h. subst (λ x. x ≤ a) (sym (first_is a h)) (first_before words a);
    first = λ a h. ap (λ x. get_or firsts x 0) (first_is a h) ∙ first_is (first_of words a) (first_lt a h) ∙ first_first words a ∙ sym (first_is a h);
    entry = λ a p h l.
        ap₂ (λ t x. get_or t (x * map_size + p) 0) em (first_is a h)
        ∙ map_kept n room (first_of words a) p (first_lt a h) (first_first words a) l
        ∙ map_first words a p (lt_of_lt_of_le l (planes_fit m few));
  }
    where
      first_is : (a : ℕ) → a < n → get_or firsts a 0 ≡ first_of words a
      first_is a h = ap (λ t. get_or t a 0) ef ∙ get_d_table (first_of words) n a rest h

      first_lt : (a : ℕ) → a < n → first_of words a < n
      first_lt a h = lt_of_le_of_lt (first_before words a) h

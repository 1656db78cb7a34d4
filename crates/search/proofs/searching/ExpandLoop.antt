-- Reading every letter in one state: what the loop keeps, and what it answers.
-- Assumes nothing.
use Rattle.std.specs.Prelude.{None}
use Prim.Native.Nat.{ℕ, suc, ◌+◌, ◌-◌, ◌*◌, ◌^◌, ◌≤◌, ◌<◌}
use native.Mathlib.Omega.{arith}
use mathlib.Core.Path.{◌≡◌, refl, sym, ap, ◌∙◌, subst}
use mathlib.Core.Bool.{Bool}
use mathlib.Core.List.{List, [], ◌∷◌}
use lib.ListN.{length, get_or, take, drop, set}
use Rattle.search.specs.declared.letters.Letters.{Letters}
use Rattle.search.specs.Letters.{back_by}
use Rattle.search.specs.Limits.{state_limit, set_size}
use Rattle.basics.specs.Bounded.{first_that}
use Rattle.search.specs.PatternSet.{PatternSet, next}
use Rattle.search.specs.Maps.{map_at, map_in}
use Rattle.search.specs.Slots.{with_item, same_slot}
use Rattle.search.specs.Memory.{spread, set_bytes, set_in, sets_in, Holds, bits_in, with_next}
use Rattle.basics.proofs.BoundedLaws.{first_le}
use Rattle.search.proofs.PatternSetLaws.{length_set_of, next_all_one}
use Rattle.search.proofs.LimitsLaws.{place_byte, set_packing}
use Rattle.search.proofs.SlotsLaws.{held_bytes, item_kept}
use Rattle.search.proofs.StepsFromItem.{reading_none, Adding, Answers, adding_copy, front_kept, adding_old, adding_new, adding_over}

-- a place has a number of one byte
pub place_small : (p : ℕ → Bool) (m t : ℕ) → t ≡ first_that p m → m ≤ state_limit → t < 2 ^ 8
place_small p m t e h = omega (arith, first_le p m, place_byte)

module _ (letters : Letters) (mem₀ : List ℕ) (i n : ℕ) where
  abbrev d : ℕ
  d = letters.operators

  abbrev maps : List ℕ
  maps = letters.maps.now

  abbrev firsts : List ℕ
  firsts = letters.firsts.now

  abbrev by_map : PatternSet → ℕ → PatternSet
  by_map = next d (back_by letters)

  -- the set that letter a leads to from set i
  abbrev target : ℕ → PatternSet
  target a = by_map (set_in d mem₀ i) a

  length_target : (a : ℕ) → length (target a) ≡ 2 ^ suc d
  unfolding next
  length_target a = length_set_of d _

  -- the set by the map at place k
  abbrev by_place : ℕ → PatternSet
  by_place k = next d (map_at maps d) (set_in d mem₀ i) k

  target_is : (a : ℕ) → by_place (get_or firsts a 0) ≡ target a
  unfolding next map_in
  target_is a = refl

  -- letters with the same map lead to the same set
  target_first : (a : ℕ) → get_or firsts (get_or firsts a 0) 0 ≡ get_or firsts a 0 → target (get_or firsts a 0) ≡ target a
  target_first a e = sym (target_is (get_or firsts a 0)) ∙ ap by_place e ∙ target_is a

  -- that of a letter whose own map is kept
  target_own : (a : ℕ) → get_or firsts a 0 ≡ a → by_place a ≡ target a
  target_own a e = ap by_place (sym e) ∙ target_is a

  -- ---- the facts that stay

  -- the memory has room, and the bits of set i are as they should be
  pub record Setting (present : List Bool) : Type 0 where
    pub room : length mem₀ ≡ (state_limit + 1) * set_size
    pub bits : present ≡ bits_in d mem₀ i

  -- set i is in front of place m, and as it was
  abbrev Present : ℕ → List ℕ → Type 0
  Present m mem = (i < m) × (set_in d mem i ≡ set_in d mem₀ i)

  -- ---- what the loop keeps

  abbrev pub Kept : List Bool → ℕ → ℕ → List ℕ → List ℕ → Type 0
  Kept present a m mem row =
      Adding set_size (2 ^ suc d) set_bytes by_map (set_in d mem₀ i) (sets_in d mem₀ n) state_limit letters.count (length mem₀) a m mem row
      × Setting present × Present m mem

  pub kept_none : (present : List Bool) (row : List ℕ) → length row ≡ letters.count → i < n → n ≤ state_limit → length mem₀ ≡ (state_limit + 1) * set_size
      → Holds d mem₀ n → present ≡ spread (take (i * set_size + set_size - i * set_size) (drop (i * set_size) mem₀)) → Kept present 0 n mem₀ row
  kept_none present row whole l k room g e = (
    (omega arith, k, refl, whole, reading_none set_size (2 ^ suc d) set_bytes by_map (set_in d mem₀ i) (sets_in d mem₀ n) n mem₀ row refl g),
    record {
      room = room;
      bits = e ∙ ap spread (held_bytes set_size (2 ^ suc d) set_bytes (set_packing d letters.operators_few) mem₀ n i g l (omega arith));
    },
    (l, refl),
  )

  module _ (present : List Bool) (a m : ℕ) (mem row : List ℕ) (z : Kept present a m mem row) (within : a < letters.count) where
    here : a < length row
    here = subst (λ k. a < k) (sym z.0.3) within

    -- a letter with an earlier one's map
    pub kept_copy : get_or firsts a 0 < a → (m' : ℕ) (mem' row' : List ℕ) → mem' ≡ mem → row' ≡ set row a (get_or row (get_or firsts a 0) 0) → m' ≡ m
        → Kept present (a + 1) m' mem' row'
    kept_copy b m' mem' row' p q s =
        rw (p, q, s) (adding_copy _ _ _ _ _ _ z.0 here (get_or firsts a 0) b (target_first a (letters.kept.first a within)), z.1, z.2)

    -- a letter whose own map is kept
    module _ (k : a ≤ get_or firsts a 0) where
      own : get_or firsts a 0 ≡ a
      own = omega (arith, letters.kept.before a within)

      -- its set is written behind the others, and found at place t
      module _ (new : List ℕ) (t : ℕ) (written : new ≡ with_next d (map_at maps d) mem i (a ∷ []) m)
          (first : t ≡ first_that (same_slot set_size new m) m) where
        new_is : new ≡ with_item set_size mem m (set_bytes (target a))
        new_is =
            written
            ∙ ap (λ s. with_item set_size mem m (set_bytes s)) (next_all_one d (map_at maps d) (set_in d mem i) a
            ∙ ap (λ s. next d (map_at maps d) s a) z.2.1 ∙ target_own a own)

        -- set i is still there
        present_kept : set_in d new i ≡ set_in d mem₀ i
        present_kept =
            let packing = set_packing d letters.operators_few in
            let same = front_kept _ _ _ _ _ _ z.0 here packing z.1.room (length_target a) new t new_is first in
            item_kept set_size (2 ^ suc d) set_bytes packing mem new m z.0.4.holds same i z.2.0 ∙ z.2.1

        pub kept_old : (t ≡ m → ⊥) → (m' : ℕ) (mem' row' : List ℕ) → mem' ≡ new → row' ≡ set row a t → m' ≡ m → Kept present (a + 1) m' mem' row'
        kept_old ne m' mem' row' p q s =
            rw (p, q, s) (
              adding_old _ _ _ _ _ _ z.0 here (set_packing d letters.operators_few) z.1.room (length_target a) new t new_is first ne,
              z.1,
              (z.2.0, present_kept),
            )

        pub kept_new : t ≡ m → (m ≡ state_limit → ⊥) → (m' : ℕ) (mem' row' : List ℕ) → mem' ≡ new → row' ≡ set row a t → m' ≡ m + 1
            → Kept present (a + 1) m' mem' row'
        kept_new e ne m' mem' row' p q s =
            rw (p, q, s) (
              adding_new _ _ _ _ _ _ z.0 here (set_packing d letters.operators_few) z.1.room (length_target a) new t new_is first e ne,
              z.1,
              (omega (arith, z.2.0), present_kept),
            )

        pub kept_over : t ≡ m → m ≡ state_limit → (mem' row' : List ℕ)
            → Answers set_size (2 ^ suc d) set_bytes by_map (set_in d mem₀ i) (sets_in d mem₀ n) state_limit letters.count None mem' row'
        kept_over e k mem' row' =
            adding_over _ _ _ _ _ _ z.0 here (set_packing d letters.operators_few) z.1.room (length_target a) new t new_is first e k mem' row'

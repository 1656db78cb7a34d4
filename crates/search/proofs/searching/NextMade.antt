-- What `put_set` reads of a letter's map and of the present set's bits, and what it makes of them.
-- Assumes nothing.
use Prim.Native.Nat.{ℕ, suc, ◌+◌, ◌-◌, ◌*◌, ◌%◌, ◌^◌, ◌≤◌, ◌<◌}
use native.Mathlib.Omega.{arith}
use mathlib.Core.Path.{◌≡◌, sym, ap, ◌∙◌, subst}
use mathlib.Core.Bool.{Bool}
use mathlib.Core.List.{List, [], ◌∷◌}
use lib.ListN.{length, get_or, take, drop}
use Rattle.search.specs.declared.letters.Letters.{Letters}
use Rattle.search.specs.Limits.{set_size, map_size}
use Rattle.search.specs.PatternSet.{next_all}
use Rattle.search.specs.Maps.{map_at, IsMap}
use Rattle.search.specs.Memory.{next_bytes, half_of, set_bytes, set_in, bits_in}
use Rattle.basics.proofs.LentPart.{part_length, part_at}
use Rattle.search.proofs.PatternSetLaws.{next_all_one}
use Rattle.search.proofs.HalfSets.{half_some, half_stored}
use Rattle.search.proofs.LimitsLaws.{set_room, half_map}
use Rattle.search.proofs.PackedSets.{next_packed}
use Rattle.search.proofs.SlotsLaws.{length_item_in}

-- the map of letter a, as it is lent
abbrev pub entries : List ℕ → ℕ → List ℕ
entries maps a = take (a * map_size + map_size - a * map_size) (drop (a * map_size) maps)

module _ (letters : Letters) (a : ℕ) (l : a < letters.count) (own : get_or letters.firsts.now a 0 ≡ a) where
  abbrev d : ℕ
  d = letters.operators

  abbrev maps : List ℕ
  maps = letters.maps.now

  is_map : IsMap d maps a
  is_map = subst (IsMap d maps) own (letters.kept.kept a l)

  entries_length : length (entries maps a) ≡ map_size
  entries_length = part_length (a * map_size) map_size maps (omega (arith, letters.maps_len, letters.count_few, l))

  stored : (q : ℕ) → q < half_of d * 8 → get_or (entries maps a) q 0 ≡ map_at maps d a q
  stored q j = part_at (a * map_size) map_size maps q (omega (arith, half_map d letters.operators_few)) ∙ is_map.entry q (half_stored d q j)

  -- a map reads the low bits only
  reads : (p q : ℕ) → p % 2 ^ d ≡ q % 2 ^ d → map_at maps d a p ≡ map_at maps d a q
  unfolding map_at
  reads p q e = ap (λ k. get_or maps (a * map_size + k) 0) e

  module _ (h : ℕ) (half : h ≡ half_of d) where
    -- what `put_next` asks, but for the room in its place; the bytes that differ are few
    pub put_next_asked : (h * 8 ≤ length (entries maps a)) × (0 < h) × (h * 8 ≤ map_size)
    put_next_asked =
        let small : h * 8 ≤ map_size = omega (arith, half, half_map d letters.operators_few) in
        (omega (arith, entries_length, small), subst (λ b. 0 < b) (sym half) (half_some d), small)

    -- and what it writes: the set after the letter
    pub next_made : (mem : List ℕ) (i : ℕ) (present : List Bool) → present ≡ bits_in d mem i
        → next_bytes set_size present (entries maps a) h ≡ set_bytes (next_all d (map_at maps d) (set_in d mem i) (a ∷ []))
    next_made mem i present bits =
        ap (λ s. next_bytes set_size s (entries maps a) h) bits ∙ ap (next_bytes set_size (bits_in d mem i) (entries maps a)) half
        ∙ next_packed set_size d (set_room d letters.operators_few) (set_in d mem i) (length_item_in set_size (2 ^ suc d) mem i) (map_at maps d) a (entries maps a) stored reads is_map.fits
        ∙ ap set_bytes (sym (next_all_one d (map_at maps d) (set_in d mem i) a))

-- The maps that are kept are those of the problem's letters.
-- Assumes nothing.
use Prim.Native.Nat.{ℕ, suc, ◌+◌, ◌*◌, ◌/◌, ◌%◌, ◌^◌, ◌≤◌, ◌<◌}
use native.Mathlib.Nat.{div-add-mod', mod-lt, mod-mod, lt_of_lt_of_le}
use native.Mathlib.Omega.{arith}
use mathlib.Core.Path.{◌≡◌, refl, sym, ap, ◌∙◌, subst}
use mathlib.Core.List.{List, ◌++◌}
use lib.Pow.{pow_pos, pow_mono}
use lib.ListN.{length, get_or, get_or-append}
use Rattle.basics.specs.Bits.{bit, from_bits}
use Rattle.formula.specs.Codes.{parts_in}
use Rattle.basics.specs.Limits.{operator_limit, word_size}
use Rattle.basics.specs.Lists.{tabulate}
use Rattle.formula.specs.declared.parts.Part.{Part}
use Rattle.formula.specs.Letter.{Counts}
use Rattle.basics.proofs.ListsLaws.{length_tabulate, tabulate_ext}
use Rattle.search.specs.Limits.{letter_limit, map_size}
use Rattle.obligations.specs.Obligation.{operators_of, back}
use Rattle.obligations.specs.Letters.{letter_count, letter_of, letters_of}
use Rattle.obligations.specs.Words.{back_lanes}
use Rattle.obligations.specs.Values.{Stored}
use Rattle.search.specs.Maps.{planes_of, map_at, map_in}
use Rattle.states.specs.Limits.{slot_size, plane_size, plane_count}
use Rattle.states.specs.Planes.{slot_at, planes_to, lane_of, first_of, maps_to, MapsOf}
use Rattle.basics.proofs.BitsLaws.{table_unique}
use Rattle.obligations.proofs.WordsLaws.{bit_lanes}
use Rattle.obligations.proofs.CarriedBack.{back_fits, back_low}
use Rattle.states.proofs.LimitsLaws.{slot_room, planes_room, planes_few}
use Rattle.states.proofs.PlanesLaws.{Carried, planes_carried}
use Rattle.states.proofs.maps.MapLoops.{Classified, classified}
use Rattle.obligations.proofs.StoredParts.{operators_few}

module _ (ps : List Part) (letters : List ℕ) (d m n k : ℕ) (words maps firsts : List ℕ)
    (is-d : d ≡ operators_of ps) (few : d ≤ operator_limit) (is_m : m ≡ planes_of d) (covers : n ≤ k)
    (carried : Carried ps letters m k words) (classified : Classified m n words maps firsts) where
  -- the number across the words of letter a is what the letter carries the pattern back to
  lane_back : (a p : ℕ) → a < n → p < m * word_size → lane_of words (slot_at (p / word_size) a) (p % word_size) ≡ back ps (get_or letters a 0) p
  unfolding lane_of back_lanes
  lane_back a p h l =
      ap from_bits (tabulate_ext slot_size _ (bit (back ps (get_or letters a 0) p)) (λ j q. lane j q))
      ∙ sym (table_unique slot_size (bit (back ps (get_or letters a 0) p)) (back ps (get_or letters a 0) p) fits (λ j q. refl))
    where
      fits : back ps (get_or letters a 0) p < 2 ^ slot_size
      fits = lt_of_lt_of_le (back_fits ps (get_or letters a 0) p) (pow_mono {i = suc (operators_of ps)} {j = slot_size} (omega (arith, slot_room d few)))

      lane : (j : ℕ) → j < slot_size → bit (get_or words (slot_at (p / word_size) a + j) 0) (p % word_size) ≡ bit (back ps (get_or letters a 0) p) j
      lane j q =
          ap (λ x. bit x (p % word_size)) (carried.word (p / word_size) a j (omega arith) (omega arith) q)
          ∙ bit_lanes (λ i. bit (back ps (get_or letters a 0) (p / word_size * word_size + i)) j) (p % word_size) (mod-lt p (omega arith))
          ∙ ap (λ x. bit (back ps (get_or letters a 0) x) j) (div-add-mod' p word_size)

  entry_back : (a p : ℕ) → a < n → p < m * word_size → get_or maps (get_or firsts a 0 * map_size + p) 0 ≡ back ps (get_or letters a 0) p
  entry_back a p h l = classified.entry a p h l ∙ lane_back a p h l

  carried_back : (a p : ℕ) → a < n → map_at maps d (get_or firsts a 0) p ≡ back ps (get_or letters a 0) p
  unfolding map_at
  carried_back a p h =
      entry_back a (p % 2 ^ d) h
      (lt_of_lt_of_le (mod-lt p (pow_pos d)) (subst (λ x. 2 ^ d ≤ x * word_size) (sym is_m) (planes_room d)))
      ∙ back_low ps (get_or letters a 0) (p % 2 ^ d) p (subst (λ x. p % 2 ^ d % 2 ^ x ≡ p % 2 ^ x) is-d (mod-mod p (2 ^ d)))

  carries : (a p : ℕ) → a < n → map_in maps firsts d a p ≡ back ps (get_or letters a 0) p
  unfolding map_in
  carries = carried_back

  -- what the code keeps is what the letters do
  prepared : MapsOf ps letters d n maps firsts
  prepared =
      record {
        maps_kept = record {
          before = classified.before;
          first = classified.first;
          kept = λ a h. record {
            fits = λ p.
                subst (λ x. map_at maps d (get_or firsts a 0) p < 2 ^ suc x) (sym is-d)
                (subst (λ x. x < 2 ^ suc (operators_of ps)) (sym (carried_back a p h)) (back_fits ps (get_or letters a 0) p));
            entry = λ p l. entry_back a p h (subst (λ x. p < x * word_size) (sym is_m) l) ∙ sym (carried_back a p h);
          };
        };
        carries = carries;
      }

-- letters that are listed at the front of a longer list
maps_front : (ps : List Part) (letters rest : List ℕ) (d n : ℕ) (maps firsts : List ℕ) → n ≡ length letters
    → MapsOf ps (letters ++ rest) d n maps firsts → MapsOf ps letters d n maps firsts
maps_front ps letters rest d n maps firsts e m =
    record {
      maps_kept = m.maps_kept;
      carries = λ a p h. m.carries a p h ∙ ap (λ x. back ps x p) (get_or-append letters rest 0 a (subst (λ x. a < x) e h));
    }

-- all together, for parts in memory
pub prepared_all : (codes : List ℕ) → Stored codes → (letters rest whole : List ℕ) → whole ≡ letters ++ rest
    → (d m n k : ℕ) → d ≡ operators_of (parts_in codes) → m ≡ planes_of d → n ≡ length letters → n ≤ k → k ≤ letter_limit
    → (words₀ words : List ℕ) → length words₀ ≡ plane_count * plane_size → words ≡ planes_to (parts_in codes) whole k m words₀
    → (maps₀ maps firsts behind : List ℕ) → length maps₀ ≡ letter_limit * map_size → maps ≡ maps_to words m n maps₀
    → firsts ≡ tabulate n (first_of words) ++ behind → MapsOf (parts_in codes) letters d n maps firsts
prepared_all codes h letters rest whole is d m n k is-d is_m is_n covers few words₀ words long e maps₀ maps firsts behind room f g =
    let ps = parts_in codes in
    let small = operators_few codes h d is-d in
    let fits : m ≤ plane_count = subst (λ x. x ≤ plane_count) (sym is_m) (planes_few d small) in
    let carried = planes_carried ps whole k words₀ m words (omega arith) (omega arith) e in
    let kept = classified words m fits maps₀ n maps firsts behind (omega arith) f g in
    maps_front ps letters rest d n maps firsts is_n
    (subst (λ l. MapsOf ps l d n maps firsts) is (prepared ps whole d m n k words maps firsts is-d small is_m covers carried kept))

pub count_letters : (c : Counts) → letter_count c ≡ length (letters_of c)
unfolding letters_of
count_letters c = sym (length_tabulate (letter_count c) (letter_of c))

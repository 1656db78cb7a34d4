-- What code keeps of a problem's letters: for each the words of the patterns that it carries back, in planes of `word_size` patterns,
-- and for letters that differ in them the map itself.
-- Assumes nothing.
use Rattle.std.specs.Prelude.{ℕ, zero, suc, ◌+◌, ◌*◌, ◌/◌, ◌%◌, ◌≤◌, ◌<◌, ◌≡◌, Bool, cond, List, eqb, ltb, get_or}
use Rattle.std.proofs.lemmas.List.Edits.{sets}
use Rattle.lines.specs.declared.problem.Sizes.{Sizes}
use Rattle.basics.specs.Bits.{bit, from_bits}
use Rattle.formula.specs.Codes.{parts_in}
use Rattle.basics.specs.Limits.{kind_limit, signal_limit, word_size}
use Rattle.basics.specs.Lists.{tabulate}
use Rattle.formula.specs.declared.parts.Part.{Part}
use Rattle.formula.specs.Parts.{part_at, last_of}
use Rattle.basics.specs.Bounded.{agree, first_that}
use Rattle.search.specs.Limits.{map_size}
use Rattle.obligations.specs.Obligation.{operators_of, back}
use Rattle.obligations.specs.Words.{owed_lanes, back_lanes}
use Rattle.obligations.specs.Values.{block_size}
use Rattle.search.specs.Maps.{map_in, Maps}
use Rattle.states.specs.Limits.{slot_size, plane_size, plane_count}

-- the sizes of the problem that some parts come from
pub record Sized (codes : List ℕ) (s : Sizes) : Type 0 where
  pub operators_are : s.operators ≡ operators_of (parts_in codes)
  pub outputs_few : s.outputs ≤ kind_limit
  pub observed_few : s.observed ≤ kind_limit
  pub hidden_few : s.hidden ≤ kind_limit
  pub signals_few : s.outputs + s.observed + s.hidden ≤ signal_limit

-- ---- the words of letters: entry a * slot_size + k of a plane is bit k of the patterns that letter a carries back

-- where the words of letter a begin in plane w
abbrev pub slot_at : ℕ → ℕ → ℕ
slot_at w a = w * plane_size + a * slot_size

-- word k of the block's letter x, from the values of all parts: an operator's obligation, then the whole formula's, then none
unfoldable pub carried_lane : List Part → List ℕ → ℕ → List ℕ → ℕ → ℕ → ℕ
carried_lane ps spots d v x k =
    let i = get_or spots k 0 in
    let q = part_at ps i in
    cond (ltb k d) (owed_lanes q.kind (get_or v (q.left * block_size + x) 0) (get_or v (i * block_size + x) 0))
    (cond (eqb k d) (get_or v (last_of ps * block_size + x) 0) 0)

-- the first n words of some letters, for block w of patterns
unfoldable pub plane : List Part → List ℕ → ℕ → ℕ → List ℕ
plane ps letters w n = tabulate n (λ y. back_lanes ps (get_or letters (y / slot_size) 0) w (y % slot_size))

-- the memory with the words of the first n letters written in its first m planes
unfoldable pub planes_to : List Part → List ℕ → ℕ → ℕ → List ℕ → List ℕ
planes_to ps letters n zero words = words
planes_to ps letters n (suc w) words = sets (planes_to ps letters n w words) (w * plane_size) (plane ps letters w (n * slot_size))

-- ---- maps

-- the number whose bits are the bits j of a letter's words in a plane
unfoldable pub lane_of : List ℕ → ℕ → ℕ → ℕ
lane_of words at j = from_bits (tabulate slot_size (λ k. bit (get_or words (at + k) 0) j))

-- the first n entries of letter a's map: entry p is read from plane p / word_size
unfoldable pub map_of : List ℕ → ℕ → ℕ → List ℕ
map_of words a n = tabulate n (λ p. lane_of words (slot_at (p / word_size) a) (p % word_size))

-- where word y of a letter stands, plane after plane
abbrev pub place_of : ℕ → ℕ → ℕ
place_of a y = slot_at (y / slot_size) a + y % slot_size

-- two letters have the same words
unfoldable pub same_words : List ℕ → ℕ → ℕ → Bool
same_words words a b = agree (λ y. get_or words (place_of a y) 0) (λ y. get_or words (place_of b y) 0) (plane_count * slot_size)

-- the first letter with the words of letter a
unfoldable pub first_of : List ℕ → ℕ → ℕ
first_of words a = first_that (same_words words a) a

-- the memory with the maps, from m planes, of those among the first n letters that are the first with their words
unfoldable pub maps_to : List ℕ → ℕ → ℕ → List ℕ → List ℕ
maps_to words m zero maps = maps
maps_to words m (suc a) maps =
    let t = maps_to words m a maps in
    cond (eqb (first_of words a) a) (sets t (a * map_size) (map_of words a (m * word_size))) t

-- ---- the maps of a problem's letters

-- maps are those of some parts and letters
pub record MapsOf (ps : List Part) (letters : List ℕ) (d n : ℕ) (maps firsts : List ℕ) : Type 0 where
  pub maps_kept : Maps d n maps firsts
  pub carries : (a p : ℕ) → a < n → map_in maps firsts d a p ≡ back ps (get_or letters a 0) p

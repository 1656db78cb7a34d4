-- The maps of letters in memory: for each letter, by number, what it carries a pattern back to. Letters with the same map share
-- the one that is kept for the first of them.
-- Assumes nothing.
use Rattle.std.specs.Prelude.{ℕ, suc, ◌+◌, ◌-◌, ◌*◌, ◌%◌, ◌^◌, ◌≤◌, ◌<◌, ◌≡◌, List, get_or}
use Rattle.basics.specs.Limits.{word_bits, word_size}
use Rattle.search.specs.Limits.{map_size}

-- how many planes, of a word of patterns each, d operators take
unfoldable pub planes_of : ℕ → ℕ
planes_of d = 2 ^ (d - word_bits)

-- what the map at place a carries pattern p back to; the bit of the whole formula, bit d, is not read
unfoldable pub map_at : List ℕ → ℕ → ℕ → ℕ → ℕ
map_at maps d a p = get_or maps (a * map_size + p % 2 ^ d) 0

-- place a has a map over d operators: its entries are patterns, and those past the first 2 ^ d repeat them
pub record IsMap (d : ℕ) (maps : List ℕ) (a : ℕ) : Type 0 where
  pub fits : (p : ℕ) → map_at maps d a p < 2 ^ suc d
  pub entry : (p : ℕ) → p < planes_of d * word_size → get_or maps (a * map_size + p) 0 ≡ map_at maps d a p

-- what letter a carries pattern p back to, by the map of the first letter that has the same map
unfoldable pub map_in : List ℕ → List ℕ → ℕ → ℕ → ℕ → ℕ
map_in maps firsts d a p = map_at maps d (get_or firsts a 0) p

-- the maps of n letters, by number, over d operators
pub record Maps (d n : ℕ) (maps firsts : List ℕ) : Type 0 where
  pub before : (a : ℕ) → a < n → get_or firsts a 0 ≤ a
  pub first : (a : ℕ) → a < n → get_or firsts (get_or firsts a 0) 0 ≡ get_or firsts a 0
  pub kept : (a : ℕ) → a < n → IsMap d maps (get_or firsts a 0)

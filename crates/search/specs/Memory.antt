-- Sets of patterns in memory, and what the search for all states leaves there.
-- Assumes nothing.
use Rattle.std.specs.Prelude.{ℕ, suc, ◌+◌, ◌-◌, ◌*◌, ◌/◌, ◌%◌, ◌^◌, Bool, false, List, length, get_or, Option}
use Rattle.basics.specs.Bits.{bit, from_bits}
use Rattle.basics.specs.Lists.{tabulate}
use Rattle.search.specs.Limits.{state_limit, letter_limit, set_size}
use Rattle.search.specs.PatternSet.{PatternSet, member, next, next_all}
use Rattle.basics.specs.Reach.{Listing}
use Rattle.search.specs.ReachableSets.{same_set}
use Rattle.basics.specs.Successors.{grown_over, row_over, rows_over}
use Rattle.search.specs.Slots.{bit_bytes, item_in, items_in, HoldsItems, with_item, count_up_to, ExpandedItems, items_of, RanItems}

-- ---- one set

-- a set's table, repeated to fill w bytes
unfoldable pub packed : ℕ → PatternSet → List ℕ
packed w s = bit_bytes w (λ p. member s (p % length s))

-- byte i of the start set: the patterns with bit d
unfoldable pub start_byte : ℕ → ℕ → ℕ
start_byte d i = from_bits (tabulate 8 (λ j. bit (i * 8 + j) d))

-- the bits of some bytes, one by one
unfoldable pub spread : List ℕ → List Bool
spread bytes = tabulate (length bytes * 8) (λ p. bit (get_or bytes (p / 8) 0) (p % 8))

-- byte b of the next set, from the bits of the present one and a letter's map
unfoldable pub next_byte : List Bool → List ℕ → ℕ → ℕ
next_byte present entries b = from_bits (tabulate 8 (λ j. get_or present (get_or entries (b * 8 + j) 0) false))

-- the first h bytes again and again
unfoldable pub repeated : ℕ → List ℕ → List ℕ
repeated h bytes = tabulate (length bytes) (λ b. get_or bytes (b % h) 0)

-- the w bytes of the next set, of which the first h differ: the whole formula's bit is not read
unfoldable pub next_bytes : ℕ → List Bool → List ℕ → ℕ → List ℕ
next_bytes w present entries h = tabulate w (λ b. next_byte present entries (b % h))

-- how many bytes of a set over d operators differ once a letter was read, one at least
unfoldable pub half_of : ℕ → ℕ
half_of d = 2 ^ (d - 3)

-- ---- sets as items of memory

-- a set's bytes in its place
abbrev pub set_bytes : PatternSet → List ℕ
set_bytes = packed set_size

-- set i of some memory
abbrev pub set_in : ℕ → List ℕ → ℕ → PatternSet
set_in d = item_in set_size (2 ^ suc d)

abbrev pub sets_in : ℕ → List ℕ → ℕ → List PatternSet
sets_in d = items_in set_size (2 ^ suc d)

-- the memory begins with n sets
abbrev pub Holds : ℕ → List ℕ → ℕ → Type 0
Holds d = HoldsItems set_size (2 ^ suc d) set_bytes

-- the bits of set i of some memory, one by one
abbrev pub bits_in : ℕ → List ℕ → ℕ → List Bool
bits_in d mem i = spread (set_bytes (set_in d mem i))

-- the memory with the set that letters lead to from set i written in place m, and nothing else changed
abbrev pub with_next : ℕ → (ℕ → ℕ → ℕ) → List ℕ → ℕ → List ℕ → ℕ → List ℕ
with_next d back mem i letters m = with_item set_size mem m (set_bytes (next_all d back (set_in d mem i) letters))

-- ---- reading every letter in one state

-- the sets xs, and behind them those that letters lead to from s
abbrev pub grown : ℕ → (ℕ → ℕ → ℕ) → List ℕ → List PatternSet → PatternSet → List PatternSet
grown d back = grown_over same_set (next d back)

-- the numbers of the sets that letters lead to from s
abbrev pub row_of : ℕ → (ℕ → ℕ → ℕ) → List ℕ → List PatternSet → PatternSet → List ℕ
row_of d back = row_over same_set (next d back)

abbrev pub count_of : List PatternSet → Option ℕ
count_of = count_up_to state_limit

abbrev pub Expanded : ℕ → List PatternSet → List ℕ → List ℕ → List ℕ → Type 0
Expanded d = ExpandedItems set_size (2 ^ suc d) set_bytes state_limit

-- ---- what the search leaves

abbrev pub sets_of : Listing PatternSet → List ℕ
sets_of = items_of set_bytes

-- a row for each set, of as many entries as there can be letters
abbrev pub successors_of : ℕ → (ℕ → ℕ → ℕ) → List ℕ → Listing PatternSet → List ℕ
successors_of d back letters = rows_over same_set (next d back) (λ s. letters) letter_limit

abbrev pub Ran : ℕ → (ℕ → ℕ → ℕ) → List ℕ → Listing PatternSet → List ℕ → List ℕ → Type 0
Ran d back letters = RanItems set_size set_bytes (next d back) (λ s. letters) letter_limit

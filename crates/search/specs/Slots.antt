-- Items one after another in memory, w bytes each, and what a search among them answers and leaves. An item is a list of `len`
-- Booleans, a set of patterns or a belief; bit p of its place is its entry p, and `pack` gives all its bytes.
-- Assumes nothing.
use Rattle.std.specs.Prelude.{ℕ, ◌+◌, ◌*◌, ◌/◌, ◌%◌, ◌≤◌, ◌<◌, ◌≡◌, Bool, cond, ltb, length, get_or, take, drop, None, Option, Some}
use mathlib.Core.List.{List, [], ◌++◌, flat_map}
use Rattle.basics.specs.Bits.{bit, from_bits}
use Rattle.basics.specs.Lists.{tabulate, padded}
use Rattle.basics.specs.Bounded.{agree}
use Rattle.basics.specs.Reach.{Listing, closed, over}
use Rattle.search.specs.ReachableSets.{same_set}
use Rattle.basics.specs.Successors.{rows_over}

-- the bytes whose bits are the answers of f: bit j of byte i is answer i * 8 + j
unfoldable pub byte_at : (ℕ → Bool) → ℕ → ℕ
byte_at f i = from_bits (tabulate 8 (λ j. f (i * 8 + j)))

unfoldable pub bit_bytes : ℕ → (ℕ → Bool) → List ℕ
bit_bytes w f = tabulate w (byte_at f)

-- item i of some memory
unfoldable pub item_in : ℕ → ℕ → List ℕ → ℕ → List Bool
item_in w len mem i = tabulate len (λ p. bit (get_or mem (i * w + p / 8) 0) (p % 8))

unfoldable pub items_in : ℕ → ℕ → List ℕ → ℕ → List (List Bool)
items_in w len mem n = tabulate n (item_in w len mem)

-- the memory begins with n items
pub record HoldsItems (w len : ℕ) (pack : List Bool → List ℕ) (mem : List ℕ) (n : ℕ) : Type 0 where
  pub slot : (i b : ℕ) → i < n → b < w → get_or mem (i * w + b) 0 ≡ get_or (pack (item_in w len mem i)) b 0

-- the memory with the bytes of place n written
unfoldable pub with_item : ℕ → List ℕ → ℕ → List ℕ → List ℕ
with_item w mem n bytes = take (n * w) mem ++ bytes ++ drop (n * w + w) mem

-- the first k bytes from a on and from b on agree
unfoldable pub same_run : List ℕ → ℕ → ℕ → ℕ → Bool
same_run mem a b k = agree (λ y. get_or mem (a + y) 0) (λ y. get_or mem (b + y) 0) k

-- two places hold the same bytes
unfoldable pub same_slot : ℕ → List ℕ → ℕ → ℕ → Bool
same_slot w mem n i = agree (λ y. get_or mem (i * w + y) 0) (λ y. get_or mem (n * w + y) 0) w

-- ---- taking every step from one item

-- how many items there are then
abbrev pub count_up_to : {K : Type 0} → ℕ → List K → Option ℕ
count_up_to limit xs = cond (ltb limit (length xs)) None (Some (length xs))

-- the memory holds the items xs, and the row is as given; after too many both are open, and a caller clears or drops them
pub record ExpandedItems (w len : ℕ) (pack : List Bool → List ℕ) (limit : ℕ) (xs : List (List Bool)) (row mem row' : List ℕ) : Type 0 where
  pub items_are : length xs ≤ limit → items_in w len mem (length xs) ≡ xs
  pub holds : length xs ≤ limit → HoldsItems w len pack mem (length xs)
  pub row_is : length xs ≤ limit → row' ≡ row

-- ---- what the whole search answers and leaves

abbrev pub explored_of : {K : Type 0} → Listing K → Option ℕ
explored_of (closed xs) = Some (length xs)
explored_of over = None

-- the items one after another; nothing if there are too many
abbrev pub items_of : {K : Type 0} → (K → List ℕ) → Listing K → List ℕ
items_of pack (closed xs) = flat_map pack xs
items_of pack over = []

-- the memory begins with the items, and the rows are as they should be; after too many both are open, and a caller clears or drops them
abbrev pub RanItems : ℕ → (List Bool → List ℕ) → (List Bool → ℕ → List Bool) → (List Bool → List ℕ) → ℕ → Listing (List Bool)
    → List ℕ → List ℕ → Type 0
RanItems w pack f steps width (closed xs) mem rows =
    (take (length xs * w) mem ≡ flat_map pack xs) × (rows ≡ padded (length rows) (rows_over same_set f steps width (closed xs)))
RanItems w pack f steps width over mem rows = Unit {0}

-- Classes of bytes, runs of them, and equality of byte strings.
-- Assumes nothing.
use Rattle.std.specs.Prelude.{ℕ, zero, suc, ◌+◌, ◌-◌, List, [], ◌∷◌, Bool, true, false, not, ◌&&◌, ◌||◌, take, drop, eqb, leb, ltb}
use Prim.Native.Char.{code}
use Prim.Native.String.{String}
use Prim.Native.String as text
use Rattle.basics.specs.declared.bytes.Class.{Class}
use Rattle.basics.specs.declared.bytes.Class.TheVariants.{Space, Word, Field, Line}

-- the bytes of a quoted word
abbrev pub bytes_of : String → List ℕ
bytes_of text.[] = []
bytes_of (text.◌∷◌ c s) = code c ∷ bytes_of s

-- a lowercase letter
unfoldable pub lower : ℕ → Bool
lower b = leb 97 b && ltb b 123

-- a byte that goes on a word: a lowercase letter, a digit or `_`
unfoldable pub word_byte : ℕ → Bool
word_byte b = lower b || (eqb b 95 || (leb 48 b && ltb b 58))

abbrev pub is_space : ℕ → Bool
is_space b = eqb b 32

abbrev pub not_tab : ℕ → Bool
not_tab b = not (eqb b 9)

abbrev pub not_line_end : ℕ → Bool
not_line_end b = not (eqb b 10)

-- the bytes of a class: spaces, words, and what a field and a line are made of
abbrev pub in_class : Class → ℕ → Bool
in_class Space = is_space
in_class Word = word_byte
in_class Field = not_tab
in_class Line = not_line_end

-- how many bytes at the front pass a test
unfoldable pub run : (ℕ → Bool) → List ℕ → ℕ
run p [] = zero
run p (b ∷ s) = elim (p b) [ true ↦ suc (run p s) | false ↦ zero ]

-- the first place from `at` on whose byte fails a test
unfoldable pub past : (ℕ → Bool) → List ℕ → ℕ → ℕ
past p text at = at + run p (drop at text)

-- the bytes from place i up to place j
abbrev pub between : List ℕ → ℕ → ℕ → List ℕ
between text i j = take (j - i) (drop i text)

-- two byte strings are equal
unfoldable pub same_bytes : List ℕ → List ℕ → Bool
same_bytes [] [] = true
same_bytes [] (b ∷ t) = false
same_bytes (a ∷ s) [] = false
same_bytes (a ∷ s) (b ∷ t) = eqb a b && same_bytes s t

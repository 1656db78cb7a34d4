-- The lines of a problem's text (a sheet in the trade's words) and their two fields (REFERENCE.md, A problem).
-- Assumes nothing.
use Rattle.std.specs.Prelude.{ℕ, ◌+◌, Bool, true, false, not, ◌&&◌, cond, List, [], ◌∷◌, ◌++◌, eqb, leb, ltb, length, take, drop, None, Option, Some}
use Rattle.basics.specs.Bytes.{lower, word_byte, not_tab, run, bytes_of, same_bytes}
use Rattle.lines.specs.declared.problem.Kind.{Kind}
use Rattle.lines.specs.declared.problem.Kind.TheVariants.{Output, Observed, Hidden}
use Rattle.lines.specs.declared.problem.Word.{Word}
use Rattle.lines.specs.declared.problem.Word.TheVariants.{Declare, Rule, Order as OrderWord, Unknown}
use Rattle.basics.specs.declared.order.Order.{Order}
use Rattle.basics.specs.declared.order.Order.TheVariants.{Set, Read}
use Rattle.syntax.specs.Lex.{is_reserved}
use Rattle.grammar.specs.Limits.{text_limit}
use Rattle.lines.specs.Limits.{name_limit}

-- the bytes of a line, and whether byte 10 ends it
pub data SourceLine : Type 0 where
  ended unended : List ℕ → SourceLine

-- a byte put before the first line
abbrev pub before : ℕ → List SourceLine → List SourceLine
before b [] = unended (b ∷ []) ∷ []
before b (ended l ∷ ls) = ended (b ∷ l) ∷ ls
before b (unended l ∷ ls) = unended (b ∷ l) ∷ ls

abbrev pub line_start : Bool → ℕ → List SourceLine → List SourceLine
line_start true b ls = ended [] ∷ ls
line_start false b ls = before b ls

unfoldable pub lines : List ℕ → List SourceLine
lines [] = []
lines (b ∷ s) = line_start (eqb b 10) b (lines s)

-- ---- the lines that may be written: a word, a tab (byte 9) and a second field

abbrev pub kind_word : Kind → List ℕ
kind_word Output = bytes_of "out"
kind_word Observed = bytes_of "see"
kind_word Hidden = bytes_of "hid"

abbrev pub declare_line : Kind → List ℕ → List ℕ
declare_line k name = kind_word k ++ 9 ∷ name

abbrev pub rule_line : List ℕ → List ℕ
rule_line text = bytes_of "rule" ++ 9 ∷ text

abbrev pub order_word : Order → List ℕ
order_word Set = bytes_of "set"
order_word Read = bytes_of "read"

abbrev pub order_line : Order → List ℕ
order_line o = bytes_of "order" ++ 9 ∷ order_word o

-- ---- the fields of a line, parted by its first tab

unfoldable pub tab_place : List ℕ → ℕ
tab_place line = run not_tab line

abbrev pub has_tab : List ℕ → Bool
has_tab line = ltb (tab_place line) (length line)

abbrev pub first_field : List ℕ → List ℕ
first_field line = take (tab_place line) line

abbrev pub second_field : List ℕ → List ℕ
second_field line = drop (tab_place line + 1) line

-- ---- the first field

unfoldable pub word_of : List ℕ → Word
word_of w =
    cond (same_bytes w (bytes_of "out")) (Declare Output)
    (cond (same_bytes w (bytes_of "see")) (Declare Observed)
    (cond (same_bytes w (bytes_of "hid")) (Declare Hidden)
    (cond (same_bytes w (bytes_of "rule")) Rule
    (cond (same_bytes w (bytes_of "order")) OrderWord Unknown))))

-- ---- the second field

-- a name: a lowercase letter, then lowercase letters, digits or `_`, not too many, and no reserved word
unfoldable pub is_name : List ℕ → Bool
is_name [] = false
is_name (b ∷ s) =
    lower b && (eqb (run word_byte s) (length s) && (leb (length (b ∷ s)) name_limit && not (is_reserved (b ∷ s))))

-- a formula's text: some bytes, not too many, and no tab
unfoldable pub is_text : List ℕ → Bool
is_text s = ltb 0 (length s) && (leb (length s) text_limit && eqb (tab_place s) (length s))

-- the order that it names, open where it names none
unfoldable pub order_named : List ℕ → Option Order
order_named s =
    cond (same_bytes s (bytes_of "set")) (Some Set)
    (cond (same_bytes s (bytes_of "read")) (Some Read) None)

-- The declarations in a problem's lines, and those whose signal is not in use, as they are worked out.
-- Assumes nothing.
use Rattle.std.specs.Prelude.{ℕ, suc, Bool, false, not, cond, List, [], ◌∷◌, Option, Some, None}
use Rattle.basics.specs.Pieces.{field_at}
use Rattle.grammar.specs.Names.{Name, index_of}
use Rattle.lines.specs.declared.problem.Word.{Word}
use Rattle.lines.specs.declared.problem.Word.TheVariants.{Declare, Rule, Order as OrderWord, Unknown}
use Rattle.lines.specs.Lines.{SourceLine, ended, unended, word_of}
use Rattle.usage.specs.Used.{Declaration}

abbrev pub bytes_in : SourceLine → List ℕ
bytes_in (ended l) = l
bytes_in (unended l) = l

-- what a line adds, by its first word
abbrev pub by_word : Word → Declaration → List Declaration → List Declaration
by_word (Declare k) d ds = d ∷ ds
by_word Rule d ds = ds
by_word OrderWord d ds = ds
by_word Unknown d ds = ds

-- the declarations from one line on
unfoldable pub declarations : ℕ → List SourceLine → List Declaration
declarations line [] = []
declarations line (l ∷ ls) =
    by_word (word_of (field_at 0 (bytes_in l))) (record { line = line; name = field_at 1 (bytes_in l) }) (declarations (suc line) ls)

-- a test of bits says which signals are in use, and `names` has the name of each bit
module _ (used : ℕ → Bool) (names : List Name) where
  abbrev pub is_unused : Name → Bool
  is_unused name = not (used (index_of name names))

  -- those of some declarations that are not
  unfoldable pub unused_among : List Declaration → List Declaration
  unused_among [] = []
  unused_among (d ∷ ds) = cond (is_unused d.name) (d ∷ unused_among ds) (unused_among ds)

  -- from one line on
  abbrev pub unused_from : ℕ → List SourceLine → List Declaration
  unused_from line ls = unused_among (declarations line ls)

  -- whether a line declares such a signal
  abbrev pub unused_by : Word → Name → Bool
  unused_by (Declare k) name = is_unused name
  unused_by Rule name = false
  unused_by OrderWord name = false
  unused_by Unknown name = false

  unfoldable pub declares_unused : List ℕ → Bool
  declares_unused bytes = unused_by (word_of (field_at 0 bytes)) (field_at 1 bytes)

-- the line of the first of them
abbrev pub first_line : List Declaration → Option ℕ
first_line [] = None
first_line (d ∷ ds) = Some d.line

-- the line found so far, or else one more line, if it counts
abbrev pub first_of : Option ℕ → ℕ → Bool → Option ℕ
first_of (Some found) line counts = Some found
first_of None line counts = cond counts (Some line) None

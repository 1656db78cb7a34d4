-- What is written for a problem's text: its table or the refusal, from bytes to bytes; and what is due.
-- Assumes nothing.
use Rattle.tables.specs.Outcome.{table_with}
use Rattle.lines.specs.declared.refusal.Refusal.{Refusal}
use Rattle.tables.specs.declared.shape.Table.{Table}
use Rattle.std.specs.Prelude.{ℕ, ◌<◌, ◌⊎◌, Bool, cond, ◌||◌, List, [], ◌∷◌, ltb, length, Err, Ok, Result}
use Rattle.lines.specs.declared.refusal.Refusal.TheVariants.{ShortMemory}
use Rattle.lines.specs.Refusal.{Told, values, refused}
use Rattle.rules.specs.Problem.{read_problem}
use Rattle.basics.specs.Lists.{written}
use Rattle.game.specs.SolvedAs.{is_short, solved_from, told_solved, cells_from, table_after, work_after, Short, SolvedAs}
use Rattle.printer.specs.Limits.{text_size}
use Rattle.printer.specs.Text.{table_text, refusal_text}

-- the text of an answer, a table's from its cells
abbrev pub solved_text : List ℕ → Result Table Refusal → List ℕ
solved_text cells (Ok t) = table_text cells t.shape t.worst_case
solved_text cells (Err r) = refusal_text r

-- what is written for a source
unfoldable pub response : List ℕ → List ℕ
response source = let o = read_problem source in solved_text (cells_from o) (solved_from o)

-- lent memory that is too short, the text included
abbrev pub is_tight : ℕ → ℕ → ℕ → Bool
is_tight work table text = is_short work table || ltb text text_size

-- the answer, and what is left in the lent text, table and work memory
unfoldable pub responded_by : ℕ → ℕ → ℕ → List ℕ → Result ℕ Refusal
responded_by work table text source = cond (is_tight work table text) (Err ShortMemory) (Ok (length (response source)))

unfoldable pub bytes_for : ℕ → ℕ → ℕ → List ℕ → List ℕ
bytes_for work table text source = cond (is_tight work table text) [] (response source)

unfoldable pub response_after : ℕ → ℕ → List ℕ → List ℕ → List ℕ
response_after work table source text = written (bytes_for work table (length text) source) text

unfoldable pub responded_table : ℕ → ℕ → List ℕ → List ℕ → List ℕ
responded_table work text source table = cond (ltb text text_size) table (table_after work source table)

unfoldable pub responded_work : ℕ → ℕ → List ℕ → List ℕ
responded_work table text work = cond (ltb text text_size) work (work_after table work)

-- ---- what is due, of a source and the lengths of the lent memory: the answer in the reference's terms, and the bytes that are written
pub data RespondedAs (work table text : ℕ) (source : List ℕ) : Told → List ℕ → Type 0 where
  short_memory : Short work table ⊎ (text < text_size) → RespondedAs work table text source (refused 12 0) []
  -- the text of the answer that is due to the source
  answered : (¬ (Short work table ⊎ (text < text_size))) → (s : Result Table Refusal) (cells : List ℕ) → SolvedAs work table source (told_solved s) cells
      → RespondedAs work table text source (values (length (solved_text cells s) ∷ [])) (solved_text cells s)

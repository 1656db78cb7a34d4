-- What the printing call answers, what it leaves in the lent text, and what is due.
-- Assumes nothing.
use Rattle.lines.specs.declared.refusal.Refusal.{Refusal}
use Rattle.std.specs.Prelude.{ℕ, ◌≤◌, ◌<◌, ◌≡◌, cond, List, [], ◌∷◌, ltb, length, take, Err, Ok, Result}
use Rattle.lines.specs.declared.refusal.Refusal.TheVariants.{ShortMemory, BadTable}
use Rattle.lines.specs.Refusal.{Told, values, refused, told_refusal}
use Rattle.basics.specs.Lists.{written}
use Rattle.tables.specs.declared.shape.Shape.{Shape}
use Rattle.printer.specs.Limits.{text_size}
use Rattle.wellformed.specs.WellFormed.{Printable, is_printable}
use Rattle.printer.specs.Text.{table_text}

-- the text's length; 12 is tested before 13
unfoldable pub printed_by : List ℕ → Shape → ℕ → ℕ → Result ℕ Refusal
printed_by t shape worst room =
    cond (ltb room text_size) (Err ShortMemory)
    (cond (is_printable t shape worst) (Ok (length (table_text t shape worst))) (Err BadTable))

-- what is written, at the front of the text; a refusal writes nothing
unfoldable pub bytes_by : List ℕ → Shape → ℕ → ℕ → List ℕ
bytes_by t shape worst room = cond (ltb room text_size) [] (cond (is_printable t shape worst) (table_text t shape worst) [])

abbrev pub text_after : List ℕ → Shape → ℕ → List ℕ → List ℕ
text_after t shape worst text = written (bytes_by t shape worst (length text)) text

-- a text that printing some table gives
abbrev pub IsPrinted : List ℕ → Type 0
IsPrinted s =
    (t : List ℕ) × (shape : Shape) × (worst : ℕ) × (room : ℕ) × (printed_by t shape worst room ≡ Ok (length s)) × (bytes_by t shape worst room ≡ s)

-- ---- what is due

-- an answer in the reference's terms: the text's length, or a refusal's number and place
abbrev pub told_printed : Result ℕ Refusal → Told
told_printed (Ok n) = values (n ∷ [])
told_printed (Err r) = told_refusal r

-- the bytes of a text that are its own, by the answer
abbrev pub used_text : Result ℕ Refusal → List ℕ → List ℕ
used_text (Ok n) text = take n text
used_text (Err r) text = []

-- for a table to be printed into so much room: the answer, and the bytes that are written
pub data PrintedAs (t : List ℕ) (shape : Shape) (worst room : ℕ) : Told → List ℕ → Type 0 where
  short_memory : room < text_size → PrintedAs t shape worst room (refused 12 0) []
  bad_table : text_size ≤ room → (¬ Printable t shape worst) → PrintedAs t shape worst room (refused 13 0) []
  text : text_size ≤ room → Printable t shape worst
      → PrintedAs t shape worst room (values (length (table_text t shape worst) ∷ [])) (table_text t shape worst)

-- The theorems of this crate. Assumes nothing.
use Rattle.std.specs.Prelude.{Err, Ok}
use Prim.Native.Nat.{ℕ, ◌*◌, ◌≤◌, ◌<◌}
use mathlib.Core.Path.{◌≡◌}
use mathlib.Core.Logic.{◌↔◌, ◌⊎◌}
use mathlib.Core.Bool.{true}
use mathlib.Core.List.{List, [], ◌∷◌}
use lib.ListN.{length, take, drop, replicate}
use Rattle.tables.specs.Outcome.{table_with}
use Rattle.lines.specs.Refusal.{Told, values, refused}
use Rattle.rules.specs.Denotes.{Denotes}
use Rattle.rules.specs.Problem.{Problem}
use Rattle.play.specs.Cells.{row_size, table_size, rank_cell}
use Rattle.tables.specs.declared.shape.Shape.{Shape}
use Rattle.play.specs.Game.{Play, Strategy}
use Rattle.play.specs.Table.{table_strategy}
use Rattle.game.specs.Solution.{game_of}
use Rattle.game.specs.SolvedAs.{told_solved, table_after, Short, SolvedAs}
use Rattle.loader.specs.LoadedAs.{loaded_by, cells_by, table_after as loaded_table, told_shape}
use Rattle.stepping.specs.declared.position.Position.{Position}
use Rattle.printer.specs.Limits.{text_size}
use Rattle.printer.specs.Text.{table_text}
use Rattle.stepping.specs.Position.{start_of, step_of, is_stopped, left_of, told_answer, told_left, StartedAs, Held, Holds, SteppedAs, LeftAs}
use Rattle.stepping.specs.Stopping.{AllPossible, StopsWithin}
use Rattle.cabinet.specs.Print.{printed_by, bytes_by, text_after, told_printed, IsPrinted, PrintedAs}
use Rattle.cabinet.specs.Response.{responded_by, bytes_for, response_after, responded_table, responded_work, RespondedAs}
use Rattle.cabinet.specs.Running.{step_all, answer_to, Runs}
use Rattle.cabinet.proofs.ResponseLaws
use Rattle.stepping.proofs.AnswersDue
use Rattle.stepping.proofs.StopsInTime
use Rattle.cabinet.proofs.PrintedIffDue
use Rattle.cabinet.proofs.SolvedTable
use Rattle.cabinet.proofs.CarriedTable

-- ---- DEMAND 1 at the desk: for all lent memory the answers, in the reference's terms, and what is written to the text or the position are
-- exactly those that are due, by the cases of `RespondedAs`, `PrintedAs`, `StartedAs` and `SteppedAs`

-- the whole desk, from a problem's bytes to the bytes that are written: 12, or the text of the answer that is due to the problem
pub responding : (work table text : ℕ) (source : List ℕ) (a : Told) (bytes : List ℕ)
    → ((told_printed (responded_by work table text source) ≡ a) × (bytes_for work table text source ≡ bytes)) ↔ RespondedAs work table text source a bytes
responding = ResponseLaws.respond_iff

-- a refusal leaves the text as it was, and an answer all behind it
pub text_kept : (work table : ℕ) (source x : List ℕ) (number place : ℕ)
    → told_printed (responded_by work table (length x) source) ≡ refused number place → response_after work table source x ≡ x
text_kept = ResponseLaws.text_kept

pub text_rest : (work table : ℕ) (source x : List ℕ) (n : ℕ)
    → told_printed (responded_by work table (length x) source) ≡ values (n ∷ []) → drop n (response_after work table source x) ≡ drop n x
text_rest = ResponseLaws.text_rest

-- where any memory is too short, the table and the work memory are as they were; otherwise the table is as `solve` leaves it, and the work
-- memory all zero
pub memory_kept : (text : ℕ) (source t w : List ℕ) → Short (length w) (length t) ⊎ (text < text_size)
    → (responded_table (length w) text source t ≡ t) × (responded_work (length t) text w ≡ w)
memory_kept = ResponseLaws.memory_kept

pub memory_left : (text : ℕ) (source t w : List ℕ) → (¬ (Short (length w) (length t) ⊎ (text < text_size)))
    → (responded_table (length w) text source t ≡ table_after (length w) source t) × (responded_work (length t) text w ≡ replicate (length w) 0)
memory_left = ResponseLaws.memory_left

-- printing: 12, 13, or the table's text
pub printing : (t : List ℕ) (shape : Shape) (worst room : ℕ) (a : Told) (bytes : List ℕ)
    → ((told_printed (printed_by t shape worst room) ≡ a) × (bytes_by t shape worst room ≡ bytes)) ↔ PrintedAs t shape worst room a bytes
printing = PrintedIffDue.print_iff

pub print_kept : (t : List ℕ) (shape : Shape) (worst : ℕ) (x : List ℕ) (number place : ℕ)
    → told_printed (printed_by t shape worst (length x)) ≡ refused number place → text_after t shape worst x ≡ x
print_kept = PrintedIffDue.text_kept

pub print_rest : (t : List ℕ) (shape : Shape) (worst : ℕ) (x : List ℕ) (n : ℕ)
    → told_printed (printed_by t shape worst (length x)) ≡ values (n ∷ []) → drop n (text_after t shape worst x) ≡ drop n x
print_rest = PrintedIffDue.text_rest

-- the start: 13, or row 0, under `Set` with its choice
pub starting : (t : List ℕ) (shape : Shape) (old : Position) (a : Told) (p : Position)
    → ((told_answer (start_of t shape old).answer ≡ a) × ((start_of t shape old).position ≡ p)) ↔ StartedAs t shape old a p
starting = AnswersDue.start_iff

-- a step: 13, 14, 15 in this order, or the next row for the observation, under `Set` with that row's choice, under `Read` with the old row's
-- for the observation
pub stepping : (t : List ℕ) (shape : Shape) (observation : ℕ) (old : Position) (a : Told) (p : Position)
    → ((told_answer (step_of t shape observation old).answer ≡ a) × ((step_of t shape observation old).position ≡ p))
    ↔ SteppedAs t shape observation old a p
stepping = AnswersDue.step_iff

-- the steps left: 13, or the rank of the row
pub steps_left : (t : List ℕ) (shape : Shape) (p : Position) (a : Told) → (told_left (left_of t shape p) ≡ a) ↔ LeftAs t shape p a
steps_left = AnswersDue.left_iff

-- the position is told to be stopped exactly where a step is refused with 14, whatever the observation
pub stopped : (t : List ℕ) (shape : Shape) (observation : ℕ) (p : Position)
    → (is_stopped t shape p ≡ true) ↔ (told_answer (step_of t shape observation p).answer ≡ refused 14 0)
stopped = AnswersDue.stopped_iff

-- ---- printing and loading undo each other (`loader/proofs/Main` has what is loaded from any text)

-- a text is accepted exactly where printing some table gives it
pub accepted : (s : List ℕ) (cells : ℕ) → table_size ≤ cells → ((shape : Shape) × (worst : ℕ) × (loaded_by cells s ≡ Ok (table_with shape worst))) ↔ IsPrinted s
accepted = CarriedTable.accepted_iff

-- printing what was loaded gives the text again
pub print_loaded : (s t : List ℕ) (shape : Shape) (worst : ℕ) → loaded_by (length t) s ≡ Ok (table_with shape worst) → (room : ℕ) → text_size ≤ room
    → (printed_by (loaded_table s t) shape worst room ≡ Ok (length s)) × (bytes_by (loaded_table s t) shape worst room ≡ s)
print_loaded = CarriedTable.print_loaded

-- a cabinet that runs what was loaded never meets number 13: started at any old position and stepped with any observations, it stands on a row,
-- so that the next step is 14, 15 or a move (`stepping`)
pub loaded_holds : (s t : List ℕ) (shape : Shape) (worst : ℕ) → loaded_by (length t) s ≡ Ok (table_with shape worst) → (old : Position) (h : List ℕ)
    → Holds (loaded_table s t) shape (step_all (loaded_table s t) shape (start_of (loaded_table s t) shape old) h).position
loaded_holds = CarriedTable.loaded_holds

-- loading what was printed gives the used rows again, and their shape: a table whose rows all stop does not show how many signals are observed,
-- and is loaded with none
pub load_printed : (t : List ℕ) (shape : Shape) (worst room n : ℕ) → printed_by t shape worst room ≡ Ok n → (cells : ℕ) → table_size ≤ cells
    → (loaded_by cells (bytes_by t shape worst room) ≡ Ok (table_with (told_shape t shape) worst))
    × (cells_by cells (bytes_by t shape worst room) ≡ take (shape.rows * row_size shape.order) t)
load_printed = CarriedTable.load_printed

-- ---- a table stops within the number shown, solved or not, under either order

-- a step that is answered leads to a lower rank, whatever the table
pub step_lowers : (t : List ℕ) (shape : Shape) (observation c : ℕ) (p : Position)
    → told_answer (step_of t shape observation p).answer ≡ values (c ∷ [])
    → rank_cell shape.order t (step_of t shape observation p).position.row < rank_cell shape.order t p.row
step_lowers = StopsInTime.step_lowers

-- any table that is loaded, stepped with any possible observations
module _ (s t : List ℕ) (shape : Shape) (worst : ℕ) (loads : loaded_by (length t) s ≡ Ok (table_with shape worst))
    (observation : ℕ → ℕ) (possible : AllPossible shape observation) where
  -- started at any old position it is answered; it is refused nothing before it stops, and stops within the worst case that the text tells
  pub loaded_stops : (old : Position)
      → (c : ℕ) × (told_answer (start_of (loaded_table s t) shape old).answer ≡ values (c ∷ []))
      × StopsWithin (loaded_table s t) shape observation (start_of (loaded_table s t) shape old).position worst
  loaded_stops = CarriedTable.loaded_stops s t shape worst loads observation possible

  -- so it does from each row, within the row's rank
  pub stops_from : (p : Position) → p.row < shape.rows → Held shape.order (loaded_table s t) p
      → StopsWithin (loaded_table s t) shape observation p (rank_cell shape.order (loaded_table s t) p.row)
  stops_from = CarriedTable.stops_from s t shape worst loads observation possible

-- ---- DEMAND 3 carried to the desk

-- of a table that the solver gives (`SolvedAs` is what its contract says of it), for the problem p that the text denotes
module _ (work room : ℕ) (source : List ℕ) (shape : Shape) (r : ℕ) (table : List ℕ)
    (due : SolvedAs work room source (told_solved (Ok (table_with shape r))) (take (shape.rows * row_size shape.order) table)) (p : Problem)
    (denotes : Denotes source p) where
  -- its rows, read as a strategy of its order, which is the problem's
  abbrev strategy : Strategy shape.order
  strategy = table_strategy shape.order (take (shape.rows * row_size shape.order) table)

  pub ordered : shape.order ≡ p.order
  ordered = SolvedTable.ordered work room source shape r table due p denotes

  -- the running cabinet, under either order: started at any old position and stepped with the observations of any play, it makes the
  -- strategy's choices, is refused nothing, and stops within the worst case with a trace that satisfies the problem
  pub running : (old : Position) (play : Play (game_of p)) → Runs (game_of p) strategy r (answer_to table shape old) play
  running = SolvedTable.running work room source shape r table due p denotes

  -- printing it into enough room is never refused
  pub printed : (text : ℕ) → text_size ≤ text
      → (printed_by table shape r text ≡ Ok (length (table_text table shape r))) × (bytes_by table shape r text ≡ table_text table shape r)
  printed = SolvedTable.printed work room source shape r table due p denotes

  -- carried on a card, its text loaded into any table of enough cells, the running cabinet has the same promise
  module _ (t : List ℕ) (enough : table_size ≤ length t) where
    pub carried : loaded_by (length t) (table_text table shape r) ≡ Ok (table_with shape r)
    carried = CarriedTable.carried work room source shape r table due p denotes t enough

    pub carried_running : (old : Position) (play : Play (game_of p))
        → Runs (game_of p) strategy r (answer_to (loaded_table (table_text table shape r) t) shape old) play
    carried_running = CarriedTable.carried_running work room source shape r table due p denotes t enough

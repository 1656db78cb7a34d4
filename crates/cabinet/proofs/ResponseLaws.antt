-- What is written for a problem's text, from what the calls below answer.
-- Assumes nothing.
use Rattle.tables.specs.Outcome.{table_with}
use Rattle.tables.specs.declared.shape.Table.{Table}
use Rattle.std.specs.Prelude.{Err, Ok, Result}
use Prim.Native.Nat.{ℕ, ◌*◌, ◌≤◌, ◌<◌}
use native.Mathlib.Omega.{arith}
use mathlib.Core.Path.{◌≡◌, refl, sym, ap, ◌∙◌, subst}
use mathlib.Core.Logic.{◌↔◌, ◌⊎◌, inl, inr}
use mathlib.Core.Bool.{true, false}
use mathlib.Core.List.{List, [], ◌∷◌}
use lib.Dec.{ltb}
use lib.ListN.{length, take, drop, length-take, replicate}
use lib.Seq.{take-take, take_at}
use borrow.Author.Tests.{ltb-false, lt-ltb}
use Rattle.lines.specs.declared.refusal.Refusal.{Refusal}
use Rattle.lines.specs.declared.refusal.Refusal.TheVariants.{ShortMemory}
use Rattle.lines.specs.Refusal.{Told, values, refused}
use Rattle.rules.specs.Denotes.{Denotes}
use Rattle.rules.specs.Problem.{Problem, read_problem}
use Rattle.basics.proofs.Booleans.{or_left, or_right, test, clash, or_cases}
use Rattle.play.specs.Limits.{belief_limit}
use Rattle.play.specs.Cells.{row_size, table_size}
use Rattle.rules.specs.Limits.{work_size}
use Rattle.tables.specs.declared.shape.Shape.{Shape}
use Rattle.basics.specs.Lists.{written}
use Rattle.basics.proofs.ListsLaws.{written_rest}
use Rattle.basics.specs.Says.{Says}
use Rattle.basics.proofs.SaysLaws.{says_or, says_false, lt_says}
use Rattle.game.specs.SolvedAs.{is_short, solved_from, solved_by, told_solved, cells_from, cells_by, table_after, work_after, used_rows}
use Rattle.game.specs.SolvedAs.{Controller, Short, SolvedAs}
use Rattle.game.proofs.SolvedAsLaws.{short_says, not_short, due_read, answered_iff, RowCells, due_cells, same_solved}
use Rattle.game.proofs.LentMemory.{work_kept, work_cleared}
use Rattle.game.proofs.SolvedAsCases.{due_table}
use Rattle.printer.specs.Limits.{text_size}
use Rattle.wellformed.specs.WellFormed.{is_printable}
use Rattle.printer.specs.Text.{table_text, refusal_text}
use Rattle.cabinet.specs.Print.{printed_by, bytes_by, text_after, told_printed, used_text}
use Rattle.cabinet.specs.Response.{solved_text, response, is_tight, responded_by, bytes_for, response_after, responded_table}
use Rattle.cabinet.specs.Response.{responded_work, RespondedAs, short_memory, answered}
use Rattle.cabinet.proofs.PrintedIffDue.{OwnBytes}
use Rattle.wellformed.proofs.TestsSay.{printable_says}
use Rattle.cabinet.proofs.SolvedTable.{can_print}

-- the whole call: its answer, and what it leaves in text, table and work memory
abbrev Responded : (source work table text : List ℕ) → Result ℕ Refusal → (text' table' work' : List ℕ) → Type 0
Responded source work table text r text' table' work' =
    (r ≡ responded_by (length work) (length table) (length text) source) × (text' ≡ response_after (length work) (length table) source text)
    × (table' ≡ responded_table (length work) (length text) source table) × (work' ≡ responded_work (length table) (length text) work)
    × RespondedAs (length work) (length table) (length text) source (told_printed r) (used_text r text')

tight_says : (work table text : ℕ) → Says (is_tight work table text) (Short work table ⊎ (text < text_size))
tight_says work table text = says_or (short_says work table) (lt_says text text_size)

-- memory that is too short
pub tight_right : (source work table text : List ℕ) → is_tight (length work) (length table) (length text) ≡ true
    → Responded source work table text (Err ShortMemory) text table work
unfolding responded_by bytes_for response_after responded_table responded_work cells_by work_after
tight_right source work table text e =
    let due : RespondedAs (length work) (length table) (length text) source (refused 12 0) [] =
    short_memory ((tight_says (length work) (length table) (length text)).0 e) in
    elim (test (ltb (length text) text_size)) [
      | inl t ↦ rw (e, t) (refl, refl, refl, refl, due)
      | inr f ↦
          let short : is_short (length work) (length table) ≡ true =
          elim (or_cases (is_short (length work) (length table)) (ltb (length text) text_size) e) [ inl s ↦ s | inr t ↦ clash t f ] in
          rw (e, f, short) (refl, refl, refl, refl, due)
    ]

-- what is written, by cases
module _ (source : List ℕ) where
  response_refused : (x : Refusal) → solved_from (read_problem source) ≡ Err x → response source ≡ refusal_text x
  unfolding response
  response_refused x h = rw h

  response_table : (shape : Shape) (r : ℕ) → solved_from (read_problem source) ≡ Ok (table_with shape r)
      → response source ≡ table_text (cells_from (read_problem source)) shape r
  unfolding response
  response_table shape r h = rw h

-- the cells of a table that is answered are those of its rows
cells_count : (source : List ℕ) (shape : Shape) (r : ℕ) → solved_from (read_problem source) ≡ Ok (table_with shape r)
    → length (cells_from (read_problem source)) ≡ shape.rows * row_size shape.order
cells_count source shape r e =
    subst (λ z. RowCells (told_solved z) (cells_from (read_problem source))) e
    (due_cells work_size table_size source _ _ (due_read source work_size table_size (not_short work_size table_size refl)))
    shape.rows shape.observed r shape.order refl

-- memory that is long enough
pub text_long : (work table text : ℕ) → is_tight work table text ≡ false → text_size ≤ text
text_long work table text e = ltb-false text text_size (or_right (is_short work table) (ltb text text_size) e)

module _ (source work table text : List ℕ) (e : is_tight (length work) (length table) (length text) ≡ false)
    (s : Result Table Refusal) (table' work' : List ℕ) (answer : s ≡ solved_by (length work) (length table) source)
    (rows : table' ≡ table_after (length work) source table) (cleared : work' ≡ work_after (length table) work) where
  enough : is_short (length work) (length table) ≡ false
  enough = or_left (is_short (length work) (length table)) (ltb (length text) text_size) e

  long : ltb (length text) text_size ≡ false
  long = or_right (is_short (length work) (length table)) (ltb (length text) text_size) e

  is_solved : s ≡ solved_from (read_problem source)
  unfolding solved_by
  is_solved = answer ∙ rw enough

  is_written : table' ≡ written (cells_from (read_problem source)) table
  unfolding cells_by
  is_written = rows ∙ rw enough

  -- what is written is the text of the answer that is due
  response_due : RespondedAs (length work) (length table) (length text) source (values (length (response source) ∷ [])) (response source)
  unfolding response
  response_due =
      answered (λ t. clash ((tight_says (length work) (length table) (length text)).1 t) e) (solved_from (read_problem source)) (cells_from (read_problem source))
      (due_read source (length work) (length table) (not_short (length work) (length table) enough))

  responded : (r : Result ℕ Refusal) (text' : List ℕ) → r ≡ Ok (length (response source)) → text' ≡ written (response source) text
      → Responded source work table text r text' table' work'
  unfolding responded_by bytes_for response_after responded_table responded_work
  responded r text' p q =
      let own = take_at (response source) (drop (length (response source)) text) (length (response source)) refl in
      rw (e, long) (p, q, rows, cleared, rw (p, q, own) response_due)

  -- the text of a refusal
  pub refusal_right : (x : Refusal) → s ≡ Err x → (r : Result ℕ Refusal) (text' : List ℕ) → r ≡ Ok (length (refusal_text x)) → text' ≡ written
      (refusal_text x) text
      → Responded source work table text r text' table' work'
  refusal_right x h r text' p q =
      let is : response source ≡ refusal_text x = response_refused source x (sym is_solved ∙ h) in
      responded r text' (p ∙ ap (λ l. Ok (length l)) (sym is)) (q ∙ ap (λ l. written l text) (sym is))

  -- the text of a table: it is one that can be printed
  module _ (shape : Shape) (r : ℕ) (h : s ≡ Ok (table_with shape r))
      (due : SolvedAs (length work) (length table) source (told_solved s) (used_rows s table')) where
    -- how many cells its rows have
    abbrev size : ℕ
    size = shape.rows * row_size shape.order

    is_table_lem : solved_from (read_problem source) ≡ Ok (table_with shape r)
    is_table_lem = sym is_solved ∙ h

    table_due : SolvedAs (length work) (length table) source (told_solved (Ok (table_with shape r))) (take size table')
    table_due = subst (λ z. SolvedAs (length work) (length table) source (told_solved z) (used_rows z table')) h due

    controller : (p : Problem) × Denotes source p × (shape.observed ≡ p.signals.observed) × (shape.order ≡ p.order)
        × Controller p shape.rows r (take size table')
    controller = due_table (length work) (length table) source shape.rows shape.observed r shape.order (take size table') table_due

    front : take size table' ≡ cells_from (read_problem source)
    front = ap (take size) is_written ∙ take_at (cells_from (read_problem source)) _ size (cells_count source shape r is_table_lem)

    front_due : SolvedAs (length work) (length table) source (told_solved (Ok (table_with shape r))) (take size (take size table'))
    front_due =
        subst (SolvedAs (length work) (length table) source (told_solved (Ok (table_with shape r)))) (sym (take-take size size table' (omega arith)))
        table_due

    -- its rows are few
    pub few_rows : shape.rows ≤ belief_limit
    few_rows = let (p, d, k, o, c) = controller in c.solves.within

    prints : is_printable (take size table') shape r ≡ true
    prints =
        let (p, d, k, o, c) = controller in
        (printable_says (take size table') shape r).1
        (can_print (length work) (length table) source shape r (take size table') front_due p d)

    -- they end where the code says
    module _ (end : ℕ) (ends : end ≡ size) where
      pub rows_within : end ≤ length table'
      rows_within =
          let (p, d, k, o, c) = controller in
          let long : length (take size table') ≡ size = c.is_table.long ∙ ap (λ q. shape.rows * row_size q) (sym o) in
          omega (arith, ends, sym (length-take size table') ∙ long)

      pub table_right : (q : Result ℕ Refusal) (text' : List ℕ) → q ≡ printed_by (take end table') shape r (length text)
          → text' ≡ text_after (take end table') shape r text → Responded source work table text q text' table' work'
      unfolding printed_by bytes_by
      table_right q text' p t =
          let is : table_text (take size table') shape r ≡ response source =
          ap (λ cells. table_text cells shape r) front ∙ sym (response_table source shape r is_table_lem) in
          responded q text' (p ∙ rw (ends, long, prints) (ap (λ l. Ok (length l)) is)) (t ∙ rw (ends, long, prints) (ap (λ l. written l text) is))

-- ---- what is answered and written is what is due, and what is due is answered and written

module _ (work table text : ℕ) (source : List ℕ) where
  respond_due : RespondedAs work table text source (told_printed (responded_by work table text source)) (bytes_for work table text source)
  unfolding responded_by bytes_for response
  respond_due =
      elim (test (is_tight work table text)) [
        | inl t ↦ rw t (short_memory ((tight_says work table text).0 t))
        | inr f ↦
            rw f (answered (λ t. clash ((tight_says work table text).1 t) f) (solved_from (read_problem source)) (cells_from (read_problem source))
            (due_read source work table (not_short work table (or_left (is_short work table) (ltb text text_size) f))))
      ]

  response_is : (s : Result Table Refusal) (cells : List ℕ) → SolvedAs work table source (told_solved s) cells → is_short work table ≡ false
      → response source ≡ solved_text cells s
  unfolding response solved_by cells_by
  response_is s cells d f =
      let (a, c) = (answered_iff source work table (told_solved s) cells).1 d in
      let same : solved_from (read_problem source) ≡ s = same_solved (solved_from (read_problem source)) s (rw f at a) in
      let front : cells_from (read_problem source) ≡ cells = rw f at c in
      rw (same, front) refl

  respond_answered : (a : Told) (bytes : List ℕ) → RespondedAs work table text source a bytes
      → (told_printed (responded_by work table text source) ≡ a) × (bytes_for work table text source ≡ bytes)
  unfolding responded_by bytes_for
  respond_answered a bytes (short_memory t) = rw ((tight_says work table text).1 t) (refl, refl)
  respond_answered a bytes (answered n s cells d) =
      let loose : is_tight work table text ≡ false = says_false (tight_says work table text) n in
      let is : response source ≡ solved_text cells s = response_is s cells d (or_left (is_short work table) (ltb text text_size) loose) in
      rw (loose, is) (refl, refl)

  pub respond_iff : (a : Told) (bytes : List ℕ)
      → ((told_printed (responded_by work table text source) ≡ a) × (bytes_for work table text source ≡ bytes)) ↔ RespondedAs work table text source a bytes
  respond_iff a bytes = (
    λ e. subst (RespondedAs work table text source a) e.1
        (subst (λ b. RespondedAs work table text source b (bytes_for work table text source)) e.0 respond_due),
    respond_answered a bytes,
  )

  -- a refusal writes nothing, and a text as many bytes as it tells
  respond_counted : OwnBytes (told_printed (responded_by work table text source)) (bytes_for work table text source)
  respond_counted = counted (told_printed (responded_by work table text source)) (bytes_for work table text source) respond_due
    where
      counted : (a : Told) (bytes : List ℕ) → RespondedAs work table text source a bytes → OwnBytes a bytes
      counted a bytes (short_memory t) = refl
      counted a bytes (answered n s cells d) = refl

-- ---- what is left in lent memory

module _ (work table : ℕ) (source x : List ℕ) where
  pub text_kept : (number place : ℕ) → told_printed (responded_by work table (length x) source) ≡ refused number place → response_after work table source x ≡ x
  unfolding response_after
  text_kept number place e =
      ap (λ b. written b x) (subst (λ a. OwnBytes a (bytes_for work table (length x) source)) e (respond_counted work table (length x) source))

  pub text_rest : (n : ℕ) → told_printed (responded_by work table (length x) source) ≡ values (n ∷ []) → drop n (response_after work table source x) ≡ drop n x
  unfolding response_after
  text_rest n e =
      written_rest (bytes_for work table (length x) source) x n
      (subst (λ a. OwnBytes a (bytes_for work table (length x) source)) e (respond_counted work table (length x) source))

module _ (text : ℕ) (source t w : List ℕ) where
  -- where any memory is too short, table and work memory are as they were
  pub memory_kept : Short (length w) (length t) ⊎ (text < text_size)
      → (responded_table (length w) text source t ≡ t) × (responded_work (length t) text w ≡ w)
  unfolding responded_table responded_work cells_by
  memory_kept (inr h) = rw (lt-ltb text text_size h) (refl, refl)
  memory_kept (inl s) =
      elim (test (ltb text text_size)) [
        | inl h ↦ rw h (refl, refl)
        | inr h ↦ rw (h, (short_says (length w) (length t)).1 s) (refl, work_kept (length t) w s)
      ]

  -- otherwise the table is as `solve` leaves it, and the work memory all zero
  pub memory_left : (¬ (Short (length w) (length t) ⊎ (text < text_size)))
      → (responded_table (length w) text source t ≡ table_after (length w) source t) × (responded_work (length t) text w ≡ replicate (length w) 0)
  unfolding responded_table responded_work
  memory_left n =
      let long : ltb text text_size ≡ false = says_false (lt_says text text_size) (λ h. n (inr h)) in
      rw long (refl, work_cleared (length t) w (λ s. n (inl s)))

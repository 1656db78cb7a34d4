-- Tables carried as text: printing what was loaded, loading what was printed; and a table that the solver gives, printed, loaded and run.
-- Assumes nothing.
use Rattle.std.specs.Prelude.{Err, Ok}
use Prim.Native.Nat.{ℕ, ◌*◌, ◌≤◌, ◌<◌}
use native.Mathlib.Nat.{le_refl}
use mathlib.Core.Path.{◌≡◌, refl, sym, ap, ◌∙◌, subst}
use mathlib.Core.Logic.{◌↔◌, inl, inr}
use mathlib.Core.Bool.{true, false}
use mathlib.Core.List.{List, [], ◌∷◌}
use lib.Dec.{ltb}
use lib.ListN.{length, take}
use borrow.Author.Tests.{le-ltb, ltb-false}
use Rattle.tables.specs.Outcome.{table_with}
use Rattle.basics.proofs.Booleans.{test}
use Rattle.basics.proofs.BoundedLaws.{all_fails}
use Rattle.basics.proofs.ListsLaws.{front_in, front_taken}
use Rattle.lines.proofs.RefusalLaws.{told_apart}
use Rattle.lines.specs.Refusal.{values}
use Rattle.rules.specs.Denotes.{Denotes}
use Rattle.rules.specs.Problem.{Problem}
use Rattle.play.specs.Cells.{row_size, table_size, is_stop, rank_cell}
use Rattle.play.proofs.CellsLaws.{stop_taken}
use Rattle.play.specs.Game.{Play}
use Rattle.play.specs.Table.{table_strategy}
use Rattle.tables.specs.declared.shape.Shape.{Shape}
use Rattle.game.specs.Solution.{game_of}
use Rattle.game.specs.SolvedAs.{told_solved, SolvedAs}
use Rattle.loader.specs.LoadedAs.{loaded_by, cells_by, table_after, told_loaded, IsPrint, TableOf, told_shape}
use Rattle.loader.proofs.LoadedIffDue.{accepted_iff as print_iff, loaded_iff}
use Rattle.loader.proofs.SameRows.{behind_rows, table_of_print}
use Rattle.printer.specs.Limits.{text_size}
use Rattle.printer.specs.Text.{table_text}
use Rattle.wellformed.specs.WellFormed.{Printable, is_printable}
use Rattle.wellformed.proofs.TestsSay.{printable_says, printable_row}
use Rattle.stepping.specs.declared.position.Position.{Position}
use Rattle.stepping.specs.declared.position.Moved.{Moved}
use Rattle.stepping.specs.Position.{start_of, step_of, told_answer, Standing, Held, Holds}
use Rattle.stepping.specs.Stopping.{AllPossible, StopsWithin}
use Rattle.cabinet.specs.Print.{printed_by, bytes_by, told_printed, IsPrinted}
use Rattle.cabinet.specs.Running.{step_all, answer_to, Runs}
use Rattle.stepping.proofs.StopsInTime.{start_holds, step_holds, stops_from as any_stops_from, stops_started}
use Rattle.cabinet.proofs.RunningLaws.{row_goes}
use Rattle.cabinet.proofs.SolvedTable.{some, running, can_print, solves}

-- a table that is not refused is printed as its text
printed_so : (s t : List ℕ) (shape : Shape) (worst room : ℕ) → text_size ≤ room → Printable t shape worst → table_text t shape worst ≡ s
    → (printed_by t shape worst room ≡ Ok (length s)) × (bytes_by t shape worst room ≡ s)
unfolding printed_by bytes_by
printed_so s t shape worst room h p e =
    rw (le-ltb room text_size h, (printable_says t shape worst).1 p) (ap (λ x. Ok (length x)) e, e)

-- ---- printing what was loaded

-- where a table was loaded, there was room for it
had_room : (room : ℕ) (s : List ℕ) (shape : Shape) (worst : ℕ) → loaded_by room s ≡ Ok (table_with shape worst) → table_size ≤ room
unfolding loaded_by
had_room room s shape worst e =
    elim (test (ltb room table_size)) [
      | inl l ↦ told_apart (ap told_loaded (rw l at e))
      | inr l ↦ ltb-false room table_size l
    ]

module _ (s t : List ℕ) (shape : Shape) (worst : ℕ) (e : loaded_by (length t) s ≡ Ok (table_with shape worst)) where
  abbrev cells : List ℕ
  cells = cells_by (length t) s

  is : TableOf s shape worst cells
  is = (loaded_iff s (length t) (had_room (length t) s shape worst e) shape worst cells).0 (e, refl)

  loaded_rows : take (shape.rows * row_size shape.order) (table_after s t) ≡ cells
  loaded_rows = front_taken cells t (table_after s t) (shape.rows * row_size shape.order) (sym is.exact) refl

  printable : Printable (table_after s t) shape worst
      × (table_text (table_after s t) shape worst ≡ table_text (take (shape.rows * row_size shape.order) (table_after s t)) shape worst)
  printable =
      behind_rows (table_after s t) shape worst (front_in cells t (table_after s t) (shape.rows * row_size shape.order) (sym is.exact) refl)
      (subst (λ c. Printable c shape worst) (sym loaded_rows) is.printable)

  loaded_text : table_text (table_after s t) shape worst ≡ s
  loaded_text = printable.1 ∙ ap (λ c. table_text c shape worst) loaded_rows ∙ is.prints

  pub print_loaded : (room : ℕ) → text_size ≤ room
      → (printed_by (table_after s t) shape worst room ≡ Ok (length s)) × (bytes_by (table_after s t) shape worst room ≡ s)
  print_loaded room h = printed_so s (table_after s t) shape worst room h printable.0 loaded_text

  -- a cabinet may stand on every row of it ..
  standing : (row : ℕ) → row < shape.rows → Standing (table_after s t) shape row
  standing row h =
      record { sized = printable.0.shaped.sized; inside = h; good = printable_row (table_after s t) shape worst printable.0 row h }

  some_row : 0 < shape.rows
  some_row = printable.0.shaped.sized.some

  -- .. so it stands on a row after every step
  steps_hold : (h : List ℕ) (m : Moved) → Holds (table_after s t) shape m.position → Holds (table_after s t) shape (step_all (table_after s t) shape m h).position
  steps_hold [] m k = k
  steps_hold (o ∷ h) m k =
      steps_hold h (step_of (table_after s t) shape o m.position) (step_holds (table_after s t) shape standing o m.position k)

  pub loaded_holds : (old : Position) (h : List ℕ)
      → Holds (table_after s t) shape (step_all (table_after s t) shape (start_of (table_after s t) shape old) h).position
  loaded_holds old h = steps_hold h (start_of (table_after s t) shape old) (start_holds (table_after s t) shape standing some_row old)

  -- and it stops within the number shown
  module _ (observation : ℕ → ℕ) (possible : AllPossible shape observation) where
    pub stops_from : (p : Position) → p.row < shape.rows → Held shape.order (table_after s t) p
        → StopsWithin (table_after s t) shape observation p (rank_cell shape.order (table_after s t) p.row)
    stops_from p h k = any_stops_from (table_after s t) shape standing observation possible p (standing p.row h, k)

    pub loaded_stops : (old : Position)
        → (c : ℕ) × (told_answer (start_of (table_after s t) shape old).answer ≡ values (c ∷ []))
        × StopsWithin (table_after s t) shape observation (start_of (table_after s t) shape old).position worst
    loaded_stops old =
        subst (λ (r : ℕ). (c : ℕ) × (told_answer (start_of (table_after s t) shape old).answer ≡ values (c ∷ []))
        × StopsWithin (table_after s t) shape observation (start_of (table_after s t) shape old).position r)
        printable.0.first (stops_started (table_after s t) shape standing some_row observation possible old)

-- ---- loading what was printed

-- what was printed is the text of a table that the printer does not refuse
was_printed : (t : List ℕ) (shape : Shape) (worst room n : ℕ) → printed_by t shape worst room ≡ Ok n
    → (is_printable t shape worst ≡ true) × (bytes_by t shape worst room ≡ table_text t shape worst)
unfolding printed_by bytes_by
was_printed t shape worst room n e =
    elim (test (ltb room text_size)) [
      | inl l ↦ told_apart (ap told_printed (rw l at e))
      | inr l ↦
          elim (test (is_printable t shape worst)) [
            | inl p ↦ rw (l, p) (refl, refl)
            | inr p ↦ told_apart (ap told_printed (rw (l, p) at e))
          ]
    ]

-- a text is accepted exactly where printing some table gives it
is_printed : (s : List ℕ) → IsPrint s → IsPrinted s
is_printed s (t, shape, worst, p, e) = let (a, b) = printed_so s t shape worst text_size (le_refl text_size) p e in (t, shape, worst, text_size, a, b)

is_print : (s : List ℕ) → IsPrinted s → IsPrint s
is_print s (t, shape, worst, room, e, q) =
    let (p, x) = was_printed t shape worst room (length s) e in
    (t, shape, worst, (printable_says t shape worst).0 p, sym x ∙ q)

pub accepted_iff : (s : List ℕ) (cells : ℕ) → table_size ≤ cells → ((shape : Shape) × (worst : ℕ) × (loaded_by cells s ≡ Ok (table_with shape worst))) ↔ IsPrinted s
accepted_iff s cells h = (λ a. is_printed s ((print_iff s cells h).0 a), λ p. (print_iff s cells h).1 (is_print s p))

pub load_printed : (t : List ℕ) (shape : Shape) (worst room n : ℕ) → printed_by t shape worst room ≡ Ok n → (cells : ℕ) → table_size ≤ cells
    → (loaded_by cells (bytes_by t shape worst room) ≡ Ok (table_with (told_shape t shape) worst))
    × (cells_by cells (bytes_by t shape worst room) ≡ take (shape.rows * row_size shape.order) t)
load_printed t shape worst room n e cells h =
    let (p, q) = was_printed t shape worst room n e in
    rw q
    ((loaded_iff (table_text t shape worst) cells h (told_shape t shape) worst (take (shape.rows * row_size shape.order) t)).1
    (table_of_print t shape worst ((printable_says t shape worst).0 p)))

-- ---- a table that the solver gives

module _ (work room : ℕ) (source : List ℕ) (shape : Shape) (r : ℕ) (table : List ℕ)
    (due : SolvedAs work room source (told_solved (Ok (table_with shape r))) (take (shape.rows * row_size shape.order) table)) (p : Problem)
    (denotes : Denotes source p) where
  abbrev used : List ℕ
  used = take (shape.rows * row_size shape.order) table

  begins : 0 < shape.rows
  begins = some work room source shape r table due p denotes

  -- row 0 goes on, so the text tells the number of observed signals
  goes : is_stop shape.order table 0 ≡ false
  goes =
      let (a, opens) = (solves work room source shape r table due p denotes).optimal.is_strategy.opens in
      sym (stop_taken shape.order shape.rows table 0 begins) ∙ (row_goes shape.order used 0 a opens).0

  told : told_shape table shape ≡ shape
  told = rw (all_fails shape.rows (is_stop shape.order table) 0 begins goes) refl

  module _ (t : List ℕ) (h : table_size ≤ length t) where
    abbrev text : List ℕ
    text = table_text table shape r

    loads : (loaded_by (length t) text ≡ Ok (table_with (told_shape table shape) r)) × (cells_by (length t) text ≡ used)
    loads =
        (loaded_iff text (length t) h (told_shape table shape) r used).1
        (table_of_print table shape r (can_print work room source shape r table due p denotes))

    pub carried : loaded_by (length t) text ≡ Ok (table_with shape r)
    carried = subst (λ x. loaded_by (length t) text ≡ Ok (table_with x r)) told loads.0

    same_rows : take (shape.rows * row_size shape.order) (table_after text t) ≡ used
    same_rows = loaded_rows text t shape r carried ∙ loads.1

    pub carried_running : (old : Position) (play : Play (game_of p))
        → Runs (game_of p) (table_strategy shape.order used) r (answer_to (table_after text t) shape old) play
    carried_running old play =
        subst (λ c. Runs (game_of p) (table_strategy shape.order c) r (answer_to (table_after text t) shape old) play) same_rows
        (running work room source shape r (table_after text t)
        (subst (SolvedAs work room source (told_solved (Ok (table_with shape r)))) (sym same_rows) due) p denotes old play)

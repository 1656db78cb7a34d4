-- What is answered is what is due: demand 3, both ways.
-- Assumes nothing.
use Rattle.tables.specs.declared.shape.Table.{Table}
use Rattle.lines.specs.declared.refusal.Refusal.{Refusal}
use Rattle.std.specs.Prelude.{Ok, Err, Result}
use Prim.Native.Nat.{ℕ, ◌*◌}
use mathlib.Core.Path.{◌≡◌, refl, sym, ap, ◌∙◌, subst}
use mathlib.Core.Logic.{◌↔◌, inl, inr}
use mathlib.Core.Bool.{false}
use mathlib.Core.List.{List, [], ◌∷◌}
use lib.ListN.{length}
use Rattle.basics.specs.Says.{Says}
use Rattle.basics.proofs.Booleans.{test, clash}
use Rattle.basics.proofs.SaysLaws.{says_or, says_false, lt_says}
use Rattle.lines.specs.Refusal.{Told, values, refused, number_of, place_of}
use Rattle.lines.proofs.RefusalLaws.{same_told, told_apart}
use Rattle.rules.specs.Limits.{work_size}
use Rattle.rules.specs.Problem.{Problem, Outcome, accepted, read_problem}
use Rattle.rules.specs.Problem as reading
use Rattle.rules.specs.Denotes.{Denotes}
use Rattle.rules.proofs.DenotesLaws.{read_iff_denotes}
use Rattle.rules.proofs.RefusesLaws.{refused_iff, told_refused}
use Rattle.rules.specs.Within.{Few}
use Rattle.rules.proofs.WithinLimits.{read_within}
use Rattle.basics.specs.declared.order.Order.{Order}
use Rattle.basics.specs.Order.{order_number}
use Rattle.basics.proofs.OrderLaws.{one_order}
use Rattle.play.specs.Cells.{row_size, table_size}
use Rattle.game.specs.Solution.{Solution, solution}
use Rattle.game.specs.SolvedAs.{solved_of, solved_from, solved_by, told_solved, is_short, cells_of, cells_from, cells_by}
use Rattle.game.specs.SolvedAs.{Short, SolvedAs, short_memory, bad_source, too_many_states_lem, too_many_beliefs_lem, unrealizable, table}
use Rattle.game.proofs.SolutionCases.{Solving, states, beliefs, none, solving, states_due, beliefs_due, none_due, table_due}
use Rattle.game.proofs.SolutionCases as cases

-- the test of the lengths
pub short_says : (work room : ℕ) → Says (is_short work room) (Short work room)
short_says work room = says_or (lt_says work work_size) (lt_says room table_size)

pub not_short : (work room : ℕ) → is_short work room ≡ false → ¬ Short work room
not_short work room e s = clash ((short_says work room).1 s) e

pub is_long : (work room : ℕ) → ¬ Short work room → is_short work room ≡ false
is_long work room f = says_false (short_says work room) f

module _ (source : List ℕ) where
  pub few_signals : (p : Problem) → read_problem source ≡ accepted p → Few p.signals
  few_signals p read = (read_within source p read).few

  -- ---- what is answered is due

  module _ (work room : ℕ) (long : ¬ Short work room) where
    due_solution : (p : Problem) → Denotes source p → (s : Solution) → Solving p s
        → SolvedAs work room source (told_solved (solved_of p.order p.signals.observed s)) (cells_of s)
    due_solution p d s (states m) = too_many_states_lem long p d m
    due_solution p d s (beliefs f m) = too_many_beliefs_lem long p d f m
    due_solution p d s (none small u) = unrealizable long p d small u
    due_solution p d s (cases.table small n r cells c one) = table long p d small n r cells c

    pub due_read : SolvedAs work room source (told_solved (solved_from (read_problem source))) (cells_from (read_problem source))
    due_read = at (read_problem source) refl
      where
        at : (o : Outcome) → read_problem source ≡ o → SolvedAs work room source (told_solved (solved_from o)) (cells_from o)
        at (accepted p) e = due_solution p ((read_iff_denotes source p).0 e) (solution p) (solving p (few_signals p e))
        at (reading.refused r) e = bad_source long (number_of r) (place_of r) ((refused_iff source r).0 e)

  pub due_call : (work room : ℕ) → SolvedAs work room source (told_solved (solved_by work room source)) (cells_by work room source)
  unfolding solved_by cells_by
  due_call work room =
      elim (test (is_short work room)) [
        | inl t ↦ rw t (short_memory ((short_says work room).0 t))
        | inr f ↦ rw f (due_read work room (not_short work room f))
      ]

  -- ---- what is due is answered

  module _ (work room : ℕ) where
    abbrev Answered : Told → List ℕ → Type 0
    Answered a cells = (told_solved (solved_by work room source) ≡ a) × (cells_by work room source ≡ cells)

    long_answered : (¬ Short work room) → (o : Outcome) → read_problem source ≡ o → Answered (told_solved (solved_from o)) (cells_from o)
    unfolding solved_by cells_by
    long_answered f o e = rw (is_long work room f) (ap (λ z. told_solved (solved_from z)) e, ap cells_from e)

    pub solution_answered : (¬ Short work room) → (p : Problem) → Denotes source p → (s : Solution) → solution p ≡ s
        → Answered (told_solved (solved_of p.order p.signals.observed s)) (cells_of s)
    solution_answered f p d s e =
        let (a, b) = long_answered f (accepted p) ((read_iff_denotes source p).1 d) in
        (a ∙ ap (λ z. told_solved (solved_of p.order p.signals.observed z)) e, b ∙ ap cells_of e)

    pub solving_read : (p : Problem) → Denotes source p → Solving p (solution p)
    solving_read p d = solving p (few_signals p ((read_iff_denotes source p).1 d))

    due_answered : (a : Told) (cells : List ℕ) → SolvedAs work room source a cells → Answered a cells
    unfolding solved_by cells_by
    due_answered a cells (short_memory s) = rw ((short_says work room).1 s) (refl, refl)
    due_answered a cells (bad_source f number place x) =
        let (r, e, n, m) = told_refused source x in
        let (told, written) = long_answered f (reading.refused r) e in
        (told ∙ ap (λ k. refused k (place_of r)) n ∙ ap (refused number) m, written)
    due_answered a cells (too_many_states_lem f p d m) = solution_answered f p d _ (states_due p (solution p) (solving_read p d) m)
    due_answered a cells (too_many_beliefs_lem f p d s m) = solution_answered f p d _ (beliefs_due p (solution p) (solving_read p d) s m)
    due_answered a cells (unrealizable f p d small u) = solution_answered f p d _ (none_due p (solution p) (solving_read p d) small u)
    due_answered a cells (table f p d small n r t c) = solution_answered f p d _ (table_due p (solution p) (solving_read p d) small n r t c)

    -- demand 3: the answer and the cells are these exactly where they are due
    pub answered_iff : (a : Told) (cells : List ℕ) → Answered a cells ↔ SolvedAs work room source a cells
    answered_iff a cells = (
      λ e. subst (λ c. SolvedAs work room source a c) e.1 (subst (λ b. SolvedAs work room source b (cells_by work room source)) e.0 (due_call work room)),
      due_answered a cells,
    )

-- ---- the cells that are due are those of the rows that the answer tells

abbrev pub RowCells : Told → List ℕ → Type 0
RowCells (values l) cells = (n observed r : ℕ) (o : Order) → l ≡ n ∷ observed ∷ order_number o ∷ r ∷ [] → length cells ≡ n * row_size o
RowCells (refused number place) cells = cells ≡ []

pub due_cells : (work room : ℕ) (source : List ℕ) (a : Told) (cells : List ℕ) → SolvedAs work room source a cells → RowCells a cells
due_cells work room source a cells (short_memory s) = refl
due_cells work room source a cells (bad_source f number place x) = refl
due_cells work room source a cells (too_many_states_lem f p d m) = refl
due_cells work room source a cells (too_many_beliefs_lem f p d s m) = refl
due_cells work room source a cells (unrealizable f p d small u) = refl
due_cells work room source a cells (table f p d small n r t c) =
    λ m observed q o e.
    let is_n : n ≡ m = cc in
    let is_o = one_order p.order o cc in
    rw (← is_n, ← is_o) c.is_table.long

-- ---- an answer is known by its numbers and values

pub same_solved : (s q : Result Table Refusal) → told_solved s ≡ told_solved q → s ≡ q
same_solved (Ok t) (Ok t') e =
    let rows : t.shape.rows ≡ t'.shape.rows = cc in
    let observed : t.shape.observed ≡ t'.shape.observed = cc in
    let order = one_order t.shape.order t'.shape.order cc in
    let worst : t.worst_case ≡ t'.worst_case = cc in
    rw (worst, rows, observed, order) refl
same_solved (Ok t) (Err x) e = told_apart (sym e)
same_solved (Err x) (Ok t) e = told_apart e
same_solved (Err x) (Err y) e =
    let number : number_of x ≡ number_of y = cc in
    let place : place_of x ≡ place_of y = cc in
    ap Err (same_told x y number place)

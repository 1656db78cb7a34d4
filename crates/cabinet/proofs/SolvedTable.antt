-- What the solver promises of a table, carried to printer and cabinet.
-- Assumes nothing.
use Rattle.std.specs.Prelude.{Ok}
use Prim.Native.Nat.{ℕ, ◌*◌, ◌^◌, ◌≤◌, ◌<◌}
use native.Mathlib.Omega.{arith}
use mathlib.Core.Path.{◌≡◌, refl, sym, ap, subst}
use mathlib.Core.List.{List}
use lib.ListN.{length, take}
use borrow.Author.Tests.{le-ltb}
use Rattle.tables.specs.Outcome.{table_with}
use Rattle.basics.specs.Limits.{kind_limit}
use Rattle.rules.specs.Denotes.{Denotes}
use Rattle.rules.specs.Problem.{Problem}
use Rattle.rules.proofs.DenotesLaws.{read_iff_denotes, one_problem}
use Rattle.rules.specs.Within.{Few}
use Rattle.rules.proofs.WithinLimits.{read_within}
use Rattle.play.specs.Limits.{belief_limit, side_limit}
use Rattle.play.specs.Cells.{row_size}
use Rattle.tables.specs.declared.shape.Shape.{Shape}
use Rattle.play.specs.Game.{Play}
use Rattle.play.specs.Table.{table_strategy, Laid}
use Rattle.play.specs.Answer.{Solves}
use Rattle.game.specs.Solution.{game_of}
use Rattle.game.specs.SolvedAs.{told_solved, Controller, SolvedAs}
use Rattle.game.proofs.SolvedAsCases.{due_table}
use Rattle.stepping.specs.declared.position.Position.{Position}
use Rattle.printer.specs.Limits.{text_size}
use Rattle.wellformed.specs.WellFormed.{Printable}
use Rattle.printer.specs.Text.{table_text}
use Rattle.cabinet.specs.Print.{printed_by, bytes_by}
use Rattle.cabinet.specs.Running.{answer_to, Runs}
use Rattle.wellformed.proofs.WellFormedLaws.{side_le}
use Rattle.wellformed.proofs.TestsSay.{printable_says}
use Rattle.cabinet.proofs.LaidRows.{printable}
use Rattle.cabinet.proofs.RunningLaws.{runs}

module _ (work room : ℕ) (source : List ℕ) (shape : Shape) (r : ℕ) (table : List ℕ)
    (due : SolvedAs work room source (told_solved (Ok (table_with shape r))) (take (shape.rows * row_size shape.order) table)) (p : Problem)
    (denotes : Denotes source p) where
  abbrev used : List ℕ
  used = take (shape.rows * row_size shape.order) table

  -- what is due, told of the problem that the text denotes
  abbrev DueFor : Problem → Type 0
  DueFor q = (shape.observed ≡ q.signals.observed) × (shape.order ≡ q.order) × Controller q shape.rows r used

  told : DueFor p
  told =
      let (q, d, k, o, c) = due_table work room source shape.rows shape.observed r shape.order used due in
      subst DueFor (one_problem source q p d denotes) (k, o, c)

  pub ordered : shape.order ≡ p.order
  ordered = told.1

  pub solves : Solves belief_limit shape.order (game_of p) shape.rows r used
  solves =
      let (k, o, c) = told in
      subst (λ q. Solves belief_limit q (game_of p) shape.rows r used) (sym ordered) c.solves

  few : Few p.signals
  few = (read_within source p ((read_iff_denotes source p).1 denotes)).few

  few_choices : (game_of p).choices ≤ side_limit
  few_choices = side_le p.signals.outputs few.outputs

  few_observed : shape.observed ≤ kind_limit
  few_observed = let (k, o, c) = told in omega (arith, k, few.observed)

  declared : (game_of p).observations ≡ 2 ^ shape.observed
  declared = let (k, o, c) = told in ap (λ (m : ℕ). 2 ^ m) (sym k)

  pub some : 0 < shape.rows
  some = omega (arith, solves.below)

  pub running : (old : Position) (play : Play (game_of p)) → Runs (game_of p) (table_strategy shape.order used) r (answer_to table shape old) play
  running = runs (game_of p) shape table few_choices few_observed declared some solves.within solves.laid r solves.optimal

  pub can_print : Printable table shape r
  can_print =
      printable (game_of p).choices shape table few_choices few_observed some solves.within
      (subst (λ (k : ℕ). Laid shape.order (game_of p).choices k shape.rows used) declared solves.laid) r solves.first

  pub printed : (text : ℕ) → text_size ≤ text
      → (printed_by table shape r text ≡ Ok (length (table_text table shape r))) × (bytes_by table shape r text ≡ table_text table shape r)
  unfolding printed_by bytes_by
  printed text h = rw (le-ltb text text_size h, (printable_says table shape r).1 can_print) (refl, refl)

-- `printer::writing::put_moves` meets its contract: `stop`, or the printed cells.
-- Assumes nothing.
use Prim.Native.Nat.{◌+◌, ◌≤◌}
use native.Mathlib.Omega.{arith}
use mathlib.Core.Path.{ap, subst}
use lib.ListN.{length}
use Rattle.basics.proofs.WriterLaws.{puts_as}
use Rattle.printer.proofs.TextLaws.{stop_field, move_fields}
use Rattle.printer.proofs.writing.put_moves.Goals as goal

pub bytes-requires : goal.bytes-requires
bytes-requires c =
    let t = c.args.table.now in
    omega (arith, ap length (stop_field t.cells.now t.shape c.args.row _ c.first.ensures c.if-first.true), c.requires.row_in_bounds)

pub returns-then-first : goal.returns-then-first
returns-then-first c =
    let t = c.args.table.now in
    puts_as (stop_field t.cells.now t.shape c.args.row _ c.first.ensures c.if-first.true) c.bytes.ensures

pub put_shown-requires : goal.put_shown-requires
put_shown-requires c =
    let t = c.args.table.now in
    let same = move_fields t.cells.now t.shape c.args.row _ c.first.ensures c.if-first.false in
    record {
      row_lt_rows = c.requires.row_lt_rows;
      row_in_bounds = subst (λ l. c.args.out.now.at + length l ≤ length c.args.out.now.text.now) same c.requires.row_in_bounds;
    }

pub returns : goal.returns
returns c =
    let t = c.args.table.now in
    puts_as (move_fields t.cells.now t.shape c.args.row _ c.first.ensures c.if-first.false) c.put_shown.ensures

-- `basics::pieces::field` is field k: what is left from `start` on stands behind as many fields as were counted.
-- Assumes nothing.
use Prim.Native.Nat.{◌≤◌}
use mathlib.Core.Path.{◌≡◌}
use lib.ListN.{length, drop}
use Rattle.basics.specs.Bytes.{not_tab}
use Rattle.basics.specs.Pieces.{behind_all}
use Rattle.basics.proofs.pieces.field.Given as goal

abbrev pub invariant-loop : goal.invariant-loop
invariant-loop l =
    (l.start ≤ length l.line) × (drop l.start l.line ≡ behind_all not_tab l.counter l.line)

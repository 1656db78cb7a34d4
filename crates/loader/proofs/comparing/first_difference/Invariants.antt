-- `loader::comparing::first_difference` meets its contract. The invariant: what is left differs first where the whole does.
-- Assumes nothing.
use Prim.Native.Nat.{◌+◌, ◌≤◌}
use mathlib.Core.Path.{◌≡◌}
use lib.ListN.{length}
use Rattle.loader.specs.Difference.{difference}
use Rattle.loader.proofs.comparing.first_difference.Given as goal

abbrev pub invariant-loop-x : goal.invariant-loop-x
invariant-loop-x l = record {
  few : l.line ≤ length l.yielded + 1;
  lengths : length l.a + length l.x-iterator.b.rest.now ≡ length l.b + length l.x-iterator.a.rest.now;
  differs : difference 1 l.a l.b ≡ difference l.line l.x-iterator.a.rest.now l.x-iterator.b.rest.now;
}

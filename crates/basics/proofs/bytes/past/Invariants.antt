-- `basics::bytes::past` is the first place that fails: where the search stands, it is the first from there. Assumes nothing.
use Rattle.std.proofs.Common.{◌≡◌, ◌≤◌, max, length}
use Rattle.basics.specs.Bytes.{past, in_class}
use Rattle.basics.proofs.bytes.past.Given as goal

abbrev pub invariant-loop-i : goal.invariant-loop-i
invariant-loop-i l = record {
  in_reach : l.i ≤ max l.at (length l.text);
  first : past (in_class l.class) l.text l.at ≡ past (in_class l.class) l.text l.i;
}

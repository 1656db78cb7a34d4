-- `beliefs::believing::put_members` meets its contract. The invariant: the states passed that are in the belief are listed.
-- Assumes nothing.
use Rattle.beliefs.proofs.believing.MemberLoop.{in_belief}
use Rattle.beliefs.proofs.believing.MemberLoop.{Gathered}
use Rattle.beliefs.proofs.believing.put_members.Given as goal

abbrev pub invariant-loop-s : goal.invariant-loop-s
invariant-loop-s l =
    Gathered (in_belief l.mem l.i) l.initial.members l.s l.c l.members

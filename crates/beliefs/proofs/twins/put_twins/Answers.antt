use native.Mathlib.Omega.{arith}
use Rattle.basics.proofs.Filling.{table_more}
use Rattle.basics.proofs.BoundedLaws.{first_le}
use Rattle.beliefs.specs.Twins.{same_pairs, first_twin}
use Rattle.beliefs.proofs.LimitsLaws.{pair_byte}
use Rattle.beliefs.proofs.twins.put_twins.Goals as goal

pub overflow_cast-twins : goal.overflow_cast-twins
unfolding first_twin
overflow_cast-twins c =
    let at_most = first_le (same_pairs c.args.automaton.now.successors.now c.args.automaton.now.states c.args.automaton.now.pairs
    c.args.automaton.now.hiddens c.loop-q.q) c.loop-q.q in
    omega (arith, pair_byte, c.first_twin.ensures, at_most)

pub loop-q-preserved : goal.loop-q-preserved
loop-q-preserved c =
    table_more c.loop-q.q _ c.args.twins.now c.loop-q.twins _ (omega arith) c.loop-q.invariant c.first_twin.ensures

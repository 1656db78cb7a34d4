-- What falls along the cycle of calls that reads a phrase: 8 times the unread bytes, and the level: 0 for a plan word, 1 for an atom,
-- 2 for a prefix, and from 3 on for levels with operators. Assumes nothing.
use Rattle.std.proofs.Common.{◌+◌, ◌-◌, ◌*◌, length}
use Rattle.grammar.specs.Names.{names_in, leaf_value}
use Rattle.grammar.proofs.PlanParseLaws.{formulas_laws}
use Rattle.grammar.proofs.AnswerLaws.{Loop}
use Rattle.grammar.proofs.phrase.+read_atom_read_level_read_plan_read_unary.Given as goal

abbrev pub decreases-read_atom : goal.decreases-read_atom
decreases-read_atom l = 8 * (length l.text.now - l.at) + 1

abbrev pub decreases-read_level : goal.decreases-read_level
decreases-read_level l = 8 * (length l.text.now - l.at) + 3 + l.l

abbrev pub decreases-read_plan : goal.decreases-read_plan
decreases-read_plan l = 8 * (length l.text.now - l.at)

abbrev pub decreases-read_unary : goal.decreases-read_unary
decreases-read_unary l = 8 * (length l.text.now - l.at) + 2

abbrev pub invariant-read_level-loop-op : goal.invariant-read_level-loop-op
invariant-read_level-loop-op l =
    Loop (leaf_value (names_in l.names) l.text) (formulas_laws l.temporal) l.text l.l l.r l.at l.n l.initial.read
    l.initial.cells l.read l.cells

abbrev pub decreases-read_level-loop-op : goal.decreases-read_level-loop-op
decreases-read_level-loop-op l = length l.text - l.read.next

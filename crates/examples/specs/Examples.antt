-- The examples A to K, A to H under the other order, and of plan words (REFERENCE.md, Examples and Plan words), as one table: a problem's
-- bytes, what is asked of them, and the answer.
-- Assumes nothing.
use Rattle.std.specs.Prelude.{ℕ, List, [], ◌∷◌, ◌++◌}
use Prim.Native.String.{String}
use Rattle.basics.specs.Bits.{digit}
use Rattle.basics.specs.Bytes.{bytes_of}
use Rattle.basics.specs.Lists.{padded}
use Rattle.basics.specs.Reach.{Listing, closed, over}
use Rattle.basics.specs.declared.order.Order.TheVariants.{Set, Read}
use Rattle.lines.specs.Refusal.{Told, values, refused, told_refusal}
use Rattle.formula.specs.Semantics.{Trace}
use Rattle.rules.specs.Limits.{work_size}
use Rattle.rules.specs.Problem.{Problem, Outcome, accepted, problem_parts, read_problem}
use Rattle.rules.specs.Problem as reading
use Rattle.rules.specs.Judge.{judged, told_verdict}
use Rattle.search.specs.PatternSet.{PatternSet, accepts}
use Rattle.search.specs.ReachableSets.{same_set}
use Rattle.states.specs.States.{state_after}
use Rattle.play.specs.Limits.{belief_limit}
use Rattle.play.specs.Cells.{rank_at, stop_cell, table_size}
use Rattle.play.specs.Answer.{positions}
use Rattle.play.specs.EarlierCount.{earlier_positions}
use Rattle.game.specs.Solution.{game_of, problem_states, beliefs_of}
use Rattle.game.specs.SolvedAs.{solved_by, told_solved, cells_by}
use Rattle.cabinet.specs.Response.{response}
use Rattle.examples.specs.Count.{count}

-- what is asked of a problem: its table's row count, observed signals, order (0 for `set`, 1 for `read`) and worst case; the table's cells;
-- the bytes that are written for it; how many beliefs count, and how many did by the earlier count; the verdict on a trace; or whether its
-- states accept the trace
pub data Asked : Type 0 where
  table cells text beliefs : Asked
  judge accept : Trace → Asked

-- 1 where the states of the problem accept the trace, and 0 where they do not
abbrev pub told_accepted : Outcome → Trace → Told
told_accepted (accepted p) π = values (digit (accepts (state_after (problem_parts p) π)) ∷ [])
told_accepted (reading.refused r) π = told_refusal r

-- the number of beliefs that count, and of those that did by the earlier count
abbrev pub counts_from : Problem → Listing PatternSet → List ℕ
counts_from p (closed xs) =
    count (positions (beliefs_of p xs) same_set (game_of p).choices (game_of p).observations belief_limit)
    ∷ count (earlier_positions (beliefs_of p xs) same_set (game_of p).choices (game_of p).observations belief_limit) ∷ []
counts_from p over = []

abbrev pub told_counts : Outcome → Told
told_counts (accepted p) = values (counts_from p (problem_states p))
told_counts (reading.refused r) = told_refusal r

-- what is told for a source, by the definitions that the calls are proved to compute, with as much memory as they ask for
abbrev pub told_for : List ℕ → Asked → Told
told_for source table = told_solved (solved_by work_size table_size source)
told_for source cells = values (cells_by work_size table_size source)
told_for source text = values (response source)
told_for source beliefs = told_counts (read_problem source)
told_for source (judge π) = told_verdict (judged work_size source π)
told_for source (accept π) = told_accepted (read_problem source) π

-- the example's name, the problem, what is asked of it, and what is to be told
pub data Example : Type 0 where
  example : (name source : String) → Asked → Told → Example

abbrev pub answer : Example → Told
answer (example name source asked told) = told_for (bytes_of source) asked

abbrev pub expected : Example → Told
expected (example name source asked told) = told

abbrev pub examples : List Example
examples =
    example "A" "out\tvalve\nhid\twet\nrule\tF valve\n" table (values (2 ∷ 0 ∷ 0 ∷ 1 ∷ []))
    ∷ example "B" "out\ta\nsee\ts\nrule\ts -> X a\n" table (values (3 ∷ 1 ∷ 0 ∷ 2 ∷ []))
    ∷ example "B" "out\ta\nsee\ts\nrule\ts -> X a\n" text
    (values (bytes_of "table\t3\t2\nrow\t0\t2\t0\t1\t2\nrow\t1\t0\tstop\nrow\t2\t1\t1\t1\t1\n"))
    ∷ example "B" "out\ta\nsee\ts\nrule\ts -> X a\n" cells
    (values (padded (rank_at Set) (0 ∷ 1 ∷ 2 ∷ []) ++ (2 ∷ padded (rank_at Set) (stop_cell ∷ []) ++ (0 ∷ padded (rank_at Set) (1 ∷ 1 ∷ 1 ∷ []) ++ (1 ∷ [])))))
    ∷ example "B" "out\ta\nsee\ts\nrule\ts -> X a\n" beliefs (values (4 ∷ 4 ∷ []))
    ∷ example "C" "out\ta\nhid\ts\nrule\ts -> X a\n" beliefs (values (4 ∷ 4 ∷ []))
    ∷ example "D" "hid\ts\nrule\tF s\n" beliefs (values (2 ∷ 2 ∷ []))
    ∷ example "E" "see\ts\nrule\t(s & N false) | (!s & X N false)\n" beliefs (values (4 ∷ 5 ∷ []))
    ∷ example "F" "rule\ttrue\n" beliefs (values (2 ∷ 2 ∷ []))
    ∷ example "C" "out\ta\nhid\ts\nrule\ts -> X a\n" table (values (3 ∷ 0 ∷ 0 ∷ 2 ∷ []))
    ∷ example "D" "hid\ts\nrule\tF s\n" table (refused 11 0)
    ∷ example "E" "hid\ts\nrule\t(s & N false) | (!s & X N false)\n" table (refused 11 0)
    ∷ example "E" "see\ts\nrule\t(s & N false) | (!s & X N false)\n" table (values (4 ∷ 1 ∷ 0 ∷ 2 ∷ []))
    ∷ example "F" "rule\ttrue\n" table (values (2 ∷ 0 ∷ 0 ∷ 1 ∷ []))
    ∷ example "G" "rule\tfalse\n" table (refused 11 0)
    ∷ example "H" "rule\tX true\n" table (values (3 ∷ 0 ∷ 0 ∷ 2 ∷ []))
    ∷ example "I" "rule\tX true\n" (judge (0 ∷ [])) (values (0 ∷ []))
    ∷ example "I" "rule\tX true\n" (accept (0 ∷ [])) (values (0 ∷ []))
    ∷ example "I" "rule\tN false\n" (judge (0 ∷ [])) (values (1 ∷ []))
    ∷ example "I" "rule\tN false\n" (accept (0 ∷ [])) (values (1 ∷ []))
    ∷ example "J" "out\ta\nout\tb\nrule\ta U b\n" (judge (1 ∷ 2 ∷ [])) (values (1 ∷ []))
    ∷ example "J" "out\ta\nout\tb\nrule\ta U b\n" (accept (1 ∷ 2 ∷ [])) (values (1 ∷ []))
    ∷ example "J" "out\ta\nout\tb\nrule\ta U b\n" (judge (1 ∷ [])) (values (0 ∷ []))
    ∷ example "J" "out\ta\nout\tb\nrule\ta U b\n" (accept (1 ∷ [])) (values (0 ∷ []))
    ∷ example "K" "out\ta\nout\tb\nrule\ta R b\n" (judge (2 ∷ [])) (values (1 ∷ []))
    ∷ example "K" "out\ta\nout\tb\nrule\ta R b\n" (accept (2 ∷ [])) (values (1 ∷ []))
    ∷ example "A, read" "out\tvalve\nhid\twet\nrule\tF valve\norder\tread\n" table (values (2 ∷ 0 ∷ 1 ∷ 1 ∷ []))
    ∷ example "B, read" "out\ta\nsee\ts\nrule\ts -> X a\norder\tread\n" table (values (3 ∷ 1 ∷ 1 ∷ 2 ∷ []))
    ∷ example "B, read" "out\ta\nsee\ts\nrule\ts -> X a\norder\tread\n" text
    (values (bytes_of "rtable\t3\t2\nrow\t0\t2\t0\t1\t0\t2\nrow\t1\t0\tstop\nrow\t2\t1\t1\t1\t1\t1\n"))
    ∷ example "B, read" "out\ta\nsee\ts\nrule\ts -> X a\norder\tread\n" cells
    (values (padded (rank_at Read) (0 ∷ 0 ∷ 1 ∷ 0 ∷ 2 ∷ [])
    ++ (2 ∷ padded (rank_at Read) (stop_cell ∷ []) ++ (0 ∷ padded (rank_at Read) (0 ∷ 1 ∷ 1 ∷ 1 ∷ 1 ∷ []) ++ (1 ∷ [])))))
    ∷ example "C, read" "out\ta\nhid\ts\nrule\ts -> X a\norder\tread\n" table (values (3 ∷ 0 ∷ 1 ∷ 2 ∷ []))
    ∷ example "D, read" "hid\ts\nrule\tF s\norder\tread\n" table (refused 11 0)
    ∷ example "E, read" "hid\ts\nrule\t(s & N false) | (!s & X N false)\norder\tread\n" table (refused 11 0)
    ∷ example "E, read" "see\ts\nrule\t(s & N false) | (!s & X N false)\norder\tread\n" table (values (4 ∷ 1 ∷ 1 ∷ 2 ∷ []))
    ∷ example "F, read" "order\tread\nrule\ttrue\n" text (values (bytes_of "rtable\t2\t1\nrow\t0\t1\t0\t1\nrow\t1\t0\tstop\n"))
    ∷ example "F, set" "order\tset\nrule\ttrue\n" text (values (bytes_of "table\t2\t1\nrow\t0\t1\t0\t1\nrow\t1\t0\tstop\n"))
    ∷ example "G, read" "order\tread\nrule\tfalse\n" table (refused 11 0)
    ∷ example "H, read" "order\tread\nrule\tX true\n" table (values (3 ∷ 0 ∷ 1 ∷ 2 ∷ []))
    ∷ example "gauge" "out\ta\nsee\ts\nrule\t(a -> s) & (s -> a) & N false\n" table (refused 11 0)
    ∷ example "gauge, read" "out\ta\nsee\ts\nrule\t(a -> s) & (s -> a) & N false\norder\tread\n" text
    (values (bytes_of "rtable\t2\t1\nrow\t0\t1\t0\t1\t1\t1\nrow\t1\t0\tstop\n"))
    ∷ example "best next rank, read" "out\ta\nsee\ts\nrule\tX X true | (s & a)\norder\tread\n" text
    (values (bytes_of "rtable\t4\t3\nrow\t0\t3\t0\t1\t1\t2\nrow\t1\t2\t0\t3\t0\t3\nrow\t2\t0\tstop\nrow\t3\t1\t0\t2\t0\t2\n"))
    ∷ example "no rule" "order\tread\n" table (refused 8 0)
    ∷ example "no order" "order\tRead\nrule\ttrue\n" table (refused 2 1)
    ∷ example "a second order" "order\tread\nrule\ttrue\norder\tread\n" table (refused 2 3)
    ∷ example "once" "out\ta\nrule\tonce(a)\n" (judge (1 ∷ 1 ∷ 0 ∷ [])) (values (1 ∷ []))
    ∷ example "once" "out\ta\nrule\tonce(a)\n" (judge (1 ∷ 0 ∷ 1 ∷ [])) (values (0 ∷ []))
    ∷ example "before" "out\ta\nout\tb\nrule\tbefore(a,b)\n" (judge (2 ∷ 1 ∷ [])) (values (1 ∷ []))
    ∷ example "before" "out\ta\nout\tb\nrule\tbefore(a,b)\n" (judge (3 ∷ [])) (values (0 ∷ []))
    ∷ example "after" "out\ta\nout\tb\nrule\tafter(a,b)\n" (judge (3 ∷ [])) (values (1 ∷ []))
    ∷ example "after" "out\ta\nout\tb\nrule\tafter(a,b)\n" (judge (1 ∷ 0 ∷ [])) (values (0 ∷ []))
    ∷ example "within" "out\ta\nout\tb\nrule\twithin(1,a,b)\n" (judge (1 ∷ 2 ∷ [])) (values (1 ∷ []))
    ∷ example "within" "out\ta\nout\tb\nrule\twithin(1,a,b)\n" (judge (1 ∷ 0 ∷ 2 ∷ [])) (values (0 ∷ []))
    ∷ example "during" "out\ta\nrule\tduring(2,3,a)\n" (judge (0 ∷ 1 ∷ 1 ∷ 0 ∷ [])) (values (1 ∷ []))
    ∷ example "during" "out\ta\nrule\tduring(2,3,a)\n" (judge (0 ∷ 1 ∷ 0 ∷ [])) (values (0 ∷ []))
    ∷ example "during" "out\ta\nsee\ts\nrule\tduring(1,2,s -> a) & X true\n" table (values (3 ∷ 1 ∷ 0 ∷ 2 ∷ []))
    ∷ example "during" "out\ta\nrule\tduring(2,3,a)\n" (judge (0 ∷ [])) (values (1 ∷ []))
    ∷ example "during" "out\ta\nrule\tX during(1,2,a)\n" (judge (0 ∷ 1 ∷ 1 ∷ 0 ∷ [])) (values (1 ∷ []))
    ∷ example "within" "out\ta\nout\tb\nrule\twithin(5,a,b)\n" (judge (1 ∷ 0 ∷ 0 ∷ 0 ∷ 0 ∷ 2 ∷ [])) (values (1 ∷ []))
    ∷ example "within" "out\ta\nout\tb\nrule\twithin(5,a,b)\n" (judge (1 ∷ 0 ∷ 0 ∷ 0 ∷ 0 ∷ 0 ∷ 2 ∷ [])) (values (0 ∷ []))
    ∷ example "within 6" "out\ta\nrule\twithin(6,a,a)\n" table (refused 5 2)
    ∷ example "two digits" "out\ta\nrule\twithin(03,a,a)\n" table (refused 5 2)
    ∷ example "during from 0" "out\ta\nrule\tduring(0,1,a)\n" table (refused 5 2)
    ∷ example "during backwards" "out\ta\nrule\tduring(2,1,a)\n" table (refused 5 2)
    ∷ example "during to 8" "out\ta\nrule\tduring(1,8,a)\n" table (refused 5 2)
    ∷ example "X in an operand" "out\ta\nrule\tonce(X a)\n" table (refused 5 2)
    ∷ example "U in an operand" "out\ta\nrule\tonce(a U a)\n" table (refused 5 2)
    ∷ example "one operand too many" "out\ta\nrule\tonce(a,a)\n" table (refused 5 2)
    ∷ example "one operand too few" "out\ta\nrule\tbefore(a)\n" table (refused 5 2)
    ∷ example "no parenthesis" "out\ta\nrule\tonce & a\n" table (refused 5 2)
    ∷ example "5 before 6" "rule\twithin(9,zz,zz)\n" table (refused 5 1)
    ∷ example "6 in an operand" "rule\tonce(zz)\n" table (refused 6 1)
    ∷ example "a word in an operand" "out\ta\nrule\tonce(during(1,1,a))\n" table (refused 5 2)
    ∷ example "a word as a name" "out\tonce\n" table (refused 2 1)
    ∷ []

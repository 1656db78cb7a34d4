-- The limits that signals, names and a whole problem keep (REFERENCE.md, Limits).
-- Assumes nothing.
use Rattle.std.specs.Prelude.{◌+◌, ◌≤◌, ◌≡◌, length}
use Rattle.basics.specs.Limits.{kind_limit, signal_limit, operator_limit}
use Rattle.basics.specs.Member.{◌∈◌}
use Rattle.grammar.specs.Names.{Name, bits}
use Rattle.formula.specs.Limits.{part_limit}
use Rattle.formula.specs.Formula.{size, operators}
use Rattle.formula.specs.Letter.{Counts}
use Rattle.lines.specs.Limits.{name_limit}
use Rattle.lines.specs.Effect.{Signals}
use Rattle.rules.specs.Problem.{Problem, formula_in}

-- few enough signals of each kind, and in all
pub record FewCounted (c : Counts) : Type 0 where
  pub outputs : c.outputs ≤ kind_limit
  pub observed : c.observed ≤ kind_limit
  pub hidden : c.hidden ≤ kind_limit
  pub total : c.outputs + c.observed + c.hidden ≤ signal_limit

-- the counts of declared signals
abbrev pub counts_in : Signals → Counts
counts_in g = record { outputs = g.outputs; observed = g.observed; hidden = g.hidden }

abbrev pub Few : Signals → Type 0
Few g = FewCounted (counts_in g)

-- an entry for each bit, and no name too long
pub record Named (g : Signals) : Type 0 where
  pub all : length g.names ≡ bits
  pub short : (name : Name) → name ∈ g.names → length name ≤ name_limit

-- a problem within the limits
pub record Within (p : Problem) : Type 0 where
  pub few : Few p.signals
  pub named : Named p.signals
  pub parts : size (formula_in p) ≤ part_limit
  pub operators : operators (formula_in p) ≤ operator_limit

-- What a problem asks of a trace, by the published meaning of formulas.
-- Assumes nothing.
use Rattle.basics.specs.Member.{◌∈◌}
use Rattle.formula.specs.Semantics.{Trace, Sat}
use Rattle.rules.specs.Problem.{Line, rule, Problem}

-- a rule is to hold at the first step
abbrev pub Meets : Trace → Line → Type 0
Meets π (rule φ) = Sat π 0 φ

-- a trace satisfies a problem if it meets every line
abbrev pub Satisfies : Trace → Problem → Type 0
Satisfies π p = (l : Line) → l ∈ p.lines → Meets π l

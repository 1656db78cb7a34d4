-- A problem (a sheet in the trade's words; REFERENCE.md, A problem): what it keeps, and how it is read, line by line and test by test.
-- Assumes nothing.
use Rattle.std.specs.Prelude.{ℕ, suc, cond, ltb, length, None, Some, Option}
use mathlib.Core.List.{List, [], ◌∷◌, ◌++◌, foldl}
use Rattle.grammar.specs.Names.{Name}
use Rattle.lines.specs.declared.refusal.Refusal.{Refusal}
use Rattle.lines.specs.declared.refusal.Refusal.TheVariants.{LongSource, BadLine, NoFormula}
use Rattle.lines.specs.declared.problem.Kind.{Kind}
use Rattle.rules.specs.Limits.{source_limit}
use Rattle.formula.specs.Formula.{Formula, True, And, size, operators}
use Rattle.formula.specs.Parts.{parts_of}
use Rattle.formula.specs.declared.parts.Part.{Part}
use Rattle.basics.specs.declared.order.Order.{Order}
use Rattle.lines.specs.Lines.{SourceLine, ended, unended, lines}
use Rattle.lines.specs.StepOrder.{order_or}
use Rattle.lines.specs.Effect.{Effect, Signals, declares, effect_of, no_signals, orders, refuses, states, with_signal}

-- what a line asks of a trace
pub data Line : Type 0 where
  rule : Formula → Line

-- formulas are joined by "and"
abbrev pub joined : Option Formula → Formula → Formula
joined None φ = φ
joined (Some ψ) φ = And ψ φ

abbrev pub with_line : Option Formula → Line → Option Formula
with_line f (rule φ) = Some (joined f φ)

-- the formula of all lines, none where there is no line
abbrev pub joined_lines : List Line → Option Formula
joined_lines ls = foldl with_line None ls

abbrev pub size_in : Option Formula → ℕ
size_in None = 0
size_in (Some φ) = size φ

abbrev pub operators_in : Option Formula → ℕ
operators_in None = 0
operators_in (Some φ) = operators φ

-- what has been read so far
pub record Draft : Type 0 where
  pub signals : Signals
  pub order : Option Order
  pub lines : List Line

-- its parts and temporal operators
abbrev pub part_count : Draft → ℕ
part_count d = size_in (joined_lines d.lines)

abbrev pub operator_count : Draft → ℕ
operator_count d = operators_in (joined_lines d.lines)

pub record Problem : Type 0 where
  pub signals : Signals
  pub order : Order
  pub lines : List Line

-- a problem's formula (true where there is no line, which is never read), and its parts
abbrev pub or_true : Option Formula → Formula
or_true None = True
or_true (Some φ) = φ

abbrev pub formula_in : Problem → Formula
formula_in p = or_true (joined_lines p.lines)

abbrev pub problem_parts : Problem → List Part
problem_parts p = parts_of (formula_in p)

-- ---- reading

pub data Outcome : Type 0 where
  accepted : Problem → Outcome
  refused : Refusal → Outcome

-- an order that no line has said is the default
abbrev pub finish : Signals → Option Order → List Line → Outcome
finish g o [] = refused NoFormula
finish g o (l ∷ ls) = accepted (record { signals = g; order = order_or o; lines = l ∷ ls })

abbrev pub with_declared : Kind → Name → Draft → Draft
with_declared k name d = record { signals = with_signal k name d.signals; order = d.order; lines = d.lines }

abbrev pub with_formula : Formula → Draft → Draft
with_formula φ d = record { signals = d.signals; order = d.order; lines = d.lines ++ (rule φ ∷ []) }

abbrev pub with_order : Order → Draft → Draft
with_order o d = record { signals = d.signals; order = Some o; lines = d.lines }

abbrev pub after : Effect → Draft → (Draft → Outcome) → Outcome
after (declares k name) d f = f (with_declared k name d)
after (states φ) d f = f (with_formula φ d)
after (orders o) d f = f (with_order o d)
after (refuses r) d f = refused r

abbrev pub effect_after : ℕ → List ℕ → Draft → Effect
effect_after line bytes d = effect_of line bytes d.signals (part_count d) (operator_count d) d.order

-- the lines from one line on
unfoldable pub read_lines : ℕ → List SourceLine → Draft → Outcome
read_lines line [] d = finish d.signals d.order d.lines
read_lines line (unended l ∷ ls) d = refused (BadLine line)
read_lines line (ended l ∷ ls) d = after (effect_after line l d) d (read_lines (suc line) ls)

abbrev pub blank : Draft
blank = record { signals = no_signals; order = None; lines = [] }

unfoldable pub read_problem : List ℕ → Outcome
read_problem source = cond (ltb source_limit (length source)) (refused LongSource) (read_lines 1 (lines source) blank)

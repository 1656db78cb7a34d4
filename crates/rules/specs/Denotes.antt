-- What a problem's text means by the written grammar: its signals, the order of a step, and the formula that each rule derives, with no
-- reader in between.
-- `proofs/DenotesLaws.antt` shows that reading a problem finds exactly this, and hence that it is one.
-- Assumes nothing.
use Rattle.std.specs.Prelude.{ℕ, ◌≤◌, ◌≡◌, true, List, [], ◌∷◌, length, None}
use Rattle.basics.specs.Bytes.{between}
use Rattle.basics.specs.Limits.{operator_limit}
use Rattle.basics.specs.Member.{◌∈◌}
use Rattle.syntax.specs.declared.lex.Token.{Token}
use Rattle.syntax.specs.Kinds.{name_kind}
use Rattle.syntax.specs.Lex.{tokens}
use Rattle.syntax.specs.Tree.{Tree}
use Rattle.grammar.specs.Grammar.{Derived}
use Rattle.grammar.specs.Names.{Name, leaf_value}
use Rattle.lines.specs.declared.problem.Kind.{Kind}
use Rattle.rules.specs.Limits.{source_limit}
use Rattle.formula.specs.Limits.{part_limit}
use Rattle.formula.specs.Formula.{Formula}
use Rattle.basics.specs.declared.order.Order.{Order}
use Rattle.lines.specs.Lines.{SourceLine, ended, lines, declare_line, rule_line, order_line, is_name, is_text}
use Rattle.lines.specs.StepOrder.{order_or}
use Rattle.rules.specs.Problem.{part_count, operator_count, Draft, with_declared, with_formula, with_order, Problem, blank}
use Rattle.lines.specs.Effect.{Signals, with_signal, formula_of}
use Rattle.rules.specs.Within.{Few}

-- a name is declared, and every name in a text is; the entry of a bit without a signal is empty, which no name is
abbrev pub IsDeclared : Signals → Name → Type 0
IsDeclared g name = name ∈ g.names

abbrev pub AllDeclared : Signals → List ℕ → Type 0
AllDeclared g text = (t : Token) → t ∈ tokens text 0 → t.kind ≡ name_kind → IsDeclared g (between text t.from t.next)

-- the formula of a tree that is derived from a text
abbrev pub stated_formula : Draft → List ℕ → Tree → Formula
stated_formula d text a = formula_of (leaf_value d.signals.names text) a

-- few enough parts and temporal operators
abbrev pub Fits : Draft → Type 0
Fits d = (part_count d ≤ part_limit) × (operator_count d ≤ operator_limit)

-- a line takes what was read before it to what is read after it
pub data Reads (d : Draft) : List ℕ → Draft → Type 0 where
  declared : (k : Kind) (name : Name) → is_name name ≡ true → ¬ IsDeclared d.signals name → Few (with_signal k name d.signals)
      → Reads d (declare_line k name) (with_declared k name d)
  stated : (text : List ℕ) (a : Tree) → is_text text ≡ true → Derived text a → AllDeclared d.signals text
      → Fits (with_formula (stated_formula d text a) d) → Reads d (rule_line text) (with_formula (stated_formula d text a) d)
  ordered : (o : Order) → d.order ≡ None → Reads d (order_line o) (with_order o d)

-- the lines that are left make a problem of what was read; its order is the default where no line says it
pub data Make : Draft → List SourceLine → Problem → Type 0 where
  done : {d : Draft} → ¬ (d.lines ≡ []) → Make d [] (record { signals = d.signals; order = order_or d.order; lines = d.lines })
  next : {d : Draft} {l : List ℕ} {ls : List SourceLine} {p : Problem} (d' : Draft) → Reads d l d' → Make d' ls p → Make d (ended l ∷ ls) p

-- the text is a problem
pub record Denotes (source : List ℕ) (p : Problem) : Type 0 where
  pub short : length source ≤ source_limit
  pub make : Make blank (lines source) p

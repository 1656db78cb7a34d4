-- What one line of a problem says: it declares a signal, states a formula, says the order of a step, or is refused, by the tests in
-- their order (REFERENCE.md, A problem and Refusals).
-- Assumes nothing.
use Rattle.std.specs.Prelude.{ℕ, zero, suc, ◌+◌, ◌*◌, Bool, true, not, ◌&&◌, ◌||◌, cond, List, [], ◌∷◌, eqb, ltb, set, replicate, None, Option, Some}
use Rattle.syntax.specs.declared.lex.Token.{Token}
use Rattle.basics.specs.Bytes.{between}
use Rattle.syntax.specs.declared.plans.PlanWord.{PlanWord}
use Rattle.syntax.specs.declared.plans.PlanWord.TheVariants.{Once, Before, After, Within, During}
use Rattle.syntax.specs.Kinds.{name_kind}
use Rattle.syntax.specs.Lex.{tokens}
use Rattle.syntax.specs.Tree.{Tree, leaf, pre, bin, plan}
use Rattle.grammar.specs.Parse.{Res}
use Rattle.grammar.specs.Parse as parse
use Rattle.grammar.specs.PlanParse.{parse_formula}
use Rattle.grammar.specs.Names.{Name, bits, index_of, leaf_value}
use Rattle.lines.specs.declared.refusal.Refusal.{Refusal}
use Rattle.lines.specs.declared.refusal.Refusal.TheVariants.{BadLine, NameTwice, TooManySignals, BadFormula, UnknownName, TooManyParts}
use Rattle.lines.specs.declared.problem.Kind.{Kind}
use Rattle.lines.specs.declared.problem.Kind.TheVariants.{Output, Observed, Hidden}
use Rattle.lines.specs.declared.problem.Word.{Word}
use Rattle.lines.specs.declared.problem.Word.TheVariants.{Declare, Rule, Order as OrderWord, Unknown}
use Rattle.basics.specs.declared.order.Order.{Order}
use Rattle.basics.specs.Limits.{kind_limit, signal_limit, operator_limit}
use Rattle.formula.specs.Limits.{part_limit}
use Rattle.formula.specs.Formula.{Formula, False, size, operators}
use Rattle.formula.specs.Parts.{op_of, build}
use Rattle.formula.specs.Constraints.{once, before, after, within, during}
use Rattle.lines.specs.Lines.{has_tab, first_field, second_field, word_of, is_name, is_text, order_named}

-- ---- signals

-- how many signals of each kind are declared, and the name of the signal of each bit of a letter, empty where there is none:
-- each kind has `kind_limit` bits, output signals the lowest and hidden ones the highest
pub record Signals : Type 0 where
  pub outputs : ℕ
  pub observed : ℕ
  pub hidden : ℕ
  pub names : List Name

abbrev pub no_signals : Signals
no_signals = record { outputs = 0; observed = 0; hidden = 0; names = replicate bits [] }

abbrev pub count : Kind → Signals → ℕ
count Output g = g.outputs
count Observed g = g.observed
count Hidden g = g.hidden

abbrev pub first_bit : Kind → ℕ
first_bit Output = 0
first_bit Observed = kind_limit
first_bit Hidden = 2 * kind_limit

-- one more signal, which gets the next bit of its kind
abbrev pub with_name : Kind → Name → Signals → List Name
with_name k name g = set g.names (first_bit k + count k g) name

abbrev pub with_signal : Kind → Name → Signals → Signals
with_signal Output name g = record { outputs = g.outputs + 1; observed = g.observed; hidden = g.hidden; names = with_name Output name g }
with_signal Observed name g = record { outputs = g.outputs; observed = g.observed + 1; hidden = g.hidden; names = with_name Observed name g }
with_signal Hidden name g = record { outputs = g.outputs; observed = g.observed; hidden = g.hidden + 1; names = with_name Hidden name g }

abbrev pub is_declared : Signals → Name → Bool
is_declared g name = ltb (index_of name g.names) bits

-- no room for one more of the kind, or for one more at all
abbrev pub is_full : Kind → Signals → Bool
is_full k g = eqb (count k g) kind_limit || eqb (g.outputs + g.observed + g.hidden) signal_limit

-- ---- formulas

-- the formula that a plan word stands for; a word over one operand has it twice
abbrev pub plan_formula : PlanWord → Formula → Formula → Formula
plan_formula Once φ ψ = once φ
plan_formula Before φ ψ = before φ ψ
plan_formula After φ ψ = after φ ψ
plan_formula (Within steps) φ ψ = within steps φ ψ
plan_formula (During first last) φ ψ = during first last φ

-- the formula of a tree; `val` gives the number of the signal that a name token names
unfoldable pub formula_of : (Token → ℕ) → Tree → Formula
formula_of val (leaf t) = build (op_of t.kind) (val t) False False
formula_of val (pre t a) = build (op_of t.kind) 0 (formula_of val a) False
formula_of val (bin t a b) = build (op_of t.kind) 0 (formula_of val a) (formula_of val b)
formula_of val (plan w a b) = plan_formula w (formula_of val a) (formula_of val b)

-- every name among the tokens of a text is declared
unfoldable pub all_declared : Signals → List ℕ → List Token → Bool
all_declared g text [] = true
all_declared g text (t ∷ ts) = (not (eqb t.kind name_kind) || is_declared g (between text t.from t.next)) && all_declared g text ts

-- the "and" that joins a formula to the n parts before it, if there are any, is one part
abbrev pub joint : ℕ → ℕ
joint zero = 0
joint (suc n) = 1

-- too many parts, or too many temporal operators, with k parts and o operators behind n parts and m operators
abbrev pub exceeds : ℕ → ℕ → ℕ → ℕ → Bool
exceeds n m k o = ltb part_limit (n + k + joint n) || ltb operator_limit (m + o)

abbrev pub is_large : ℕ → ℕ → Formula → Bool
is_large n m φ = exceeds n m (size φ) (operators φ)

-- ---- what a line says, after g was declared, n parts with m operators were read, and o is known of the order

pub data Effect : Type 0 where
  declares : Kind → Name → Effect
  states : Formula → Effect
  orders : Order → Effect
  refuses : Refusal → Effect

unfoldable pub declare_effect : ℕ → Kind → Name → Signals → Effect
declare_effect line k name g =
    cond (not (is_name name)) (refuses (BadLine line))
    (cond (is_declared g name) (refuses (NameTwice line))
    (cond (is_full k g) (refuses (TooManySignals line))
    (declares k name)))

abbrev pub read_effect : ℕ → List ℕ → Res → Signals → ℕ → ℕ → Effect
read_effect line text parse.none g n m = refuses (BadFormula line)
read_effect line text (parse.some a next) g n m =
    cond (not (all_declared g text (tokens text 0))) (refuses (UnknownName line))
    (cond (is_large n m (formula_of (leaf_value g.names text) a)) (refuses (TooManyParts line))
    (states (formula_of (leaf_value g.names text) a)))

unfoldable pub state_effect : ℕ → List ℕ → Signals → ℕ → ℕ → Effect
state_effect line text g n m = cond (not (is_text text)) (refuses (BadLine line)) (read_effect line text (parse_formula text) g n m)

-- from what was said before, and what the line names
abbrev pub order_effect : ℕ → Option Order → Option Order → Effect
order_effect line (Some o) named = refuses (BadLine line)
order_effect line None None = refuses (BadLine line)
order_effect line None (Some o) = orders o

abbrev pub by_word : Word → ℕ → List ℕ → Signals → ℕ → ℕ → Option Order → Effect
by_word (Declare k) line second g n m o = declare_effect line k second g
by_word Rule line second g n m o = state_effect line second g n m
by_word OrderWord line second g n m o = order_effect line o (order_named second)
by_word Unknown line second g n m o = refuses (BadLine line)

unfoldable pub effect_of : ℕ → List ℕ → Signals → ℕ → ℕ → Option Order → Effect
effect_of line bytes g n m o =
    cond (has_tab bytes) (by_word (word_of (first_field bytes)) line (second_field bytes) g n m o) (refuses (BadLine line))

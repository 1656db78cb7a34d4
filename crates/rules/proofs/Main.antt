-- The theorems of this crate. Assumes nothing.
use Rattle.std.specs.Prelude.{Err, Ok, false}
use Prim.Native.Nat.{ℕ, ◌+◌, ◌≤◌, ◌<◌}
use mathlib.Core.Path.{◌≡◌}
use mathlib.Core.Logic.{◌↔◌, ◌⊎◌}
use mathlib.Core.Bool.{true}
use mathlib.Core.List.{List}
use lib.ListN.{length, replicate}
use Rattle.grammar.specs.Names.{Name, index_of}
use Rattle.formula.specs.Formula.{Formula, size, operators}
use Rattle.formula.specs.Letter.{Counts, IsLetter, is_letter}
use Rattle.syntax.specs.declared.plans.PlanWord.{PlanWord}
use Rattle.syntax.specs.declared.plans.PlanWord.TheVariants as plan
use Rattle.syntax.specs.Plans.{InRange, plan_size, plan_operators}
use Rattle.formula.specs.Semantics.{Trace, Sat, holds}
use Rattle.formula.specs.Meanings.{AtMostOnce, SometimeBefore, SometimeAfter, AlwaysWithin, HoldDuring, TrueAt}
use Rattle.formula.specs.Parts.{last_of}
use Rattle.formula.specs.Values.{value_on}
use Rattle.basics.specs.Limits.{kind_limit}
use Rattle.basics.specs.Member.{◌∈◌}
use Rattle.basics.specs.declared.order.Order.{Order}
use Rattle.lines.specs.declared.refusal.Refusal.{Refusal}
use Rattle.lines.specs.declared.refusal.Refusal.TheVariants.{BadTrace}
use Rattle.lines.specs.declared.problem.Kind.{Kind}
use Rattle.lines.specs.Limits.{name_limit}
use Rattle.lines.specs.Refusal.{number_of, place_of, Told}
use Rattle.lines.specs.Lines.{ended, lines, order_line}
use Rattle.lines.specs.StepOrder.{default_order}
use Rattle.lines.specs.Effect.{Signals, count, first_bit, with_signal, plan_formula}
use Rattle.rules.specs.Limits.{work_size}
use Rattle.rules.specs.Problem.{Draft, Problem, formula_in, problem_parts, accepted, refused, blank, read_problem}
use Rattle.rules.specs.Satisfies.{Satisfies}
use Rattle.rules.specs.Within.{Few, Named, Within, counts_in}
use Rattle.rules.specs.Denotes.{IsDeclared, Reads, Denotes}
use Rattle.rules.specs.Refuses.{Refuses}
use Rattle.rules.specs.Trace.{RightLength, IsTrace, FirstBad}
use Rattle.rules.specs.Reading.{reading_of, told_reading, ReadAs}
use Rattle.rules.specs.Judge.{judged, work_after, told_verdict, JudgedAs}
use Rattle.formula.proofs.Agreement
use Rattle.formula.proofs.ConstraintsLaws
use Rattle.formula.proofs.LetterLaws
use Rattle.lines.proofs.PlanCounts
use Rattle.rules.proofs.SatisfiesLaws
use Rattle.rules.proofs.ProblemLaws
use Rattle.rules.proofs.DenotesLaws
use Rattle.rules.proofs.ProblemOrder
use Rattle.rules.proofs.RefusesLaws
use Rattle.rules.proofs.ReadIffDue
use Rattle.rules.proofs.WithinLimits
use Rattle.rules.proofs.JudgeLaws
use Rattle.rules.proofs.JudgedIffDue

-- ---- a problem's text

module _ (source : List ℕ) where
  -- a problem is read exactly where the text denotes it by the written grammar
  pub reading : (p : Problem) → (read_problem source ≡ accepted p) ↔ Denotes source p
  reading = DenotesLaws.read_iff_denotes source

  -- and a refusal is given exactly where its number and its place are due (REFERENCE.md, Refusals)
  pub refusing : (r : Refusal) → (read_problem source ≡ refused r) ↔ Refuses source (number_of r) (place_of r)
  refusing = RefusesLaws.refused_iff source

  -- both in the reference's terms: the numbers of signals, parts and operators and the order's, or a refusal's number and place
  pub read_as : (a : Told) → (told_reading (reading_of (read_problem source)) ≡ a) ↔ ReadAs source a
  read_as = ReadIffDue.read_iff source

  -- a text denotes a problem or is refused, and not both
  pub denotes_or_refuses : ((p : Problem) × Denotes source p) ⊎ ((number place : ℕ) × Refuses source number place)
  denotes_or_refuses = RefusesLaws.denotes_or_refuses source

  pub not_both : (p : Problem) (number place : ℕ) → Denotes source p → ¬ Refuses source number place
  not_both = RefusesLaws.not_both source

  -- it denotes one problem, or has one refusal
  pub one_problem : (p q : Problem) → Denotes source p → Denotes source q → p ≡ q
  one_problem = DenotesLaws.one_problem source

  pub one_refusal : (n m number place : ℕ) → Refuses source n m → Refuses source number place → (n ≡ number) × (m ≡ place)
  one_refusal = RefusesLaws.one_refusal source

  -- a problem that is read is within the limits
  pub limits : (p : Problem) → read_problem source ≡ accepted p → Within p
  limits = WithinLimits.read_within source

-- the order of a problem is what its line `order` says, wherever that stands, and the default where there is none
module _ (source : List ℕ) (p : Problem) (denotes : Denotes source p) where
  pub order_said : (o : Order) → ended (order_line o) ∈ lines source → p.order ≡ o
  order_said = ProblemOrder.order_said source p denotes

  pub order_unsaid : ((o : Order) → ¬ (ended (order_line o) ∈ lines source)) → p.order ≡ default_order
  order_unsaid = ProblemOrder.order_unsaid source p denotes

-- after each line no signal has a name over 12 bytes, so one in a rule is unknown there
pub named_first : Named blank.signals
named_first = WithinLimits.named_blank

pub named_next : {d d' : Draft} {l : List ℕ} → Named d.signals → Reads d l d' → Named d'.signals
named_next = WithinLimits.named_reads

pub long_name : (g : Signals) → Named g → (name : Name) → name_limit < length name → ¬ IsDeclared g name
long_name = WithinLimits.long_unknown

-- a signal gets the next bit of its kind
pub next_bit_lem : (g : Signals) → Named g → (k : Kind) (name : Name) → ¬ IsDeclared g name → Few (with_signal k name g)
    → index_of name (with_signal k name g).names ≡ first_bit k + count k g
next_bit_lem = WithinLimits.next_bit_lem

-- ---- judging

-- a trace is judged exactly as it is due (REFERENCE.md, Judging), refusals included
pub judging : (work : ℕ) (source : List ℕ) (π : Trace) (a : Told) → (told_verdict (judged work source π) ≡ a) ↔ JudgedAs work source π a
judging = JudgedIffDue.judged_iff

-- verdict by verdict, in enough memory
module _ (work : ℕ) (source : List ℕ) (π : Trace) (enough : work_size ≤ work) where
  pub judged_true : (judged work source π ≡ Ok true) ↔ ((p : Problem) × Denotes source p × IsTrace (counts_in p.signals) π × Satisfies π p)
  judged_true = JudgedIffDue.true_iff work source π enough

  pub judged_false : (judged work source π ≡ Ok false) ↔ ((p : Problem) × Denotes source p × IsTrace (counts_in p.signals) π × (¬ Satisfies π p))
  judged_false = JudgedIffDue.false_iff work source π enough

  pub judged_bad : (step : ℕ) → (judged work source π ≡ Err (BadTrace step))
      ↔ ((p : Problem) × Denotes source p × (((step ≡ 0) × ¬ RightLength π) ⊎ (RightLength π × FirstBad (counts_in p.signals) π step)))
  judged_bad = JudgedIffDue.bad_trace_iff work source π enough

-- work memory that is too short stays as it was, and any other is all zero afterwards
pub work_kept : (w : List ℕ) → length w < work_size → work_after w ≡ w
work_kept = JudgeLaws.work_kept

pub work_cleared : (w : List ℕ) → work_size ≤ length w → work_after w ≡ replicate (length w) 0
work_cleared = JudgeLaws.work_cleared

-- ---- plan words

-- each stands for a formula that is true at a step exactly where PDDL 3.0 says so of the steps from it on, and for `during` where the request's
-- window does; a word over one operand does not look at the second
module _ (π : Trace) (i : ℕ) (φ ψ : Formula) where
  pub at_most_once : Sat π i (plan_formula plan.Once φ ψ) ↔ AtMostOnce π i (TrueAt π φ)
  at_most_once = ConstraintsLaws.once_says π i φ

  pub sometime_before : Sat π i (plan_formula plan.Before φ ψ) ↔ SometimeBefore π i (TrueAt π φ) (TrueAt π ψ)
  sometime_before = ConstraintsLaws.before_says π i φ ψ

  pub sometime_after : Sat π i (plan_formula plan.After φ ψ) ↔ SometimeAfter π i (TrueAt π φ) (TrueAt π ψ)
  sometime_after = ConstraintsLaws.after_says π i φ ψ

  pub always_within : (steps : ℕ) → Sat π i (plan_formula (plan.Within steps) φ ψ) ↔ AlwaysWithin π i (TrueAt π φ) (TrueAt π ψ) steps
  always_within = ConstraintsLaws.within_says π i φ ψ

  pub hold_during : (first last : ℕ) → InRange (plan.During first last) → i < length π
      → Sat π i (plan_formula (plan.During first last) φ ψ) ↔ HoldDuring π i (TrueAt π φ) first last
  hold_during first last n h = ConstraintsLaws.during_says π i φ first last h n.0 n.1

-- and counts as its formula does: so many parts, and so many temporal operators where its operands have none
module _ (w : PlanWord) (φ ψ : Formula) where
  pub plan_parts : size (plan_formula w φ ψ) ≡ plan_size w (size φ) (size ψ)
  plan_parts = PlanCounts.plan_parts w φ ψ

  pub plan_operators_lem : InRange w → operators φ ≡ 0 → operators ψ ≡ 0 → operators (plan_formula w φ ψ) ≡ plan_operators w
  plan_operators_lem = PlanCounts.plan_operators_lem w φ ψ

-- ---- what is executed

-- a problem is satisfied where its joined rules are true at the first step
pub joined_rules : (π : Trace) (p : Problem) → Satisfies π p ↔ Sat π 0 (formula_in p)
joined_rules = SatisfiesLaws.satisfies_formula

-- the evaluator is the published relation
pub evaluator : (φ : Formula) (π : Trace) → 0 < length π → (holds φ π ≡ true) ↔ Sat π 0 φ
evaluator = Agreement.holds_iff_Sat

-- and says whether a trace satisfies a problem: whether it meets every line
pub satisfaction : (p : Problem) (π : Trace) → 0 < length π → (holds (formula_in p) π ≡ true) ↔ Satisfies π p
satisfaction = SatisfiesLaws.holds_iff_satisfies

-- the last of a problem's parts is true on a trace exactly where the trace satisfies it
pub parts : (p : Problem) (π : Trace) → 0 < length π
    → (value_on (problem_parts p) π (last_of (problem_parts p)) ≡ true) ↔ Satisfies π p
parts = ProblemLaws.means

-- the test of a letter finds every bit without a signal
pub letters : (c : Counts) → (c.outputs ≤ kind_limit) × (c.observed ≤ kind_limit) × (c.hidden ≤ kind_limit) → (a : ℕ)
    → (is_letter c a ≡ true) ↔ IsLetter c a
letters = LetterLaws.letter_iff

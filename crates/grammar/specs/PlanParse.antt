-- The reader of a plan word, and with it that of formulas.
-- Assumes nothing.
use Rattle.std.specs.Prelude.{ℕ, ◌-◌, List, Bool, true, false, ◌&&◌, cond, eqb, leb, Option, Some, None}
use Rattle.syntax.specs.declared.plans.PlanWord.{PlanWord}
use Rattle.syntax.specs.declared.plans.PlanWord.TheVariants.{Once, Before, After, Within, During}
use Rattle.syntax.specs.Kinds.{end_kind, once_kind, before_kind, after_kind, within_kind, during_kind, open_kind, comma_kind, digit_kind}
use Rattle.syntax.specs.Lex.{token_at}
use Rattle.syntax.specs.Plans.{steps_limit, last_limit}
use Rattle.syntax.specs.Tree.{Tree, plan}
use Rattle.grammar.specs.declared.heads.Digit.{Digit}
use Rattle.grammar.specs.declared.heads.Head.{Head}
use Rattle.grammar.specs.Grammar.{takes_two, propositional, formulas}
use Rattle.grammar.specs.Parse.{Res, none, some, bind, on, close, Reader, parse}

-- ---- up to the first operand

-- the token from `at` on is a digit, and a comma follows
unfoldable pub number_at : List ℕ → ℕ → Option Digit
number_at text at =
    cond (leb (digit_kind 0) (token_at text at).kind && (leb (token_at text at).kind (digit_kind 9)
    && eqb (token_at text (token_at text at).next).kind comma_kind))
    (Some (record { value = (token_at text at).kind - digit_kind 0; next = (token_at text (token_at text at).next).next })) None

-- the word whose numbers were read
abbrev pub within_head : Option Digit → Option Head
within_head None = None
within_head (Some steps) =
    cond (leb steps.value steps_limit) (Some (record { word = Within steps.value; operand = steps.next })) None

abbrev pub during_head : ℕ → Option Digit → Option Head
during_head first None = None
during_head first (Some last) =
    cond (leb 1 first && (leb first last.value && leb last.value last_limit))
    (Some (record { word = During first last.value; operand = last.next })) None

abbrev pub during_from : List ℕ → Option Digit → Option Head
during_from text None = None
during_from text (Some first) = during_head first.value (number_at text first.next)

-- the word of a kind, with its numbers from `at` on
unfoldable pub head_of : ℕ → List ℕ → ℕ → Option Head
head_of k text at =
    cond (eqb k once_kind) (Some (record { word = Once; operand = at }))
    (cond (eqb k before_kind) (Some (record { word = Before; operand = at }))
    (cond (eqb k after_kind) (Some (record { word = After; operand = at }))
    (cond (eqb k within_kind) (within_head (number_at text at))
    (cond (eqb k during_kind) (during_from text (number_at text at)) None))))

-- the word at a place, its `(` and its numbers
unfoldable pub head_at : List ℕ → ℕ → Option Head
head_at text at =
    cond (eqb (token_at text (token_at text at).next).kind open_kind)
    (head_of (token_at text at).kind text (token_at text (token_at text at).next).next) None

-- ---- the operands

-- where the second operand stands: behind a comma, or where the first stands if the word takes one
unfoldable pub second_at : PlanWord → List ℕ → ℕ → ℕ → Option ℕ
second_at w text first at =
    cond (takes_two w) (cond (eqb (token_at text at).kind comma_kind) (Some (token_at text at).next) None) (Some first)

abbrev pub propositions : Reader
propositions = record { grammar = propositional; other = λ text at. none }

abbrev pub plan_second : PlanWord → List ℕ → Tree → Option ℕ → Res
plan_second w text a None = none
plan_second w text a (Some s) = bind (parse propositions text 4 s) (λ b next. close text (plan w a b) next)

abbrev pub plan_from : List ℕ → Option Head → Res
plan_from text None = none
plan_from text (Some h) =
    bind (parse propositions text 4 h.operand) (λ a next. plan_second h.word text a (second_at h.word text h.operand next))

unfoldable pub plan_at : List ℕ → ℕ → Res
plan_at text at = plan_from text (head_at text at)

-- ---- formulas

abbrev pub others_at : Bool → List ℕ → ℕ → Res
others_at true text at = plan_at text at
others_at false text at = none

-- with temporal operators and plan words, or without
abbrev pub reader : Bool → Reader
reader m = record { grammar = formulas m; other = others_at m }

-- a whole formula: a phrase of the loosest level, and nothing after it
unfoldable pub parse_formula : List ℕ → Res
parse_formula text =
    bind (parse (reader true) text 4 0) (λ a next. on (eqb (token_at text next).kind end_kind) (λ _. some a next) (λ _. none))

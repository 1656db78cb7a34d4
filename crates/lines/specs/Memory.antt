-- What the code that reads a problem keeps: counts, the order of a step, the signals' names, and the numbers of the formula's parts so
-- far.
-- Assumes nothing.
use Rattle.lines.specs.declared.refusal.Refusal.{Refusal}
use Rattle.std.specs.Prelude.{ℕ, zero, suc, ◌+◌, ◌≤◌, ◌≡◌, Bool, not, cond, List, [], ◌∷◌, ◌++◌, length, Err, Ok, Result, Some}
use Rattle.std.proofs.lemmas.List.Edits.{sets}
use Rattle.grammar.specs.Names.{Name}
use Rattle.formula.specs.declared.formula.Op.TheVariants as op
use Rattle.lines.specs.declared.refusal.Refusal.TheVariants.{TooManyParts}
use Rattle.lines.specs.declared.problem.Kind.{Kind}
use Rattle.lines.specs.declared.problem.Kind.TheVariants.{Output, Observed, Hidden}
use Rattle.basics.specs.declared.order.Order.{Order}
use Rattle.lines.specs.declared.problem.Sizes.{Sizes}
use Rattle.basics.specs.Limits.{kind_limit, operator_limit}
use Rattle.formula.specs.Limits.{part_limit}
use Rattle.formula.specs.Formula.{Formula, size, operators}
use Rattle.formula.specs.Parts.{parts_from, temporals}
use Rattle.formula.specs.declared.parts.Part.{Part}
use Rattle.formula.specs.Codes.{codes_of}
use Rattle.syntax.specs.Cells.{codes_from, kinds_in}
use Rattle.lines.specs.StepOrder.{order_or}
use Rattle.lines.specs.Effect.{Signals, joint, exceeds, Effect, declares, states, orders, refuses, with_name, effect_of}

-- the signals that are kept
abbrev pub signals_in : Sizes → List Name → Signals
signals_in s names = record { outputs = s.outputs; observed = s.observed; hidden = s.hidden; names = names }

abbrev pub count_in : Kind → Sizes → ℕ
count_in Output s = s.outputs
count_in Observed s = s.observed
count_in Hidden s = s.hidden

-- the counts with one more signal
abbrev pub more_signals : Kind → Sizes → Sizes
more_signals Output s =
    record { outputs = s.outputs + 1; observed = s.observed; hidden = s.hidden; parts = s.parts; operators = s.operators; order = s.order }
more_signals Observed s =
    record { outputs = s.outputs; observed = s.observed + 1; hidden = s.hidden; parts = s.parts; operators = s.operators; order = s.order }
more_signals Hidden s =
    record { outputs = s.outputs; observed = s.observed; hidden = s.hidden + 1; parts = s.parts; operators = s.operators; order = s.order }

-- the counts with one more formula, of k parts and o operators
abbrev pub more_parts : ℕ → ℕ → Sizes → Sizes
more_parts k o s =
    record {
      outputs = s.outputs;
      observed = s.observed;
      hidden = s.hidden;
      parts = s.parts + k + joint s.parts;
      operators = s.operators + o;
      order = s.order;
    }

-- the order that is kept, the default where no line has said it; and what is kept once a line has
abbrev pub order_in : Sizes → Order
order_in s = order_or s.order

abbrev pub fix_order : Order → Sizes → Sizes
fix_order o s =
    record { outputs = s.outputs; observed = s.observed; hidden = s.hidden; parts = s.parts; operators = s.operators; order = Some o }

-- the part that joins a formula of k parts to the n before it
abbrev pub join_part : ℕ → ℕ → List Part
join_part zero k = []
join_part (suc n) k = record { kind = op.And; left = n; right = n + k } ∷ []

-- the parts that a formula adds behind n parts
abbrev pub added_parts : Formula → ℕ → List Part
added_parts φ n = parts_from φ n ++ join_part n (size φ)

-- a list of numbers with those of parts stored from place n on
abbrev pub stored_from : List Part → ℕ → List ℕ → List ℕ
stored_from ps n p = sets p n (codes_of ps)

-- ---- what a line leaves

abbrev pub reading_after : Effect → Sizes → Result Sizes Refusal
reading_after (declares k name) s = Ok (more_signals k s)
reading_after (states φ) s = Ok (more_parts (size φ) (operators φ) s)
reading_after (orders o) s = Ok (fix_order o s)
reading_after (refuses r) s = Err r

abbrev pub names_after : Effect → Sizes → List Name → List Name
names_after (declares k name) s names = with_name k name (signals_in s names)
names_after (states φ) s names = names
names_after (orders o) s names = names
names_after (refuses r) s names = names

abbrev pub parts_after : Effect → Sizes → List ℕ → List ℕ
parts_after (declares k name) s p = p
parts_after (states φ) s p = stored_from (added_parts φ s.parts) s.parts p
parts_after (orders o) s p = p
parts_after (refuses r) s p = p

-- what the cells of a formula leave
abbrev pub cells_fit : List ℕ → Sizes → Bool
cells_fit cs s = not (exceeds s.parts s.operators (length cs) (temporals (kinds_in cs)))

abbrev pub cells_reading : List ℕ → ℕ → Sizes → Result Sizes Refusal
cells_reading cs line s = cond (cells_fit cs s) (Ok (more_parts (length cs) (temporals (kinds_in cs)) s)) (Err (TooManyParts line))

abbrev pub cells_stored : List ℕ → Sizes → List ℕ → List ℕ
cells_stored cs s p = cond (cells_fit cs s) (sets p s.parts (codes_from s.parts cs ++ codes_of (join_part s.parts (length cs)))) p

-- what holds between lines
pub record Kept (s : Sizes) (p : List ℕ) : Type 0 where
  pub outputs_few : s.outputs ≤ kind_limit
  pub observed_few : s.observed ≤ kind_limit
  pub hidden_few : s.hidden ≤ kind_limit
  pub parts_few : s.parts ≤ part_limit
  pub operators_few : s.operators ≤ operator_limit
  pub parts_long : length p ≡ part_limit

abbrev pub line_effect : List ℕ → ℕ → Sizes → List Name → Effect
line_effect bytes line s names = effect_of line bytes (signals_in s names) s.parts s.operators s.order

-- what reading line `line`, which has these bytes, leaves
pub record LineRead (bytes : List ℕ) (line : ℕ) (s : Sizes) (names : List Name) (p : List ℕ) (names' : List Name) (p' : List ℕ)
    (r : Result Sizes Refusal) : Type 0 where
  pub reading : r ≡ reading_after (line_effect bytes line s names) s
  pub names_left : names' ≡ names_after (line_effect bytes line s names) s names
  pub parts_left : p' ≡ parts_after (line_effect bytes line s names) s p

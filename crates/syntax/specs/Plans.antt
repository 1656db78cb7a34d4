-- What a plan word stands for (REFERENCE.md, Plan words), in cells: those of its expansion, from those of its operands. A word with one
-- operand does not look at the second.
-- Assumes nothing.
use Rattle.std.specs.Prelude.{ℕ, zero, suc, ◌+◌, ◌-◌, ◌*◌, ◌≤◌, List}
use Rattle.syntax.specs.declared.plans.PlanWord.{PlanWord}
use Rattle.syntax.specs.declared.plans.PlanWord.TheVariants.{Once, Before, After, Within, During}
use Rattle.syntax.specs.Kinds.{not_kind, and_kind, or_kind, next_kind, weak_next_kind, eventually_kind, always_kind, until_kind}
use Rattle.syntax.specs.Cells.{prefix_cells, infix_cells}

-- the largest number of `within`, and of `during`
abbrev pub steps_limit : ℕ
steps_limit = 5

abbrev pub last_limit : ℕ
last_limit = 7

-- the numbers that may stand in a word
abbrev pub InRange : PlanWord → Type 0
InRange Once = Unit {0}
InRange Before = Unit {0}
InRange After = Unit {0}
InRange (Within steps) = steps ≤ steps_limit
InRange (During first last) = (1 ≤ first) × (first ≤ last) × (last ≤ last_limit)

-- ---- the cells

-- an operand now, and joined by `op` to it the same at the next n steps, each behind a `step`: b | X(b | X(b | ..))
unfoldable pub chain_cells : ℕ → ℕ → ℕ → List ℕ → List ℕ
chain_cells op step zero cs = cs
chain_cells op step (suc n) cs = infix_cells op cs (prefix_cells step (chain_cells op step n cs))

-- behind n weak nexts
unfoldable pub delay_cells : ℕ → List ℕ → List ℕ
delay_cells zero cs = cs
delay_cells (suc n) cs = prefix_cells weak_next_kind (delay_cells n cs)

-- !F(a & F(!a & F a))
abbrev pub once_cells : List ℕ → List ℕ
once_cells cs =
    prefix_cells not_kind (prefix_cells eventually_kind (infix_cells and_kind cs
    (prefix_cells eventually_kind (infix_cells and_kind (prefix_cells not_kind cs) (prefix_cells eventually_kind cs)))))

-- !(!b U a)
abbrev pub before_cells : List ℕ → List ℕ → List ℕ
before_cells cs ds = prefix_cells not_kind (infix_cells until_kind (prefix_cells not_kind ds) cs)

-- G(!a | F b)
abbrev pub after_cells : List ℕ → List ℕ → List ℕ
after_cells cs ds = prefix_cells always_kind (infix_cells or_kind (prefix_cells not_kind cs) (prefix_cells eventually_kind ds))

-- G(!a | (b | X(b | ..)))
abbrev pub within_cells : ℕ → List ℕ → List ℕ → List ℕ
within_cells steps cs ds = prefix_cells always_kind (infix_cells or_kind (prefix_cells not_kind cs) (chain_cells or_kind next_kind steps ds))

-- N..N(a & N(a & ..))
abbrev pub during_cells : ℕ → ℕ → List ℕ → List ℕ
during_cells first last cs = delay_cells (first - 1) (chain_cells and_kind weak_next_kind (last - first) cs)

unfoldable pub plan_cells : PlanWord → List ℕ → List ℕ → List ℕ
plan_cells Once cs ds = once_cells cs
plan_cells Before cs ds = before_cells cs ds
plan_cells After cs ds = after_cells cs ds
plan_cells (Within steps) cs ds = within_cells steps cs ds
plan_cells (During first last) cs ds = during_cells first last cs

-- how many they are, from how many its operands have
unfoldable pub plan_size : PlanWord → ℕ → ℕ → ℕ
plan_size Once s t = 7 + 3 * s
plan_size Before s t = 3 + s + t
plan_size After s t = 4 + s + t
plan_size (Within steps) s t = 3 + s + (steps + 1) * t + 2 * steps
plan_size (During first last) s t = first - 1 + (last - first + 1) * s + 2 * (last - first)

-- how many of them are temporal operators, where its operands have none
unfoldable pub plan_operators : PlanWord → ℕ
plan_operators Once = 3
plan_operators Before = 1
plan_operators After = 2
plan_operators (Within steps) = steps + 1
plan_operators (During first last) = last - 1

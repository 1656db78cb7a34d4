-- The tree of a formula text, and the list of cells that stands for it.
-- Assumes nothing.
use Rattle.std.specs.Prelude.{ℕ, ◌+◌, ◌%◌, List, [], ◌∷◌}
use Rattle.syntax.specs.declared.lex.Token.{Token}
use Rattle.syntax.specs.declared.plans.PlanWord.{PlanWord}
use Rattle.syntax.specs.Cells.{cell, prefix_cells, infix_cells}
use Rattle.syntax.specs.Plans.{plan_cells, plan_size}

-- a plan word stands over two operands; one that takes one has it twice
pub data Tree : Type 0 where
  leaf : Token → Tree
  pre : Token → Tree → Tree
  bin : Token → Tree → Tree → Tree
  plan : PlanWord → Tree → Tree → Tree

-- how many parts, those of a word's expansion for a word
unfoldable pub size : Tree → ℕ
size (leaf t) = 1
size (pre t a) = size a + 1
size (bin t a b) = size a + size b + 1
size (plan w a b) = plan_size w (size a) (size b)

unfoldable pub cells : (Token → ℕ) → Tree → List ℕ
cells val (leaf t) = cell t.kind (val t % 256) ∷ []
cells val (pre t a) = prefix_cells t.kind (cells val a)
cells val (bin t a b) = infix_cells t.kind (cells val a) (cells val b)
cells val (plan w a b) = plan_cells w (cells val a) (cells val b)

-- Cells: one number for each part of a formula (REFERENCE.md, Formulas), a part's cell behind those of its operands. A cell does not tell
-- its place, so that the cells of an operand can be copied; the numbers of parts, which code keeps, do.
-- Assumes nothing.
use Rattle.std.specs.Prelude.{ℕ, suc, ◌+◌, ◌-◌, ◌*◌, ◌/◌, ◌%◌, cond, List, [], ◌∷◌, ◌++◌, map, ltb, length}

-- A part's kind, and beside it a leaf's value, or that there is one operand, which ends just before it, or that there are two, one behind
-- the other, and how many parts the right one has.
abbrev pub cell : ℕ → ℕ → ℕ
cell k x = k + 256 * x

abbrev pub one_sided : ℕ
one_sided = 256

abbrev pub two_sided : ℕ → ℕ
two_sided s = 512 + s % 256

-- the cells of an operator of kind k over an operand's, and over those of a left and a right one
abbrev pub prefix_cells : ℕ → List ℕ → List ℕ
prefix_cells k cs = cs ++ (cell k one_sided ∷ [])

abbrev pub infix_cells : ℕ → List ℕ → List ℕ → List ℕ
infix_cells k cs ds = cs ++ (ds ++ (cell k (two_sided (length ds)) ∷ []))

-- ---- the numbers of parts: the kind lowest, then the left and the right number

-- the number of part n, of kind k, from what stands beside its kind in its cell
abbrev pub code_from : ℕ → ℕ → ℕ → ℕ
code_from n k x = cond (ltb x 256) (k + 256 * x) (cond (ltb x 512) (k + 256 * (n - 1)) (k + 256 * (n - 1 - (x - 512)) + 65536 * (n - 1)))

unfoldable pub code_at : ℕ → ℕ → ℕ
code_at n c = code_from n (c % 256) (c / 256)

-- the numbers of the parts from n on
unfoldable pub codes_from : ℕ → List ℕ → List ℕ
codes_from n [] = []
codes_from n (c ∷ cs) = code_at n c ∷ codes_from (suc n) cs

-- their kinds
unfoldable pub kinds_in : List ℕ → List ℕ
kinds_in cs = map (λ c. c % 256) cs

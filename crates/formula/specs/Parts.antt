-- A formula as a list of parts (REFERENCE.md, Formulas), each after its operands. A part is an operator and the indices of its
-- operands; code keeps it as one number (`Codes`), in which the byte that stands for the operator in a rule is the lowest.
-- `parts_of` writes a formula's parts, and `formula_at` reads the formula of a part back.
-- Assumes nothing.
use Rattle.std.specs.Prelude.{ℕ, zero, suc, ◌+◌, ◌-◌, ◌≤◌, ◌<◌, pred, Bool, false, ◌&&◌, ◌||◌, cond, List, [], ◌∷◌, ◌++◌, map, eqb, length, get_or}
use Rattle.formula.specs.declared.formula.Op.{Op}
use Rattle.formula.specs.declared.formula.Op.TheVariants as op
use Rattle.basics.specs.Bits.{digit}
use Rattle.formula.specs.Formula.{Formula, signal, True, False, Not, And, Or, Implies, X, N, F, G, U, R, size}
-- `kind` is the operator; `left` is the number of a signal, or the index of the only or the left operand; what an operator does not use is 0
pub use Rattle.formula.specs.declared.parts.Part.{Part}

-- ---- the byte of an operator

abbrev pub byte_of : Op → ℕ
byte_of op.Signal = 97
byte_of op.True = 116
byte_of op.False = 102
byte_of op.Not = 33
byte_of op.And = 38
byte_of op.Or = 124
byte_of op.Implies = 45
byte_of op.Next = 88
byte_of op.WeakNext = 78
byte_of op.Eventually = 70
byte_of op.Always = 71
byte_of op.Until = 85
byte_of op.Release = 82

-- the operator that a byte stands for; a byte that stands for none counts as `False`
unfoldable pub op_of : ℕ → Op
op_of k =
    cond (eqb k 97) op.Signal (cond (eqb k 116) op.True (cond (eqb k 33) op.Not (cond (eqb k 38) op.And (cond (eqb k 124) op.Or
    (cond (eqb k 45) op.Implies (cond (eqb k 88) op.Next (cond (eqb k 78) op.WeakNext (cond (eqb k 70) op.Eventually
    (cond (eqb k 71) op.Always (cond (eqb k 85) op.Until (cond (eqb k 82) op.Release op.False)))))))))))

-- whether a byte stands for a temporal operator
abbrev pub is_temporal : ℕ → Bool
is_temporal k = eqb k 88 || eqb k 78 || eqb k 70 || eqb k 71 || eqb k 85 || eqb k 82

-- how many bytes stand for one
unfoldable pub temporals : List ℕ → ℕ
temporals [] = 0
temporals (k ∷ ks) = digit (is_temporal k) + temporals ks

-- ---- a formula's parts

abbrev pub one_part : Op → ℕ → ℕ → List Part
one_part k l r = record { kind = k; left = l; right = r } ∷ []

-- an operator behind its operand's parts, and behind those of its two operands
abbrev pub unary_parts : Op → Formula → ℕ → List Part → List Part
unary_parts k φ n ps = ps ++ one_part k (n + size φ - 1) 0

abbrev pub binary_parts : Op → Formula → Formula → ℕ → List Part → List Part → List Part
binary_parts k φ ψ n ps qs = ps ++ qs ++ one_part k (n + size φ - 1) (n + size φ + size ψ - 1)

-- the parts of a formula, the first of them at index n and the formula itself last
unfoldable pub parts_from : Formula → ℕ → List Part
parts_from (signal b) n = one_part op.Signal b 0
parts_from True n = one_part op.True 0 0
parts_from False n = one_part op.False 0 0
parts_from (Not φ) n = unary_parts op.Not φ n (parts_from φ n)
parts_from (And φ ψ) n = binary_parts op.And φ ψ n (parts_from φ n) (parts_from ψ (n + size φ))
parts_from (Or φ ψ) n = binary_parts op.Or φ ψ n (parts_from φ n) (parts_from ψ (n + size φ))
parts_from (Implies φ ψ) n = binary_parts op.Implies φ ψ n (parts_from φ n) (parts_from ψ (n + size φ))
parts_from (X φ) n = unary_parts op.Next φ n (parts_from φ n)
parts_from (N φ) n = unary_parts op.WeakNext φ n (parts_from φ n)
parts_from (F φ) n = unary_parts op.Eventually φ n (parts_from φ n)
parts_from (G φ) n = unary_parts op.Always φ n (parts_from φ n)
parts_from (U φ ψ) n = binary_parts op.Until φ ψ n (parts_from φ n) (parts_from ψ (n + size φ))
parts_from (R φ ψ) n = binary_parts op.Release φ ψ n (parts_from φ n) (parts_from ψ (n + size φ))

unfoldable pub parts_of : Formula → List Part
parts_of φ = parts_from φ 0

-- the index of the last part
abbrev pub last_of : List Part → ℕ
last_of ps = pred (length ps)

-- the bytes of their operators
abbrev pub kinds_of : List Part → List ℕ
kinds_of ps = map (λ p. byte_of p.kind) ps

-- whether an operator is `Signal`, in whose parts alone `left` is the number of a signal
abbrev pub is_signal : Op → Bool
is_signal k = eqb (byte_of k) 97

-- whether one of these parts is the signal b
unfoldable pub have_signal : List Part → ℕ → Bool
have_signal [] b = false
have_signal (p ∷ ps) b = (is_signal p.kind && eqb p.left b) || have_signal ps b

-- ---- the formula of a part

-- past the end of a list
abbrev pub no_part : Part
no_part = record { kind = op.False; left = 0; right = 0 }

unfoldable pub part_at : List Part → ℕ → Part
part_at ps i = get_or ps i no_part

-- how many operands an operator has
abbrev pub arity : Op → ℕ
arity op.Signal = 0
arity op.True = 0
arity op.False = 0
arity op.Not = 1
arity op.And = 2
arity op.Or = 2
arity op.Implies = 2
arity op.Next = 1
arity op.WeakNext = 1
arity op.Eventually = 1
arity op.Always = 1
arity op.Until = 2
arity op.Release = 2

-- how many of them its value reads at the same step
abbrev pub reads : Op → ℕ
reads op.Signal = 0
reads op.True = 0
reads op.False = 0
reads op.Not = 1
reads op.And = 2
reads op.Or = 2
reads op.Implies = 2
reads op.Next = 0
reads op.WeakNext = 0
reads op.Eventually = 1
reads op.Always = 1
reads op.Until = 2
reads op.Release = 2

-- the operands of part i stand before it
pub record Earlier (ps : List Part) (i : ℕ) : Type 0 where
  pub left_earlier : 1 ≤ arity (part_at ps i).kind → (part_at ps i).left < i
  pub right_earlier : 2 ≤ arity (part_at ps i).kind → (part_at ps i).right < i

-- those that its value reads at the same step stand before it
pub record Ready (ps : List Part) (i : ℕ) : Type 0 where
  pub left_ready : 1 ≤ reads (part_at ps i).kind → (part_at ps i).left < i
  pub right_ready : 2 ≤ reads (part_at ps i).kind → (part_at ps i).right < i

-- of every part, so that the values at a step can be worked out from the first part to the last
unfoldable pub AllReady : List Part → Type 0
AllReady ps = (i : ℕ) → i < length ps → Ready ps i

-- the results for the first n parts, f giving that of part i from those of its operands
unfoldable pub bottom_up : {B : Type 0} → B → (ℕ → B → B → B) → List Part → ℕ → List B
bottom_up d f ps zero = []
bottom_up d f ps (suc n) =
    bottom_up d f ps n ++ (f n (get_or (bottom_up d f ps n) (part_at ps n).left d) (get_or (bottom_up d f ps n) (part_at ps n).right d) ∷ [])

-- the result for part i
unfoldable pub result_at : {B : Type 0} → B → (ℕ → B → B → B) → List Part → ℕ → B
result_at d f ps i = get_or (bottom_up d f ps (suc i)) i d

-- an operator over its operands; `b` is the signal
abbrev pub build : Op → ℕ → Formula → Formula → Formula
build op.Signal b φ ψ = signal b
build op.True b φ ψ = True
build op.False b φ ψ = False
build op.Not b φ ψ = Not φ
build op.And b φ ψ = And φ ψ
build op.Or b φ ψ = Or φ ψ
build op.Implies b φ ψ = Implies φ ψ
build op.Next b φ ψ = X φ
build op.WeakNext b φ ψ = N φ
build op.Eventually b φ ψ = F φ
build op.Always b φ ψ = G φ
build op.Until b φ ψ = U φ ψ
build op.Release b φ ψ = R φ ψ

unfoldable pub formula_at : List Part → ℕ → Formula
formula_at ps = result_at False (λ i φ ψ. build (part_at ps i).kind (part_at ps i).left φ ψ) ps

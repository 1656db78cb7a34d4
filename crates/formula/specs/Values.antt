-- The values of parts on a trace, for any parts. An obligation (REFERENCE.md, States) is what a temporal part needs to know of the
-- next step; behind the last step none is met.
-- Assumes nothing.
use Rattle.std.specs.Prelude.{ℕ, Bool, true, false, not, ◌&&◌, ◌||◌, List, [], ◌∷◌}
use Rattle.formula.specs.declared.formula.Op.{Op}
use Rattle.formula.specs.declared.formula.Op.TheVariants as op
use Rattle.basics.specs.Bits.{bit}
use Rattle.formula.specs.Semantics.{Trace}
use Rattle.formula.specs.Parts.{Part, part_at, result_at}

-- the value of a part, from the signal's value s, its own obligation o and its operands' values x and y
abbrev pub combine : Op → Bool → Bool → Bool → Bool → Bool
combine op.Signal s o x y = s
combine op.True s o x y = true
combine op.False s o x y = false
combine op.Not s o x y = not x
combine op.And s o x y = x && y
combine op.Or s o x y = x || y
combine op.Implies s o x y = not x || y
combine op.Next s o x y = o
combine op.WeakNext s o x y = not o
combine op.Eventually s o x y = x || o
combine op.Always s o x y = x && not o
combine op.Until s o x y = y || (x && o)
combine op.Release s o x y = y && (x || not o)

-- what a part's obligation about a step is worth there, from its left operand's value x and its own value v; a part that is
-- not temporal has none
abbrev pub owed : Op → Bool → Bool → Bool
owed op.Signal x v = false
owed op.True x v = false
owed op.False x v = false
owed op.Not x v = false
owed op.And x v = false
owed op.Or x v = false
owed op.Implies x v = false
owed op.Next x v = x
owed op.WeakNext x v = not x
owed op.Eventually x v = v
owed op.Always x v = not v
owed op.Until x v = v
owed op.Release x v = not v

-- ---- one step

-- the value of part i at a step with letter a, with the obligations o about the next step
unfoldable pub value_with : List Part → ℕ → (ℕ → Bool) → ℕ → Bool
value_with ps a o = result_at false (λ i x y. combine (part_at ps i).kind (bit a (part_at ps i).left) (o i) x y) ps

-- the obligation of part i about a step, with the values v there
abbrev pub owed_with : List Part → (ℕ → Bool) → ℕ → Bool
owed_with ps v i = owed (part_at ps i).kind (v (part_at ps i).left) (v i)

-- ---- a trace

-- the obligation of part i about its first step
unfoldable pub owed_on : List Part → Trace → ℕ → Bool
owed_on ps [] i = false
owed_on ps (a ∷ π) i = owed_with ps (value_with ps a (owed_on ps π)) i

-- the value of part i there
unfoldable pub value_on : List Part → Trace → ℕ → Bool
value_on ps [] i = false
value_on ps (a ∷ π) i = value_with ps a (owed_on ps π) i

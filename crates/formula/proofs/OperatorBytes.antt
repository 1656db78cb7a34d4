-- Operators as bytes.
-- Assumes nothing.
use Prim.Native.Nat.{ℕ}
use mathlib.Core.Path.{◌≡◌, refl}
use borrow.Author.Tests.{ne_eqb}
use Rattle.formula.specs.declared.formula.Op.{Op}
use Rattle.formula.specs.declared.formula.Op.TheVariants as op
use Rattle.formula.specs.Parts.{byte_of, op_of}

pub op_of_byte_of : (k : Op) → op_of (byte_of k) ≡ k
unfolding op_of
op_of_byte_of op.Signal = refl
op_of_byte_of op.True = refl
op_of_byte_of op.False = refl
op_of_byte_of op.Not = refl
op_of_byte_of op.And = refl
op_of_byte_of op.Or = refl
op_of_byte_of op.Implies = refl
op_of_byte_of op.Next = refl
op_of_byte_of op.WeakNext = refl
op_of_byte_of op.Eventually = refl
op_of_byte_of op.Always = refl
op_of_byte_of op.Until = refl
op_of_byte_of op.Release = refl

-- a byte that stands for no operator
pub op_of_other : (n : ℕ) → ¬ (n ≡ 97) → ¬ (n ≡ 116) → ¬ (n ≡ 33) → ¬ (n ≡ 38) → ¬ (n ≡ 124) → ¬ (n ≡ 45) → ¬ (n ≡ 88)
    → ¬ (n ≡ 78) → ¬ (n ≡ 70) → ¬ (n ≡ 71) → ¬ (n ≡ 85) → ¬ (n ≡ 82) → op_of n ≡ op.False
unfolding op_of
op_of_other n a b c d e f g h i j k l =
    rw (
      ne_eqb n 97 a,
      ne_eqb n 116 b,
      ne_eqb n 33 c,
      ne_eqb n 38 d,
      ne_eqb n 124 e,
      ne_eqb n 45 f,
      ne_eqb n 88 g,
      ne_eqb n 78 h,
      ne_eqb n 70 i,
      ne_eqb n 71 j,
      ne_eqb n 85 k,
      ne_eqb n 82 l,
    )

-- How many bytes stand for temporal operators.
-- Assumes nothing.
use Prim.Native.Nat.{ℕ, ◌+◌}
use native.Mathlib.Nat.{zero-add, add-zero, add_assoc}
use native.Mathlib.Omega.{arith}
use mathlib.Core.Path.{◌≡◌, refl, sym, ap, ◌∙◌}
use mathlib.Core.List.{List, [], ◌∷◌, ◌++◌, map-append}
use Rattle.formula.specs.declared.formula.Op.{Op}
use Rattle.formula.specs.declared.formula.Op.TheVariants as op
use Rattle.basics.specs.Bits.{digit}
use Rattle.formula.specs.Formula.{Formula, signal, True, False, Not, And, Or, Implies, X, N, F, G, U, R, size, operators}
use Rattle.formula.specs.Parts.{byte_of, is_temporal, temporals, unary_parts, binary_parts, parts_from, kinds_of}
use Rattle.formula.specs.declared.parts.Part.{Part}

pub temporals_append : (xs ys : List ℕ) → temporals (xs ++ ys) ≡ temporals xs + temporals ys
unfolding temporals
temporals_append [] ys = sym (zero-add (temporals ys))
temporals_append (x ∷ xs) ys = ap (λ n. digit (is_temporal x) + n) (temporals_append xs ys) ∙ sym
    (add_assoc (digit (is_temporal x)) (temporals xs) (temporals ys))

temporals_both : (ps qs : List Part) → temporals (kinds_of (ps ++ qs)) ≡ temporals (kinds_of ps) + temporals (kinds_of qs)
temporals_both ps qs = rw map-append (temporals_append (kinds_of ps) (kinds_of qs))

-- an operator behind its operands
temporals_unary : (k : Op) (φ : Formula) (n : ℕ) → temporals (kinds_of (parts_from φ n)) ≡ operators φ
    → temporals (kinds_of (unary_parts k φ n (parts_from φ n))) ≡ operators φ + digit (is_temporal (byte_of k))
unfolding temporals
temporals_unary k φ n e = temporals_both (parts_from φ n) _ ∙ omega arith

temporals_binary : (k : Op) (φ ψ : Formula) (n : ℕ) → temporals (kinds_of (parts_from φ n)) ≡ operators φ
    → temporals (kinds_of (parts_from ψ (n + size φ))) ≡ operators ψ
    → temporals (kinds_of (binary_parts k φ ψ n (parts_from φ n) (parts_from ψ (n + size φ)))) ≡ operators φ + operators ψ + digit (is_temporal (byte_of k))
unfolding temporals
temporals_binary k φ ψ n e f =
    temporals_both (parts_from φ n ++ parts_from ψ (n + size φ)) _ ∙ omega (arith, temporals_both (parts_from φ n) (parts_from ψ (n + size φ)))

-- a formula's parts have its temporal operators
pub temporals_from : (φ : Formula) (n : ℕ) → temporals (kinds_of (parts_from φ n)) ≡ operators φ
unfolding temporals parts_from operators
temporals_from (signal b) n = refl
temporals_from True n = refl
temporals_from False n = refl
temporals_from (Not φ) n = temporals_unary op.Not φ n (temporals_from φ n) ∙ add-zero (operators φ)
temporals_from (X φ) n = temporals_unary op.Next φ n (temporals_from φ n)
temporals_from (N φ) n = temporals_unary op.WeakNext φ n (temporals_from φ n)
temporals_from (F φ) n = temporals_unary op.Eventually φ n (temporals_from φ n)
temporals_from (G φ) n = temporals_unary op.Always φ n (temporals_from φ n)
temporals_from (And φ ψ) n = temporals_binary op.And φ ψ n (temporals_from φ n) (temporals_from ψ (n + size φ)) ∙ add-zero (operators φ + operators ψ)
temporals_from (Or φ ψ) n = temporals_binary op.Or φ ψ n (temporals_from φ n) (temporals_from ψ (n + size φ)) ∙ add-zero (operators φ + operators ψ)
temporals_from (Implies φ ψ) n = temporals_binary op.Implies φ ψ n (temporals_from φ n) (temporals_from ψ (n + size φ)) ∙ add-zero (operators φ + operators ψ)
temporals_from (U φ ψ) n = temporals_binary op.Until φ ψ n (temporals_from φ n) (temporals_from ψ (n + size φ))
temporals_from (R φ ψ) n = temporals_binary op.Release φ ψ n (temporals_from φ n) (temporals_from ψ (n + size φ))

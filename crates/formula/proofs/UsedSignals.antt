-- The signals that are written in a formula: those among its parts; those of the plan words' formulas.
-- Assumes nothing.
use Prim.Native.Nat.{ℕ, zero, suc, ◌+◌}
use mathlib.Core.Path.{◌≡◌, refl, sym, ap, ap₂, ◌∙◌}
use mathlib.Core.Bool.{false, ◌&&◌, ◌||◌, or_assoc, or-false, or_self}
use mathlib.Core.List.{List, [], ◌∷◌, ◌++◌}
use lib.Dec.{eqb}
use Rattle.formula.specs.declared.formula.Op.{Op}
use Rattle.formula.specs.declared.formula.Op.TheVariants as op
use Rattle.formula.specs.Formula.{Formula, signal, True, False, Not, And, Or, Implies, X, N, F, G, U, R, size, uses}
use Rattle.formula.specs.Parts.{Part, is_signal, have_signal, one_part, unary_parts, binary_parts, parts_from, parts_of}
use Rattle.formula.specs.Constraints.{soon, hold, delay}

have_append : (ps qs : List Part) (b : ℕ) → have_signal (ps ++ qs) b ≡ (have_signal ps b || have_signal qs b)
unfolding have_signal
have_append [] qs b = refl
have_append (p ∷ ps) qs b =
    let c = is_signal p.kind && eqb p.left b in
    ap (λ d. c || d) (have_append ps qs b) ∙ sym (or_assoc c (have_signal ps b) (have_signal qs b))

-- ---- a formula's parts have its signals

-- an operator behind its operands
have_behind : (ps : List Part) (k : Op) (l r b : ℕ) → is_signal k ≡ false → have_signal (ps ++ one_part k l r) b ≡ have_signal ps b
unfolding have_signal
have_behind ps k l r b e = have_append ps (one_part k l r) b ∙ rw e (or-false (have_signal ps b))

module _ (k : Op) (s : is_signal k ≡ false) (φ : Formula) (n b : ℕ) (e : have_signal (parts_from φ n) b ≡ uses φ b) where
  have_unary : have_signal (unary_parts k φ n (parts_from φ n)) b ≡ uses φ b
  have_unary = have_behind (parts_from φ n) k _ _ b s ∙ e

  have_binary : (ψ : Formula) → have_signal (parts_from ψ (n + size φ)) b ≡ uses ψ b
      → have_signal (binary_parts k φ ψ n (parts_from φ n) (parts_from ψ (n + size φ))) b ≡ (uses φ b || uses ψ b)
  have_binary ψ f =
      have_behind (parts_from φ n ++ parts_from ψ (n + size φ)) k _ _ b s
      ∙ have_append (parts_from φ n) (parts_from ψ (n + size φ)) b ∙ ap₂ ◌||◌ e f

parts_use : (φ : Formula) (n b : ℕ) → have_signal (parts_from φ n) b ≡ uses φ b
unfolding have_signal parts_from uses
parts_use (signal c) n b = or-false (eqb c b)
parts_use True n b = refl
parts_use False n b = refl
parts_use (Not φ) n b = have_unary op.Not refl φ n b (parts_use φ n b)
parts_use (X φ) n b = have_unary op.Next refl φ n b (parts_use φ n b)
parts_use (N φ) n b = have_unary op.WeakNext refl φ n b (parts_use φ n b)
parts_use (F φ) n b = have_unary op.Eventually refl φ n b (parts_use φ n b)
parts_use (G φ) n b = have_unary op.Always refl φ n b (parts_use φ n b)
parts_use (And φ ψ) n b = have_binary op.And refl φ n b (parts_use φ n b) ψ (parts_use ψ (n + size φ) b)
parts_use (Or φ ψ) n b = have_binary op.Or refl φ n b (parts_use φ n b) ψ (parts_use ψ (n + size φ) b)
parts_use (Implies φ ψ) n b = have_binary op.Implies refl φ n b (parts_use φ n b) ψ (parts_use ψ (n + size φ) b)
parts_use (U φ ψ) n b = have_binary op.Until refl φ n b (parts_use φ n b) ψ (parts_use ψ (n + size φ) b)
parts_use (R φ ψ) n b = have_binary op.Release refl φ n b (parts_use φ n b) ψ (parts_use ψ (n + size φ) b)

pub have_parts : (φ : Formula) (b : ℕ) → have_signal (parts_of φ) b ≡ uses φ b
unfolding parts_of
have_parts φ b = parts_use φ 0 b

-- ---- what repeats an operand has its signals

module _ (φ : Formula) (b : ℕ) where
  pub soon_uses : (n : ℕ) → uses (soon n φ) b ≡ uses φ b
  unfolding soon uses
  soon_uses zero = refl
  soon_uses (suc n) = ap (λ c. uses φ b || c) (soon_uses n) ∙ or_self (uses φ b)

  pub hold_uses : (n : ℕ) → uses (hold n φ) b ≡ uses φ b
  unfolding hold uses
  hold_uses zero = refl
  hold_uses (suc n) = ap (λ c. uses φ b || c) (hold_uses n) ∙ or_self (uses φ b)

  pub delay_uses : (n : ℕ) → uses (delay n φ) b ≡ uses φ b
  unfolding delay uses
  delay_uses zero = refl
  delay_uses (suc n) = delay_uses n

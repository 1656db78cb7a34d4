-- The parts of a formula as code keeps them.
-- Assumes nothing.
use Prim.Native.Nat.{ℕ, ◌≤◌, ◌<◌}
use native.Mathlib.Nat.{min-le_right}
use native.Mathlib.Omega.{arith}
use mathlib.Core.Path.{◌≡◌, sym, ap, ◌∙◌, subst}
use mathlib.Core.Bool.{true, false≢true}
use mathlib.Core.List.{List}
use lib.ListN.{length, get_or, take, length-take}
use lib.Seq.{get_or-take}
use Rattle.basics.specs.Limits.{operator_limit, word_size}
use Rattle.formula.specs.Codes.{parts_in}
use Rattle.formula.specs.declared.formula.Op.{Op}
use Rattle.formula.specs.declared.formula.Op.TheVariants as op
use Rattle.formula.specs.declared.parts.Part.{Part}
use Rattle.formula.specs.Parts.{byte_of, is_temporal, arity, part_at}
use Rattle.formula.proofs.CodesLaws.{length_in}
use Rattle.basics.proofs.ListsLaws.{length_tabulate, get_d_tabulate}
use Rattle.obligations.specs.Obligation.{is_operator, number_of, operators_of}
use Rattle.obligations.specs.Values.{Stored, numbers_of}
use Rattle.obligations.proofs.OperatorSpots.{number_few}

-- the operator of a temporal part has an operand
temporal_arity : (k : Op) → is_temporal (byte_of k) ≡ true → 1 ≤ arity k
temporal_arity op.Signal e = absurd (false≢true e)
temporal_arity op.True e = absurd (false≢true e)
temporal_arity op.False e = absurd (false≢true e)
temporal_arity op.Not e = absurd (false≢true e)
temporal_arity op.And e = absurd (false≢true e)
temporal_arity op.Or e = absurd (false≢true e)
temporal_arity op.Implies e = absurd (false≢true e)
temporal_arity op.Next e = omega arith
temporal_arity op.WeakNext e = omega arith
temporal_arity op.Eventually e = omega arith
temporal_arity op.Always e = omega arith
temporal_arity op.Until e = omega arith
temporal_arity op.Release e = omega arith

module _ (codes : List ℕ) (s : Stored codes) where
  abbrev ps : List Part
  ps = parts_in codes

  pub operators_few : (d : ℕ) → d ≡ operators_of ps → d ≤ operator_limit
  operators_few d e = subst (λ n. n ≤ operator_limit) (sym e) s.operators

  -- an operator's operand is one of the parts
  pub left_inside : (i : ℕ) → i < length codes → is_operator ps i ≡ true → (part_at ps i).left < length codes
  left_inside i h t = s.inside i h (temporal_arity (part_at ps i).kind t)

  -- the numbers of the parts as code keeps them
  module _ (ns : List ℕ) (numbered : take (length codes) ns ≡ numbers_of ps) (i : ℕ) (h : i < length codes) where
    pub number_there : i < length ns
    unfolding numbers_of
    number_there =
        let e : length (take (length codes) ns) ≡ length ps = ap length numbered ∙ length_tabulate (length ps) (number_of ps) in
        omega (arith, length_in codes, length-take (length codes) ns, min-le_right (length codes) (length ns))

    pub number_at : get_or ns i 0 ≡ number_of ps i
    unfolding numbers_of
    number_at =
        sym (get_or-take (length codes) ns i 0 h) ∙ ap (λ l. get_or l i 0) numbered
        ∙ get_d_tabulate (length ps) (number_of ps) i 0 (subst (λ n. i < n) (sym (length_in codes)) h)

    pub number_small : get_or ns i 0 < word_size
    number_small = omega (arith, number_at, number_few ps i (omega (arith, length_in codes)), s.operators)

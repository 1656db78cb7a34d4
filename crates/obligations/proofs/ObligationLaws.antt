-- The values of parts by a pattern: from those of their operands, and on a trace.
-- Assumes nothing.
use Prim.Native.Nat.{ℕ}
use mathlib.Core.Path.{◌≡◌, ap₂, ◌∙◌}
use mathlib.Core.Bool.{true}
use mathlib.Core.List.{List, [], ◌∷◌}
use Rattle.basics.specs.Bits.{bit}
use Rattle.formula.specs.declared.parts.Part.{Part}
use Rattle.formula.specs.Semantics.{Trace}
use Rattle.formula.specs.Parts.{last_of, part_at, Ready}
use Rattle.formula.specs.Values.{combine, owed, value_with, owed_on, value_on}
use Rattle.formula.proofs.ValuesLaws.{with_step, with_same}
use Rattle.obligations.specs.Obligation.{is_operator, number_of, value_at, owed_at, back, pattern_on}
use Rattle.basics.proofs.BitsLaws.{bit_zero}
use Rattle.obligations.proofs.CarriedBack.{pattern_own}

module _ (ps : List Part) where
  -- the value of a part is its operator's over the values of its operands
  pub value_at_step : (a p i : ℕ) → Ready ps i
      → value_at ps a p i
      ≡ combine (part_at ps i).kind (bit a (part_at ps i).left) (bit p (number_of ps i)) (value_at ps a p (part_at ps i).left)
      (value_at ps a p (part_at ps i).right)
  unfolding value_at
  value_at_step a p i r = with_step ps a (λ n. bit p (number_of ps n)) i r

  -- the pattern that a trace meets has the obligations that it meets
  owed_pattern : (π : Trace) (i : ℕ) → is_operator ps i ≡ true → bit (pattern_on ps π) (number_of ps i) ≡ owed_on ps π i
  unfolding pattern_on back value_at owed_at owed_on
  owed_pattern [] i t = bit_zero (number_of ps i)
  owed_pattern (a ∷ π) i t =
      let same : (n : ℕ) → value_at ps a (pattern_on ps π) n ≡ value_with ps a (owed_on ps π) n
      = λ n. with_same ps a (λ j. bit (pattern_on ps π) (number_of ps j)) (owed_on ps π) n (λ j l. owed_pattern π j) in
      pattern_own ps (owed_at ps a (pattern_on ps π)) (value_at ps a (pattern_on ps π) (last_of ps)) i t
      ∙ ap₂ (owed (part_at ps i).kind) (same (part_at ps i).left) (same i)

  -- and gives the values on the trace that has one step more in front
  pub value_pattern : (a : ℕ) (π : Trace) (i : ℕ) → value_at ps a (pattern_on ps π) i ≡ value_on ps (a ∷ π) i
  unfolding value_at value_on
  value_pattern a π i = with_same ps a (λ n. bit (pattern_on ps π) (number_of ps n)) (owed_on ps π) i (λ n l. owed_pattern π n)

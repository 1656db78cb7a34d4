-- The pattern that a letter carries back: its bits, its size, and what it reads.
-- Assumes nothing.
use Prim.Native.Nat.{ℕ, suc, ◌%◌, ◌^◌, ◌<◌}
use native.Mathlib.Nat.{lt_of_lt_of_le}
use native.Mathlib.Numerals.{add-one}
use mathlib.Core.Path.{◌≡◌, refl, sym, ap, ap₂, ◌∙◌, subst}
use mathlib.Core.Bool.{Bool, true, false, false≢true}
use mathlib.Core.List.{List, [], ◌∷◌, ◌++◌, map}
use lib.Pow.{pow_mono}
use lib.Dec.{ltb}
use lib.ListN.{length, get_or, length-append, length-map, get_or-append, get_or-eq_default}
use lib.Seq.{get_or-append_seam}
use borrow.Author.Tests.{ltb-true, ltb-false}
use Rattle.basics.specs.Bits.{bit, from_bits}
use Rattle.formula.specs.declared.parts.Part.{Part}
use Rattle.formula.specs.Parts.{byte_of, is_temporal, last_of, part_at}
use Rattle.formula.specs.Values.{owed}
use Rattle.formula.proofs.ValuesLaws.{with_same}
use Rattle.obligations.specs.Obligation.{is_operator, operators_of, number_of, spots, value_at, owed_at, back}
use Rattle.basics.proofs.BitsLaws.{bit-from_bits, from_bits_lt, bit_mod, bit_out}
use Rattle.basics.proofs.ListsLaws.{get_d_map_in, map_ext_in}
use Rattle.obligations.proofs.OperatorSpots.{number_lt, spot_at, length_spots}

module _ (ps : List Part) where
  -- ---- the operators

  operator_in : (i : ℕ) → is_operator ps i ≡ true → i < length ps
  unfolding part_at
  operator_in i t = at (ltb i (length ps)) refl
    where
      at : (b : Bool) → ltb i (length ps) ≡ b → i < length ps
      at true e = ltb-true i (length ps) e
      at false e =
          absurd (false≢true (sym (ap (λ q. is_temporal (byte_of q.kind)) (get_or-eq_default ps _ {n = i} (ltb-false i (length ps) e))) ∙ t))

  -- an operator's obligation has a number below that of the whole formula's
  number_below_lem : (i : ℕ) → is_operator ps i ≡ true → number_of ps i < operators_of ps
  unfolding operators_of
  number_below_lem i t = number_lt ps i (length ps) (operator_in i t) t

  -- where it stands among the operators
  spot_number : (i d : ℕ) → is_operator ps i ≡ true → get_or (spots ps) (number_of ps i) d ≡ i
  unfolding spots
  spot_number i d t = spot_at ps (length ps) i d (operator_in i t) t

  -- ---- patterns with a bit for each operator and one on top

  module _ (f : ℕ → Bool) (b : Bool) where
    length_bits : length (map f (spots ps) ++ (b ∷ [])) ≡ suc (operators_of ps)
    length_bits = length-append (map f (spots ps)) (b ∷ []) ∙ add-one _ ∙ ap suc (length-map (spots ps) f ∙ length_spots ps)

    -- a pattern of bits for the operators and one for the whole formula
    pattern_lt : from_bits (map f (spots ps) ++ (b ∷ [])) < 2 ^ suc (operators_of ps)
    pattern_lt = subst (λ n. from_bits (map f (spots ps) ++ (b ∷ [])) < 2 ^ n) length_bits (from_bits_lt _)

    pub pattern_low : (k : ℕ) → k < operators_of ps → bit (from_bits (map f (spots ps) ++ (b ∷ []))) k ≡ f (get_or (spots ps) k 0)
    pattern_low k h =
        let l : k < length (spots ps) = rw (length_spots ps) h in
        bit-from_bits _ k ∙ get_or-append (map f (spots ps)) (b ∷ []) false k (rw length-map l) ∙ get_d_map_in f (spots ps) k 0 false l

    pub pattern_own : (i : ℕ) → is_operator ps i ≡ true → bit (from_bits (map f (spots ps) ++ (b ∷ []))) (number_of ps i) ≡ f i
    pattern_own i t = pattern_low (number_of ps i) (number_below_lem i t) ∙ ap f (spot_number i 0 t)

    pub pattern_above : (k : ℕ) → operators_of ps < k → bit (from_bits (map f (spots ps) ++ (b ∷ []))) k ≡ false
    pattern_above k h = bit_out _ k (lt_of_lt_of_le pattern_lt (pow_mono {i = suc (operators_of ps)} {j = k} h))

    pub pattern_whole : bit (from_bits (map f (spots ps) ++ (b ∷ []))) (operators_of ps) ≡ b
    pattern_whole =
        bit-from_bits _ (operators_of ps)
        ∙ ap (λ n. get_or (map f (spots ps) ++ (b ∷ [])) n false) (sym (length-map (spots ps) f ∙ length_spots ps))
        ∙ get_or-append_seam (map f (spots ps)) b [] false

  -- ---- what a letter carries back

  -- it is a pattern
  pub back_fits : (a p : ℕ) → back ps a p < 2 ^ suc (operators_of ps)
  unfolding back
  back_fits a p = pattern_lt (owed_at ps a p) (value_at ps a p (last_of ps))

  -- values read only the operators' bits
  value_low : (a p q i : ℕ) → p % 2 ^ operators_of ps ≡ q % 2 ^ operators_of ps → value_at ps a p i ≡ value_at ps a q i
  unfolding value_at
  value_low a p q i e = with_same ps a _ _ i (λ n l t. own n (number_below_lem n t))
    where
      own : (n : ℕ) → number_of ps n < operators_of ps → bit p (number_of ps n) ≡ bit q (number_of ps n)
      own n h =
          sym (bit_mod p (operators_of ps) (number_of ps n) h) ∙ ap (λ x. bit x (number_of ps n)) e ∙ bit_mod q (operators_of ps) (number_of ps n) h

  -- and so does the whole
  pub back_low : (a p q : ℕ) → p % 2 ^ operators_of ps ≡ q % 2 ^ operators_of ps → back ps a p ≡ back ps a q
  unfolding back owed_at
  back_low a p q e =
      ap₂ (λ bs b. from_bits (bs ++ (b ∷ [])))
      (map_ext_in (owed_at ps a p) (owed_at ps a q) (spots ps)
      (λ i m. ap₂ (owed (part_at ps i).kind) (value_low a p q (part_at ps i).left e) (value_low a p q i e)))
      (value_low a p q (last_of ps) e)

-- The words that letters carry back: what code reads from the values of all parts is what the definition says.
-- Assumes nothing.
use Prim.Native.Nat.{ℕ, ◌+◌, ◌-◌, ◌*◌, ◌≤◌, ◌<◌, pred}
use native.Mathlib.Nat.{le_refl}
use native.Mathlib.Omega.{arith}
use mathlib.Core.Path.{◌≡◌, refl, sym, ap, ap₂, ◌∙◌, subst}
use mathlib.Core.Bool.{Bool, true, false}
use mathlib.Core.List.{List}
use lib.Dec.{eqb, ltb}
use lib.ListN.{length, get_or, take}
use borrow.Author.Tests.{ltb-true, ltb-false, eqb-true, eqb-false, lt-ltb, le-ltb, eq-eqb, ne_eqb}
use Rattle.formula.specs.declared.formula.Op.{Op}
use Rattle.basics.specs.Bits.{bit}
use Rattle.basics.specs.Limits.{word_size}
use Rattle.formula.specs.Codes.{parts_in}
use Rattle.basics.specs.Limits.{index_limit}
use Rattle.formula.specs.declared.parts.Part.{Part}
use Rattle.formula.specs.Parts.{part_at, last_of}
use Rattle.formula.specs.Values.{owed}
use Rattle.formula.proofs.CodesLaws.{length_in}
use Rattle.obligations.specs.Obligation.{is_operator, operators_of, spots, value_at, owed_at, back}
use Rattle.obligations.specs.Words.{lanes, owed_lanes, value_lanes, back_lanes}
use Rattle.obligations.specs.Values.{Stored, block_size, values_to}
use Rattle.states.specs.Planes.{carried_lane}
use Rattle.obligations.proofs.OperatorSpots.{listed_is, listed_spot}
use Rattle.obligations.proofs.CarriedBack.{pattern_low, pattern_whole, pattern_above}
use Rattle.obligations.proofs.WordsLaws.{bit_lanes, lanes_ext, carried, none}
use Rattle.obligations.proofs.StoredParts.{left_inside}
use Rattle.obligations.proofs.ValuesLaws.{Evaluated, evaluated}

-- ---- words

-- the obligation of an operator, from the words of two values
owed_values : (k : Op) (f g : ℕ → Bool) → owed_lanes k (lanes f) (lanes g) ≡ lanes (λ j. owed k (f j) (g j))
unfolding owed_lanes
owed_values k f g =
    lanes_ext (λ j. owed k (bit (lanes f) j) (bit (lanes g) j)) (λ j. owed k (f j) (g j))
    (λ j h. ap₂ (owed k) (bit_lanes f j h) (bit_lanes g j h))

last_lt : (n : ℕ) → 0 < n → pred n < n
last_lt n h = omega arith

-- ---- what code reads

module _ (codes listed v : List ℕ) (d x k : ℕ) where
  abbrev ps : List Part
  ps = parts_in codes

  abbrev spot : ℕ
  spot = get_or listed k 0

  -- the words of an operator that is part q
  abbrev owed_by : Part → ℕ
  owed_by q = owed_lanes q.kind (get_or v (q.left * block_size + x) 0) (get_or v (spot * block_size + x) 0)

  lane_low : k < d → carried_lane ps listed d v x k ≡ owed_by (part_at ps spot)
  unfolding carried_lane
  lane_low h = rw (lt-ltb k d h)

  lane_top : k ≡ d → carried_lane ps listed d v x k ≡ get_or v (last_of ps * block_size + x) 0
  unfolding carried_lane
  lane_top e = rw (le-ltb k d (omega arith), eq-eqb k d e)

  lane_above : d < k → carried_lane ps listed d v x k ≡ 0
  unfolding carried_lane
  lane_above h = rw (le-ltb k d (omega arith), ne_eqb k d (λ e. absurd (omega arith)))

  -- as the code comes to it
  pub read_low : k < d → (q : Part) (r : ℕ) → q ≡ part_at ps spot → r ≡ owed_by q → r ≡ carried_lane ps listed d v x k
  read_low h q r e f = f ∙ ap owed_by e ∙ sym (lane_low h)

  pub read_top : k ≡ d → get_or v ((length codes - 1) * block_size + x) 0 ≡ carried_lane ps listed d v x k
  read_top e =
      let last : length codes - 1 ≡ pred (length codes) = omega arith in
      ap (λ n. get_or v (n * block_size + x) 0) (last ∙ ap pred (sym (length_in codes))) ∙ sym (lane_top e)

  pub read_above : d ≤ k → ¬ (k ≡ d) → 0 ≡ carried_lane ps listed d v x k
  read_above h n = sym (lane_above (omega (arith, n)))

-- ---- one word of stored parts

module _ (codes : List ℕ) (s : Stored codes) (letters v : List ℕ) (w : ℕ) (ev : Evaluated (parts_in codes) letters w (length codes) v)
    (listed : List ℕ) (d : ℕ) (count : d ≡ operators_of (parts_in codes)) (front : take d listed ≡ spots (parts_in codes))
    (x k : ℕ) (xs : x < block_size) where
  abbrev parts : List Part
  parts = parts_in codes

  abbrev letter : ℕ
  letter = get_or letters x 0

  -- the bits of what is carried back
  bit_low : (p : ℕ) → k < d → bit (back parts letter p) k ≡ owed_at parts letter p (get_or listed k 0)
  unfolding back
  bit_low p h =
      pattern_low parts (owed_at parts letter p) _ k (subst (λ n. k < n) count h)
      ∙ ap (owed_at parts letter p) (sym (listed_is parts listed d count front k h))

  bit_top : (p : ℕ) → k ≡ d → bit (back parts letter p) k ≡ value_at parts letter p (last_of parts)
  unfolding back
  bit_top p e = ap (bit (back parts letter p)) (e ∙ count) ∙ pattern_whole parts (owed_at parts letter p) (value_at parts letter p (last_of parts))

  bit_above : (p : ℕ) → d < k → bit (back parts letter p) k ≡ false
  unfolding back
  bit_above p h = pattern_above parts (owed_at parts letter p) _ k (subst (λ n. n < k) count h)

  -- an operator's obligation
  carried_low : k < d → carried_lane parts listed d v x k ≡ back_lanes parts letter w k
  unfolding back_lanes value_lanes owed_at
  carried_low h =
      lane_low codes listed v d x k h
      ∙ ap₂ (owed_lanes q.kind) (ev.value q.left x below xs) (ev.value i x inside xs)
      ∙ owed_values q.kind (λ j. value_at parts letter (w * word_size + j) q.left) (λ j. value_at parts letter (w * word_size + j) i)
      ∙ lanes_ext _ (λ j. bit (back parts letter (w * word_size + j)) k) (λ j l. sym (bit_low (w * word_size + j) h))
    where
      i : ℕ
      i = get_or listed k 0

      q : Part
      q = part_at parts i

      there : (i < length parts) × (is_operator parts i ≡ true)
      there = listed_spot parts listed d count front k h

      inside : i < length codes
      inside = omega (arith, there.0, length_in codes)

      below : q.left < length codes
      below = left_inside codes s i inside there.1

  -- the whole formula's
  carried_top : k ≡ d → carried_lane parts listed d v x k ≡ back_lanes parts letter w k
  unfolding back_lanes value_lanes
  carried_top e =
      let inside : last_of parts < length codes = subst (λ n. pred n < length codes) (sym (length_in codes)) (last_lt (length codes) s.some) in
      lane_top codes listed v d x k e ∙ ev.value (last_of parts) x inside xs
      ∙ lanes_ext (λ j. value_at parts letter (w * word_size + j) (last_of parts)) (λ j. bit (back parts letter (w * word_size + j)) k)
      (λ j l. sym (bit_top (w * word_size + j) e))

  -- none
  carried_above : d < k → carried_lane parts listed d v x k ≡ back_lanes parts letter w k
  unfolding back_lanes
  carried_above h =
      lane_above codes listed v d x k h ∙ carried none
      ∙ lanes_ext (λ j. false) (λ j. bit (back parts letter (w * word_size + j)) k) (λ j l. sym (bit_above (w * word_size + j) h))

  -- what code reads is what the letter carries back
  carried_is : carried_lane parts listed d v x k ≡ back_lanes parts letter w k
  carried_is = at (ltb k d) refl (eqb k d) refl
    where
      at : (b : Bool) → ltb k d ≡ b → (c : Bool) → eqb k d ≡ c → carried_lane parts listed d v x k ≡ back_lanes parts letter w k
      at true e c f = carried_low (ltb-true k d e)
      at false e true f = carried_top (eqb-true k d f)
      at false e false f = carried_above (omega (arith, ltb-false k d e, eqb-false k d f))

-- a word that is read from the values as they are left
pub carried_read : (codes : List ℕ) → Stored codes → (letters v u : List ℕ) (w : ℕ) → length v ≡ index_limit * block_size
    → u ≡ values_to (parts_in codes) letters w (length codes) v → (listed : List ℕ) (d : ℕ) → d ≡ operators_of (parts_in codes)
    → take d listed ≡ spots (parts_in codes) → (x k : ℕ) → x < block_size → (r : ℕ) → r ≡ carried_lane (parts_in codes) listed d u x k
    → r ≡ back_lanes (parts_in codes) (get_or letters x 0) w k
carried_read codes s letters v u w long e listed d count front x k xs r f =
    f ∙ ap (λ t. carried_lane (parts_in codes) listed d t x k) e
    ∙ carried_is codes s letters _ w (evaluated codes letters w (length codes) v s (le_refl _) long) listed d count front x k xs

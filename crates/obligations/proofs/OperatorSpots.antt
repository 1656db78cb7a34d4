-- The temporal operators of some parts: their number and their places.
-- Assumes nothing.
use Prim.Native.Nat.{ℕ, zero, suc, ◌+◌, ◌≤◌, ◌<◌}
use native.Mathlib.Nat.{eq-or-lt_of_le, le_of_suc-le-suc, min-le_right}
use native.Mathlib.Omega.{arith}
use mathlib.Core.Path.{◌≡◌, refl, sym, ap, ap₂, ◌∙◌, subst}
use mathlib.Core.Logic.{◌⊎◌, inl, inr}
use mathlib.Core.Bool.{Bool, true, false}
use mathlib.Core.List.Memᴰ
use mathlib.Core.List.{List, [], ◌∷◌, ◌++◌}
use lib.ListN.{length, get_or, take, length-append, get_or-append, length-take}
use lib.Seq.{get_or-append_seam, get_or-take}
use Rattle.basics.specs.Bits.{digit}
use Rattle.formula.specs.declared.parts.Part.{Part}
use Rattle.formula.specs.Parts.{byte_of, is_temporal, temporals, kinds_of, part_at}
use Rattle.basics.specs.Member.{◌∈◌}
use Rattle.obligations.specs.Obligation.{is_operator, number_of, operators_of, only_if, spots_to, spots}
use Rattle.basics.proofs.MemberLaws.{get_d_in}

length_only_if : (b : Bool) (n : ℕ) → length (only_if b n) ≡ digit b
length_only_if true n = refl
length_only_if false n = refl

module _ (ps : List Part) where
  -- an earlier part has no larger number
  number_le : (i n : ℕ) → i ≤ n → number_of ps i ≤ number_of ps n
  unfolding number_of
  number_le i zero h = let e : i ≡ 0 = omega arith in rw e (omega arith)
  number_le i (suc n) h = at (λ k. number_le i n k) (eq-or-lt_of_le h)
    where
      at : (i ≤ n → number_of ps i ≤ number_of ps n) → (i ≡ suc n) ⊎ (i < suc n) → number_of ps i ≤ number_of ps (suc n)
      at ih (inl e) = rw e (omega arith)
      at ih (inr k) = omega (arith, ih (le_of_suc-le-suc k))

  -- and an earlier operator a smaller one
  pub number_lt : (i n : ℕ) → i < n → is_operator ps i ≡ true → number_of ps i < number_of ps n
  unfolding number_of
  number_lt i n h t = omega (arith, number_le (suc i) n h, ap digit t)

  -- so all numbers are small if there are few operators
  pub number_few : (i : ℕ) → i ≤ length ps → number_of ps i ≤ operators_of ps
  unfolding operators_of
  number_few i h = number_le i (length ps) h

  -- as many places as operators
  pub length_spots_to : (n : ℕ) → length (spots_to ps n) ≡ number_of ps n
  unfolding spots_to number_of
  length_spots_to zero = refl
  length_spots_to (suc n) = length-append (spots_to ps n) _ ∙ ap₂ ◌+◌ (length_spots_to n) (length_only_if (is_operator ps n) n)

  pub length_spots : length (spots ps) ≡ operators_of ps
  unfolding spots operators_of
  length_spots = length_spots_to (length ps)

  -- an operator's place stands at its number
  pub spot_at : (n i d : ℕ) → i < n → is_operator ps i ≡ true → get_or (spots_to ps n) (number_of ps i) d ≡ i
  unfolding spots_to
  spot_at zero i d l t = absurd (omega arith)
  spot_at (suc n) i d l t = at (λ k. spot_at n i d k t) (eq-or-lt_of_le (le_of_suc-le-suc l))
    where
      at : (i < n → get_or (spots_to ps n) (number_of ps i) d ≡ i) → (i ≡ n) ⊎ (i < n) → get_or (spots_to ps (suc n)) (number_of ps i) d ≡ i
      at ih (inl e) =
          ap₂ (λ m b. get_or (spots_to ps n ++ only_if b n) m d) (ap (number_of ps) e ∙ sym (length_spots_to n)) (ap (is_operator ps) (sym e) ∙ t)
          ∙ get_or-append_seam (spots_to ps n) n [] d ∙ sym e
      at ih (inr k) =
          get_or-append (spots_to ps n) _ d (number_of ps i) (rw (length_spots_to n) (number_lt i n k t)) ∙ ih k

  -- what stands at a place is an operator
  spot_to : (n i : ℕ) → i ∈ spots_to ps n → (i < n) × (is_operator ps i ≡ true)
  unfolding spots_to
  spot_to zero i m = absurd (Memᴰ.not-nil m)
  spot_to (suc n) i m = at (λ k. spot_to n i k) (is_operator ps n) refl (Memᴰ.append_cases (spots_to ps n) m)
    where
      at : (i ∈ spots_to ps n → (i < n) × (is_operator ps i ≡ true)) → (b : Bool) → is_operator ps n ≡ b
          → (i ∈ spots_to ps n) ⊎ (i ∈ only_if b n) → (i < suc n) × (is_operator ps i ≡ true)
      at ih b e (inl k) = (omega (arith, (ih k).0), (ih k).1)
      at ih true e (inr k) =
          let q : i ≡ n = Memᴰ.eq_of_singleton k in
          (omega arith, ap (is_operator ps) q ∙ e)
      at ih false e (inr k) = absurd (Memᴰ.not-nil k)

  pub spot_is : (i : ℕ) → i ∈ spots ps → (i < length ps) × (is_operator ps i ≡ true)
  unfolding spots
  spot_is i m = spot_to (length ps) i m

-- ---- a list that begins with all places

module _ (ps : List Part) (listed : List ℕ) (d : ℕ) (count : d ≡ operators_of ps) (front : take d listed ≡ spots ps) (k : ℕ) (h : k < d) where
  pub listed_is : get_or listed k 0 ≡ get_or (spots ps) k 0
  listed_is = sym (get_or-take d listed k 0 h) ∙ ap (λ l. get_or l k 0) front

  pub listed_held : k < length listed
  listed_held = omega (arith, length_spots ps, ap length front, length-take d listed, min-le_right d (length listed))

  pub listed_spot : (get_or listed k 0 < length ps) × (is_operator ps (get_or listed k 0) ≡ true)
  listed_spot =
      subst (λ i. (i < length ps) × (is_operator ps i ≡ true)) (sym listed_is)
      (spot_is ps _ (get_d_in (spots ps) k 0 (omega (arith, length_spots ps))))

-- ---- the operators of a formula

number_cons : (q : Part) (ps : List Part) (n : ℕ) → number_of (q ∷ ps) (suc n) ≡ digit (is_temporal (byte_of q.kind)) + number_of ps n
unfolding number_of part_at
number_cons q ps zero = omega arith
number_cons q ps (suc n) = omega (arith, number_cons q ps n)

-- as many as there are bytes that stand for one
pub operators_are : (ps : List Part) → operators_of ps ≡ temporals (kinds_of ps)
unfolding operators_of number_of temporals
operators_are [] = refl
operators_are (q ∷ ps) = number_cons q ps (length ps) ∙ ap (λ m. digit (is_temporal (byte_of q.kind)) + m) (operators_are ps)

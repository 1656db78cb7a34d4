-- A refusal is told by its number and its place. Assumes nothing.
use Prim.Native.Nat.{ℕ}
use native.Mathlib.Omega.{arith}
use mathlib.Core.Path.{◌≡◌, refl, sym, ap₂, ◌∙◌}
use mathlib.Core.List.{List, [], ◌∷◌}
use lib.ListN.{get_or}
use Rattle.lines.specs.declared.refusal.Refusal.{Refusal}
use Rattle.lines.specs.declared.refusal.Refusal.TheVariants.{LongSource, BadLine, NameTwice, TooManySignals, BadFormula, UnknownName, TooManyParts, NoFormula}
use Rattle.lines.specs.declared.refusal.Refusal.TheVariants.{TooManyStates, TooManyBeliefs, Unrealizable, ShortMemory, BadTable, Stopped, BadObservation, BadTrace, BadText}
use Rattle.lines.specs.Refusal.{number_of, place_of, values, refused}

-- the refusals at a place, in the order of their numbers
at : ℕ → List Refusal
at n =
    LongSource ∷ BadLine n ∷ NameTwice n ∷ TooManySignals n ∷ BadFormula n ∷ UnknownName n ∷ TooManyParts n ∷ NoFormula ∷ TooManyStates
    ∷ TooManyBeliefs ∷ Unrealizable ∷ ShortMemory ∷ BadTable ∷ Stopped ∷ BadObservation ∷ BadTrace n ∷ BadText n ∷ []

refusal_of : ℕ → ℕ → Refusal
refusal_of number place = get_or (LongSource ∷ at place) number LongSource

found : (r : Refusal) → refusal_of (number_of r) (place_of r) ≡ r
unfolding refusal_of at
found LongSource = refl
found (BadLine n) = refl
found (NameTwice n) = refl
found (TooManySignals n) = refl
found (BadFormula n) = refl
found (UnknownName n) = refl
found (TooManyParts n) = refl
found NoFormula = refl
found TooManyStates = refl
found TooManyBeliefs = refl
found Unrealizable = refl
found ShortMemory = refl
found BadTable = refl
found Stopped = refl
found BadObservation = refl
found (BadTrace n) = refl
found (BadText n) = refl

pub same_told : (r q : Refusal) → number_of r ≡ number_of q → place_of r ≡ place_of q → r ≡ q
same_told r q n p = sym (found r) ∙ ap₂ refusal_of n p ∙ found q

-- ---- what is told is told apart

pub told_apart : {C : Type 0} {number place : ℕ} {l : List ℕ} → refused number place ≡ values l → C
told_apart e = let z : ◌≡◌ {A = ℕ} 0 1 = cc in absurd (omega arith)

pub one_value : {m n : ℕ} → values (m ∷ []) ≡ values (n ∷ []) → m ≡ n
one_value e = cc

pub one_number : {m n i j : ℕ} → refused m i ≡ refused n j → m ≡ n
one_number e = cc

pub one_place : {m n i j : ℕ} → refused m i ≡ refused n j → i ≡ j
one_place e = cc

-- Places that are apart: one alone can hold given bytes. The search for all beliefs keeps its places so.
-- Assumes nothing.
use Rattle.std.specs.Prelude.{Some}
use Prim.Native.Nat.{ℕ, ◌+◌, ◌*◌, ◌≤◌, ◌<◌}
use native.Mathlib.Omega.{arith}
use mathlib.Core.Path.{◌≡◌, sym, ◌∙◌, subst}
use mathlib.Core.Logic.{inl, inr}
use mathlib.Core.Bool.{Bool, true, false}
use mathlib.Core.List.Memᴰ
use mathlib.Core.List.{List, []}
use lib.ListN.{length, get_or}
use Rattle.basics.specs.Says.{Says}
use Rattle.search.specs.Limits.{state_limit}
use Rattle.basics.specs.Member.{Distinct, distinct_nil, distinct_cons}
use Rattle.basics.specs.Bounded.{first_that}
use Rattle.basics.specs.Reach.{add_all}
use Rattle.search.specs.ReachableSets.{same_set}
use Rattle.search.specs.Slots.{items_in, with_item, same_slot, count_up_to, ExpandedItems}
use Rattle.basics.specs.Successors.{grown_over}
use Rattle.search.proofs.KeptItems.{count_found}
use Rattle.basics.proofs.MemberLaws.{distinct_at}
use Rattle.basics.proofs.BoundedLaws.{agree_at, agree_all, first_is}
use Rattle.basics.proofs.ReachLaws.{added_all}
use Rattle.search.proofs.ReachableSetsLaws.{same_set_says}
use Rattle.search.proofs.SlotsLaws.{length_item_in, length_items_in, get_d_items_in, with_before}
use Rattle.beliefs.specs.BeliefMemory.{belief_size, pack_belief, belief_in, beliefs_in, HoldsBeliefs, Apart}
use Rattle.basics.proofs.Booleans.{test, clash}
use Rattle.beliefs.proofs.BeliefMemoryLaws.{belief_packing}

-- ---- lists without repeats

-- adding things that are not there yet keeps a list so
pub distinct_added : {A : Type 0} (same : A → A → Bool) → ((x y : A) → Says (same x y) (x ≡ y)) → (xs ys : List A) → Distinct xs
    → Distinct (add_all same xs ys)
distinct_added same says xs ys d = (added_all same says ys xs).distinct d

pub distinct_grown : (f : List Bool → ℕ → List Bool) (steps : List ℕ) (xs : List (List Bool)) (s : List Bool) → Distinct xs
    → Distinct (grown_over same_set f steps xs s)
unfolding grown_over
distinct_grown f steps xs s d = distinct_added same_set same_set_says xs _ d

-- one belief is alone, and those that are there after a turn are different again
pub distinct_one : (n : ℕ) (mem : List ℕ) → Distinct (beliefs_in n mem 1)
unfolding items_in
distinct_one n mem = distinct_cons (λ m. Memᴰ.not-nil m) distinct_nil

pub distinct_next : (n limit : ℕ) (f : List Bool → ℕ → List Bool) (steps : List ℕ) (xs : List (List Bool)) (s : List Bool) (m : ℕ)
    (row mem row' : List ℕ) → Distinct xs
    → Some m ≡ count_up_to limit (grown_over same_set f steps xs s) → ExpandedItems belief_size n pack_belief limit (grown_over same_set f steps xs s) row mem row'
    → Distinct (beliefs_in n mem m)
distinct_next n limit f steps xs s m row mem row' d e z =
    let (few, is) = count_found limit (grown_over same_set f steps xs s) m e in
    subst (λ k. Distinct (beliefs_in n mem k)) (sym is) (subst Distinct (sym (z.items_are few)) (distinct_grown f steps xs s d))

-- ---- places

-- two places hold the same bytes
abbrev SameBytes : List ℕ → ℕ → ℕ → Type 0
SameBytes mem n i = (b : ℕ) → b < belief_size → get_or mem (i * belief_size + b) 0 ≡ get_or mem (n * belief_size + b) 0

same_says : (mem : List ℕ) (n i : ℕ) → Says (same_slot belief_size mem n i) (SameBytes mem n i)
unfolding same_slot
same_says mem n i = (λ e b l. agree_at _ _ belief_size b e l, agree_all _ _ belief_size)

not_same : (mem : List ℕ) (n i : ℕ) → (SameBytes mem n i → ⊥) → same_slot belief_size mem n i ≡ false
not_same mem n i ne = elim (test (same_slot belief_size mem n i)) [ inl t ↦ absurd (ne ((same_says mem n i).0 t)) | inr f ↦ f ]

-- where all before m are apart, one with the bytes of place m is the first
pub only_place : (mem : List ℕ) (m g : ℕ) → Apart mem m → g < m → same_slot belief_size mem m g ≡ true → first_that (same_slot belief_size mem m) m ≡ g
only_place mem m g a h t = first_is (same_slot belief_size mem m) m g h t (λ j l. not_same mem m j (λ q. clash (earlier j q) (a.apart j g l h)))
  where
    earlier : (j : ℕ) → SameBytes mem m j → same_slot belief_size mem g j ≡ true
    earlier j q = (same_says mem g j).1 (λ b k. q b k ∙ sym ((same_says mem m g).0 t b k))

-- different beliefs are apart
pub apart_items : (n : ℕ) → n ≤ state_limit → (mem : List ℕ) (m : ℕ) → HoldsBeliefs n mem m → Distinct (beliefs_in n mem m) → Apart mem m
apart_items n small mem m g d = record { apart = λ i j h l. not_same mem j i (λ q. distinct_at d i j [] h (rw length_items_in l) (equal i j h l q)) }
  where
    equal : (i j : ℕ) → i < j → j < m → SameBytes mem j i → get_or (beliefs_in n mem m) i [] ≡ get_or (beliefs_in n mem m) j []
    equal i j h l q =
        get_d_items_in belief_size n mem m i [] (omega arith)
        ∙ (belief_packing n small).back (belief_in n mem j) (length_item_in belief_size n mem j) mem i (λ b k. q b k ∙ g.slot j b l k)
        ∙ sym (get_d_items_in belief_size n mem m j [] l)

-- writing place m changes none before it
pub apart_written : (mem : List ℕ) (m : ℕ) (bytes : List ℕ) → m * belief_size + belief_size ≤ length mem → Apart mem m
    → Apart (with_item belief_size mem m bytes) m
apart_written mem m bytes room a =
    record { apart = λ i j h l. not_same (with_item belief_size mem m bytes) j i (λ q. clash (before i j h l q) (a.apart i j h l)) }
  where
    kept : (i b : ℕ) → i < m → b < belief_size → get_or (with_item belief_size mem m bytes) (i * belief_size + b) 0 ≡ get_or mem (i * belief_size + b) 0
    kept i b h k = with_before belief_size mem bytes m room (i * belief_size + b) (omega arith)

    before : (i j : ℕ) → i < j → j < m → SameBytes (with_item belief_size mem m bytes) j i → same_slot belief_size mem j i ≡ true
    before i j h l q = (same_says mem j i).1 (λ b k. sym (kept i b (omega arith) k) ∙ q b k ∙ kept j b l k)

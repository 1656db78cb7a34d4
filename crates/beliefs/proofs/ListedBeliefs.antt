-- The beliefs that are counted: how many they are, and that pairs lead from each to one of them.
-- Assumes nothing.
use Rattle.std.specs.Prelude.{None, Some}
use Prim.Native.Nat.{ℕ, ◌+◌, ◌*◌, ◌≤◌, ◌<◌}
use native.Mathlib.Nat.{le_trans, lt_of_lt_of_le}
use native.Mathlib.Omega.{arith}
use mathlib.Core.Path.{◌≡◌, refl, sym, ap, ◌∙◌, subst}
use mathlib.Core.Bool.{false}
use mathlib.Core.List.{List}
use lib.ListN.{length, get_or}
use Rattle.basics.proofs.ListsLaws.{length_tabulate, get_d_tabulate}
use Rattle.basics.specs.Lists.{below, padded}
use Rattle.basics.specs.Reach.{Listing, closed, over, index_in, reachable}
use Rattle.search.specs.ReachableSets.{same_set}
use Rattle.search.specs.Slots.{explored_of}
use Rattle.basics.specs.Successors.{own_steps}
use Rattle.basics.proofs.ReachLaws.{closed_lists, closed_begins}
use Rattle.search.proofs.ReachableSetsLaws.{same_set_says}
use Rattle.play.specs.Limits.{pair_limit}
use Rattle.play.specs.Belief.{Belief, alone}
use Rattle.beliefs.specs.BeliefMemory.{is_final, belief_after, pairs_from, counted_beliefs, moves_of}
use Rattle.beliefs.proofs.NumberedRows.{rows_entry, rows_inside}
use Rattle.beliefs.proofs.BeliefMemoryLaws.{beliefs_reachable, pairs_le}

-- ---- what a count says

not_many : {C : Type 0} (k : ℕ) → Some k ≡ None → C
not_many k e = let z : ◌≡◌ {A = ℕ} 0 1 = cc in absurd (omega arith)

same_count : (j k : ℕ) → Some j ≡ Some k → j ≡ k
same_count j k e = cc

pub counted_some : {K : Type 0} (l : Listing K) (k : ℕ) → Some k ≡ explored_of l → (xs : List K) × (l ≡ closed xs) × (length xs ≡ k)
counted_some (closed xs) k e = (xs, refl, sym (same_count k (length xs) e))
counted_some over k e = not_many k e

pub counted_over : {K : Type 0} (l : Listing K) → None ≡ explored_of l → l ≡ over
counted_over (closed xs) e = not_many (length xs) (sym e)
counted_over over e = refl

module _ (sets successors : List ℕ) (n pairs hiddens limit : ℕ) (bs : List Belief)
    (counted : counted_beliefs sets successors n pairs hiddens limit ≡ closed bs) where
  abbrev after : Belief → ℕ → Belief
  after = belief_after successors n pairs hiddens

  abbrev steps : Belief → List ℕ
  steps b = below (pairs_from sets n pairs b)

  listed : reachable same_set (own_steps after steps) (alone n 0) limit ≡ closed bs
  listed = sym (beliefs_reachable sets successors n pairs hiddens limit) ∙ counted

  -- they are not too many, and the first is one of them
  pub beliefs_few : length bs ≤ limit
  beliefs_few = (closed_lists same_set same_set_says _ _ limit bs listed).1

  pub beliefs_some : 0 < length bs
  beliefs_some = let (ys, e) = closed_begins same_set same_set_says _ _ limit bs listed in omega (arith, ap length e)

  pub steps_fit : pairs ≤ pair_limit → (b : Belief) → length (steps b) ≤ pair_limit
  steps_fit few b = subst (λ m. m ≤ pair_limit) (sym (length_tabulate (pairs_from sets n pairs b) (λ k. k))) (le_trans (pairs_le sets n pairs b) few)

  -- pairs lead to beliefs that are counted, and rows have no other numbers
  pub beliefs_inside : pairs ≤ pair_limit → (size i q : ℕ) → i < length bs → q < pairs
      → get_or (padded size (moves_of sets successors n pairs hiddens (closed bs))) (i * pair_limit + q) 0 < length bs
  beliefs_inside few size i q h l =
      rows_inside same_set after steps pair_limit (steps_fit few) bs same_set_says (alone n 0) limit listed size i q h (lt_of_lt_of_le l few)

  -- where they lead from a belief that is not final
  pub beliefs_entry : pairs ≤ pair_limit → (size i q : ℕ) (e : Belief) → i < length bs → is_final sets n (get_or bs i e) ≡ false → q < pairs
      → get_or (padded size (moves_of sets successors n pairs hiddens (closed bs))) (i * pair_limit + q) 0 ≡ index_in same_set (after (get_or bs i e) q) bs
  beliefs_entry few size i q e h f l =
      let count : pairs_from sets n pairs (get_or bs i e) ≡ pairs = rw f refl in
      let k : q < pairs_from sets n pairs (get_or bs i e) = subst (λ m. q < m) (sym count) l in
      rows_entry same_set after steps pair_limit (steps_fit few) bs e size i q h
      (subst (λ m. q < m) (sym (length_tabulate (pairs_from sets n pairs (get_or bs i e)) (λ k. k))) k)
      ∙ ap (λ a. index_in same_set (after (get_or bs i e) a) bs) (get_d_tabulate (pairs_from sets n pairs (get_or bs i e)) (λ k. k) q 0 k)

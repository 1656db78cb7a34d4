-- The turns of the search for all beliefs: the first one, the marks of those that are final, and what is left at the end.
-- Assumes nothing.
use Rattle.std.specs.Prelude.{None, Option, Some}
use Prim.Native.Nat.{ℕ, ◌+◌, ◌*◌, ◌≤◌, ◌<◌}
use native.Mathlib.Nat.{le_trans}
use native.Mathlib.Omega.{arith}
use mathlib.Core.Path.{◌≡◌, refl, sym, ap, ◌∙◌, subst}
use mathlib.Core.Logic.{◌⊎◌, inl, inr}
use mathlib.Core.Bool.{Bool, true, false}
use mathlib.Core.List.{List, []}
use lib.Dec.{eqb}
use lib.ListN.{length, get_or, set, take, replicate, length-append, length-replicate, length-map, length-set, get_or-append}
use lib.Seq.{ext_get_or, get_or-set_same, get_or-set_other, get_or-take, length-take-le}
use mir.Val.{bool_byte}
use borrow.Author.Tests.{eq-eqb, ne_eqb}
use Rattle.basics.specs.Bits.{digit}
use Rattle.basics.specs.Lists.{below}
use Rattle.basics.specs.Reach.{Listing, closed}
use Rattle.basics.specs.Successors.{grown_over}
use Rattle.basics.proofs.BitsLaws.{digit_is}
use Rattle.basics.proofs.BoundedLaws.{last_or_before}
use Rattle.basics.proofs.ListsLaws.{get_d_map_in}
use Rattle.basics.proofs.ReachLaws.{added_all}
use Rattle.search.specs.Limits.{state_limit}
use Rattle.search.specs.ReachableSets.{same_set}
use Rattle.search.specs.Slots.{count_up_to, explored_of, RanItems}
use Rattle.search.proofs.KeptItems.{count_found, count_many}
use Rattle.search.proofs.ReachableSetsLaws.{same_set_says}
use Rattle.search.proofs.SearchTurns.{Turn, turn_begin, turn_over, turn_closed, turn_answer, turn_left}
use Rattle.search.proofs.SlotsLaws.{length_items_in, get_d_items_in}
use Rattle.play.specs.Limits.{belief_limit, pair_limit}
use Rattle.play.specs.Belief.{Belief, alone}
use Rattle.beliefs.specs.BeliefMemory.{belief_size, pack_belief, belief_in, beliefs_in, HoldsBeliefs}
use Rattle.beliefs.specs.BeliefMemory.{belief_after, pairs_from, tried_from, Tried, counted_beliefs}
use Rattle.beliefs.specs.BeliefMemory.{is_final, mark_of, finals_of, RanBeliefs, Members, belief_of, all_accept}
use Rattle.beliefs.proofs.BeliefMemoryLaws.{belief_packing, length_first, beliefs_reachable, pairs_le, first_memory}
use Rattle.beliefs.proofs.believing.MemberLoop.{final_belief_lem}
use Rattle.beliefs.proofs.counting.PairLoop.{TriedAll, tried_none, same_tried}

-- what `mark_belief` writes
byte_is : (b : Bool) → bool_byte b ≡ digit b
byte_is true = refl
byte_is false = refl

pub mark_is : (sets members : List ℕ) (n count : ℕ) (b : Belief) (r : Bool) → Members n members count → belief_of n members count ≡ b
    → r ≡ all_accept sets members count → bool_byte r ≡ mark_of sets n b
mark_is sets members n count b r g e a = byte_is r ∙ ap digit (a ∙ final_belief_lem n members count g sets) ∙ ap (mark_of sets n) e

-- the first i beliefs in memory have their marks
pub record Marked (sets : List ℕ) (n : ℕ) (mem : List ℕ) (i : ℕ) (finals : List ℕ) : Type 0 where
  pub size : length finals ≡ belief_limit
  pub mark : (j : ℕ) → j < i → get_or finals j 0 ≡ mark_of sets n (belief_in n mem j)

pub marked_none : (sets : List ℕ) (n : ℕ) (mem finals : List ℕ) → length finals ≡ belief_limit → Marked sets n mem 0 finals
marked_none sets n mem finals e = record { size = e; mark = λ j h. absurd (omega arith) }

-- the mark of a belief tells how many pairs are tried in it
module _ (sets : List ℕ) (n : ℕ) (b : Belief) (finals finals' : List ℕ) (i pairs : ℕ) (h : i < length finals)
    (marked : finals' ≡ set finals i (mark_of sets n b)) where
  mark_tells : eqb (get_or finals' i 0) 1 ≡ is_final sets n b
  mark_tells = ap (λ t. eqb (get_or t i 0) 1) marked ∙ ap (λ y. eqb y 1) (get_or-set_same finals i _ 0 h) ∙ digit_is (is_final sets n b)

  final_pairs : get_or finals' i 0 ≡ 1 → 0 ≡ pairs_from sets n pairs b
  final_pairs e = rw (sym mark_tells ∙ eq-eqb _ 1 e) refl

  other_pairs : (get_or finals' i 0 ≡ 1 → ⊥) → pairs ≡ pairs_from sets n pairs b
  other_pairs ne = rw (sym mark_tells ∙ ne_eqb _ 1 ne) refl

-- what `visit_belief` answers and leaves
module _ (sets successors : List ℕ) (n pairs hiddens : ℕ) (mem : List ℕ) (k : ℕ) (row : List ℕ) (b : Belief) (finals finals' : List ℕ) (i : ℕ)
    (h : i < length finals) (marked : finals' ≡ set finals i (mark_of sets n b)) where
  abbrev Visited : Option ℕ → List ℕ → List ℕ → Type 0
  Visited = TriedAll successors n hiddens mem k row pairs (pairs_from sets n pairs b) b

  pub visited_final : get_or finals' i 0 ≡ 1 → k ≤ belief_limit → HoldsBeliefs n mem k → Visited (Some k) mem row
  visited_final e few held =
      same_tried successors n hiddens mem k row pairs 0 (pairs_from sets n pairs b) b b (Some k) mem row
      (final_pairs sets n b finals finals' i pairs h marked e) refl (tried_none successors n hiddens mem k row pairs b few held)

  pub visited_other : (get_or finals' i 0 ≡ 1 → ⊥) → (x : Belief) → x ≡ b → (r : Option ℕ) (mem' row' : List ℕ)
      → TriedAll successors n hiddens mem k row pairs pairs x r mem' row' → Visited r mem' row'
  visited_other ne x e r mem' row' =
      same_tried successors n hiddens mem k row pairs pairs (pairs_from sets n pairs b) x b r mem' row'
      (other_pairs sets n b finals finals' i pairs h marked ne) e

-- the beliefs that are there stay where they are while pairs are tried
pub belief_stays : (successors : List ℕ) (n pairs hiddens c : ℕ) (mem : List ℕ) (k : ℕ) (b : Belief) (m : ℕ) (row₀ mem' row : List ℕ)
    → Some m ≡ count_up_to belief_limit (tried_from successors n pairs hiddens c mem k b) → Tried successors n pairs hiddens c mem k b row₀ mem' row
    → (j : ℕ) → j < k → belief_in n mem' j ≡ belief_in n mem j
unfolding grown_over
belief_stays successors n pairs hiddens c mem k b m row₀ mem' row count tried j h =
    let (few, is) = count_found belief_limit (tried_from successors n pairs hiddens c mem k b) m count in
    let added = added_all same_set same_set_says _ (beliefs_in n mem k) in
    let items : beliefs_in n mem' m ≡ _ = ap (beliefs_in n mem') is ∙ tried.items_are few ∙ added.extends in
    let l : j < length (beliefs_in n mem k) = subst (λ y. j < y) (sym (length_items_in belief_size n mem k)) h in
    let long : m ≡ length (beliefs_in n mem k) + length added.tail = sym (length_items_in belief_size n mem' m) ∙ ap length items
    ∙ length-append (beliefs_in n mem k) added.tail in
    sym (get_d_items_in belief_size n mem' m j [] (omega arith)) ∙ ap (λ t. get_or t j []) items
    ∙ get_or-append (beliefs_in n mem k) added.tail [] j l ∙ get_d_items_in belief_size n mem k j [] h

-- one more
pub marked_more : (sets : List ℕ) (n : ℕ) (mem mem' : List ℕ) (k i : ℕ) (finals finals' : List ℕ) → Marked sets n mem i finals → i < k → k ≤ belief_limit
    → ((j : ℕ) → j < k → belief_in n mem' j ≡ belief_in n mem j) → finals' ≡ set finals i (mark_of sets n (belief_in n mem i))
    → Marked sets n mem' (i + 1) finals'
marked_more sets n mem mem' k i finals finals' g h few stays e =
    record {
      size = ap length e ∙ length-set finals i _ ∙ g.size;
      mark = λ j l. ap (λ t. get_or t j 0) e ∙ at j (last_or_before i j l);
    }
  where
    at : (j : ℕ) → (j ≡ i) ⊎ (j < i) → get_or (set finals i (mark_of sets n (belief_in n mem i))) j 0 ≡ mark_of sets n (belief_in n mem' j)
    at j (inl q) =
        ap (λ y. get_or (set finals i (mark_of sets n (belief_in n mem i))) y 0) q ∙ get_or-set_same finals i _ 0 (omega (arith, g.size))
        ∙ ap (mark_of sets n) (sym (ap (belief_in n mem') q ∙ stays i h))
    at j (inr l) =
        get_or-set_other finals i j _ 0 (λ q. omega arith) ∙ g.mark j l ∙ ap (mark_of sets n) (sym (stays j (omega arith)))

-- all
pub marked_all : (sets : List ℕ) (n : ℕ) (mem : List ℕ) (k i : ℕ) (finals : List ℕ) → Marked sets n mem i finals → k ≤ i → k ≤ belief_limit
    → take (length (beliefs_in n mem k)) finals ≡ finals_of sets n (beliefs_in n mem k)
unfolding finals_of
marked_all sets n mem k i finals g h few =
    ap (λ y. take y finals) (length_items_in belief_size n mem k)
    ∙ ext_get_or 0 (take k finals) _ (long ∙ sym (length-map (beliefs_in n mem k) _ ∙ length_items_in belief_size n mem k))
    (λ j l. at j (subst (λ y. j < y) long l))
  where
    long : length (take k finals) ≡ k
    long = length-take-le k finals (omega (arith, g.size))

    at : (j : ℕ) → j < k → get_or (take k finals) j 0 ≡ get_or (finals_of sets n (beliefs_in n mem k)) j 0
    at j l =
        get_or-take k finals j 0 l ∙ g.mark j (omega arith) ∙ ap (mark_of sets n) (sym (get_d_items_in belief_size n mem k j [] l))
        ∙ sym (get_d_map_in (mark_of sets n) (beliefs_in n mem k) j [] 0 (subst (λ y. j < y) (sym (length_items_in belief_size n mem k)) l))

-- ---- turns

module _ (sets successors : List ℕ) (n pairs hiddens : ℕ) where
  abbrev counted : Listing Belief
  counted = counted_beliefs sets successors n pairs hiddens belief_limit

  -- what holds between two turns
  abbrev pub BeliefTurn : List ℕ → List ℕ → ℕ → ℕ → Type 0
  BeliefTurn = Turn belief_size n pack_belief (belief_after successors n pairs hiddens) (alone n 0) belief_limit pair_limit (pairs_from sets n pairs) counted

  -- the rows of the beliefs listed
  abbrev RanRows : List ℕ → List ℕ → Listing Belief → Type 0
  RanRows mem moves l =
      RanItems belief_size pack_belief (belief_after successors n pairs hiddens) (λ b. below (pairs_from sets n pairs b)) pair_limit l mem moves

  pub turn_first : (m : ℕ) (moves : List ℕ) → 0 < n → n ≤ state_limit → belief_size ≤ m → moves ≡ replicate (belief_limit * pair_limit) 0
      → BeliefTurn (set (replicate m 0) 0 1) moves 1 0
  turn_first m moves some few room zeros =
      subst (λ w. BeliefTurn w moves 1 0) (sym (first_memory n m some room))
      (turn_begin (belief_packing n few) (length_first n) (omega arith) (beliefs_reachable sets successors n pairs hiddens belief_limit) belief_size
      (replicate m 0) (pack_belief (alone n 0)) moves refl refl (subst (λ k. belief_size ≤ k) (sym (length-replicate {A = ℕ} m 0)) room)
      (belief_limit * pair_limit) zeros)

  module _ {mem moves : List ℕ} {k i : ℕ} (t : BeliefTurn mem moves k i) where
    -- too many
    pub turn_many : i < k → (moves' finals : List ℕ)
        → None ≡ count_up_to belief_limit (tried_from successors n pairs hiddens (pairs_from sets n pairs (belief_in n mem i)) mem k (belief_in n mem i))
        → (None ≡ explored_of counted) × RanBeliefs sets successors n pairs hiddens counted moves' finals
    turn_many here moves' finals q =
        let tried = pairs_from sets n pairs (belief_in n mem i) in
        subst (λ l. (None ≡ explored_of l) × RanBeliefs sets successors n pairs hiddens l moves' finals)
        (sym (turn_over t here tried refl
        (count_many belief_limit (tried_from successors n pairs hiddens tried mem k (belief_in n mem i)) q)))
        (refl, tt)

    -- all
    pub turn_ran : k ≤ i → n ≤ state_limit → pairs ≤ pair_limit → length mem ≡ (belief_limit + 1) * belief_size → length moves ≡ belief_limit * pair_limit
        → (finals : List ℕ) → Marked sets n mem i finals
        → (Some k ≡ explored_of counted) × RanBeliefs sets successors n pairs hiddens counted moves finals
    turn_ran none_left few few_pairs room space finals g = (
      turn_answer t none_left,
      subst (λ l. RanBeliefs sets successors n pairs hiddens l moves finals) (sym (turn_closed t none_left))
          (rows.1, marked_all sets n mem k i finals g none_left t.few),
    )
      where
        rows : RanRows mem moves (closed (beliefs_in n mem k))
        rows =
            subst (RanRows mem moves) (turn_closed t none_left)
            (turn_left t none_left (belief_packing n few) (omega arith) (λ b. le_trans (pairs_le sets n pairs b) few_pairs)
            (omega (arith, t.few, room)) (omega (arith, t.few, space)))

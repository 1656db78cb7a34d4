-- The search for all beliefs: trying every pair in one belief.
-- Assumes nothing.
use Rattle.std.specs.Prelude.{None, Option, Some}
use Prim.Native.Nat.{ℕ, ◌+◌, ◌*◌, ◌^◌, ◌≤◌, ◌<◌}
use native.Mathlib.Omega.{arith}
use mathlib.Core.Path.{◌≡◌, refl, sym, ap, ◌∙◌, subst}
use mathlib.Core.Bool.{Bool}
use mathlib.Core.List.{List, []}
use lib.ListN.{length, get_or, set}
use Rattle.search.specs.Limits.{state_limit}
use Rattle.basics.specs.Bounded.{first_that}
use Rattle.basics.specs.Lists.{below, written}
use Rattle.basics.specs.Member.{Distinct}
use Rattle.basics.specs.Reach.{add_all}
use Rattle.basics.specs.Successors.{grown_over, row_over}
use Rattle.search.specs.ReachableSets.{same_set}
use Rattle.search.specs.Slots.{with_item, same_slot, count_up_to}
use borrow.Author.Tests.{le-ltb}
use Rattle.basics.proofs.BoundedLaws.{first_le}
use Rattle.search.proofs.SlotsLaws.{length_items_in}
use Rattle.search.proofs.SearchTurns.{whole_row}
use Rattle.search.proofs.StepsFromItem.{reading_none, Adding, Answers, adding_all, adding_copy, adding_old, adding_new, adding_over}
use Rattle.play.specs.Limits.{belief_limit}
use Rattle.play.specs.Belief.{Belief}
use Rattle.beliefs.specs.BeliefMemory.{belief_size, pack_belief, beliefs_in, HoldsBeliefs, Apart}
use Rattle.beliefs.specs.BeliefMemory.{Successors, belief_after, tried_from, Tried, Members, belief_of, after_members}
use Rattle.beliefs.specs.Twins.{Twins}
use Rattle.beliefs.proofs.LimitsLaws.{belief_byte}
use Rattle.beliefs.proofs.BeliefMemoryLaws.{belief_packing, length_after}
use Rattle.beliefs.proofs.believing.MemberLoop.{after_belief}
use Rattle.beliefs.proofs.TwinsLaws.{twin_after}
use Rattle.beliefs.proofs.ApartPlaces.{apart_items, distinct_grown}

-- a place that is not the last one has a number of one byte
pub place_small : (p : ℕ → Bool) (m t : ℕ) → t ≡ first_that p m → m ≤ belief_limit → (t ≡ belief_limit → ⊥) → t < 2 ^ 8
place_small p m t e h ne = omega (arith, first_le p m, belief_byte)

-- the last place is found only where it is written
last_place : (p : ℕ → Bool) (m t : ℕ) → t ≡ first_that p m → m ≤ belief_limit → t ≡ belief_limit → t ≡ m
last_place p m t e h l = omega (arith, first_le p m)

-- ---- what is answered and left, with k beliefs in memory and a row lent

no_steps : {K : Type 0} (same : K → K → Bool) (f : K → ℕ → K) (xs : List K) (s : K) → grown_over same f (below 0) xs s ≡ xs
unfolding grown_over add_all
no_steps same f xs s = refl

no_entries : {K : Type 0} (same : K → K → Bool) (f : K → ℕ → K) (xs : List K) (s : K) → row_over same f (below 0) xs s ≡ []
unfolding row_over
no_entries same f xs s = refl

module _ (successors : List ℕ) (n hiddens : ℕ) (mem : List ℕ) (k : ℕ) (row : List ℕ) where
  -- after the first c pairs, of belief b
  abbrev pub TriedAll : (pairs c : ℕ) → Belief → Option ℕ → List ℕ → List ℕ → Type 0
  TriedAll pairs c b r mem' row' =
      (r ≡ count_up_to belief_limit (tried_from successors n pairs hiddens c mem k b)) × Tried successors n pairs hiddens c mem k b row mem' row'

  -- every pair was tried
  pub tried_all : (c : ℕ) (b : Belief) (r : Option ℕ) (mem' row' : List ℕ) → length row ≡ c
      → Answers belief_size n pack_belief (belief_after successors n c hiddens) b (beliefs_in n mem k) belief_limit c r mem' row' → TriedAll c c b r mem' row'
  tried_all c b r mem' row' e a = (a.0, whole_row _ _ _ _ _ _ _ _ _ _ _ _ e a.1)

  -- none was: all is as it was
  pub tried_none : (pairs : ℕ) (b : Belief) → k ≤ belief_limit → HoldsBeliefs n mem k → TriedAll pairs 0 b (Some k) mem row
  tried_none pairs b few held =
      let after = belief_after successors n pairs hiddens in
      let xs = beliefs_in n mem k in
      let size = length_items_in belief_size n mem k in
      let same = no_steps same_set after xs b in
      let none = no_entries same_set after (tried_from successors n pairs hiddens 0 mem k b) b in (
        sym (ap (count_up_to belief_limit) same ∙ rw (size, le-ltb belief_limit k few) refl),
        record {
          items_are = λ l. ap (λ t. beliefs_in n mem (length t)) same ∙ ap (beliefs_in n mem) size ∙ sym same;
          holds = λ l. subst (HoldsBeliefs n mem) (sym (ap length same ∙ size)) held;
          row_is = λ l. sym (ap (λ t. written t row) none);
        },
      )

  -- said of the same belief and of as many pairs
  pub same_tried : (pairs c c' : ℕ) (b b' : Belief) (r : Option ℕ) (mem' row' : List ℕ) → c ≡ c' → b ≡ b' → TriedAll pairs c b r mem' row'
      → TriedAll pairs c' b' r mem' row'
  same_tried pairs c c' b b' r mem' row' e f t =
      subst (λ x. TriedAll pairs c' x r mem' row') f (subst (λ j. TriedAll pairs j b r mem' row') e t)

-- ---- the loop

-- the belief of the first c members, with k beliefs in memory
module _ (successors twins members : List ℕ) (c n pairs hiddens : ℕ) (mem₀ : List ℕ) (k : ℕ) where
  abbrev x : Belief
  x = belief_of n members c

  -- the facts that stay: the tables are right, the members are states, and the beliefs that were there are different
  pub record Trying : Type 0 where
    pub listed : Members n members c
    pub small : n ≤ state_limit
    pub right : Successors successors n pairs hiddens
    pub same : Twins successors n pairs hiddens twins
    pub room : length mem₀ ≡ (belief_limit + 1) * belief_size
    pub different : Distinct (beliefs_in n mem₀ k)

  -- what the loop keeps
  abbrev pub Kept : ℕ → ℕ → List ℕ → List ℕ → Type 0
  Kept q m mem row =
      Adding belief_size n pack_belief (belief_after successors n pairs hiddens) x (beliefs_in n mem₀ k) belief_limit pairs (length mem₀) q m mem row
      × Trying

  pub kept_none : (row : List ℕ) → length row ≡ pairs → Trying → k ≤ belief_limit → HoldsBeliefs n mem₀ k → Kept 0 k mem₀ row
  kept_none row e g few held = (
    (
      omega arith,
      few,
      refl,
      e,
      reading_none belief_size n pack_belief (belief_after successors n pairs hiddens) x (beliefs_in n mem₀ k) k mem₀ row refl held,
    ),
    g,
  )

  module _ (q m : ℕ) (mem row : List ℕ) (z : Kept q m mem row) (l : q < pairs) where
    within : q < length row
    within = omega (arith, z.0.3)

    -- the beliefs are different
    pub apart_kept : Apart mem m
    apart_kept =
        apart_items n z.1.small mem m z.0.4.holds
        (subst Distinct (sym z.0.4.items)
        (distinct_grown (belief_after successors n pairs hiddens) (below q) (beliefs_in n mem₀ k) x z.1.different))

    -- a pair with an earlier one that leads to the same states
    pub kept_copy : get_or twins q 0 < q → (m' : ℕ) (mem' row' : List ℕ) → mem' ≡ mem → row' ≡ set row q (get_or row (get_or twins q 0) 0) → m' ≡ m
        → Kept (q + 1) m' mem' row'
    kept_copy b m' mem' row' p u s =
        rw (p, u, s) (
          adding_copy _ _ _ _ _ _ z.0 within (get_or twins q 0) b (twin_after successors n pairs hiddens q (get_or twins q 0) x (z.1.same.same q l)),
          z.1,
        )

    -- the belief is written behind the others, and found at place t
    module _ (w : List ℕ) (t : ℕ) (written : w ≡ with_item belief_size mem m (after_members successors members q pairs hiddens c))
        (found : t ≡ first_that (same_slot belief_size (with_item belief_size mem m (after_members successors members q pairs hiddens c)) m) m) where
      w_is : w ≡ with_item belief_size mem m (pack_belief (belief_after successors n pairs hiddens x q))
      w_is =
          written ∙ ap (with_item belief_size mem m) (after_belief successors members n c pairs hiddens q z.1.small z.1.right z.1.listed l)

      first : t ≡ first_that (same_slot belief_size w m) m
      first = found ∙ ap (λ v. first_that (same_slot belief_size v m) m) (sym written)

      pub kept_old : (t ≡ m → ⊥) → (m' : ℕ) (mem' row' : List ℕ) → mem' ≡ w → row' ≡ set row q t → m' ≡ m → Kept (q + 1) m' mem' row'
      kept_old ne m' mem' row' p u s =
          rw (p, u, s) (adding_old _ _ _ _ _ _ z.0 within (belief_packing n z.1.small) z.1.room (length_after _ n _ _ _ _) w t w_is first ne, z.1)

      pub kept_new : t ≡ m → (t ≡ belief_limit → ⊥) → (m' : ℕ) (mem' row' : List ℕ) → mem' ≡ w → row' ≡ set row q t → m' ≡ m + 1
          → Kept (q + 1) m' mem' row'
      kept_new e ne m' mem' row' p u s =
          rw (p, u, s) (
            adding_new _ _ _ _ _ _ z.0 within (belief_packing n z.1.small) z.1.room (length_after _ n _ _ _ _) w t w_is first e (λ y. ne (e ∙ y)),
            z.1,
          )

      -- no place is left for it
      pub kept_over : t ≡ belief_limit → (row₀ mem' row' : List ℕ) → length row₀ ≡ pairs
          → TriedAll successors n hiddens mem₀ k row₀ pairs pairs x None mem' row'
      kept_over y row₀ mem' row' e =
          let at = last_place (same_slot belief_size w m) m t first z.0.1 y in
          tried_all successors n hiddens mem₀ k row₀ pairs x None mem' row' e
          (adding_over _ _ _ _ _ _ z.0 within (belief_packing n z.1.small) z.1.room (length_after _ n _ _ _ _) w t w_is first at (sym at
          ∙ y) mem' row')

  -- every pair has been tried
  pub kept_all : (q m : ℕ) (mem row : List ℕ) → Kept q m mem row → pairs ≤ q → (row₀ : List ℕ) → length row₀ ≡ pairs
      → TriedAll successors n hiddens mem₀ k row₀ pairs pairs x (Some m) mem row
  kept_all q m mem row z l row₀ e =
      tried_all successors n hiddens mem₀ k row₀ pairs x (Some m) mem row e (adding_all _ _ _ _ _ _ z.0 (omega (arith, z.0.3)))

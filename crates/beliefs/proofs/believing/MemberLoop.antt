-- The members of a belief in memory: its states, one after another.
-- Assumes nothing.
use Prim.Native.Nat.{ℕ, zero, suc, ◌+◌, ◌*◌, ◌/◌, ◌%◌, ◌^◌, ◌≤◌, ◌<◌}
use native.Mathlib.Numerals.{add-one}
use native.Mathlib.Omega.{arith}
use mathlib.Core.Path.{◌≡◌, refl, sym, ap, ap₂, ◌∙◌, subst}
use mathlib.Core.Logic.{◌⊎◌, inl, inr}
use mathlib.Core.Bool.{Bool, true, false, cond, not, ◌&&◌, ◌||◌, or_comm}
use mathlib.Core.List.{List, [], ◌∷◌, ◌++◌, append-nil}
use lib.Bits.{bit_and, and_mask}
use lib.Dec.{eqb}
use lib.ListN.{length, get_or, set, take, drop, replicate, length-set, length-append}
use lib.Seq.{get_or-set_same, get_or-set_other, get_or-take, length-take-le}
use borrow.Author.Tests.{eqb-true, eq-eqb, ne_eqb}
use Rattle.basics.specs.Bits.{bit}
use Rattle.basics.specs.Bounded.{all, any}
use Rattle.basics.specs.Lists.{tabulate, written}
use Rattle.basics.proofs.BitsLaws.{bit_test, bit_low, low_lt}
use Rattle.basics.proofs.Booleans.{test, clash, and_left, and_right, and_true, or_intro_left, or_intro_right}
use Rattle.basics.proofs.BoundedLaws.{last_or_before, all_at, all_of, all_more, all_fails, all_not, any_suc, any_at, any_of, any_ext}
use Rattle.basics.proofs.Filling.{put_next}
use Rattle.basics.proofs.ListsLaws.{get_d_tabulate, tabulate_ext}
use Rattle.search.specs.Limits.{state_limit, set_size}
use Rattle.search.specs.Slots.{item_in}
use Rattle.play.specs.Belief.{has, every}
use Rattle.beliefs.specs.BeliefMemory.{belief_size, pack_belief, belief_in, successor_in, Successors, belief_after, accepts_in}
use Rattle.beliefs.specs.BeliefMemory.{passing, members_of, Members, is_member, belief_of, all_accept, with_hidden, after_members}
use Rattle.beliefs.proofs.LimitsLaws.{state_bits}
use Rattle.beliefs.proofs.BeliefMemoryLaws.{Bits, bits_same, bits_unique, bits_none, bits_hidden, belief_bits, has_table, leads_to, letter_lt}

-- ---- members and the belief that has them

pub member_is : (members : List ℕ) (count i : ℕ) → i < count → is_member members count (get_or members i 0) ≡ true
unfolding is_member
member_is members count i h = any_of count _ i h (eq-eqb (get_or members i 0) (get_or members i 0) refl)

pub member_at : (members : List ℕ) (count s : ℕ) → is_member members count s ≡ true → (i : ℕ) × (i < count) × (get_or members i 0 ≡ s)
unfolding is_member
member_at members count s t = let (i, h, e) = any_at count _ t in (i, h, eqb-true (get_or members i 0) s e)

member_more : (members : List ℕ) (c s : ℕ) → is_member members (suc c) s ≡ (eqb (get_or members c 0) s || is_member members c s)
unfolding is_member
member_more members c s = any_suc c (λ i. eqb (get_or members i 0) s)

member_ext : (v w : List ℕ) (c s : ℕ) → ((i : ℕ) → i < c → get_or v i 0 ≡ get_or w i 0) → is_member v c s ≡ is_member w c s
unfolding is_member
member_ext v w c s e = any_ext c _ _ (λ i l. ap (λ x. eqb x s) (e i l))

has_member : (n : ℕ) (members : List ℕ) (count s : ℕ) → s < n → has (belief_of n members count) s ≡ is_member members count s
unfolding belief_of
has_member n members count s h = get_d_tabulate n (is_member members count) s false h

-- the list of the first `count` alone has them too
module _ (n : ℕ) (members : List ℕ) (count : ℕ) (g : Members n members count) where
  front_length : length (take count members) ≡ count
  front_length = length-take-le count members g.fits

  -- the members of any shorter front are states too
  pub members_within : (m : ℕ) → m ≤ count → Members n (take m members) (length (take m members))
  members_within m few =
      let size : length (take m members) ≡ m = length-take-le m members (omega (arith, few, g.fits)) in
      rw size (record {
        fits = omega (arith, size);
        small = λ i h. subst (λ x. x < n) (sym (get_or-take m members i 0 h)) (g.small i (omega arith));
      })

  pub members_front : Members n (take count members) (length (take count members))
  members_front = members_within count (omega arith)

  pub belief_front : belief_of n (take count members) (length (take count members)) ≡ belief_of n members count
  unfolding belief_of
  belief_front =
      ap (λ m. tabulate n (is_member (take count members) m)) front_length
      ∙ tabulate_ext n _ _ (λ s h. member_ext (take count members) members count s (λ i l. get_or-take count members i 0 l))

module _ (n : ℕ) (members : List ℕ) (count : ℕ) (g : Members n members count) where
  -- some member passes a test, if some state of the belief does
  any_member : (ok : ℕ → Bool) → any count (λ i. ok (get_or members i 0)) ≡ any n (λ s. has (belief_of n members count) s && ok s)
  any_member ok = elim (test (any n (λ s. has (belief_of n members count) s && ok s))) [
    | inl t ↦
        let (s, h, e) = any_at n _ t in
        let there = sym (has_member n members count s h) ∙ and_left (has (belief_of n members count) s) (ok s) e in
        let (i, l, q) = member_at members count s there in
        any_of count _ i l (ap ok q ∙ and_right (has (belief_of n members count) s) (ok s) e) ∙ sym t
    | inr f ↦ elim (test (any count (λ i. ok (get_or members i 0)))) [
      | inr e ↦ e ∙ sym f
      | inl t ↦
          let (i, l, e) = any_at count _ t in
          let there = has_member n members count (get_or members i 0) (g.small i l) ∙ member_is members count i l in
          clash (any_of n _ (get_or members i 0) (g.small i l) (and_true there e)) f
    ]
  ]

  -- each member accepts, if each state of the belief does
  pub final_belief_lem : (sets : List ℕ) → all_accept sets members count ≡ every n (accepts_in sets) (belief_of n members count)
  unfolding all_accept
  final_belief_lem sets = elim (test (all count (λ i. accepts_in sets (get_or members i 0)))) [
    | inl t ↦ t ∙ sym (all_of n _ (λ s h. passes t s h (test (is_member members count s))))
    | inr f ↦
        let (i, l, e) = all_not count _ f in
        let s = get_or members i 0 in
        let there = has_member n members count s (g.small i l) ∙ member_is members count i l in
        f ∙ sym (all_fails n _ s (g.small i l) (ap₂ (λ b c. not b || c) there e))
  ]
    where
      passes : all count (λ i. accepts_in sets (get_or members i 0)) ≡ true → (s : ℕ) → s < n
          → (is_member members count s ≡ true) ⊎ (is_member members count s ≡ false)
          → (not (has (belief_of n members count) s) || accepts_in sets s) ≡ true
      passes t s h (inl m) =
          let (i, l, q) = member_at members count s m in
          or_intro_right (not (has (belief_of n members count) s)) (ap (accepts_in sets) (sym q) ∙ all_at count _ t i l)
      passes t s h (inr m) = or_intro_left (accepts_in sets s) (ap not (has_member n members count s h ∙ m))

-- ---- the belief after a pair

pub after_start : (successors members : List ℕ) (q pairs hiddens : ℕ) → replicate belief_size 0 ≡ after_members successors members q pairs hiddens 0
unfolding after_members
after_start successors members q pairs hiddens = refl

after_next : (successors members : List ℕ) (q pairs hiddens c : ℕ)
    → after_members successors members q pairs hiddens (suc c)
    ≡ with_hidden successors (get_or members c 0) q pairs hiddens (after_members successors members q pairs hiddens c)
unfolding after_members
after_next successors members q pairs hiddens c = refl

module _ (successors members : List ℕ) (n count pairs hiddens q : ℕ) (few : n ≤ state_limit) (right : Successors successors n pairs hiddens)
    (g : Members n members count) (q_lt : q < pairs) where
  -- some of the first c members leads to p
  abbrev reaches : ℕ → ℕ → Bool
  reaches c p = any c (λ i. leads_to successors q pairs hiddens (get_or members i 0) p)

  after_bits : (c : ℕ) → c ≤ count → Bits (after_members successors members q pairs hiddens c) (reaches c)
  after_bits zero h = subst (λ l. Bits l (reaches 0)) (after_start successors members q pairs hiddens) (bits_same _ bits_none (λ p l. refl))
  after_bits (suc c) h =
      subst (λ l. Bits l (reaches (suc c))) (sym (after_next successors members q pairs hiddens c))
      (bits_same _ (bits_hidden (after_bits c (omega arith)) successors (get_or members c 0) q pairs hiddens
      (λ k l. omega (arith, state_bits, right.inside (get_or members c 0) (q + k * pairs) (g.small c h) (letter_lt q pairs k hiddens q_lt l))))
      (λ p l. or_comm (reaches c p) (leads_to successors q pairs hiddens (get_or members c 0) p)
      ∙ sym (any_suc c (λ i. leads_to successors q pairs hiddens (get_or members i 0) p))))

  -- nothing leads out of the n states
  reaches_inside : (p : ℕ) → n ≤ p → reaches count p ≡ false
  unfolding leads_to
  reaches_inside p h = elim (test (reaches count p)) [
    | inr e ↦ e
    | inl t ↦
        let (i, l, y) = any_at count _ t in
        let (k, kb, e) = any_at hiddens _ y in
        absurd (omega (
          arith,
          right.inside (get_or members i 0) (q + k * pairs) (g.small i l) (letter_lt q pairs k hiddens q_lt kb),
          eqb-true (successor_in successors (get_or members i 0) (q + k * pairs)) p e,
        ))
  ]

  after_is : belief_after successors n pairs hiddens (belief_of n members count) q ≡ tabulate n (reaches count)
  unfolding belief_after leads_to
  after_is = tabulate_ext n _ _ (λ p h. sym (any_member n members count g (λ s. leads_to successors q pairs hiddens s p)))

  -- what the members lead to is the belief after the pair
  pub after_belief : after_members successors members q pairs hiddens count
      ≡ pack_belief (belief_after successors n pairs hiddens (belief_of n members count) q)
  after_belief =
      bits_unique (after_bits count (omega arith)) (belief_bits (tabulate n (reaches count)))
      (λ p l. sym (has_table n (reaches count) p (reaches_inside p)))
      ∙ ap pack_belief (sym after_is)

-- ---- what the functions do

passing_with : (ok : ℕ → Bool) (s : ℕ) → ok s ≡ true → passing ok (s + 1) ≡ passing ok s ++ (s ∷ [])
unfolding passing
passing_with ok s t = rw (add-one s, t)

passing_without : (ok : ℕ → Bool) (s : ℕ) → ok s ≡ false → passing ok (s + 1) ≡ passing ok s
unfolding passing
passing_without ok s f = rw (add-one s, f) (append-nil (passing ok s))

pub passing_ext : (ok ok' : ℕ → Bool) (n : ℕ) → ((s : ℕ) → s < n → ok s ≡ ok' s) → passing ok n ≡ passing ok' n
unfolding passing
passing_ext ok ok' zero e = refl
passing_ext ok ok' (suc n) e = ap₂ (λ l b. l ++ cond b (n ∷ []) []) (passing_ext ok ok' n (λ s h. e s (omega arith))) (e n (omega arith))

-- `put_members`: of the first s states, those that pass a test are listed in front of what stood there
pub record Gathered (ok : ℕ → Bool) (old : List ℕ) (s c : ℕ) (members : List ℕ) : Type 0 where
  pub size : length members ≡ state_limit
  pub few : c ≤ s
  pub count : c ≡ length (passing ok s)
  pub listed : members ≡ passing ok s ++ drop c old
  pub small : (i : ℕ) → i < c → get_or members i 0 < s
  pub holds : (p : ℕ) → p < s → is_member members c p ≡ ok p

pub gathered_none : (ok : ℕ → Bool) (members : List ℕ) → length members ≡ state_limit → Gathered ok members 0 0 members
unfolding passing
gathered_none ok members e =
    record { size = e; few = omega arith; count = refl; listed = refl; small = λ i h. absurd (omega arith); holds = λ p h. absurd (omega arith) }

module _ {ok : ℕ → Bool} {old : List ℕ} {s c : ℕ} {w : List ℕ} (g : Gathered ok old s c w) where
  pub gathered_there : s < state_limit → length old ≡ state_limit → ok s ≡ true → (v : List ℕ) (k : ℕ) → v ≡ set w c s → k ≡ c + 1
      → Gathered ok old (s + 1) k v
  gathered_there h size t v k e r =
      rw (e, r) (record {
        size = length-set w c s ∙ g.size;
        few = omega (arith, g.few);
        count = omega (arith, g.count, ap length (passing_with ok s t) ∙ length-append (passing ok s) (s ∷ []));
        listed = written_more;
        small = λ i l. small_at i (last_or_before c i l);
        holds = λ p l. holds_at p (last_or_before s p l);
      })
    where
      written_more : set w c s ≡ passing ok (s + 1) ++ drop (c + 1) old
      written_more =
          ap (λ l. set l c s) g.listed ∙ put_next (passing ok s) old c s (sym g.count) (omega (arith, g.few, size))
          ∙ ap (λ l. l ++ drop (c + 1) old) (sym (passing_with ok s t))

      new : get_or (set w c s) c 0 ≡ s
      new = get_or-set_same w c s 0 (omega (arith, g.few, g.size))

      before : (i : ℕ) → i < c → get_or (set w c s) i 0 ≡ get_or w i 0
      before i l = get_or-set_other w c i s 0 (λ q. omega arith)

      small_at : (i : ℕ) → (i ≡ c) ⊎ (i < c) → get_or (set w c s) i 0 < s + 1
      small_at i (inl q) = omega (arith, ap (λ j. get_or (set w c s) j 0) q ∙ new)
      small_at i (inr l) = omega (arith, before i l, g.small i l)

      more : (p : ℕ) → is_member (set w c s) (c + 1) p ≡ (eqb s p || is_member w c p)
      more p =
          ap (λ j. is_member (set w c s) j p) (add-one c) ∙ member_more (set w c s) c p
          ∙ ap₂ (λ x b. eqb x p || b) new (member_ext (set w c s) w c p before)

      holds_at : (p : ℕ) → (p ≡ s) ⊎ (p < s) → is_member (set w c s) (c + 1) p ≡ ok p
      holds_at p (inl q) = more p ∙ or_intro_left (is_member w c p) (eq-eqb s p (sym q)) ∙ sym (ap ok q ∙ t)
      holds_at p (inr l) = more p ∙ ap (λ b. b || is_member w c p) (ne_eqb s p (λ q. omega arith)) ∙ g.holds p l

  pub gathered_not : ok s ≡ false → (v : List ℕ) (k : ℕ) → v ≡ w → k ≡ c → Gathered ok old (s + 1) k v
  gathered_not f v k e r =
      rw (e, r) (record {
        size = g.size;
        few = omega (arith, g.few);
        count = g.count ∙ sym (ap length (passing_without ok s f));
        listed = g.listed ∙ sym (ap (λ l. l ++ drop c old) (passing_without ok s f));
        small = λ i l. omega (arith, g.small i l);
        holds = λ p l. holds_at p (last_or_before s p l);
      })
    where
      none : is_member w c s ≡ false
      none = elim (test (is_member w c s)) [
        | inl t ↦ let (i, l, q) = member_at w c s t in absurd (omega (arith, g.small i l, q))
        | inr q ↦ q
      ]

      holds_at : (p : ℕ) → (p ≡ s) ⊎ (p < s) → is_member w c p ≡ ok p
      holds_at p (inl q) = ap (is_member w c) q ∙ none ∙ sym (ap ok q ∙ f)
      holds_at p (inr l) = g.holds p l

-- bit s of belief i
unfoldable pub in_belief : List ℕ → ℕ → ℕ → Bool
in_belief mem i s = bit (get_or mem (i * belief_size + s / 8) 0) (s % 8)

pub present_true : (mem : List ℕ) (i s : ℕ) → bit_and (get_or mem (i * belief_size + s / 8) 0 / 2 ^ (s % 8)) 1 ≡ 1 → in_belief mem i s ≡ true
unfolding in_belief
present_true mem i s e = sym (bit_test (get_or mem (i * belief_size + s / 8) 0) (s % 8)) ∙ eq-eqb _ 1 e

pub present_false : (mem : List ℕ) (i s : ℕ) → (bit_and (get_or mem (i * belief_size + s / 8) 0 / 2 ^ (s % 8)) 1 ≡ 1 → ⊥) → in_belief mem i s ≡ false
unfolding in_belief
present_false mem i s ne = sym (bit_test (get_or mem (i * belief_size + s / 8) 0) (s % 8)) ∙ ne_eqb _ 1 ne

pub gathered_all : (mem : List ℕ) (i n : ℕ) {old : List ℕ} {s c : ℕ} {w : List ℕ} → Gathered (in_belief mem i) old s c w → s ≡ n → n ≤ state_limit
    → (c ≡ length (members_of n (belief_in n mem i))) × ((w ≡ written (members_of n (belief_in n mem i)) old)
    × (Members n w c × (belief_of n w c ≡ belief_in n mem i)))
unfolding belief_of item_in in_belief
gathered_all mem i n {old} {s} {c} {w} g e h =
    let same : passing (in_belief mem i) s ≡ members_of n (belief_in n mem i) =
    ap (passing (in_belief mem i)) e ∙ passing_ext _ _ n (λ p l. sym (get_d_tabulate n (in_belief mem i) p false l)) in
    let count : c ≡ length (members_of n (belief_in n mem i)) = g.count ∙ ap length same in (
      count,
      (
        g.listed ∙ ap₂ (λ l k. l ++ drop k old) same count,
        (
          record { fits = omega (arith, g.few, g.size); small = λ j l. omega (arith, g.small j l) },
          tabulate_ext n _ _ (λ p l. g.holds p (omega arith)),
        ),
      ),
    )

-- `is_final`
low_bit : (x : ℕ) → bit x 0 ≡ eqb (bit_and x 1) 1
low_bit x = bit_low x ∙ ap (λ y. eqb y 1) (sym (and_mask x 1))

module _ (sets members : List ℕ) where
  pub accept_none : all_accept sets members 0 ≡ true
  unfolding all_accept
  accept_none = refl

  pub accept_more : (i : ℕ) → all_accept sets members i ≡ true → (bit_and (get_or sets (get_or members i 0 * set_size) 0) 1 ≡ 0 → ⊥)
      → all_accept sets members (i + 1) ≡ true
  unfolding all_accept
  accept_more i a ne =
      let x = get_or sets (get_or members i 0 * set_size) 0 in
      all_more i _ a (low_bit x ∙ eq-eqb (bit_and x 1) 1 (omega (arith, low_lt x, ne)))

  pub accept_fails : (count i : ℕ) → i < count → bit_and (get_or sets (get_or members i 0 * set_size) 0) 1 ≡ 0 → all_accept sets members count ≡ false
  unfolding all_accept
  accept_fails count i h e =
      all_fails count _ i h (low_bit (get_or sets (get_or members i 0 * set_size) 0) ∙ ap (λ y. eqb y 1) e)

-- `after_members`
pub after_more : (successors members : List ℕ) (q pairs hiddens i : ℕ) (w v : List ℕ) → w ≡ after_members successors members q pairs hiddens i
    → v ≡ with_hidden successors (get_or members i 0) q pairs hiddens w → v ≡ after_members successors members q pairs hiddens (i + 1)
after_more successors members q pairs hiddens i w v e r =
    r ∙ ap (with_hidden successors (get_or members i 0) q pairs hiddens) e ∙ sym (after_next successors members q pairs hiddens i)
    ∙ ap (after_members successors members q pairs hiddens) (sym (add-one i))

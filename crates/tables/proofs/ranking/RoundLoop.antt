-- The rounds of ranking in the shape of their loops.
-- Assumes nothing.
use Prim.Native.Nat.{ℕ, zero, suc, ◌+◌, ◌≤◌, ◌<◌, zero-le}
use native.Mathlib.Numerals.{add-one}
use native.Mathlib.Nat.{le_refl}
use native.Mathlib.Decide.{dec_lt}
use native.Mathlib.Omega.{arith}
use mathlib.Core.Path.{◌≡◌, sym, ap, ap₂, ◌∙◌}
use mathlib.Core.Logic.{inl, inr}
use mathlib.Core.List.{List, ◌++◌}
use mathlib.Core.Bool.{Bool, true, false, cond, ◌||◌}
use lib.Dec.{ltb}
use lib.ListN.{length, get_or, set, take, drop}
use lib.Seq.{set-get_or, take_at, drop_at}
use borrow.Author.Tests.{eq-eqb, ne_eqb, ltb-false, le-ltb}
use Rattle.basics.specs.Lists.{tabulate}
use Rattle.basics.specs.Bounded.{any}
use Rattle.basics.specs.declared.order.Order.{Order}
use Rattle.basics.proofs.Booleans.{test, clash, or_cases, or_intro_right}
use Rattle.basics.proofs.BoundedLaws.{any_not, any_suc}
use Rattle.basics.proofs.Filling.{table_more, front_behind}
use Rattle.basics.proofs.ListsLaws.{length_tabulate, get_d_table, tabulate_ext}
use Rattle.play.specs.Limits.{belief_limit}
use Rattle.play.specs.Rank.{Arena, can, rank_from}
use Rattle.play.proofs.StepOrder.{order_of, can_of}
use Rattle.play.proofs.RankLaws.{In}
use Rattle.tables.specs.PositionMemory.{arena_in, Positions, first_rank, can_lead, rank_if_below, ranks_below, has_rank, no_rank}
use Rattle.tables.proofs.RanksBelow.{Below, entry_none, entry_below, below_of, below_within, below_suc, below_more, rank_kept, rank_from_lem}
use Rattle.tables.proofs.PositionMemoryLaws.{rank_read, lead_read}

-- ---- before any round

pub first_final : (finals : List ℕ) (k : ℕ) → get_or finals k 0 ≡ 1 → 0 ≡ first_rank finals k
unfolding first_rank
first_final finals k e = sym (rw (eq-eqb (get_or finals k 0) 1 e, cond))

pub first_other : (finals : List ℕ) (k : ℕ) → (get_or finals k 0 ≡ 1 → ⊥) → no_rank ≡ first_rank finals k
unfolding first_rank
first_other finals k e = sym (rw (ne_eqb (get_or finals k 0) 1 e, cond))

module _ (o : Order) (n choices observations : ℕ) (moves finals : List ℕ) where
  abbrev A : Arena
  A = arena_in choices moves finals

  -- the ranks below r
  abbrev ranks_to : ℕ → List ℕ
  ranks_to r = ranks_below o n choices observations r moves finals

  abbrev rank : ℕ → ℕ → ℕ
  rank r k = rank_from o A choices observations r k

  abbrev entry : ℕ → ℕ → ℕ
  entry r k = rank_if_below o A choices observations r k

  abbrev has : ℕ → ℕ → Bool
  has r = has_rank o choices observations r moves finals

  abbrev low : ℕ → ℕ → Bool
  low r k = Below o A choices observations r k

  -- round r leaves a lower rank as it is ..
  kept_on : (r k : ℕ) → low r k ≡ true → (has r k ≡ false) × (entry (suc r) k ≡ entry r k)
  unfolding has_rank
  kept_on r k t =
      let (e, kept) = rank_kept o A choices observations r (suc r) k (omega arith) t in
      let b = (below_within o A choices observations r k t).0 in
      (ne_eqb (rank (suc r) k) r (λ q. omega arith), kept)

  -- .. and finds rank r where there is none
  found_now : (r k : ℕ) → low r k ≡ false → (has r k ≡ low (suc r) k) × (entry (suc r) k ≡ cond (low (suc r) k) r no_rank)
  unfolding has_rank
  found_now r k f =
      elim (test (low (suc r) k)) [
        | inl t ↦
            let b = (below_within o A choices observations (suc r) k t).0 in
            let e : rank (suc r) k ≡ r = omega (arith, rank_from_lem o A choices observations r (suc r) k f t) in
            (eq-eqb (rank (suc r) k) r e ∙ sym t, ap (λ i. cond (low (suc r) k) i no_rank) e)
        | inr g ↦
            let b = ltb-false (rank (suc r) k) (suc r) g in
            let none = entry_none o A choices observations (suc r) k g in
            (ne_eqb (rank (suc r) k) r (λ q. omega arith) ∙ sym g, none ∙ sym (ap (λ (b : Bool). cond b r no_rank) g))
      ]

  -- round 0: the final positions
  first_is : (k : ℕ) → first_rank finals k ≡ entry 1 k
  unfolding first_rank
  first_is k =
      let (_, e) = found_now 0 k (le-ltb (rank 0 k) 0 zero-le) in
      sym (e ∙ ap (λ (b : Bool). cond b 0 no_rank) (below_suc o A choices observations 0 k))

  pub ranks_first : (ranks rest : List ℕ) → ranks ≡ tabulate n (first_rank finals) ++ rest → take n ranks ≡ ranks_to 1
  unfolding ranks_below
  ranks_first ranks rest e =
      ap (take n) e ∙ take_at (tabulate n (first_rank finals)) rest n (length_tabulate n (first_rank finals))
      ∙ tabulate_ext n (first_rank finals) (entry 1) (λ k h. first_is k)

  -- ---- within round r

  module _ (r : ℕ) (d : List ℕ) where
    -- round r has come to position k: those passed have their ranks up to r, the others what they had
    abbrev pub Halfway : ℕ → List ℕ → Bool → Type 0
    Halfway k ranks more =
        (ranks ≡ ranks_below o k choices observations (suc r) moves finals ++ drop k d)
        × (more ≡ any k (has_rank o choices observations r moves finals))

    module _ (P : Positions n choices observations moves finals) (over : 0 < r) (small : r < no_rank) (long : length d ≡ belief_limit)
        (before : take n d ≡ ranks_to r) (k : ℕ) (inside : k < n) (ranks : List ℕ) (more : Bool) (H : Halfway k ranks more) where
      -- what the round reads, its own entries included
      read_passed : (j : ℕ) → j < k → get_or ranks j 0 ≡ entry (suc r) j
      unfolding ranks_below
      read_passed j h = ap (λ l. get_or l j 0) H.0 ∙ get_d_table (entry (suc r)) k j (drop k d) h

      read_ahead : (j : ℕ) → k ≤ j → j < n → get_or ranks j 0 ≡ entry r j
      unfolding ranks_below
      read_ahead j l h =
          front_behind (tabulate k (entry (suc r))) d ranks k j (length_tabulate k (entry (suc r))) l H.0
          ∙ rank_read o n choices observations r moves finals d before j h

      reads : (j : ℕ) → j < n → ltb (get_or ranks j 0) r ≡ low r j
      reads j h =
          elim (dec_lt j k) [
            | yes l ↦ ap (λ i. ltb i r) (read_passed j l) ∙ entry_below o A choices observations r (suc r) j (omega arith) (omega arith)
            | no l ↦ ap (λ i. ltb i r) (read_ahead j (omega arith) h) ∙ entry_below o A choices observations r r j (le_refl r) (omega arith)
          ]

      -- one turn: entry k becomes v, and b says whether that is rank r
      turned : (v : ℕ) (b : Bool) → v ≡ entry (suc r) k → has r k ≡ b
          → (ranks' : List ℕ) (more' : Bool) → ranks' ≡ set ranks k v → more' ≡ (b || more) → Halfway (k + 1) ranks' more'
      unfolding ranks_below
      turned v b is-v is_b ranks' more' e f = (
        e ∙ table_more k (entry (suc r)) d ranks v (omega (arith, P.few)) H.0 is-v,
        f ∙ ap₂ ◌||◌ (sym is_b) H.1 ∙ sym (any_suc k (has r)) ∙ ap (λ i. any i (has r)) (sym (add-one k)),
      )

      stays : get_or ranks k 0 ≡ entry (suc r) k → has r k ≡ false
          → (ranks' : List ℕ) (more' : Bool) → ranks' ≡ ranks → more' ≡ more → Halfway (k + 1) ranks' more'
      stays e f ranks' more' p q = turned (get_or ranks k 0) false e f ranks' more' (p ∙ sym (set-get_or ranks k 0)) q

      here : get_or ranks k 0 ≡ entry r k
      here = read_ahead k (le_refl k) inside

      -- position k has a rank already
      pub ranked_stays : (get_or ranks k 0 ≡ no_rank → ⊥) → (ranks' : List ℕ) (more' : Bool) → ranks' ≡ ranks → more' ≡ more → Halfway (k + 1) ranks' more'
      ranked_stays ne =
          elim (test (low r k)) [
            | inl t ↦ let (h, e) = kept_on r k t in stays (here ∙ sym e) h
            | inr f ↦ absurd (ne (here ∙ entry_none o A choices observations r k f))
          ]

      module _ (e : get_or ranks k 0 ≡ no_rank) (b : Bool) (is : b ≡ can_lead o moves ranks choices observations r k) where
        unranked : low r k ≡ false
        unranked = sym (reads k inside) ∙ le-ltb (get_or ranks k 0) r (omega arith)

        unfinal : A.final k ≡ false
        unfinal = elim (test (A.final k)) [ inl t ↦ clash (below_of o A choices observations r 0 k over t) unranked | inr f ↦ f ]

        -- it gets rank r if the controller can lead from it below r
        by_lead : (t : Bool) → b ≡ t → (has r k ≡ t) × (entry (suc r) k ≡ cond t r no_rank)
        by_lead t q =
            let (h, new) = found_now r k unranked in
            let s : low (suc r) k ≡ t =
            below_more o A choices observations r k over
            ∙ ap (λ (x : Bool). x || can o choices observations (λ c s. low r (A.move k c s))) unfinal
            ∙ sym (is ∙ lead_read o n choices observations r moves finals P ranks k inside reads) ∙ q in
            (h ∙ s, new ∙ ap (λ (x : Bool). cond x r no_rank) s)

        pub none_stays : b ≡ false → (ranks' : List ℕ) (more' : Bool) → ranks' ≡ ranks → more' ≡ more → Halfway (k + 1) ranks' more'
        none_stays q = let (h, new) = by_lead false q in stays (e ∙ sym new) h

        pub gets_rank : b ≡ true → (ranks' : List ℕ) (more' : Bool) → ranks' ≡ set ranks k r → more' ≡ true → Halfway (k + 1) ranks' more'
        gets_rank q = let (h, new) = by_lead true q in turned r true (sym new) h

  -- ---- a round that finds no rank is the last

  module _ (P : Positions n choices observations moves finals) (r : ℕ) (over : 0 < r) (before : r < n) (none : any n (has r) ≡ false) where
    nothing : (k : ℕ) → k < n → low (suc r) k ≡ true → low r k ≡ true
    nothing k h t =
        elim (test (low r k)) [ inl u ↦ u | inr f ↦ clash ((found_now r k f).0 ∙ t) (any_not n (has r) none k h) ]

    no_more : (q k : ℕ) → k < n → In (order_of o choices observations) A q k ≡ true → low r k ≡ true
    no_more zero k h t = below_of o A choices observations r 0 k over t
    no_more (suc q) k h t =
        elim (or_cases (A.final k) _ t) [
          | inl u ↦ below_of o A choices observations r 0 k over u
          | inr u ↦
              let (g, al, right) = (order_of o choices observations).answer (λ c s. In (order_of o choices observations) A q (A.move k c s)) u in
              nothing k h (below_more o A choices observations r k over ∙ or_intro_right (A.final k)
              (can_of (order_of o choices observations) (λ c s. low r (A.move k c s)) g al
              (λ s l. no_more q (A.move k (g s) s) (P.inside k (g s) s h ((order_of o choices observations).below g al s l) l) (right s l))))
        ]

    settled : (m k : ℕ) → k < n → r ≤ m → entry m k ≡ entry r k
    settled m k h l =
        elim (test (low r k)) [
          | inl t ↦ (rank_kept o A choices observations r m k l t).1
          | inr f ↦
              elim (test (low m k)) [
                | inl u ↦ clash (no_more (rank m k) k h (below_within o A choices observations m k u).1) f
                | inr g ↦ entry_none o A choices observations m k g ∙ sym (entry_none o A choices observations r k f)
              ]
        ]

    ranks_last : ranks_to (suc r) ≡ ranks_to n
    unfolding ranks_below
    ranks_last = tabulate_ext n (entry (suc r)) (entry n) (λ k h. settled (suc r) k h (omega arith) ∙ sym (settled n k h (omega arith)))

  module _ (first ranks : List ℕ) (rest : drop n ranks ≡ drop n first) (d : List ℕ) (begun : first ≡ tabulate n (first_rank finals) ++ drop n d) where
    behind : drop n ranks ≡ drop n d
    behind = rest ∙ ap (drop n) begun ∙ drop_at (tabulate n (first_rank finals)) (drop n d) n (length_tabulate n (first_rank finals))

    pub round_last : Positions n choices observations moves finals → (r : ℕ) → 0 < r → r < n → (more : Bool) → more ≡ any n (has r) → more ≡ false
        → (ranks' : List ℕ) → ranks' ≡ ranks_to (suc r) ++ drop n ranks → ranks' ≡ ranks_to n ++ drop n d
    round_last P r over before more is none ranks' e = e ∙ ap₂ ◌++◌ (ranks_last P r over before (sym is ∙ none)) behind

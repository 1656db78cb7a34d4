-- The ranks and choices of `specs/IsTable`, which are said of histories, are those of the positions that the histories lead to.
-- Assumes nothing.
use Prim.Native.Nat.{ℕ, zero, suc, ◌<◌}
use native.Mathlib.Nat.{not-suc-le-zero}
use native.Mathlib.Omega.{arith}
use mathlib.Core.Path.{◌≡◌, refl, subst}
use mathlib.Core.Logic.{◌↔◌, inl, inr}
use mathlib.Core.Bool.{Bool, true, false}
use Rattle.basics.specs.declared.order.Order.{Order}
use Rattle.basics.specs.declared.order.Order.TheVariants.{Set, Read}
use Rattle.basics.proofs.Booleans.{test, clash, or_cases, or_intro_left, or_intro_right}
use Rattle.play.specs.Rank.{Arena, can, RankOf, leads_within, next_rank, best_answer}
use Rattle.play.specs.History.{History, Possible, onward, know}
use Rattle.play.specs.IsTable.{RankBelow, RankIs, Takes}
use Rattle.play.proofs.HistoryLaws.{possible_onward, know_onward}
use Rattle.play.proofs.StepOrder.{StepOrder, order_of}
use Rattle.play.proofs.RankLaws.{In}
use Rattle.play.proofs.CanChoose.{good_choice, choose_map, can_iff}
use Rattle.play.proofs.SmallestChoice.{RankedBelow, ranked_iff, takes_below, takes_best_next}

-- where final histories are those of final positions
module _ (o : Order) (A : Arena) (choices observations : ℕ) (some_observation : 0 < observations) (Final : History → Type 0)
    (finals : (h : History) → Possible choices observations h → Final h ↔ (A.final (know A A.start h) ≡ true)) where
  abbrev O : StepOrder choices observations
  O = order_of o choices observations

  abbrev position : History → A.K
  position h = know A A.start h

  abbrev Can : History → Type 0
  Can h = Possible choices observations h

  -- a rank below r + 1 is a rank of at most r
  abbrev AtMost : ℕ → History → Type 0
  AtMost r h = Can h → RankBelow o choices observations Final (suc r) h ↔ (In O A r (position h) ≡ true)

  at_most_zero : (h : History) → AtMost 0 h
  at_most_zero h p = (to, λ t. inl ((finals h p).1 t))
    where
      to : RankBelow o choices observations Final 1 h → A.final (position h) ≡ true
      to (inl f) = (finals h p).0 f
      to (inr c) = absurd (good_choice o choices observations (λ c s. ⊥) c 0 some_observation).2

  -- and so with one step more
  module _ (r : ℕ) (h : History) (next : (c s : ℕ) → AtMost r (onward h c s)) (p : Can h) where
    abbrev Leads : ℕ → ℕ → Type 0
    Leads c s = RankBelow o choices observations Final (suc r) (onward h c s)

    abbrev leads : ℕ → ℕ → Bool
    leads c s = leads_within o A choices observations r (position h) c s

    leads_iff : (c s : ℕ) → c < choices → s < observations → Leads c s ↔ (leads c s ≡ true)
    leads_iff c s cb sb =
        subst (λ (k : A.K). Leads c s ↔ (In O A r k ≡ true)) (know_onward A A.start h c s)
        (next c s (possible_onward choices observations h c s p cb sb))

    at_most_suc : RankBelow o choices observations Final (suc (suc r)) h ↔ (In O A (suc r) (position h) ≡ true)
    at_most_suc = (to, from)
      where
        to : RankBelow o choices observations Final (suc (suc r)) h → In O A (suc r) (position h) ≡ true
        to (inl f) = or_intro_left _ ((finals h p).0 f)
        to (inr c) =
            or_intro_right (A.final (position h)) ((can_iff o choices observations leads).1
            (choose_map o choices observations Leads (λ c s. leads c s ≡ true) (λ c s cb sb. (leads_iff c s cb sb).0) c))

        from : In O A (suc r) (position h) ≡ true → RankBelow o choices observations Final (suc (suc r)) h
        from t =
            elim (or_cases (A.final (position h)) (can o choices observations leads) t) [
              | inl f ↦ inl ((finals h p).1 f)
              | inr u ↦
                  inr (choose_map o choices observations (λ c s. leads c s ≡ true) Leads (λ c s cb sb. (leads_iff c s cb sb).1)
                  ((can_iff o choices observations leads).0 u))
            ]

  at_most : (r : ℕ) (h : History) → AtMost r h
  at_most zero h = at_most_zero h
  at_most (suc r) h = at_most_suc r h (λ c s. at_most r (onward h c s))

  below_iff : (r : ℕ) (h : History) → Can h → RankBelow o choices observations Final r h ↔ RankedBelow o A choices observations r (position h)
  below_iff zero h p = (λ b. absurd b, λ e. absurd (not-suc-le-zero e.1))
  below_iff (suc r) h p =
      let ranked = ranked_iff o A choices observations r (position h) in
      (λ b. ranked.0 ((at_most r h p).0 b), λ e. (at_most r h p).1 (ranked.1 e))

  pub rank_iff : (h : History) → Can h → (r : ℕ) → RankIs o choices observations Final h r ↔ RankOf o A choices observations (position h) r
  rank_iff h p r = (
    λ a. (
      (at_most r h p).0 a.0,
      λ q l.
          elim (test (In O A q (position h))) [
            | inl t ↦
                let (j, jb, d) = (ranked_iff o A choices observations q (position h)).0 t in
                absurd (a.1 ((below_iff r h p).1 (j, omega arith, d)))
            | inr f ↦ f
          ],
    ),
    λ a. ((at_most r h p).1 a.0, λ b. let (q, l, d) = (below_iff r h p).0 b in clash d.0 (a.1 q l)),
  )

  -- the same one step on
  module _ (h : History) (p : Can h) (c s : ℕ) (cb : c < choices) (sb : s < observations) where
    abbrev p' : Can (onward h c s)
    p' = possible_onward choices observations h c s p cb sb

    next_below : (r : ℕ) → RankBelow o choices observations Final r (onward h c s) ↔ RankedBelow o A choices observations r (A.move (position h) c s)
    next_below r =
        subst (λ (k : A.K). RankBelow o choices observations Final r (onward h c s) ↔ RankedBelow o A choices observations r k)
        (know_onward A A.start h c s) (below_iff r (onward h c s) p')

    next_rank_lem : (r : ℕ) → RankIs o choices observations Final (onward h c s) r ↔ RankOf o A choices observations (A.move (position h) c s) r
    next_rank_lem r =
        subst (λ (k : A.K). RankIs o choices observations Final (onward h c s) r ↔ RankOf o A choices observations k r)
        (know_onward A A.start h c s) (rank_iff (onward h c s) p' r)

-- the choices taken are the position's best
pub takes_best : (o : Order) (A : Arena) (choices observations : ℕ) (some_observation : 0 < observations) (Final : History → Type 0)
    (finals : (h : History) → Possible choices observations h → Final h ↔ (A.final (know A A.start h) ≡ true))
    (n : ℕ) (h : History) → Possible choices observations h → (r : ℕ) → r < n → A.final (know A A.start h) ≡ false
    → RankOf o A choices observations (know A A.start h) r
    → Takes o choices observations Final h (best_answer o A choices observations n (know A A.start h))
takes_best Set A choices observations some_observation Final finals n h p r b f a =
    let k = know A A.start h in
    let (cb, l, least) = takes_below A choices observations n k r b f a in
    let below = next_below Set A choices observations some_observation Final finals h p in
    record {
      choice = best_answer Set A choices observations n k 0;
      taken = λ s sb. refl;
      is_choice = cb;
      rank = r;
      is_rank = (rank_iff Set A choices observations some_observation Final finals h p r).1 a;
      leads = λ s sb. (below (best_answer Set A choices observations n k 0) s cb sb r).1 (l s sb);
      smallest = λ d db m. least d db (λ s sb. (below d s (omega arith) sb r).0 (m s sb));
    }
takes_best Read A choices observations some_observation Final finals n h p r b f a =
    λ s sb.
    let k = know A A.start h in
    let q = next_rank Read A choices observations n k s in
    let c = best_answer Read A choices observations n k s in
    let (cb, qb, d, low, least) = takes_best_next A choices observations n k r b f a s sb in
    let below = next_below Read A choices observations some_observation Final finals h p in
    let rank = next_rank_lem Read A choices observations some_observation Final finals h p in
    record {
      is_choice = cb;
      rank = q;
      best = ((c, cb, (rank c s cb sb q).1 d), λ e eb m. low e eb ((below e s eb sb q).0 m));
      leads = (rank c s cb sb q).1 d;
      smallest = λ e eb m. least e eb ((rank e s (omega arith) sb q).0 m);
    }

-- The game, for either order of a step, by the theory of plans; and its best strategy.
-- Assumes nothing.
use Prim.Native.Nat.{ℕ, zero, suc, ◌≤◌, ◌<◌}
use native.Mathlib.Omega.{arith}
use mathlib.Core.Path.{◌≡◌, refl, sym, ap, subst, fun_ext}
use mathlib.Core.Logic.{◌⊎◌, inl, inr}
use mathlib.Core.Bool.{Bool, false, not}
use mathlib.Core.Option.{Option, none, some, none-ne-some}
use mathlib.Core.List.{List, [], ◌∷◌, Memᴰ}
use lib.ListN.{length}
use borrow.Author.Tests.{not-true}
use Rattle.basics.specs.Lists.{tabulate}
use Rattle.basics.specs.Bounded.{first_that}
use Rattle.basics.specs.declared.order.Order.{Order}
use Rattle.basics.specs.declared.order.Order.TheVariants.{Set, Read}
use Rattle.play.specs.Game.{Game, Play, seen, Answer, chosen, Decision, choose, stop, AllBelow, Strategy, IsStrategy}
use Rattle.play.specs.Game.{Steps, choice_of, run, Wins, WorstCase, Optimal, Unrealizable}
use Rattle.play.specs.Rank.{Arena, rank_below, RankOf, answer_of, best_answer, best}
use Rattle.play.specs.History.{Knows}
use Rattle.basics.proofs.BoundedLaws.{first_of, none_first}
use Rattle.basics.proofs.Booleans.{test, clash}
use Rattle.play.proofs.StepOrder.{StepOrder, AllowedIn, order_of}
use Rattle.play.proofs.RankLaws.{In, HasRank, unstopped, rank_searched}
use Rattle.play.proofs.SmallestChoice.{ranked_iff, takes_below, best_leads, best_chosen}
use Rattle.play.proofs.Plans.{Plan, respond, Goes, stuck, PlanSteps, plan_run, WinsFor, Tracks, Legal, steps_unique}
use Rattle.play.proofs.UpperBound.{follow, Descends}
use Rattle.play.proofs.BestPlan.{BestPlan, plan_least, plan_best}
use Rattle.play.proofs.TrapsDefeat.{Trap, no_win}
use Rattle.play.proofs.FiniteArena.{Closed, Lost, lost_trap, ranked_or_lost}

-- a decision as a plan's
abbrev pub lift : {o : Order} → Decision o → Option (ℕ → ℕ)
lift {o} (choose a) = some (chosen o a)
lift stop = none

abbrev pub plan_of : {o : Order} → Strategy o → Plan
plan_of σ h = lift (σ h)

module _ (o : Order) where
  respond_lift : (d : Decision o) (s : ℕ) → respond (lift d) s ≡ choice_of d s
  respond_lift (choose a) s = refl
  respond_lift stop s = refl

  lift_stop : (d : Decision o) → lift d ≡ none → d ≡ stop
  lift_stop (choose a) e = stuck {d = some (chosen o a)} e (chosen o a, refl)
  lift_stop stop e = refl

  lift_goes : (d : Decision o) → Goes (lift d) → (a : Answer o) × (d ≡ choose a)
  lift_goes (choose a) g = (a, refl)
  lift_goes stop g = stuck refl g

-- what is asked of an answer is what the order allows
answer_allowed : (o : Order) (n m : ℕ) → 0 < m → (a : Answer o) → ((s : ℕ) → s < m → chosen o a s < n) → (order_of o n m).Allowed (chosen o a)
answer_allowed Set n m positive c l = (c, l 0 positive, λ s. refl)
answer_allowed Read n m positive g l = l

lift_legal : (o : Order) (n m : ℕ) → 0 < m → (d : Decision o) → ((a : Answer o) → d ≡ choose a → (s : ℕ) → s < m → chosen o a s < n)
    → (g : ℕ → ℕ) → lift d ≡ some g → (order_of o n m).Allowed g
lift_legal o n m some_observation (choose a) l g e =
    subst (order_of o n m).Allowed (fun_ext (λ s. ap (λ (d : Option (ℕ → ℕ)). respond d s) e)) (answer_allowed o n m some_observation a (l a refl))
lift_legal o n m some_observation stop l g e = absurd (none-ne-some g e)

-- ---- best answers descend

best_allowed : (o : Order) (A : Arena) (choices observations n : ℕ) (k : A.K) (r : ℕ) → r < n → A.final k ≡ false
    → RankOf o A choices observations k r → AllowedIn o choices observations (best_answer o A choices observations n k)
best_allowed Set A choices observations n k r h f a =
    (best_answer Set A choices observations n k 0, (takes_below A choices observations n k r h f a).0, λ s. refl)
best_allowed Read A choices observations n k r h f a = λ s sb. (best_leads Read A choices observations n k r h f a s sb).0

pub descends : (o : Order) (A : Arena) (choices observations n : ℕ)
    → Descends (order_of o choices observations) A (best_answer o A choices observations n) n
descends o A choices observations n k r small a =
    let f = unstopped (order_of o choices observations) A k r a in (
      best_allowed o A choices observations n k (suc r) small f a,
      λ s sb. (ranked_iff o A choices observations r (A.move k (best_answer o A choices observations n k s) s)).1
          (best_leads o A choices observations n k (suc r) small f a s sb).1,
    )

-- the strategy that takes the best answers is a plan that follows them
module _ (o : Order) (A : Arena) (choices observations n : ℕ) where
  abbrev answer : A.K → ℕ → ℕ
  answer = best_answer o A choices observations n

  best_follows : (h : List ℕ) (k : A.K) → plan_of (best o A choices observations n k) h ≡ follow A answer k h
  best_follows [] k =
      elim (test (A.final k)) [
        | inl t ↦ rw (t, best, follow)
        | inr f ↦ rw (f, best, follow) (ap some (fun_ext (best_chosen o A choices observations n k)))
      ]
  best_follows (s ∷ h) k =
      elim (test (A.final k)) [ inl t ↦ rw (t, best, follow) | inr f ↦ rw (f, best, follow) (best_follows h (A.move k (answer k s) s)) ]

-- the order of a game's steps
abbrev pub ordered : (o : Order) (G : Game) → StepOrder G.choices G.observations
ordered o G = order_of o G.choices G.observations

-- the goal: a run, which has a step at least, that is true
abbrev pub TrueRun : Game → List ℕ → Type 0
TrueRun G [] = ⊥
TrueRun G (a ∷ w) = G.IsTrue (a ∷ w)

pub true_run : (G : Game) (w : List ℕ) → TrueRun G w → G.IsTrue w
true_run G [] e = absurd e
true_run G (a ∷ w) e = e

module _ (G : Game) {o : Order} where
  plan_run_lem : (σ : Strategy o) (p : Play G) (n : ℕ) → plan_run G (plan_of σ) p n ≡ run G σ p n
  plan_run_lem σ p n =
      ap (tabulate n)
      (fun_ext (λ i. ap (λ (c : ℕ). G.letter c (p i).observation (p i).hidden) (respond_lift o (σ (seen p i)) (p i).observation)))

  plan_steps : (σ : Strategy o) (p : Play G) (n : ℕ) → Steps σ p n → PlanSteps G (plan_of σ) p n
  plan_steps σ p n st = (ap lift st.0, λ m h. let (a, e) = st.1 m h in (chosen o a, ap lift e))

  steps_plan : (σ : Strategy o) (p : Play G) (n : ℕ) → PlanSteps G (plan_of σ) p n → Steps σ p n
  steps_plan σ p n st = (lift_stop o _ st.0, λ m h. lift_goes o _ (st.1 m h))

  plan_choices : (σ : Strategy o) → Legal (ordered o G) (plan_of σ) → (h : List ℕ) → AllBelow G.observations h → (a : Answer o) → σ h ≡ choose a
      → (s : ℕ) → s < G.observations → chosen o a s < G.choices
  plan_choices σ l h v a e = (ordered o G).below (chosen o a) (l h v (chosen o a) (ap lift e))

  plan_worst : (σ : Strategy o) (r : ℕ) (Φ : List ℕ → Type 0) → BestPlan G (ordered o G) Φ (plan_of σ) r → WorstCase G σ r
  plan_worst σ r Φ b =
      record {
        at_most = λ p m st.
            let (j, st', φ, h) = b.wins p in
            let e = steps_unique G (plan_of σ) p m j (plan_steps σ p m st) st' in
            omega arith;
        reached = (b.reached.0, steps_plan σ b.reached.0 r b.reached.1);
      }

  wins_plan : (σ : Strategy o) → IsStrategy G σ → Wins G σ → WinsFor G (TrueRun G) (plan_of σ)
  wins_plan σ is win p = go (win p)
    where
      go : (n : ℕ) × Steps σ p n × G.IsTrue (run G σ p n) → (n : ℕ) × PlanSteps G (plan_of σ) p n × TrueRun G (plan_run G (plan_of σ) p n)
      go (zero, st, t) = stuck (ap lift st.0) (chosen o is.opens.0, ap lift is.opens.1)
      go (suc n, st, t) = (suc n, plan_steps σ p (suc n) st, subst (TrueRun G) (sym (plan_run_lem σ p (suc n))) t)

module _ (G : Game) (o : Order) (some_observation : 0 < G.observations) (some_hidden : 0 < G.hiddens) (A : Arena) (knows : Knows G A) where
  abbrev O : StepOrder G.choices G.observations
  O = ordered o G

  plan_legal : (σ : Strategy o) → IsStrategy G σ → Legal O (plan_of σ)
  plan_legal σ is h v g e = lift_legal o G.choices G.observations some_observation (σ h) (is.legal h v) g e

  pub tracks : Tracks G A A.start (TrueRun G)
  tracks [] v = (λ t. clash t knows.starts, λ f. absurd (f (λ i. 0) (λ i. some_hidden)))
  tracks (m ∷ h) v = knows.law m h v

  -- (a) a strategy that is best as a plan, for the rank of the start, is optimal
  pub plan_optimal : (σ : Strategy o) → ((a : Answer o) × (σ [] ≡ choose a)) → (r : ℕ) → HasRank O A A.start r
      → BestPlan G O (TrueRun G) (plan_of σ) r → Optimal G σ r
  plan_optimal σ opens r a b =
      record {
        is_strategy = record { opens = opens; legal = plan_choices G σ b.legal };
        wins = λ p. let (m, st, t, h) = b.wins p in (m, steps_plan G σ p m st, subst G.IsTrue (plan_run_lem G σ p m) (true_run G _ t));
        worst = plan_worst G σ r (TrueRun G) b;
        least = λ τ is win.
            let (p, n, st, h) =
            plan_least G O A some_observation some_hidden A.start (TrueRun G) tracks r a (plan_of τ) (plan_legal τ is) (wins_plan G τ is win) in
            (p, n, steps_plan G τ p n st, h);
      }

  -- (b) from a trap no strategy wins
  pub trapped_unrealizable : (P : A.K → Type 0) → Trap O A P → P A.start → Unrealizable G o
  trapped_unrealizable P trap caught σ is win =
      no_win G O A P trap some_observation some_hidden A.start caught (TrueRun G) tracks (plan_of σ) (plan_legal σ is) (wins_plan G σ is win)

  -- (c) finitely many positions, at most n: the start has a rank below n, or it has none, and no strategy wins
  module _ (ks : List A.K) (closed : Closed O A some_observation ks) (listed : Memᴰ A.start ks) (n : ℕ) (fits : length ks ≤ n) where
    -- the rank of the start, searched below n
    abbrev start_rank_lem : ℕ
    start_rank_lem = rank_below A O.able n A.start

    no_rank_lem : start_rank_lem ≡ n → (r : ℕ) → In O A r A.start ≡ false
    no_rank_lem e =
        elim (ranked_or_lost O A some_observation ks closed A.start listed) [
          | inl ranked ↦
              let (r, b, a) = ranked in
              let z = rank_searched O A n r A.start (omega arith) a in
              absurd (omega arith)
          | inr l ↦ l.1
        ]

    -- against each answer some observation leads to a position without a rank
    abbrev bad : A.K → (ℕ → ℕ) → ℕ → Bool
    bad k g s = not (In O A n (A.move k (g s) s))

    trap : Trap O A (Lost O A some_observation ks closed)
    trap =
        lost_trap O A some_observation ks closed n fits (λ k g. first_that (bad k g) G.observations)
        (λ k g al f.
        let (s, h, w) = O.refute (λ c s. In O A n (A.move k c s)) f g al in
        let (b, t) = first_of (bad k g) G.observations s h (ap not w) in
        (b, not-true (In O A n (A.move k (g (first_that (bad k g) G.observations)) (first_that (bad k g) G.observations))) t))

    pub no_rank_unrealizable : start_rank_lem ≡ n → Unrealizable G o
    no_rank_unrealizable e = trapped_unrealizable (Lost O A some_observation ks closed) trap (listed, no_rank_lem e)

    -- one of the two is the case, and the rank is below the number of positions
    pub verdict : (start_rank_lem < length ks) ⊎ (start_rank_lem ≡ n)
    verdict =
        elim (ranked_or_lost O A some_observation ks closed A.start listed) [
          | inl ranked ↦ inl (let (r, b, a) = ranked in rw (rank_searched O A n r A.start (omega arith) a) b)
          | inr l ↦ inr (none_first (λ r. In O A r A.start) n (λ r h. l.1 r))
        ]

-- ---- the strategy of the best answers

module _ (G : Game) (o : Order) (some_observation : 0 < G.observations) (some_hidden : 0 < G.hiddens) (A : Arena) (knows : Knows G A) (n : ℕ) where
  abbrev σ : Strategy o
  σ = best o A G.choices G.observations n A.start

  best_plan : (r : ℕ) → r < n → HasRank (ordered o G) A A.start r → BestPlan G (ordered o G) (TrueRun G) (plan_of σ) r
  best_plan r small a =
      subst (λ (τ : Plan). BestPlan G (ordered o G) (TrueRun G) τ r) (sym (fun_ext (λ h. best_follows o A G.choices G.observations n h A.start)))
      (plan_best G (ordered o G) A some_observation some_hidden A.start (TrueRun G) (tracks G o some_observation some_hidden A knows)
      (best_answer o A G.choices G.observations n) n (descends o A G.choices G.observations n) r small a)

  -- if the start has a rank below n it wins, its worst case is that rank, and no worst case is smaller
  pub best_optimal : (r : ℕ) → r < n → HasRank (ordered o G) A A.start r → Optimal G σ r
  best_optimal r small a =
      plan_optimal G o some_observation some_hidden A knows σ
      (answer_of o (best_answer o A G.choices G.observations n A.start), rw (knows.starts, best)) r a (best_plan r small a)

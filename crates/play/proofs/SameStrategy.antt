-- Two strategies of one order that answer alike, at every list of observations and for every observation of the step, are equally good.
-- Assumes nothing.
use Prim.Native.Nat.{ℕ, zero, suc, ◌<◌}
use native.Mathlib.Omega.{arith}
use mathlib.Core.Path.{◌≡◌, refl, sym, ap, ◌∙◌, subst}
use mathlib.Core.List.{List, []}
use Rattle.basics.specs.declared.order.Order.{Order}
use Rattle.basics.specs.declared.order.Order.TheVariants.{Set, Read}
use Rattle.basics.proofs.ListsLaws.{tabulate_ext}
use Rattle.play.specs.Game.{Game, Play, seen, Answer, chosen, Decision, choose, stop, AllBelow, Strategy, IsStrategy, Steps}
use Rattle.play.specs.Game.{choice_of, run, Optimal}
use Rattle.play.specs.Rank.{answer_of}
use Rattle.play.proofs.Plans.{rest}

-- both stop, or both choose, alike at the observations below n
abbrev pub Alike : {o : Order} → ℕ → Decision o → Decision o → Type 0
Alike n stop stop = Unit {0}
Alike n stop (choose b) = ⊥
Alike n (choose a) stop = ⊥
Alike {o} n (choose a) (choose b) = (s : ℕ) → s < n → chosen o a s ≡ chosen o b s

module _ (o : Order) (n : ℕ) where
  alike_stop : (d e : Decision o) → Alike n d e → e ≡ stop → d ≡ stop
  alike_stop stop e a q = refl
  alike_stop (choose x) stop a q = absurd a
  alike_stop (choose x) (choose y) a q = let z : ◌≡◌ {A = ℕ} 0 1 = cc in absurd (omega arith)

  alike_goes : (d e : Decision o) → Alike n d e → (y : Answer o) → e ≡ choose y → (x : Answer o) × (d ≡ choose x)
  alike_goes (choose x) e a y q = (x, refl)
  alike_goes stop stop a y q = let z : ◌≡◌ {A = ℕ} 0 1 = cc in absurd (omega arith)
  alike_goes stop (choose b) a y q = absurd a

  alike_choice : (d e : Decision o) → Alike n d e → (s : ℕ) → s < n → choice_of d s ≡ choice_of e s
  alike_choice stop stop a s h = refl
  alike_choice stop (choose b) a s h = absurd a
  alike_choice (choose x) stop a s h = absurd a
  alike_choice (choose x) (choose y) a s h = a s h

  alike_sym : (d e : Decision o) → Alike n d e → Alike n e d
  alike_sym stop stop a = tt
  alike_sym stop (choose b) a = absurd a
  alike_sym (choose x) stop a = absurd a
  alike_sym (choose x) (choose y) a = λ s h. sym (a s h)

-- answers that are the same choice at each observation
pub answers_alike : (o : Order) (n : ℕ) (f g : ℕ → ℕ) → 0 < n → ((s : ℕ) → s < n → f s ≡ g s)
    → Alike {o = o} n (choose (answer_of o f)) (choose (answer_of o g))
answers_alike Set n f g some e s h = e 0 some
answers_alike Read n f g some e s h = e s h

module _ (G : Game) where
  pub seen_below : (p : Play G) (n : ℕ) → AllBelow G.observations (seen p n)
  seen_below p zero = tt
  seen_below p (suc n) = ((p 0).observation_below, seen_below (rest p) n)

  -- the steps and the runs of one are those of the other
  module _ {o : Order} (σ τ : Strategy o) (alike : (h : List ℕ) → AllBelow G.observations h → Alike G.observations (σ h) (τ h)) where
    steps_alike : (p : Play G) (n : ℕ) → Steps τ p n → Steps σ p n
    steps_alike p n st =
        let at : (m : ℕ) → Alike G.observations (σ (seen p m)) (τ (seen p m)) = λ m. alike (seen p m) (seen_below p m) in (
          alike_stop o G.observations (σ (seen p n)) (τ (seen p n)) (at n) st.0,
          λ m h. let (y, e) = st.1 m h in alike_goes o G.observations (σ (seen p m)) (τ (seen p m)) (at m) y e,
        )

    run_alike : (p : Play G) (n : ℕ) → run G σ p n ≡ run G τ p n
    run_alike p n =
        tabulate_ext n _ _ (λ i h. ap (λ (c : ℕ). G.letter c (p i).observation (p i).hidden)
        (alike_choice o G.observations (σ (seen p i)) (τ (seen p i)) (alike (seen p i) (seen_below p i)) (p i).observation (p i).observation_below))

    strategy_alike : IsStrategy G τ → IsStrategy G σ
    strategy_alike is =
        record {
          opens = alike_goes o G.observations (σ []) (τ []) (alike [] tt) is.opens.0 is.opens.1;
          legal = λ h v x e s sb.
              let (y, q) = alike_goes o G.observations (τ h) (σ h) (alike_sym o G.observations (σ h) (τ h) (alike h v)) x e in
              let same : chosen o x s ≡ chosen o y s = sym (ap (λ (d : Decision o). choice_of d s) e)
              ∙ alike_choice o G.observations (σ h) (τ h) (alike h v) s sb ∙ ap (λ (d : Decision o). choice_of d s) q in
              subst (λ (c : ℕ). c < G.choices) (sym same) (is.legal h v y q s sb);
        }

  pub optimal_alike : {o : Order} (σ τ : Strategy o) → ((h : List ℕ) → AllBelow G.observations h → Alike G.observations (σ h) (τ h))
      → (r : ℕ) → Optimal G τ r → Optimal G σ r
  optimal_alike {o} σ τ alike r b =
      let back : (h : List ℕ) → AllBelow G.observations h → Alike G.observations (τ h) (σ h) =
      λ h v. alike_sym o G.observations (σ h) (τ h) (alike h v) in
      record {
        is_strategy = strategy_alike σ τ alike b.is_strategy;
        wins = λ p. let (n, st, t) = b.wins p in (n, steps_alike σ τ alike p n st, subst G.IsTrue (sym (run_alike σ τ alike p n)) t);
        worst =
            record {
              at_most = λ p n st. b.worst.at_most p n (steps_alike τ σ back p n st);
              reached = (b.worst.reached.0, steps_alike σ τ alike b.worst.reached.0 r b.worst.reached.1);
            };
        least = b.least;
      }

-- The one law, for beliefs.
-- Assumes nothing.
use Prim.Native.Nat.{ℕ, zero, suc, ◌<◌}
use mathlib.Core.Path.{◌≡◌, refl, sym, ap, ◌∙◌, subst}
use mathlib.Core.Logic.{◌↔◌, inl, inr}
use mathlib.Core.Bool.{Bool, true, false, not, ◌&&◌, ◌||◌, false≢true}
use mathlib.Core.List.{[], ◌∷◌}
use lib.Dec.{eqb}
use borrow.Author.Tests.{eqb-true, eq-eqb}
use Rattle.basics.proofs.ListsLaws.{get_d_tabulate}
use Rattle.basics.specs.Bounded.{any}
use Rattle.play.specs.Game.{Game}
use Rattle.play.specs.History.{History, Possible, know, Hidden, letters, Knows}
use Rattle.play.specs.Belief.{Automaton, state_from, Belief, has, first_belief, next_belief, final_belief, beliefs}
use Rattle.basics.proofs.BoundedLaws.{any_at, any_of, all_at, all_of}
use Rattle.basics.proofs.Booleans.{test, clash, and_left, and_right}
use Rattle.play.proofs.Plans.{◌∷ˢ◌, rest}

pub implies : (a b : Bool) → not a || b ≡ true → a ≡ true → b ≡ true
implies true b e t = e
implies false b e t = absurd (false≢true t)

pub implied : (a b : Bool) → (a ≡ true → b ≡ true) → not a || b ≡ true
implied true b f = f refl
implied false b f = refl

module _ (G : Game) (M : Automaton) where
  -- the automaton judges runs, starts outside its accepting states, and stays in its numbers
  pub record Judges : Type 0 where
    pub judges : (m : ℕ × ℕ) (h : History) → Possible G.choices G.observations (m ∷ h) → (x : ℕ → ℕ) → Hidden G x
        → (M.accepts (state_from M M.initial (letters G (m ∷ h) x)) ≡ true) ↔ G.IsTrue (letters G (m ∷ h) x)
    pub starts : M.accepts M.initial ≡ false
    pub initial_below : M.initial < M.states
    pub next_below : (s : ℕ) → s < M.states → (c r x : ℕ) → c < G.choices → r < G.observations → x < G.hiddens → M.next s (G.letter c r x) < M.states

  pub first_has : (s : ℕ) → s < M.states → (has (first_belief M) s ≡ true) ↔ (s ≡ M.initial)
  first_has s b =
      let e : has (first_belief M) s ≡ eqb s M.initial = get_d_tabulate M.states (λ s. eqb s M.initial) s false b in
      (λ t. eqb-true s M.initial (sym e ∙ t), λ p. e ∙ ap (λ (n : ℕ). eqb n M.initial) p ∙ eq-eqb M.initial M.initial refl)

  -- t is in the next belief exactly if a hidden value leads to it from a state of this one
  pub next_has : (b : Belief) (c r t : ℕ) → t < M.states
      → (has (next_belief M G.hiddens G.letter b c r) t ≡ true)
      ↔ ((s : ℕ) × (s < M.states) × (has b s ≡ true) × (x : ℕ) × (x < G.hiddens) × (M.next s (G.letter c r x) ≡ t))
  next_has b c r t tb =
      let from : ℕ → Bool = λ s. has b s && any G.hiddens (λ x. eqb (M.next s (G.letter c r x)) t) in
      let e : has (next_belief M G.hiddens G.letter b c r) t ≡ any M.states from =
      get_d_tabulate M.states (λ t. any M.states (λ s. has b s && any G.hiddens (λ x. eqb (M.next s (G.letter c r x)) t))) t false tb in (
        λ y.
            let (s, sb, f) = any_at M.states from (sym e ∙ y) in
            let (x, xb, q) = any_at G.hiddens (λ x. eqb (M.next s (G.letter c r x)) t)
            (and_right (has b s) (any G.hiddens (λ x. eqb (M.next s (G.letter c r x)) t)) f) in
            (s, sb, and_left (has b s) _ f, x, xb, eqb-true (M.next s (G.letter c r x)) t q),
        λ w.
            let (s, sb, y, x, xb, q) = w in
            e ∙ any_of M.states from s sb
            (rw y (any_of G.hiddens (λ x. eqb (M.next s (G.letter c r x)) t) x xb (rw q (eq-eqb t t refl)))),
      )

  pub stop_has : (b : Belief) → (final_belief M b ≡ true) ↔ ((s : ℕ) → s < M.states → has b s ≡ true → M.accepts s ≡ true)
  stop_has b = (
    λ t s sb. implies (has b s) (M.accepts s) (all_at M.states (λ s. not (has b s) || M.accepts s) t s sb),
    λ f. all_of M.states (λ s. not (has b s) || M.accepts s) (λ s sb. implied (has b s) (M.accepts s) (f s sb)),
  )

  module _ (some_hidden : 0 < G.hiddens) (J : Judges) where
    -- a belief stops after a history exactly if every state of it, under all hidden values, comes to accept
    sure : (h : History) → Possible G.choices G.observations h → (b : Belief)
        → (final_belief M (know (beliefs M G.hiddens G.letter) b h) ≡ true)
        ↔ ((s : ℕ) → s < M.states → has b s ≡ true → (x : ℕ → ℕ) → Hidden G x → M.accepts (state_from M s (letters G h x)) ≡ true)
    sure [] v b = (λ t s sb y x xb. (stop_has b).0 t s sb y, λ f. (stop_has b).1 (λ s sb y. f s sb y (λ i. 0) (λ i. some_hidden)))
    sure (m ∷ h) v b =
        let (c, r) = m in
        let b' = next_belief M G.hiddens G.letter b c r in
        let later = sure h v.2 b' in (
          λ t s sb y x xb.
              let tb = J.next_below s sb c r (x 0) v.0 v.1 (xb 0) in
              later.0 t (M.next s (G.letter c r (x 0))) tb ((next_has b c r _ tb).1 (s, sb, y, x 0, xb 0, refl)) (rest x) (λ i. xb (suc i)),
          λ f. later.1 (λ u ub y x xb.
              let (s, sb, y', x₀, x₀b, q) = (next_has b c r u ub).0 y in
              subst (λ (u : ℕ). M.accepts (state_from M u (letters G h x)) ≡ true) q
              (f s sb y' (x₀ ∷ˢ x) (elim [ zero ↦ x₀b | suc i ↦ xb i ]))),
        )

    -- the initial state alone is believed at first
    sure_first : (h : History) → Possible G.choices G.observations h
        → (final_belief M (know (beliefs M G.hiddens G.letter) (first_belief M) h) ≡ true)
        ↔ ((x : ℕ → ℕ) → Hidden G x → M.accepts (state_from M M.initial (letters G h x)) ≡ true)
    sure_first h v =
        let law = sure h v (first_belief M) in (
          λ t. law.0 t M.initial J.initial_below ((first_has M.initial J.initial_below).1 refl),
          λ f. law.1 (λ s sb y x xb.
              subst (λ (u : ℕ). M.accepts (state_from M u (letters G h x)) ≡ true) (sym ((first_has s sb).0 y)) (f x xb)),
        )

    pub belief_knows : Knows G (beliefs M G.hiddens G.letter)
    belief_knows =
        record {
          starts =
              elim (test (final_belief M (first_belief M))) [
                | inl t ↦ clash ((sure_first [] tt).0 t (λ i. 0) (λ i. some_hidden)) J.starts
                | inr f ↦ f
              ];
          law = λ m h v. (
            λ t x xb. (J.judges m h v x xb).0 ((sure_first (m ∷ h) v).0 t x xb),
            λ f. (sure_first (m ∷ h) v).1 (λ x xb. (J.judges m h v x xb).1 (f x xb)),
          );
        }

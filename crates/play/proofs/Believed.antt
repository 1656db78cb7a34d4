-- A belief holds exactly the states that some hidden values lead to, with the choices and observations of the history.
-- Assumes nothing.
use Prim.Native.Nat.{ℕ, zero, suc, ◌<◌}
use mathlib.Core.Path.{◌≡◌, refl, sym, subst}
use mathlib.Core.Logic.{◌↔◌}
use mathlib.Core.Bool.{true}
use mathlib.Core.List.{[], ◌∷◌}
use Rattle.play.specs.Game.{Game}
use Rattle.play.specs.History.{History, Possible, know, Hidden, letters}
use Rattle.play.specs.Belief.{Automaton, state_from, Belief, has, first_belief, next_belief, beliefs}
use Rattle.play.proofs.Plans.{◌∷ˢ◌, rest}
use Rattle.play.proofs.BeliefsKnow.{Judges, first_has, next_has}

module _ (G : Game) (M : Automaton) (some_hidden : 0 < G.hiddens) (J : Judges G M) where
  from : (h : History) → Possible G.choices G.observations h → (b : Belief) (t : ℕ) → t < M.states
      → (has (know (beliefs M G.hiddens G.letter) b h) t ≡ true)
      ↔ ((s : ℕ) × (s < M.states) × (has b s ≡ true) × (x : ℕ → ℕ) × Hidden G x × (state_from M s (letters G h x) ≡ t))
  from [] v b t tb = (
    λ y. (t, tb, y, λ i. 0, λ i. some_hidden, refl),
    λ w. let (s, sb, y, x, xb, e) = w in subst (λ (u : ℕ). has b u ≡ true) e y,
  )
  from (m ∷ h) v b t tb =
      let (c, r) = m in
      let later = from h v.2 (next_belief M G.hiddens G.letter b c r) t tb in (
        λ y.
            let (u, ub, y', x, xb, e) = later.0 y in
            let (s, sb, ys, x₀, x₀b, q) = (next_has G M b c r u ub).0 y' in
            (s, sb, ys, x₀ ∷ˢ x, elim [ zero ↦ x₀b | suc i ↦ xb i ], subst (λ (u : ℕ). state_from M u (letters G h x) ≡ t) (sym q) e),
        λ w.
            let (s, sb, ys, x, xb, e) = w in
            let ub = J.next_below s sb c r (x 0) v.0 v.1 (xb 0) in
            later.1 (M.next s (G.letter c r (x 0)), ub, (next_has G M b c r _ ub).1 (s, sb, ys, x 0, xb 0, refl), rest x, λ i. xb (suc i), e),
      )

  pub believed : (h : History) → Possible G.choices G.observations h → (t : ℕ) → t < M.states
      → (has (know (beliefs M G.hiddens G.letter) (first_belief M) h) t ≡ true)
      ↔ ((x : ℕ → ℕ) × Hidden G x × (state_from M M.initial (letters G h x) ≡ t))
  believed h v t tb = (
    λ y.
        let (s, sb, ys, x, xb, e) = (from h v (first_belief M) t tb).0 y in
        (x, xb, subst (λ (u : ℕ). state_from M u (letters G h x) ≡ t) ((first_has G M s sb).0 ys) e),
    λ w.
        let (x, xb, e) = w in
        (from h v (first_belief M) t tb).1 (M.initial, J.initial_below, (first_has G M _ J.initial_below).1 refl, x, xb, e),
  )

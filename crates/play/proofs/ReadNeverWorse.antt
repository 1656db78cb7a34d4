-- Reading first is never worse: a strategy that sets first can be played so too, step by step.
-- Assumes nothing.
use Prim.Native.Nat.{ℕ, ◌<◌}
use native.Mathlib.Omega.{arith}
use mathlib.Core.Path.{◌≡◌, refl, sym, ap, subst, fun_ext}
use mathlib.Core.Logic.{◌↔◌}
use mathlib.Core.List.{[]}
use Rattle.basics.specs.Lists.{tabulate}
use Rattle.basics.specs.declared.order.Order.TheVariants.{Set, Read}
use Rattle.play.specs.Game.{Game, Play, seen, Answer, Decision, choose, stop, Strategy, IsStrategy, Steps, choice_of, run, Wins}

-- the same choice for each observation
abbrev blind : Decision Set → Decision Read
blind (choose c) = choose (λ s. c)
blind stop = stop

blind_stop : (d : Decision Set) → (d ≡ stop) ↔ (blind d ≡ stop)
blind_stop (choose c) =
    (λ e. let z : ◌≡◌ {A = ℕ} 0 1 = cc in absurd (omega arith), λ e. let z : ◌≡◌ {A = ℕ} 0 1 = cc in absurd (omega arith))
blind_stop stop = (λ e. refl, λ e. refl)

blind_goes : (d : Decision Set) → ((c : Answer Set) × (d ≡ choose c)) ↔ ((g : Answer Read) × (blind d ≡ choose g))
blind_goes (choose c) = (λ e. ((λ s. c), refl), λ e. (c, refl))
blind_goes stop = (
  λ e. let (c, q) = e in let z : ◌≡◌ {A = ℕ} 0 1 = cc in absurd (omega arith),
  λ e. let (g, q) = e in let z : ◌≡◌ {A = ℕ} 0 1 = cc in absurd (omega arith),
)

blind_choice : (d : Decision Set) (s : ℕ) → choice_of (blind d) s ≡ choice_of d s
blind_choice (choose c) s = refl
blind_choice stop s = refl

module _ (G : Game) (σ : Strategy Set) where
  abbrev τ : Strategy Read
  τ h = blind (σ h)

  same_steps : (p : Play G) (n : ℕ) → Steps σ p n ↔ Steps τ p n
  same_steps p n = (
    λ st. ((blind_stop (σ (seen p n))).0 st.0, λ m h. (blind_goes (σ (seen p m))).0 (st.1 m h)),
    λ st. ((blind_stop (σ (seen p n))).1 st.0, λ m h. (blind_goes (σ (seen p m))).1 (st.1 m h)),
  )

  same_run_lem : (p : Play G) (n : ℕ) → run G τ p n ≡ run G σ p n
  same_run_lem p n =
      ap (tabulate n) (fun_ext (λ i. ap (λ (c : ℕ). G.letter c (p i).observation (p i).hidden) (blind_choice (σ (seen p i)) (p i).observation)))

  pub read_never_worse : IsStrategy G σ → Wins G σ
      → (τ : Strategy Read) × IsStrategy G τ × Wins G τ × ((p : Play G) (n : ℕ) → Steps σ p n ↔ Steps τ p n)
  read_never_worse is wins = (
    τ,
    record {
      opens = (blind_goes (σ [])).0 is.opens;
      legal = λ h v g e s sb.
          let (c, q) = (blind_goes (σ h)).1 (g, e) in
          subst (λ (d : Decision Read). choice_of d s < G.choices) e (legal_at (σ h) c q (is.legal h v c q s sb) s);
    },
    λ p. let (n, st, t) = wins p in (n, (same_steps p n).0 st, subst G.IsTrue (sym (same_run_lem p n)) t),
    same_steps,
  )
    where
      legal_at : (d : Decision Set) (c : ℕ) → d ≡ choose c → c < G.choices → (s : ℕ) → choice_of (blind d) s < G.choices
      legal_at d c q b s = subst (λ (d : Decision Set). choice_of (blind d) s < G.choices) (sym q) b

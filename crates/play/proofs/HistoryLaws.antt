-- Histories with a step more, their proper beginnings, and what is said of histories against the positions after them.
-- Assumes nothing.
use Prim.Native.Nat.{ℕ, ◌<◌}
use native.Mathlib.Omega.{arith}
use mathlib.Core.Path.{◌≡◌, refl, sym, ap, ap₂, ◌∙◌, subst}
use mathlib.Core.Logic.{◌↔◌, ◌⊎◌, inl, inr}
use mathlib.Core.Bool.{true}
use mathlib.Core.List.{List, [], ◌∷◌, ◌++◌}
use lib.ListN.{length, get_or, drop, length-append}
use Rattle.play.specs.Rank.{Arena}
use Rattle.play.specs.History.{History, Possible, onward, ProperPrefix, know}

pub possible_onward : (choices observations : ℕ) (h : History) (c s : ℕ) → Possible choices observations h → c < choices → s < observations
    → Possible choices observations (onward h c s)
possible_onward choices observations [] c s p cb sb = (cb, sb, tt)
possible_onward choices observations (m ∷ h) c s (mc, ms, p) cb sb = (mc, ms, possible_onward choices observations h c s p cb sb)

pub know_onward : (A : Arena) (k : A.K) (h : History) (c s : ℕ) → know A k (onward h c s) ≡ A.move (know A k h) c s
know_onward A k [] c s = refl
know_onward A k (m ∷ h) c s = know_onward A (A.move k m.0 m.1) h c s

-- ---- proper beginnings

longer : {A : Type 0} (xs : List A) (x : A) (ys : List A) → (xs ++ (x ∷ ys) ≡ []) → ⊥
longer xs x ys e = absurd (omega (arith, sym (length-append xs (x ∷ ys)) ∙ ap length e))

-- the empty history has none
pub no_prefix : (k : History) → ProperPrefix k [] → ⊥
no_prefix k (m, l, e) = longer k m l e

-- one of a history with a step more is the history, or one of it
pub prefix_onward : (k h : History) (c s : ℕ) → ProperPrefix k (onward h c s) → (k ≡ h) ⊎ ProperPrefix k h
prefix_onward [] [] c s p = inl refl
prefix_onward [] (b ∷ h) c s p = inr (b, h, refl)
prefix_onward (a ∷ k) [] c s (m, l, e) = absurd (longer k m l (ap (drop 1) e))
prefix_onward (a ∷ k) (b ∷ h) c s (m, l, e) =
    let first : a ≡ b = ap (λ t. get_or t 0 a) e in
    elim (prefix_onward k h c s (m, l, ap (drop 1) e)) [
      | inl q ↦ inl (ap₂ ◌∷◌ first q)
      | inr (n, t, q) ↦ inr (n, t, ap₂ ◌∷◌ first q)
    ]

pub prefix_later : (m : ℕ × ℕ) (k h : History) → ProperPrefix k h → ProperPrefix (m ∷ k) (m ∷ h)
prefix_later m k h (n, l, e) = (n, l, ap (λ t. m ∷ t) e)

possible_front : (choices observations : ℕ) (k l : History) → Possible choices observations (k ++ l) → Possible choices observations k
possible_front choices observations [] l v = tt
possible_front choices observations (m ∷ k) l (c, s, v) = (c, s, possible_front choices observations k l v)

-- one of a history that can be can be
pub possible_prefix : (choices observations : ℕ) (k h : History) → ProperPrefix k h → Possible choices observations h → Possible choices observations k
possible_prefix choices observations k h (m, l, e) v =
    possible_front choices observations k (m ∷ l) (subst (Possible choices observations) (sym e) v)

-- ---- what is said of histories

-- `Same` and `Final` say of the histories that can be what is true of the positions after them
pub record Tells (A : Arena) (choices observations : ℕ) (Same : History → History → Type 0) (Final : History → Type 0) : Type 0 where
  pub sames : (h k : History) → Possible choices observations h → Possible choices observations k
      → Same h k ↔ (know A A.start h ≡ know A A.start k)
  pub finals : (h : History) → Possible choices observations h → Final h ↔ (A.final (know A A.start h) ≡ true)

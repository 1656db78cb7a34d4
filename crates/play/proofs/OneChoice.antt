-- A belief has only one rank and, at each observation, takes only one choice.
-- Assumes nothing.
use Prim.Native.Nat.{ℕ, zero, suc, ◌≤◌, ◌<◌}
use native.Mathlib.Decide.{dec_le}
use native.Mathlib.Omega.{arith}
use mathlib.Core.Path.{◌≡◌, sym, subst}
use mathlib.Core.Logic.{◌⊎◌, inl, inr}
use Rattle.basics.specs.declared.order.Order.{Order}
use Rattle.basics.specs.declared.order.Order.TheVariants.{Set, Read}
use Rattle.play.specs.History.{History, Possible, onward}
use Rattle.play.specs.IsTable.{RankBelow, RankIs, BestNext, SmallestBelow, SmallestBest, Takes}
use Rattle.play.proofs.HistoryLaws.{possible_onward}
use Rattle.play.proofs.CanChoose.{choose_map}
use Rattle.play.proofs.IsTableLaws.{below_le}

-- what beliefs meet, whatever they are, among the histories that can be: equal beliefs stay equal with equal steps, and are final alike,
-- which is decided
pub record Congruence (choices observations : ℕ) (Same : History → History → Type 0) (Final : History → Type 0) : Type 0 where
  pub reflexive : (h : History) → Possible choices observations h → Same h h
  pub symmetric : (h k : History) → Possible choices observations h → Possible choices observations k → Same h k → Same k h
  pub transitive : (h k l : History) → Possible choices observations h → Possible choices observations k → Possible choices observations l
      → Same h k → Same k l → Same h l
  pub steps : (h k : History) → Possible choices observations h → Possible choices observations k → Same h k
      → (c s : ℕ) → c < choices → s < observations → Same (onward h c s) (onward k c s)
  pub finals : (h k : History) → Possible choices observations h → Possible choices observations k → Same h k → Final h → Final k
  pub decided : (h : History) → Possible choices observations h → Final h ⊎ (¬ Final h)

-- ---- ranks

module _ (o : Order) (choices observations : ℕ) (Same : History → History → Type 0) (Final : History → Type 0)
    (C : Congruence choices observations Same Final) where
  abbrev Can : History → Type 0
  Can h = Possible choices observations h

  abbrev Below : ℕ → History → Type 0
  Below = RankBelow o choices observations Final

  abbrev Is : History → ℕ → Type 0
  Is = RankIs o choices observations Final

  abbrev can_onward : (h : History) (c s : ℕ) → Can h → c < choices → s < observations → Can (onward h c s)
  can_onward = possible_onward choices observations

  below_same : (r : ℕ) (h k : History) → Can h → Can k → Same h k → Below r h → Below r k
  below_same zero h k p q e b = b
  below_same (suc r) h k p q e (inl f) = inl (C.finals h k p q e f)
  below_same (suc r) h k p q e (inr a) =
      inr (choose_map o choices observations (λ c s. Below r (onward h c s)) (λ c s. Below r (onward k c s))
      (λ c s cb sb.
      below_same r (onward h c s) (onward k c s) (can_onward h c s p cb sb) (can_onward k c s q cb sb) (C.steps h k p q e c s cb sb)) a)

  rank_same : (r : ℕ) (h k : History) → Can h → Can k → Same h k → Is h r → Is k r
  rank_same r h k p q e a =
      (below_same (suc r) h k p q e a.0, λ b. a.1 (below_same r k h q p (C.symmetric h k p q e) b))

  rank_le : (h : History) (r q : ℕ) → Is h r → Is h q → r ≤ q
  rank_le h r q a b =
      elim (dec_le r q) [ yes l ↦ l | no n ↦ absurd (a.1 (below_le o choices observations Final (suc q) r h (omega arith) b.0)) ]

  -- the same belief has one rank
  pub one_rank : (h k : History) (r q : ℕ) → Can h → Can k → Same h k → Is h r → Is k q → r ≡ q
  one_rank h k r q p p' e a b =
      let a' = rank_same r h k p p' e a in
      omega (arith, rank_le k r q a' b, rank_le k q r b a')

  -- the same holds one step on
  module _ (h k : History) (p : Can h) (q : Can k) (e : Same h k) (c s : ℕ) (cb : c < choices) (sb : s < observations) where
    next_below : (r : ℕ) → Below r (onward h c s) → Below r (onward k c s)
    next_below r = below_same r (onward h c s) (onward k c s) (can_onward h c s p cb sb) (can_onward k c s q cb sb) (C.steps h k p q e c s cb sb)

    next_rank_lem : (r : ℕ) → Is (onward h c s) r → Is (onward k c s) r
    next_rank_lem r = rank_same r (onward h c s) (onward k c s) (can_onward h c s p cb sb) (can_onward k c s q cb sb) (C.steps h k p q e c s cb sb)

  best_le : (h k : History) → Can h → Can k → Same h k → (s : ℕ) → s < observations → (r q : ℕ)
      → BestNext o choices observations Final h s r → BestNext o choices observations Final k s q → q ≤ r
  best_le h k p p' e s sb r q a b =
      let (c, cb, is) = a.0 in
      elim (dec_le q r) [
        | yes l ↦ l
        | no n ↦
            absurd (b.1 c cb (below_le o choices observations Final (suc r) q (onward k c s) (omega arith)
            (next_below h k p p' e c s cb sb (suc r) is.0)))
      ]

-- ---- choices

pub takes_choice : (o : Order) (choices observations : ℕ) (Final : History → Type 0) (h : History) (answer : ℕ → ℕ)
    → Takes o choices observations Final h answer → (s : ℕ) → s < observations → answer s < choices
takes_choice Set choices observations Final h answer a s sb = subst (λ (c : ℕ). c < choices) (sym (a.taken s sb)) a.is_choice
takes_choice Read choices observations Final h answer a s sb = (a s sb).is_choice

module _ (choices observations : ℕ) (Same : History → History → Type 0) (Final : History → Type 0)
    (C : Congruence choices observations Same Final) (h k : History) (p : Possible choices observations h) (q : Possible choices observations k)
    (e : Same h k) where
  -- `Set`: the choice of h leads below the rank of k too
  set_le : (g g' : ℕ → ℕ) (a : SmallestBelow choices observations Final h g) (b : SmallestBelow choices observations Final k g')
      → b.choice ≤ a.choice
  set_le g g' a b =
      elim (dec_le b.choice a.choice) [
        | yes l ↦ l
        | no n ↦
            absurd (b.smallest a.choice (omega arith) (λ s sb.
            subst (λ (r : ℕ). RankBelow Set choices observations Final r (onward k a.choice s))
            (one_rank Set choices observations Same Final C h k a.rank b.rank p q e a.is_rank b.is_rank)
            (next_below Set choices observations Same Final C h k p q e a.choice s a.is_choice sb a.rank (a.leads s sb))))
      ]

  -- `Read`: the choice of h leads to the best next rank of k too
  read_le : (s : ℕ) → s < observations → (c d : ℕ)
      → SmallestBest choices observations Final h s c → SmallestBest choices observations Final k s d → d ≤ c
  read_le s sb c d a b =
      elim (dec_le d c) [
        | yes l ↦ l
        | no n ↦
            let up = best_le Read choices observations Same Final C h k p q e s sb a.rank b.rank a.best b.best in
            let down = best_le Read choices observations Same Final C k h q p (C.symmetric h k p q e) s sb b.rank a.rank b.best a.best in
            let r : a.rank ≡ b.rank = omega arith in
            absurd (b.smallest c (omega arith) (subst (RankIs Read choices observations Final (onward k c s)) r
            (next_rank_lem Read choices observations Same Final C h k p q e c s a.is_choice sb a.rank a.leads)))
      ]

-- the same belief takes one choice at an observation
pub one_choice : (o : Order) (choices observations : ℕ) (Same : History → History → Type 0) (Final : History → Type 0)
    (C : Congruence choices observations Same Final) (h k : History) → Possible choices observations h → Possible choices observations k → Same h k
    → (g g' : ℕ → ℕ) → Takes o choices observations Final h g → Takes o choices observations Final k g' → (s : ℕ) → s < observations → g s ≡ g' s
one_choice Set choices observations Same Final C h k p q e g g' a b s sb =
    let up = set_le choices observations Same Final C h k p q e g g' a b in
    let down = set_le choices observations Same Final C k h q p (C.symmetric h k p q e) g' g b a in
    omega (arith, a.taken s sb, b.taken s sb)
one_choice Read choices observations Same Final C h k p q e g g' a b s sb =
    let up = read_le choices observations Same Final C h k p q e s sb (g s) (g' s) (a s sb) (b s sb) in
    let down = read_le choices observations Same Final C k h q p (C.symmetric h k p q e) s sb (g' s) (g s) (b s sb) (a s sb) in
    omega arith

-- The searches for choices that lead to a rank below r, in the shape of their loops: one choice for all observations, or one for each.
-- Assumes nothing.
use Prim.Native.Nat.{ℕ, ◌+◌, ◌≤◌, ◌<◌}
use native.Mathlib.Nat.{le_refl}
use mathlib.Core.Path.{◌≡◌, refl, sym, ap, ◌∙◌, subst}
use mathlib.Core.Bool.{Bool, true, false}
use mathlib.Core.List.{List}
use lib.Dec.{ltb}
use borrow.Author.Tests.{lt-ltb, le-ltb}
use Rattle.basics.proofs.BoundedLaws.{first_more, first_found, all_fails, all_more, any_of, any_first}
use Rattle.basics.specs.Bounded.{all, any, first_that}
use Rattle.basics.specs.declared.order.Order.TheVariants.{Set, Read}
use Rattle.tables.specs.PositionMemory.{rank_after, works, can_lead}

module _ (moves ranks : List ℕ) (choices observations r k : ℕ) where
  abbrev reached : ℕ → ℕ → ℕ
  reached c s = rank_after moves ranks choices k c s

  -- observation s after choice c leads to a rank below r
  unfoldable pub leads : ℕ → ℕ → Bool
  leads c s = ltb (reached c s) r

  passes : (c s : ℕ) → reached c s < r → leads c s ≡ true
  unfolding leads
  passes c s h = lt-ltb (reached c s) r h

  fails : (c s : ℕ) → r ≤ reached c s → leads c s ≡ false
  unfolding leads
  fails c s h = le-ltb (reached c s) r h

  -- ---- one choice for all observations

  abbrev pub ok : ℕ → Bool
  ok = works moves ranks choices observations r k

  works_is : (c : ℕ) → ok c ≡ all observations (leads c)
  unfolding works leads
  works_is c = refl

  -- the observation passed
  pub leads_more : (c s : ℕ) → all s (leads c) ≡ true → reached c s < r → all (s + 1) (leads c) ≡ true
  leads_more c s a h = all_more s (leads c) a (passes c s h)

  -- the observation fails: the next choice
  pub choice_fails : (c s : ℕ) → first_that ok c ≡ c → s < observations → r ≤ reached c s → first_that ok (c + 1) ≡ c + 1
  choice_fails c s e hs h = first_more ok c e (works_is c ∙ all_fails observations (leads c) s hs (fails c s h))

  -- all passed
  pub choice_found : (c : ℕ) → c < choices → first_that ok c ≡ c → all observations (leads c) ≡ true → c ≡ first_that ok choices
  choice_found c h e a = sym (first_found ok choices c h e (works_is c ∙ a))

  -- the controller can lead if there is such a choice
  pub lead_set : (c : ℕ) → c ≡ first_that ok choices → ltb c choices ≡ can_lead Set moves ranks choices observations r k
  unfolding can_lead works
  lead_set c e = ap (λ i. ltb i choices) e ∙ sym (any_first ok choices)

  -- ---- a choice for each observation

  abbrev pub at : ℕ → ℕ → Bool
  at s c = leads c s

  abbrev pub some_at : ℕ → Bool
  some_at s = any choices (at s)

  lead_read_is : can_lead Read moves ranks choices observations r k ≡ all observations some_at
  unfolding can_lead leads
  lead_read_is = refl

  -- the choice fails
  pub none_more : (s c : ℕ) → first_that (at s) c ≡ c → r ≤ reached c s → first_that (at s) (c + 1) ≡ c + 1
  none_more s c e h = first_more (at s) c e (fails c s h)

  -- the choice leads below r: the next observation
  pub observation_more : (s c : ℕ) → all s some_at ≡ true → c < choices → reached c s < r → all (s + 1) some_at ≡ true
  observation_more s c a hc h = all_more s some_at a (any_of choices (at s) c hc (passes c s h))

  -- no choice does
  pub observation_fails : (s : ℕ) → s < observations → (c : ℕ) → c ≡ choices → first_that (at s) c ≡ c
      → false ≡ can_lead Read moves ranks choices observations r k
  observation_fails s hs c q e =
      let none : first_that (at s) choices ≡ choices = subst (λ i. first_that (at s) i ≡ i) q e in
      let past : choices ≤ first_that (at s) choices = subst (λ i. choices ≤ i) (sym none) (le_refl choices) in
      sym (lead_read_is ∙ all_fails observations some_at s hs (any_first (at s) choices ∙ le-ltb (first_that (at s) choices) choices past))

  pub observations_pass : (s : ℕ) → s ≡ observations → all s some_at ≡ true → true ≡ can_lead Read moves ranks choices observations r k
  observations_pass s q a = sym (lead_read_is ∙ subst (λ i. all i some_at ≡ true) q a)

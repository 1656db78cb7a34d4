-- Pairs that lead to the same states.
-- Assumes nothing.
use Prim.Native.Nat.{ℕ, ◌+◌, ◌*◌, ◌≤◌, ◌<◌}
use native.Mathlib.Numerals.{add-one}
use native.Mathlib.Decide.{dec_lt}
use native.Mathlib.Omega.{arith}
use mathlib.Core.Path.{◌≡◌, refl, sym, ap, ap₂, ◌∙◌, subst, fun_ext}
use mathlib.Core.Bool.{true, false, ◌&&◌}
use mathlib.Core.List.{List, ◌++◌}
use lib.Dec.{eqb}
use lib.ListN.{get_or, get_or-append}
use Rattle.basics.specs.Lists.{tabulate}
use Rattle.basics.proofs.ListsLaws.{length_tabulate, get_d_tabulate}
use Rattle.basics.specs.Bounded.{first_that, all}
use Rattle.basics.proofs.BoundedLaws.{agree_none, agree_more, agree_fails, agree_at, agree_all, first_le, first_passes, all_suc, all_at, all_of, all_fails, any_ext}
use Rattle.play.specs.Belief.{Belief, has}
use Rattle.beliefs.specs.BeliefMemory.{successor_in, belief_after}
use Rattle.beliefs.specs.Twins.{same_from, same_pairs, first_twin, Twins}

module _ (successors : List ℕ) (pairs a b s : ℕ) where
  abbrev pub entry : ℕ → ℕ → ℕ
  entry q h = successor_in successors s (q + h * pairs)

  pub from_none : same_from successors pairs 0 a b s ≡ true
  unfolding same_from
  from_none = agree_none _ _

  pub from_more : (h : ℕ) → same_from successors pairs h a b s ≡ true → (x y : ℕ) → x ≡ entry a h → y ≡ entry b h → x ≡ y
      → same_from successors pairs (h + 1) a b s ≡ true
  unfolding same_from
  from_more h t x y at_a at_b e = agree_more _ _ h t (sym at_a ∙ e ∙ at_b)

  pub from_fails : (hiddens h : ℕ) → h < hiddens → (x y : ℕ) → x ≡ entry a h → y ≡ entry b h → (x ≡ y → ⊥)
      → same_from successors pairs hiddens a b s ≡ false
  unfolding same_from
  from_fails hiddens h l x y at_a at_b ne = agree_fails _ _ hiddens h l (λ e. ne (at_a ∙ e ∙ sym at_b))

module _ (successors : List ℕ) (pairs hiddens a b : ℕ) where
  pub pairs_none : same_pairs successors 0 pairs hiddens a b ≡ true
  unfolding same_pairs
  pairs_none = refl

  pub pairs_more : (s : ℕ) → same_pairs successors s pairs hiddens a b ≡ true → same_from successors pairs hiddens a b s ≡ true
      → same_pairs successors (s + 1) pairs hiddens a b ≡ true
  unfolding same_pairs
  pairs_more s t e = ap (λ k. all k (same_from successors pairs hiddens a b)) (add-one s) ∙ all_suc s (same_from successors pairs hiddens a b) ∙ ap₂ ◌&&◌ e t

  pub pairs_fails : (n s : ℕ) → s < n → same_from successors pairs hiddens a b s ≡ false → same_pairs successors n pairs hiddens a b ≡ false
  unfolding same_pairs
  pairs_fails n s l f = all_fails n (same_from successors pairs hiddens a b) s l f

-- the belief after one is the belief after the other
pub twin_after : (successors : List ℕ) (n pairs hiddens a b : ℕ) (x : Belief) → same_pairs successors n pairs hiddens a b ≡ true
    → belief_after successors n pairs hiddens x b ≡ belief_after successors n pairs hiddens x a
unfolding belief_after same_pairs same_from
twin_after successors n pairs hiddens a b x e =
    ap (tabulate n) (fun_ext (λ t. any_ext n _ _ (λ s l. ap (λ c. has x s && c)
    (any_ext hiddens _ _ (λ h k. ap (λ y. eqb y t) (sym (agree_at _ _ hiddens h (all_at n _ e s l) k)))))))

-- a pair leads where it leads
self_twin : (successors : List ℕ) (n pairs hiddens a : ℕ) → same_pairs successors n pairs hiddens a a ≡ true
unfolding same_pairs same_from
self_twin successors n pairs hiddens a = all_of n _ (λ s l. agree_all _ _ hiddens (λ h k. refl))

-- what `put_twins` writes
pub twins_are : (successors : List ℕ) (n pairs hiddens : ℕ) (rest twins : List ℕ) → twins ≡ tabulate pairs (first_twin successors n pairs hiddens) ++ rest
    → Twins successors n pairs hiddens twins
unfolding first_twin
twins_are successors n pairs hiddens rest twins e =
    record {
      before = λ q l. subst (λ t. t ≤ q) (sym (at q l)) (first_le (same_pairs successors n pairs hiddens q) q);
      same = λ q l. subst (λ t. same_pairs successors n pairs hiddens q t ≡ true) (sym (at q l)) (leads q);
    }
  where
    at : (q : ℕ) → q < pairs → get_or twins q 0 ≡ first_that (same_pairs successors n pairs hiddens q) q
    at q l =
        ap (λ t. get_or t q 0) e
        ∙ get_or-append (tabulate pairs (first_twin successors n pairs hiddens)) rest 0 q
        (subst (λ m. q < m) (sym (length_tabulate pairs (first_twin successors n pairs hiddens))) l)
        ∙ get_d_tabulate pairs (first_twin successors n pairs hiddens) q 0 l

    leads : (q : ℕ) → same_pairs successors n pairs hiddens q (first_that (same_pairs successors n pairs hiddens q) q) ≡ true
    leads q = elim (dec_lt (first_that (same_pairs successors n pairs hiddens q) q) q) [
      | yes l ↦ first_passes (same_pairs successors n pairs hiddens q) q l
      | no k ↦
          let e : first_that (same_pairs successors n pairs hiddens q) q ≡ q = omega (arith, first_le (same_pairs successors n pairs hiddens q) q) in
          ap (same_pairs successors n pairs hiddens q) e ∙ self_twin successors n pairs hiddens q
    ]

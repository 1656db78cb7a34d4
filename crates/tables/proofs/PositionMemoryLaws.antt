-- Ranks in memory, and what they say of the choices.
-- Assumes nothing.
use Prim.Native.Nat.{ℕ, suc, pred, ◌<◌}
use native.Mathlib.Omega.{arith}
use mathlib.Core.Path.{◌≡◌, sym, ap, ◌∙◌}
use mathlib.Core.Bool.{Bool, true}
use mathlib.Core.List.{List, ◌++◌}
use lib.Dec.{ltb}
use lib.ListN.{length, get_or, take}
use lib.Seq.{get_or-take, take_at}
use borrow.Author.Tests.{lt-ltb}
use Rattle.basics.specs.Bounded.{all, any, first_that}
use Rattle.basics.specs.declared.order.Order.{Order}
use Rattle.basics.specs.declared.order.Order.TheVariants.{Set, Read}
use Rattle.basics.proofs.BoundedLaws.{all_at, all_ext, any_ext, first_of, first_ext}
use Rattle.basics.proofs.ListsLaws.{length_tabulate, get_d_tabulate}
use Rattle.play.specs.Rank.{Arena, can, rank_from, leads_within, next_rank, best_answer}
use Rattle.play.proofs.StepOrder.{order_of, can_ext}
use Rattle.play.proofs.RankLaws.{HasRank, goes_on_lem, rank_searched}
use Rattle.tables.specs.PositionMemory.{arena_in, Positions, next_of, rank_after, works, can_lead, rank_if_below, ranks_below, is_best, answer_at}
use Rattle.tables.proofs.RanksBelow.{Below, entry_ranked, entry_within}
use Rattle.tables.proofs.FirstLeast.{least_below, first_within}

-- ---- ranks in memory

module _ (o : Order) (n choices observations r : ℕ) (moves finals : List ℕ) where
  abbrev arena : Arena
  arena = arena_in choices moves finals

  abbrev kept : List ℕ
  kept = ranks_below o n choices observations r moves finals

  ranks_length : length kept ≡ n
  unfolding ranks_below
  ranks_length = length_tabulate n (rank_if_below o arena choices observations r)

  -- in front of other entries
  pub ranks_taken : (ranks rest : List ℕ) → ranks ≡ kept ++ rest → take n ranks ≡ kept
  ranks_taken ranks rest e = ap (take n) e ∙ take_at kept rest n ranks_length

  pub rank_read : (ranks : List ℕ) → take n ranks ≡ kept → (k : ℕ) → k < n → get_or ranks k 0 ≡ rank_if_below o arena choices observations r k
  unfolding ranks_below
  rank_read ranks e k h =
      sym (get_or-take n ranks k 0 h) ∙ ap (λ l. get_or l k 0) e ∙ get_d_tabulate n (rank_if_below o arena choices observations r) k 0 h

  -- entries that say which ranks are below r say whether the controller can lead below r
  pub lead_read : Positions n choices observations moves finals → (ranks : List ℕ) (k : ℕ) → k < n
      → ((j : ℕ) → j < n → ltb (get_or ranks j 0) r ≡ Below o arena choices observations r j)
      → can_lead o moves ranks choices observations r k ≡ can o choices observations (λ c s. Below o arena choices observations r (arena.move k c s))
  unfolding can_lead rank_after next_of
  lead_read P ranks k inside says =
      can_ext (order_of o choices observations) _ _ (λ c s cb sb. says (arena.move k c s) (P.inside k c s inside cb sb))

-- ---- with all ranks in memory, the choices found by them are the best ones

module _ (n choices observations : ℕ) (moves finals ranks : List ℕ) (P : Positions n choices observations moves finals) (k : ℕ) (inside : k < n) where
  abbrev A : Arena
  A = arena_in choices moves finals

  abbrev Ranked : Order → Type 0
  Ranked o = take n ranks ≡ ranks_below o n choices observations n moves finals

  -- an entry says whether a choice leads within q
  within_read : (o : Order) → Ranked o → (q : ℕ) → q < n → (c s : ℕ) → c < choices → s < observations
      → leads_within o A choices observations q k c s ≡ ltb (rank_after moves ranks choices k c s) (suc q)
  unfolding rank_after next_of
  within_read o e q h c s cb sb =
      let j : ℕ = A.move k c s in
      entry_within o A choices observations q n j h (omega (arith, P.few))
      ∙ ap (λ i. ltb i (suc q)) (sym (rank_read o n choices observations n moves finals ranks e j (P.inside k c s inside cb sb)))

  -- the position's own entry is its rank
  pub own_read : (o : Order) → Ranked o → rank_from o A choices observations n k < n → get_or ranks k 0 ≡ rank_from o A choices observations n k
  own_read o e b =
      rank_read o n choices observations n moves finals ranks e k inside
      ∙ entry_ranked o A choices observations n k (lt-ltb (rank_from o A choices observations n k) n b)

  pub answer_read : (o : Order) → Ranked o → (q : ℕ) → suc q < n → HasRank (order_of o choices observations) A k (suc q)
      → (s : ℕ) → s < observations → answer_at o moves ranks choices observations k s ≡ best_answer o A choices observations n k s
  unfolding works is_best
  answer_read Set e q small a s sb =
      let is : rank_from Set A choices observations n k ≡ suc q = rank_searched (order_of Set choices observations) A n (suc q) k small a in
      ap (λ r. first_that (works moves ranks choices observations r k) choices) (own_read Set e (omega arith) ∙ is)
      ∙ first_ext choices _ _ (λ c cb. all_ext observations _ _ (λ t tb. sym (within_read Set e q (omega arith) c t cb tb)))
      ∙ sym (ap (λ r. first_that (λ c. all observations (λ t. leads_within Set A choices observations (pred r) k c t)) choices) is)
  answer_read Read e q small a s sb =
      let f : ℕ → ℕ = λ c. rank_after moves ranks choices k c s in
      let leads : ℕ → ℕ → Bool = λ r c. leads_within Read A choices observations r k c s in
      let is : next_rank Read A choices observations n k s ≡ least_below f choices n =
      first_ext n _ _ (λ r b. any_ext choices _ _ (λ c cb. within_read Read e r b c s cb sb)) in
      let can_go : any choices (leads q) ≡ true =
      all_at observations (λ t. any choices (λ c. leads_within Read A choices observations q k c t))
      (goes_on_lem (order_of Read choices observations) A k q a) s sb in
      let some : next_rank Read A choices observations n k s < n = (first_of (λ r. any choices (leads r)) n q (omega arith) can_go).0 in
      let some' : least_below f choices n < n = omega arith in
      first_within f choices n some'
      ∙ first_ext choices _ _ (λ c cb. sym (within_read Read e (least_below f choices n) some' c s cb sb))
      ∙ sym (ap (λ r. first_that (leads r) choices) is)

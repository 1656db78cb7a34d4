-- From ranks and table to the verdict.
-- Assumes nothing.
use Rattle.std.specs.Prelude.{None}
use Prim.Native.Nat.{ℕ, ◌<◌}
use native.Mathlib.Omega.{arith}
use mathlib.Core.Path.{◌≡◌, refl, sym, ap, ap₂, ◌∙◌}
use mathlib.Core.Logic.{inl, inr}
use mathlib.Core.Bool.{Bool, false, cond}
use mathlib.Core.List.{List, ◌++◌}
use lib.Dec.{eqb, ltb}
use lib.ListN.{length, get_or, take, drop}
use borrow.Author.Tests.{ltb-true, lt-ltb}
use Rattle.basics.proofs.Booleans.{test}
use Rattle.play.specs.Limits.{belief_limit}
use Rattle.play.specs.Rank.{Arena}
use Rattle.play.specs.Table.{rows, table_cells}
use Rattle.basics.specs.Lists.{written}
use Rattle.basics.specs.declared.order.Order.{Order}
use Rattle.play.specs.Answer.{start_rank, verdict_of, cells_of}
use Rattle.tables.specs.Outcome.{outcome_of, found}
use Rattle.tables.specs.PositionMemory.{arena_in, Positions, ranks_below, no_rank}
use Rattle.tables.proofs.PositionMemoryLaws.{rank_read}

module _ (o : Order) (n choices observations : ℕ) (moves finals ranks : List ℕ) (positions : Positions n choices observations moves finals)
    (ranked : take n ranks ≡ ranks_below o n choices observations n moves finals) where
  abbrev A : Arena
  A = arena_in choices moves finals

  abbrev start : ℕ
  start = start_rank o A eqb choices observations n

  rank_is : get_or ranks 0 0 ≡ cond (ltb start n) start no_rank
  rank_is = rank_read o n choices observations n moves finals ranks ranked 0 positions.some

  rank_found : start < n → get_or ranks 0 0 ≡ start
  rank_found b = rank_is ∙ ap (λ (t : Bool). cond t start no_rank) (lt-ltb start n b)

  -- the start's entry says whether it has a rank
  start_none : get_or ranks 0 0 ≡ no_rank → ltb start n ≡ false
  start_none e =
      elim (test (ltb start n)) [
        | inl t ↦ let b = ltb-true start n t in absurd (omega (arith, sym (rank_found b) ∙ e, b, positions.few))
        | inr f ↦ f
      ]

  pub start_found : (get_or ranks 0 0 ≡ no_rank → ⊥) → start < n
  start_found ne =
      elim (test (ltb start n)) [
        | inl t ↦ ltb-true start n t
        | inr f ↦ absurd (ne (rank_is ∙ ap (λ (t : Bool). cond t start no_rank) f))
      ]

  pub start_small : (get_or ranks 0 0 ≡ no_rank → ⊥) → get_or ranks 0 0 < belief_limit
  start_small ne = let b = start_found ne in omega (arith, rank_found b, b, positions.few)

  -- the two answers
  pub none_answer : (table : List ℕ) → get_or ranks 0 0 ≡ no_rank
      → (None ≡ outcome_of (verdict_of o A eqb choices observations n)) × (table ≡ written (cells_of (verdict_of o A eqb choices observations n)) table)
  none_answer table e = rw (start_none e) (refl, refl)

  pub table_answer : (k r : ℕ) (table table' : List ℕ) → (get_or ranks 0 0 ≡ no_rank → ⊥) → r ≡ get_or ranks 0 0 → k ≡ length (rows o A eqb choices observations n)
      → table' ≡ table_cells o A eqb choices observations n ++ drop (length (table_cells o A eqb choices observations n)) table
      → (found k r ≡ outcome_of (verdict_of o A eqb choices observations n)) × (table' ≡ written (cells_of (verdict_of o A eqb choices observations n)) table)
  table_answer k r table table' ne e l t =
      let b = start_found ne in
      rw (lt-ltb start n b) (ap₂ found l (e ∙ rank_found b), t)

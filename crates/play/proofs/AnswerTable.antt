-- The table that is answered is the one that the reference lays down (`IsTable`), and its worst case the rank of the start.
-- Assumes nothing.
use Prim.Native.Nat.{ℕ, ◌≤◌, ◌<◌}
use native.Mathlib.Nat.{le_refl}
use native.Mathlib.Omega.{arith}
use mathlib.Core.Path.{◌≡◌, refl, sym, ◌∙◌}
use mathlib.Core.Bool.{Bool, true, false, cond}
use mathlib.Core.List.{List, []}
use lib.Dec.{ltb}
use lib.ListN.{length}
use borrow.Author.Tests.{ltb-true}
use Rattle.basics.specs.Says.{Says}
use Rattle.basics.specs.Member.{◌∈◌}
use Rattle.basics.specs.Reach.{closed, reachable}
use Rattle.basics.specs.declared.order.Order.{Order}
use Rattle.play.specs.Limits.{side_limit}
use Rattle.play.specs.Cells.{stop_cell}
use Rattle.play.specs.Rank.{Arena, best_answer}
use Rattle.play.specs.History.{History}
use Rattle.play.specs.Table.{followers, rows, table_cells}
use Rattle.play.specs.IsTable.{RankIs, IsTable}
use Rattle.play.specs.Answer.{start_rank, solved, unrealizable, verdict_of}
use Rattle.basics.proofs.BoundedLaws.{first_passes, first_least}
use Rattle.play.proofs.StepOrder.{StepOrder, order_of}
use Rattle.play.proofs.RankLaws.{In}
use Rattle.play.proofs.Optimality.{descends}
use Rattle.play.proofs.FiniteArena.{Closed}
use Rattle.play.proofs.RankedRows.{rows_listed}
use Rattle.play.proofs.HistoryLaws.{Tells}
use Rattle.play.proofs.TableIs.{table_is, start_rank_is, only_table, only_rank}

-- for a list of positions that has the start and is closed under moves
module _ (o : Order) (A : Arena) (same : A.K → A.K → Bool) (says : (a b : A.K) → Says (same a b) (a ≡ b)) (choices observations : ℕ)
    (some_observation : 0 < observations) (few_choices : choices < stop_cell) (few_observations : observations ≤ side_limit)
    (all : List A.K) (closed_all : Closed (order_of o choices observations) A some_observation all) (start_in : A.start ∈ all)
    (Same : History → History → Type 0) (Final : History → Type 0) (tells : Tells A choices observations Same Final) where
  abbrev n : ℕ
  n = length all

  abbrev r : ℕ
  r = start_rank o A same choices observations n

  abbrev O : StepOrder choices observations
  O = order_of o choices observations

  listed : r < n → (ks : List A.K) × (reachable same (followers o A same choices observations n) A.start n ≡ closed ks)
  listed ranked =
      rows_listed O A same says some_observation all closed_all start_in n (le_refl n)
      (best_answer o A choices observations n) (descends o A choices observations n)
      r ranked (first_passes (λ q. In O A q A.start) n ranked, first_least (λ q. In O A q A.start) n)

  -- a verdict with a table: the start has a rank, and the table is the one of the best answers
  solved_is : (m q : ℕ) (cells : List ℕ) → verdict_of o A same choices observations n ≡ solved m q cells
      → (r < n) × (m ≡ length (rows o A same choices observations n)) × (q ≡ r) × (cells ≡ table_cells o A same choices observations n)
  solved_is m q cells = at (ltb r n) refl
    where
      no_table : unrealizable ≡ solved m q cells → ⊥
      no_table e = let z : ◌≡◌ {A = ℕ} 0 1 = cc in absurd (omega arith)

      at : (b : Bool) → ltb r n ≡ b
          → cond b (solved (length (rows o A same choices observations n)) r (table_cells o A same choices observations n)) unrealizable ≡ solved m q cells
          → (r < n) × (m ≡ length (rows o A same choices observations n)) × (q ≡ r) × (cells ≡ table_cells o A same choices observations n)
      at true e f = (ltb-true r n e, cc, cc, cc)
      at false e f = absurd (no_table f)

  pub answer_table : (m q : ℕ) (cells : List ℕ) → verdict_of o A same choices observations n ≡ solved m q cells
      → IsTable o choices observations Same Final m cells × RankIs o choices observations Final [] q
  answer_table m q cells e =
      let (ranked, is_m, is_q, is_cells) = solved_is m q cells e in
      let (ks, l) = listed ranked in
      rw (is_m, is_q, is_cells) (
        table_is o A same says choices observations n some_observation few_choices few_observations ks l ranked Same Final tells,
        start_rank_is o A same says choices observations n some_observation few_choices few_observations ks l ranked Same Final tells,
      )

  -- there is no other
  pub one_answer : (m q : ℕ) (cells : List ℕ) → verdict_of o A same choices observations n ≡ solved m q cells
      → (k s : ℕ) (t : List ℕ) → IsTable o choices observations Same Final k t → RankIs o choices observations Final [] s
      → (k ≡ m) × (s ≡ q) × (t ≡ cells)
  one_answer m q cells e k s t T R =
      let (ranked, is_m, is_q, is_cells) = solved_is m q cells e in
      let (ks, l) = listed ranked in
      let (same_k, same_t) =
      only_table o A same says choices observations n some_observation few_choices few_observations ks l ranked Same Final tells k t T in
      let same_s = only_rank o A same says choices observations n some_observation few_choices few_observations ks l ranked Same Final tells s R in
      (same_k ∙ sym is_m, same_s ∙ sym is_q, same_t ∙ sym is_cells)

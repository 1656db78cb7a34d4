-- Nothing is counted behind a final position, and every game that was answered while such positions counted keeps its answer.
-- Assumes nothing.
use Prim.Native.Nat.{ℕ, ◌≤◌, ◌<◌}
use mathlib.Core.Path.{◌≡◌, refl, sym, ap, ap₂, ◌∙◌, subst}
use mathlib.Core.Logic.{◌↔◌, inl, inr}
use mathlib.Core.Bool.{Bool, true, false, false≢true}
use mathlib.Core.List.{List, [], ◌∷◌}
use lib.Dec.{ltb}
use lib.ListN.{length}
use borrow.Author.Tests.{ltb-true, lt-ltb}
use Rattle.basics.specs.Says.{Says}
use Rattle.basics.specs.Member.{◌∈◌}
use Rattle.basics.specs.Reach.{Listing, closed, over, Reached, reached_first, reached_step, AtLeast}
use Rattle.basics.specs.declared.order.Order.{Order}
use Rattle.basics.proofs.Booleans.{test, clash}
use Rattle.basics.proofs.BoundedLaws.{first_passes, first_least}
use Rattle.basics.proofs.ReachLaws.{closed_lists, over_iff, closed_not_over}
use Rattle.play.specs.Limits.{side_limit}
use Rattle.play.specs.Cells.{stop_cell}
use Rattle.play.specs.Rank.{Arena}
use Rattle.play.specs.History.{History, Possible, know, AtLeastBeliefs}
use Rattle.play.specs.Table.{rows, table_cells}
use Rattle.play.specs.Answer.{all_moves, moves, positions, start_rank, Verdict, solved, verdict_of}
use Rattle.play.specs.EarlierCount.{earlier_positions}
use Rattle.play.proofs.StepOrder.{StepOrder, order_of}
use Rattle.play.proofs.RankLaws.{In, HasRank, rank_searched}
use Rattle.play.proofs.FiniteArena.{Closed, rank_lt}
use Rattle.play.proofs.RankedRows.{reached_all}
use Rattle.play.proofs.HistoryLaws.{Tells}
use Rattle.play.proofs.AnswerLaws.{all_moves_iff, moves_iff, start_counted, move_counted}
use Rattle.play.proofs.AnswerTable.{answer_table, one_answer}
use Rattle.play.proofs.BeliefsByHistories.{at_least_iff}

-- ---- the verdict is the same from any list of positions that has the start and is closed under moves

module _ (o : Order) (A : Arena) (same : A.K → A.K → Bool) (says : (a b : A.K) → Says (same a b) (a ≡ b)) (choices observations : ℕ)
    (some_observation : 0 < observations) (few_choices : choices < stop_cell) (few_observations : observations ≤ side_limit) where
  abbrev O : StepOrder choices observations
  O = order_of o choices observations

  abbrev rank : ℕ → ℕ
  rank n = start_rank o A same choices observations n

  abbrev answer : ℕ → Verdict
  answer n = verdict_of o A same choices observations n

  abbrev row_count : ℕ → ℕ
  row_count n = length (rows o A same choices observations n)

  abbrev cells : ℕ → List ℕ
  cells n = table_cells o A same choices observations n

  solved_at : (n : ℕ) → rank n < n → answer n ≡ solved (row_count n) (rank n) (cells n)
  solved_at n h = rw (lt-ltb (rank n) n h) refl

  -- histories by the positions after them
  itself : Tells A choices observations (λ h k. know A A.start h ≡ know A A.start k) (λ h. A.final (know A A.start h) ≡ true)
  itself = record { sames = λ h k v w. (λ e. e, λ e. e); finals = λ h v. (λ e. e, λ e. e) }

  -- a start that is ranked below one length is ranked below the other
  ranked_too : (n : ℕ) (ys : List A.K) → Closed O A some_observation ys → A.start ∈ ys → rank n < n → rank (length ys) < length ys
  ranked_too n ys closed-ys start_in h =
      let a : HasRank O A A.start (rank n) = (first_passes (λ q. In O A q A.start) n h, first_least (λ q. In O A q A.start) n) in
      let b = rank_lt O A some_observation ys closed-ys (rank n) A.start start_in a in
      subst (λ q. q < length ys) (sym (rank_searched O A (length ys) (rank n) A.start b a)) b

  module _ (xs ys : List A.K) (closed-xs : Closed O A some_observation xs) (closed-ys : Closed O A some_observation ys)
      (start-xs : A.start ∈ xs) (start-ys : A.start ∈ ys) where
    abbrev n : ℕ
    n = length xs

    abbrev m : ℕ
    m = length ys

    same_table : rank n < n → answer n ≡ answer m
    same_table h =
        let e = solved_at n h in
        let f = solved_at m (ranked_too n ys closed-ys start-ys h) in
        let (t, q) = answer_table o A same says choices observations some_observation few_choices few_observations xs closed-xs start-xs _ _ itself
        (row_count n) (rank n) (cells n) e in
        let (a, b, c) = one_answer o A same says choices observations some_observation few_choices few_observations ys closed-ys start-ys _ _ itself
        (row_count m) (rank m) (cells m) f (row_count n) (rank n) (cells n) t q in
        e ∙ ap (λ k. solved k (rank n) (cells n)) a ∙ ap₂ (solved (row_count m)) b c ∙ sym f

    pub same_verdict : answer (length xs) ≡ answer (length ys)
    same_verdict =
        elim (test (ltb (rank n) n)) [
          | inl t ↦ same_table (ltb-true (rank n) n t)
          | inr f ↦
              elim (test (ltb (rank m) m)) [
                | inl t ↦ clash (lt-ltb (rank n) n (ranked_too m xs closed-xs start-xs (ltb-true (rank m) m t))) f
                | inr g ↦ rw (f, g) refl
              ]
        ]

-- ---- fewer are counted than before

module _ (A : Arena) (same : A.K → A.K → Bool) (says : (a b : A.K) → Says (same a b) (a ≡ b)) (choices observations : ℕ) where
  abbrev now : A.K → List A.K
  now = moves A same choices observations

  abbrev before : A.K → List A.K
  before = all_moves A same choices observations

  reached_before : (x : A.K) → Reached now A.start x → Reached before A.start x
  reached_before x =
      reached_all (Reached before A.start) reached_first (λ k j r m.
      reached_step r ((all_moves_iff A same choices observations k j).1 ((moves_iff A same choices observations k j).0 m).1))

  -- what was within the limit is
  counted_too : (limit : ℕ) (all : List A.K) → earlier_positions A same choices observations limit ≡ closed all
      → (few : List A.K) × (positions A same choices observations limit ≡ closed few)
  counted_too limit all e = at (positions A same choices observations limit) refl
    where
      at : (l : Listing A.K) → positions A same choices observations limit ≡ l
          → (few : List A.K) × (positions A same choices observations limit ≡ closed few)
      at (closed few) q = (few, q)
      at over q =
          let many = (over_iff same says now A.start limit).0 q in
          absurd (closed_not_over all (sym e ∙ (over_iff same says before A.start limit).1
          (record { some = many.some; count = many.count; distinct = many.distinct; sound = λ x m. reached_before x (many.sound x m) })))

  -- THE ANSWER IS KEPT: a game whose positions were within the limit by the earlier count has the verdict that it had
  pub answer_kept : (o : Order) → 0 < observations → choices < stop_cell → observations ≤ side_limit
      → (limit : ℕ) (all : List A.K) → earlier_positions A same choices observations limit ≡ closed all
      → (few : List A.K) × (positions A same choices observations limit ≡ closed few)
      × (verdict_of o A same choices observations (length few) ≡ verdict_of o A same choices observations (length all))
  answer_kept o some_observation few_choices few_observations limit all e =
      let (few, q) = counted_too limit all e in
      let exact = (closed_lists same says before A.start limit all e).0.exact in (
        few,
        q,
        same_verdict o A same says choices observations some_observation few_choices few_observations few all
            (move_counted A same says choices observations limit few q)
            (λ k m f c cb s sb. (exact (A.move k c s)).1 (reached_step ((exact k).0 m)
            ((all_moves_iff A same choices observations k (A.move k c s)).1 (c, cb, s, sb, refl))))
            (start_counted A same says choices observations limit few q)
            ((exact A.start).1 reached_first),
      )

-- ---- the earlier count by histories

-- the positions, none of them final
abbrev endless : Arena → Arena
endless A = record { K = A.K; start = A.start; move = A.move; final = λ k. false }

know_endless : (A : Arena) (k : A.K) (h : History) → know (endless A) k h ≡ know A k h
know_endless A k [] = refl
know_endless A k (m ∷ h) = know_endless A (A.move k m.0 m.1) h

module _ (A : Arena) (same : A.K → A.K → Bool) (choices observations : ℕ) (Same : History → History → Type 0)
    (alike : (h k : History) → Possible choices observations h → Possible choices observations k
    → Same h k ↔ (know A A.start h ≡ know A A.start k)) where
  endless_tells : Tells (endless A) choices observations Same (λ h. ⊥)
  endless_tells =
      record {
        sames = λ h k v w. (
          λ e. know_endless A A.start h ∙ (alike h k v w).0 e ∙ sym (know_endless A A.start k),
          λ e. (alike h k v w).1 (sym (know_endless A A.start h) ∙ e ∙ know_endless A A.start k),
        );
        finals = λ h v. (λ z. absurd z, λ e. false≢true e);
      }

  -- all histories that can be counted
  pub earlier_iff : (n : ℕ) → AtLeast (all_moves A same choices observations) A.start n ↔ AtLeastBeliefs (Possible choices observations) Same n
  earlier_iff n =
      let law = at_least_iff (endless A) same choices observations Same (λ h. ⊥) endless_tells n in (
        λ l. let b = law.0 l in record { history = b.history; counted = λ i h. (b.counted i h).0; different = b.different },
        λ b. law.1 (record { history = b.history; counted = λ i h. (b.counted i h, λ k p z. z); different = b.different }),
      )

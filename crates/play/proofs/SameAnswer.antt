-- Positions by another name have the same answer, under either order: the same ranks, choices, rows and cells, so the same verdict.
-- Assumes nothing.
use Prim.Native.Nat.{ℕ, zero, suc, pred, ◌<◌}
use mathlib.Core.Path.{◌≡◌, refl, sym, ap, ap₂, ◌∙◌}
use mathlib.Core.Logic.{inl, inr}
use mathlib.Core.Bool.{Bool, true, false, cond, ◌||◌}
use mathlib.Core.List.{List, map, flat_map}
use lib.Dec.{ltb}
use lib.ListN.{length, length-map}
use borrow.Author.Tests.{ltb-true}
use Rattle.basics.specs.Bounded.{all, first_that}
use Rattle.basics.specs.Reach.{Listing, closed, over, index_in, reachable}
use Rattle.basics.proofs.Booleans.{test}
use Rattle.basics.proofs.BoundedLaws.{all_ext, any_ext, first_ext, first_passes, first_least}
use Rattle.basics.proofs.ListsLaws.{map_table, tabulate_ext}
use Rattle.basics.proofs.SameSearch.{Each, each_tabulate, EachListed, map_listing, index_image, flat_image, reachable_image}
use Rattle.basics.specs.declared.order.Order.{Order}
use Rattle.basics.specs.declared.order.Order.TheVariants.{Set, Read}
use Rattle.play.specs.Rank.{Arena, can, within, rank_below, rank_from, leads_within, next_rank, best_answer}
use Rattle.play.specs.Cells.{with_rank}
use Rattle.play.specs.Table.{list_of, followers_by, rows_by, rows, unranked, row_of, table_cells}
use Rattle.play.specs.Answer.{Verdict, solved, unrealizable, start_rank, verdict_of}
use Rattle.play.proofs.StepOrder.{StepOrder, can_ext, order_of}
use Rattle.play.proofs.RankLaws.{In}
use Rattle.play.proofs.Optimality.{descends}
use Rattle.play.proofs.RankedRows.{MetRanked, ranked_answer}
use Rattle.play.proofs.CellsLaws.{choice_ext}

-- the positions of A that are met have names in B, one to one; the start, where to stop, and moves from where one does not stop go by them
pub record Renaming (A B : Arena) (same_a : A.K → A.K → Bool) (same_b : B.K → B.K → Bool) (choices observations : ℕ)
    (named : A.K → B.K) (Met : A.K → Type 0) : Type 0 where
  pub met_start : Met A.start
  pub met_next : (k : A.K) → Met k → A.final k ≡ false → (c : ℕ) → c < choices → (s : ℕ) → s < observations → Met (A.move k c s)
  pub named_start : named A.start ≡ B.start
  pub named_final : (k : A.K) → Met k → B.final (named k) ≡ A.final k
  pub named_move : (k : A.K) → Met k → A.final k ≡ false → (c : ℕ) → c < choices → (s : ℕ) → s < observations
      → B.move (named k) c s ≡ named (A.move k c s)
  pub one : (j k : A.K) → Met j → Met k → same_b (named j) (named k) ≡ same_a j k

-- a test of the controller's that looks at choices and observations that can occur alone; those of all orders of a step do (`can_ext`)
abbrev pub Respects : (choices observations : ℕ) → ((ℕ → ℕ → Bool) → Bool) → Type 0
Respects choices observations can =
    (ok ok' : ℕ → ℕ → Bool) → ((c s : ℕ) → c < choices → s < observations → ok c s ≡ ok' c s) → can ok ≡ can ok'

listed_image : {K L : Type 0} (f : K → L) (l : Listing K) → list_of (map_listing f l) ≡ map f (list_of l)
listed_image f (closed xs) = refl
listed_image f over = refl

each_listed : {K : Type 0} (P : K → Type 0) (l : Listing K) → EachListed P l → Each P (list_of l)
each_listed P (closed xs) e = e
each_listed P over e = tt

module _ {A B : Arena} {same_a : A.K → A.K → Bool} {same_b : B.K → B.K → Bool} {choices observations : ℕ} {named : A.K → B.K} {Met : A.K → Type 0}
    (R : Renaming A B same_a same_b choices observations named Met) where
  -- ---- ranks

  module _ (can : (ℕ → ℕ → Bool) → Bool) (respects : Respects choices observations can) where
    pub within_image : (r : ℕ) (k : A.K) → Met k → within A can r k ≡ within B can r (named k)
    within_image zero k m = sym (R.named_final k m)
    within_image (suc r) k m =
        elim (test (A.final k)) [
          | inl t ↦ rw (t, R.named_final k m ∙ t)
          | inr f ↦
              ap₂ ◌||◌ (sym (R.named_final k m)) (respects _ _ (λ c s cb sb.
              within_image r (A.move k c s) (R.met_next k m f c cb s sb) ∙ ap (within B can r) (sym (R.named_move k m f c cb s sb))))
        ]

    pub rank_image : (n : ℕ) (k : A.K) → Met k → rank_below A can n k ≡ rank_below B can n (named k)
    rank_image n k m = first_ext n _ _ (λ r l. within_image r k m)

  -- ---- best answers

  module _ (o : Order) where
    abbrev O : StepOrder choices observations
    O = order_of o choices observations

    leads_image : (k : A.K) → Met k → A.final k ≡ false → (r c s : ℕ) → c < choices → s < observations
        → leads_within o A choices observations r k c s ≡ leads_within o B choices observations r (named k) c s
    leads_image k m f r c s cb sb =
        within_image (can o choices observations) (can_ext O) r (A.move k c s) (R.met_next k m f c cb s sb)
        ∙ ap (within B (can o choices observations) r) (sym (R.named_move k m f c cb s sb))

    from_image : (n : ℕ) (k : A.K) → Met k → rank_from o A choices observations n k ≡ rank_from o B choices observations n (named k)
    from_image = rank_image (can o choices observations) (can_ext O)

  pub answer_image : (o : Order) (n : ℕ) (k : A.K) → Met k → A.final k ≡ false → (s : ℕ) → s < observations
      → best_answer o A choices observations n k s ≡ best_answer o B choices observations n (named k) s
  answer_image Set n k m f s sb =
      let r : ℕ = pred (rank_from Set B choices observations n (named k)) in
      ap (λ q. first_that (λ c. all observations (λ t. leads_within Set A choices observations (pred q) k c t)) choices) (from_image Set n k m)
      ∙ first_ext choices _ _ (λ c cb. all_ext observations _ _ (λ t tb. leads_image Set k m f r c t cb tb))
  answer_image Read n k m f s sb =
      let next : next_rank Read A choices observations n k s ≡ next_rank Read B choices observations n (named k) s =
      first_ext n _ _ (λ r l. any_ext choices _ _ (λ c cb. leads_image Read k m f r c s cb sb)) in
      ap (λ q. first_that (λ c. leads_within Read A choices observations q k c s) choices) next
      ∙ first_ext choices _ _ (λ c cb. leads_image Read k m f (next_rank Read B choices observations n (named k) s) c s cb sb)

  -- ---- rows, by any answers that are choices and the same under either name, on the positions that they lead to

  module _ (answer_a : A.K → ℕ → ℕ) (answer_b : B.K → ℕ → ℕ) (Followed : A.K → Type 0) (first : Followed A.start)
      (met : (k : A.K) → Followed k → Met k)
      (next : (k : A.K) → Followed k → A.final k ≡ false → (s : ℕ) → s < observations
      → (answer_a k s < choices) × Followed (A.move k (answer_a k s) s))
      (alike : (k : A.K) → Followed k → A.final k ≡ false → (s : ℕ) → s < observations → answer_a k s ≡ answer_b (named k) s) where
    move_image : (k : A.K) → Followed k → A.final k ≡ false → (s : ℕ) → s < observations
        → B.move (named k) (answer_b (named k) s) s ≡ named (A.move k (answer_a k s) s)
    move_image k p f s sb =
        ap (λ c. B.move (named k) c s) (sym (alike k p f s sb)) ∙ R.named_move k (met k p) f (answer_a k s) (next k p f s sb).0 s sb

    followers_image : (k : A.K) → Followed k → followers_by B answer_b observations (named k) ≡ map named (followers_by A answer_a observations k)
    followers_image k p =
        elim (test (A.final k)) [
          | inl t ↦ rw (t, followers_by, R.named_final k (met k p) ∙ t)
          | inr f ↦
              rw (f, followers_by, R.named_final k (met k p) ∙ f)
              (tabulate_ext observations _ _ (λ s sb. move_image k p f s sb) ∙ sym (map_table named observations (λ s. A.move k (answer_a k s) s)))
        ]

    followers_each : (k : A.K) → Followed k → Each Followed (followers_by A answer_a observations k)
    followers_each k p =
        elim (test (A.final k)) [
          | inl t ↦ rw (t, followers_by) tt
          | inr f ↦ rw (f, followers_by) (each_tabulate Followed observations _ (λ s sb. (next k p f s sb).1))
        ]

    pub rows_image : (n : ℕ) → (rows_by B same_b answer_b observations n ≡ map named (rows_by A same_a answer_a observations n))
        × Each Followed (rows_by A same_a answer_a observations n)
    rows_image n =
        let (e, each) = reachable_image same_a same_b named Followed (λ j k p q. R.one j k (met j p) (met k q))
        (followers_by A answer_a observations) (followers_by B answer_b observations) A.start first followers_each followers_image n in
        let l = reachable same_a (followers_by A answer_a observations) A.start n in (
          ap (λ k. list_of (reachable same_b (followers_by B answer_b observations) k n)) (sym R.named_start) ∙ ap list_of e ∙ listed_image named l,
          each_listed Followed l each,
        )

  -- ---- the table of the best answers, where the start has a rank

  module _ (o : Order) (some_observation : 0 < observations) (n : ℕ) where
    abbrev r : ℕ
    r = start_rank o A same_a choices observations n

    abbrev answer : A.K → ℕ → ℕ
    answer = best_answer o A choices observations n

    module _ (ranked : r < n) where
      abbrev Ranked : A.K → Type 0
      Ranked = MetRanked (O o) A Met R.met_next n answer (descends o A choices observations n)

      next_ranked : (k : A.K) → Ranked k → A.final k ≡ false → (s : ℕ) → s < observations
          → (answer k s < choices) × Ranked (A.move k (answer k s) s)
      next_ranked = ranked_answer (O o) A Met R.met_next n answer (descends o A choices observations n)

      start_ranked : Ranked A.start
      start_ranked =
          (R.met_start, r, ranked, (first_passes (λ q. In (O o) A q A.start) n ranked, first_least (λ q. In (O o) A q A.start) n))

      table_rows : (rows o B same_b choices observations n ≡ map named (rows o A same_a choices observations n))
          × Each Ranked (rows o A same_a choices observations n)
      table_rows =
          rows_image answer (best_answer o B choices observations n) Ranked start_ranked (λ k p. p.0) next_ranked
          (λ k p f s sb. answer_image o n k p.0 f s sb) n

      unranked_image : (l : List A.K) → Each Ranked l → (k : A.K) → Ranked k
          → unranked o A same_a choices observations n l k ≡ unranked o B same_b choices observations n (map named l) (named k)
      unranked_image l each k p =
          elim (test (A.final k)) [
            | inl t ↦ rw (t, unranked, R.named_final k p.0 ∙ t)
            | inr f ↦
                rw (f, unranked, R.named_final k p.0 ∙ f)
                (choice_ext o observations _ _ _ _ some_observation (λ s sb. answer_image o n k p.0 f s sb) (λ s sb.
                let (cb, q) = next_ranked k p f s sb in
                sym (index_image same_a same_b named Ranked (λ i j u v. R.one i j u.0 v.0) (A.move k (answer k s) s) l q each)
                ∙ ap (λ j. index_in same_b j (map named l)) (sym (R.named_move k p.0 f (answer k s) cb s sb)
                ∙ ap (λ c. B.move (named k) c s) (answer_image o n k p.0 f s sb))))
          ]

      row_image : (l : List A.K) → Each Ranked l → (k : A.K) → Ranked k
          → row_of o A same_a choices observations n l k ≡ row_of o B same_b choices observations n (map named l) (named k)
      row_image l each k p = ap₂ (with_rank o) (from_image o n k p.0) (unranked_image l each k p)

      pub cells_image : table_cells o A same_a choices observations n ≡ table_cells o B same_b choices observations n
      cells_image =
          let l : List A.K = rows o A same_a choices observations n in
          flat_image named Ranked (row_of o A same_a choices observations n l) (row_of o B same_b choices observations n (map named l))
          (row_image l table_rows.1) l table_rows.1
          ∙ ap (λ m. flat_map (row_of o B same_b choices observations n m) m) (sym table_rows.0)

    -- the verdict is the same
    pub verdict_image : verdict_of o A same_a choices observations n ≡ verdict_of o B same_b choices observations n
    verdict_image =
        at (ltb r n) refl ∙ ap pick (from_image o n A.start R.met_start ∙ ap (rank_from o B choices observations n) R.named_start)
      where
        pick : ℕ → Verdict
        pick q = cond (ltb q n) (solved (length (rows o B same_b choices observations n)) q (table_cells o B same_b choices observations n)) unrealizable

        at : (b : Bool) → ltb r n ≡ b
            → cond (ltb r n) (solved (length (rows o A same_a choices observations n)) r (table_cells o A same_a choices observations n)) unrealizable ≡ pick r
        at true e =
            let low = ltb-true r n e in
            let count = sym (length-map (rows o A same_a choices observations n) named) ∙ ap length (sym (table_rows low).0) in
            rw e (ap₂ (λ l t. solved l r t) count (cells_image low))
        at false e = rw e

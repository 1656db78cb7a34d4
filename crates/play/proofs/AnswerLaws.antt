-- What is answered is right.
-- Assumes nothing.
use Prim.Native.Nat.{ℕ, ◌+◌, ◌*◌, ◌/◌, ◌%◌, ◌≤◌, ◌<◌}
use native.Mathlib.Nat.{mul_comm}
use native.Mathlib.Omega.{arith}
use mathlib.Core.Path.{◌≡◌, refl, sym, ap₂, ◌∙◌, subst}
use mathlib.Core.Logic.{◌↔◌, ◌⊎◌, inl, inr}
use mathlib.Core.Bool.{Bool, true, false, cond}
use mathlib.Core.List.Memᴰ
use mathlib.Core.List.{List, flat_map}
use lib.Dec.{ltb}
use lib.ListN.{length}
use lib.Arith.{digits_lt, digits_div, digits_mod}
use borrow.Author.Tests.{ltb-true, ltb-false}
use Rattle.basics.specs.Says.{Says}
use Rattle.basics.specs.Member.{◌∈◌}
use Rattle.basics.specs.Reach.{closed, Reached, reached_first, reached_step}
use Rattle.basics.proofs.Booleans.{test}
use Rattle.basics.proofs.EqualRows.{row_at}
use Rattle.basics.proofs.MemberLaws.{in_tabulate}
use Rattle.basics.proofs.ReachLaws.{closed_lists}
use Rattle.play.specs.Limits.{side_limit}
use Rattle.play.specs.Cells.{stop_cell, rank_cell}
use Rattle.basics.specs.declared.order.Order.{Order}
use Rattle.play.specs.Game.{Game}
use Rattle.play.specs.Rank.{Arena, best_answer, best}
use Rattle.play.specs.History.{Knows}
use Rattle.play.specs.Table.{Laid, list_of, rows, row_of, table_strategy, table_cells}
use Rattle.play.specs.Answer.{all_moves, moves, positions, start_rank, Verdict, verdict_of, Right}
use Rattle.basics.proofs.BoundedLaws.{first_passes, first_least}
use Rattle.play.proofs.RankLaws.{In, HasRank}
use Rattle.play.proofs.FiniteArena.{Closed}
use Rattle.play.proofs.Optimality.{ordered, descends, best_optimal, no_rank_unrealizable, verdict}
use Rattle.play.proofs.SameStrategy.{optimal_alike}
use Rattle.play.proofs.RankedRows.{rows_listed, rows_ranked, rows_le, rank_lt_rows}
use Rattle.play.proofs.TableLaws.{first_rank_lem, table_laid, table_is_best}

-- all moves have every pair of a choice and an observation, and nothing else
module _ (A : Arena) (same : A.K → A.K → Bool) (choices observations : ℕ) (k : A.K) where
  -- choice c and observation s lead there
  abbrev pub Leads : A.K → Type 0
  Leads j = (c : ℕ) × (c < choices) × (s : ℕ) × (s < observations) × (A.move k c s ≡ j)

  pub all_moves_iff : (j : A.K) → (j ∈ all_moves A same choices observations k) ↔ Leads j
  all_moves_iff j =
      let law = in_tabulate (choices * observations) (λ q. A.move k (q % choices) (q / choices)) j in (
        λ m.
            let (q, b, e) = law.0 m in
            let (s, c) = row_at choices observations q (subst (λ n. q < n) (mul_comm choices observations) b) in
            (q % choices, c, q / choices, s, e),
        λ l.
            let (c, cb, s, sb, e) = l in
            law.1 (
              s * choices + c,
              subst (λ n. s * choices + c < n) (mul_comm observations choices) (digits_lt sb cb),
              ap₂ (A.move k) (digits_mod s cb) (digits_div s cb) ∙ e,
            ),
      )

  -- the moves are those of a position that is not final
  pub moves_iff : (j : A.K) → (j ∈ moves A same choices observations k) ↔ ((A.final k ≡ false) × Leads j)
  moves_iff j = (
    λ m.
        elim (test (A.final k)) [
          | inl t ↦ absurd (Memᴰ.not-nil (rw (t, moves) at m))
          | inr f ↦ (f, (all_moves_iff j).0 (rw (f, moves) at m))
        ],
    λ l. rw (l.0, moves) ((all_moves_iff j).1 l.1),
  )

  pub moves_cover : A.final k ≡ false → (c s : ℕ) → c < choices → s < observations → A.move k c s ∈ moves A same choices observations k
  moves_cover f c s cb sb = (moves_iff (A.move k c s)).1 (f, (c, cb, s, sb, refl))

-- for a list of positions that has the start and is closed under moves
module _ (o : Order) (G : Game) (some_observation : 0 < G.observations) (some_hidden : 0 < G.hiddens) (few_choices : G.choices < stop_cell)
    (few_observations : G.observations ≤ side_limit)
    (A : Arena) (knows : Knows G A) (same : A.K → A.K → Bool) (says : (a b : A.K) → Says (same a b) (a ≡ b))
    (all : List A.K) (closed_all : Closed (ordered o G) A some_observation all) (start_in : A.start ∈ all) (n : ℕ) (fits : length all ≡ n) (limit : ℕ)
    (within : n ≤ limit) where
  abbrev small : length all ≤ n
  small = omega (arith, fits)

  abbrev r : ℕ
  r = start_rank o A same G.choices G.observations n

  abbrev cells : List ℕ
  cells = table_cells o A same G.choices G.observations n

  abbrev row_count : ℕ
  row_count = length (rows o A same G.choices G.observations n)

  answer_optimal : r < n → Right limit o G (Verdict.solved row_count r cells)
  answer_optimal ranked =
      let start_rank_lem : HasRank (ordered o G) A A.start r = (
        first_passes (λ q. In (ordered o G) A q A.start) n ranked,
        first_least (λ q. In (ordered o G) A q A.start) n,
      ) in
      let (ks, e) = rows_listed (ordered o G) A same says some_observation all closed_all start_in n small (best_answer o A G.choices G.observations n)
      (descends o A G.choices G.observations n) r ranked start_rank_lem in
      let few = rank_lt_rows (ordered o G) A same says some_observation all closed_all start_in n small (best_answer o A G.choices G.observations n)
      (descends o A G.choices G.observations n) r ranked start_rank_lem ks e in
      let ranked_rows = rows_ranked (ordered o G) A same says some_observation all closed_all start_in n small (best_answer o A G.choices G.observations n)
      (descends o A G.choices G.observations n) r ranked start_rank_lem ks e in
      let fewer = rows_le (ordered o G) A same says some_observation all closed_all start_in n small (best_answer o A G.choices G.observations n)
      (descends o A G.choices G.observations n) r ranked start_rank_lem ks e in
      record {
        optimal =
            optimal_alike G (table_strategy o cells) (best o A G.choices G.observations n A.start)
            (table_is_best o A same says G.choices G.observations n some_observation few_choices few_observations ks e)
            r (best_optimal G o some_observation some_hidden A knows n r ranked start_rank_lem);
        below = subst (λ l. r < length (list_of l)) (sym e) few;
        first =
            subst (λ l. rank_cell o (flat_map (row_of o A same G.choices G.observations n (list_of l)) (list_of l)) 0 ≡ r) (sym e)
            (first_rank_lem o A same says G.choices G.observations n some_observation few_choices few_observations ks e);
        within = subst (λ l. length (list_of l) ≤ limit) (sym e) (omega (arith, fewer));
        laid =
            subst (λ l. Laid o G.choices G.observations (length (list_of l))
            (flat_map (row_of o A same G.choices G.observations n (list_of l)) (list_of l))) (sym e)
            (table_laid o A same says G.choices G.observations n some_observation few_choices few_observations ks e
            (λ k m. let (_, q, b, a) = ranked_rows k m in (q, omega (arith, few), a)) (omega (arith, fewer)));
      }

  pub verdict_right : Right limit o G (verdict_of o A same G.choices G.observations n)
  verdict_right = at (ltb r n) refl
    where
      at : (b : Bool) → ltb r n ≡ b
          → Right limit o G (cond b (Verdict.solved row_count r cells) Verdict.unrealizable)
      at true e = answer_optimal (ltb-true r n e)
      at false e = no_rank_unrealizable G o some_observation some_hidden A knows all closed_all start_in n small
          (none (verdict G o some_observation some_hidden A knows all closed_all start_in n small))
        where
          none : (r < length all) ⊎ (r ≡ n) → r ≡ n
          none (inl l) = absurd (omega (arith, ltb-false r n e))
          none (inr q) = q

-- ---- positions that are counted

module _ (A : Arena) (same : A.K → A.K → Bool) (says : (a b : A.K) → Says (same a b) (a ≡ b)) (choices observations limit : ℕ)
    (all : List A.K) (counted : positions A same choices observations limit ≡ closed all) where
  abbrev exact : (x : A.K) → (x ∈ all) ↔ Reached (moves A same choices observations) A.start x
  exact = (closed_lists same says (moves A same choices observations) A.start limit all counted).0.exact

  pub start_counted : A.start ∈ all
  start_counted = (exact A.start).1 reached_first

  pub move_counted : (k : A.K) → k ∈ all → A.final k ≡ false → (c : ℕ) → c < choices → (s : ℕ) → s < observations → A.move k c s ∈ all
  move_counted k m f c cb s sb = (exact (A.move k c s)).1 (reached_step ((exact k).0 m) (moves_cover A same choices observations k f c s cb sb))

-- what is answered is right
pub answer_right : (o : Order) (G : Game) (A : Arena) (same : A.K → A.K → Bool) (says : (a b : A.K) → Says (same a b) (a ≡ b)) (limit : ℕ)
    (all : List A.K) → positions A same G.choices G.observations limit ≡ closed all → Knows G A
    → 0 < G.observations → 0 < G.hiddens → G.choices < stop_cell → G.observations ≤ side_limit
    → Right limit o G (verdict_of o A same G.choices G.observations (length all))
answer_right o G A same says limit all counted knows some_observation some_hidden few_choices few_observations =
    verdict_right o G some_observation some_hidden few_choices few_observations A knows same says all
    (move_counted A same says G.choices G.observations limit all counted)
    (start_counted A same says G.choices G.observations limit all counted) (length all) refl limit
    (closed_lists same says (moves A same G.choices G.observations) A.start limit all counted).1

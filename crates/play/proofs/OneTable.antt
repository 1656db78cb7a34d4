-- There is only one table as the reference lays it down (`IsTable`).
-- Assumes nothing.
use Prim.Native.Nat.{ℕ, zero, suc, ◌*◌, ◌-◌, ◌≤◌, ◌<◌}
use native.Mathlib.Nat.{le_refl}
use native.Mathlib.Decide.{dec_le}
use native.Mathlib.Omega.{arith}
use mathlib.Core.Path.{◌≡◌, sym, ap, ap₂, ◌∙◌, subst}
use mathlib.Core.Logic.{◌⊎◌, inl, inr}
use mathlib.Core.List.{List, []}
use Rattle.basics.specs.declared.order.Order.{Order}
use Rattle.basics.specs.declared.order.Order.TheVariants.{Set, Read}
use Rattle.play.specs.Limits.{side_limit}
use Rattle.play.specs.Cells.{row_size, first_cell, choice_cell, next_cell, rank_cell, Blank}
use Rattle.play.specs.History.{History, Possible, onward}
use Rattle.play.specs.IsTable.{Before, MetFrom, IsTable}
use Rattle.play.proofs.HistoryLaws.{possible_onward}
use Rattle.play.proofs.CellsLaws.{first_same, blank_next, same_cells}
use Rattle.play.proofs.OneChoice.{Congruence, takes_choice, one_choice, one_rank}

-- one pair of a row and an observation comes before the other, or they are equal
either_before : (k u i s : ℕ) → Before k u i s ⊎ (Before i s k u ⊎ ((k ≡ i) × (u ≡ s)))
either_before k u i s =
    elim (dec_le i k) [
      | no a ↦ inl (inl (omega arith))
      | yes a ↦
          elim (dec_le k i) [
            | no b ↦ inr (inl (inl (omega arith)))
            | yes b ↦
                elim (dec_le s u) [
                  | no c ↦ inl (inr (omega arith, omega arith))
                  | yes c ↦
                      elim (dec_le u s) [
                        | no d ↦ inr (inl (inr (omega arith, omega arith)))
                        | yes d ↦ inr (inr (omega arith, omega arith))
                      ]
                ]
          ]
    ]

-- ---- cells that follow from others, of two tables

blank_choice : (o : Order) (t u : List ℕ) (i s : ℕ) → first_cell o t i ≡ first_cell o u i → Blank o t i s → Blank o u i s
    → choice_cell o t i s ≡ choice_cell o u i s
blank_choice Set t u i s first b c = first
blank_choice Read t u i s first b c = b.0 ∙ sym c.0

module _ (o : Order) (choices observations : ℕ) (Same : History → History → Type 0) (Final : History → Type 0)
    (C : Congruence choices observations Same Final) where
  abbrev Can : History → Type 0
  Can h = Possible choices observations h

  abbrev can_onward : (h : History) (c s : ℕ) → Can h → c < choices → s < observations → Can (onward h c s)
  can_onward = possible_onward choices observations

  -- ---- one table

  abbrev Table : ℕ → List ℕ → Type 0
  Table n t = IsTable o choices observations Same Final n t

  module _ {n : ℕ} {t : List ℕ} (T : Table n t) where
    row_choice : (i : ℕ) → i < n → (¬ Final (T.history i)) → (s : ℕ) → s < observations → choice_cell o t i s < choices
    row_choice i b f = takes_choice o choices observations Final (T.history i) (choice_cell o t i) (T.goes i b f).choice

    -- the history of row i, and one step more by its choice
    abbrev next : ℕ → ℕ → History
    next i s = onward (T.history i) (choice_cell o t i s) s

    -- the histories of rows can occur
    rows_below : (m i : ℕ) → i < m → i < n → Can (T.history i)
    rows_below zero i h b = absurd (omega arith)
    rows_below (suc m) zero h b = subst Can (sym T.start.1) tt
    rows_below (suc m) (suc i) h b =
        let (k, s, f) = T.met (suc i) (omega arith) b in
        let kb : k < n = omega (arith, f.earlier) in
        subst Can (sym f.followed)
        (can_onward (T.history k) (choice_cell o t k s) s (rows_below m k (omega (arith, f.earlier)) kb)
        (row_choice k kb f.unstopped s f.observed) f.observed)

    row_possible : (i : ℕ) → i < n → Can (T.history i)
    row_possible i b = rows_below (suc i) i (le_refl (suc i)) b

    next_possible : (i s : ℕ) → i < n → (¬ Final (T.history i)) → s < observations → Can (next i s)
    next_possible i s b f sb = can_onward (T.history i) (choice_cell o t i s) s (row_possible i b) (row_choice i b f s sb) sb

    -- the pair by which a row is first met leads to it
    met_next : (j i s : ℕ) → j < n → MetFrom o choices observations Same Final t T.history j i s → next_cell o t i s ≡ j
    met_next j i s b f =
        let (nb, e) = (T.goes i (omega (arith, f.earlier)) f.unstopped).next s f.observed in
        T.one_row (next_cell o t i s) j nb b (subst (Same (T.history (next_cell o t i s))) (sym f.followed) e)

  -- ---- two tables

  module _ {n m : ℕ} {t u : List ℕ} (T : Table n t) (U : Table m u) where
    -- row i is in both, and of the same belief
    record Shared (i : ℕ) : Type 0 where
      left : i < n
      right : i < m
      same : Same (T.history i) (U.history i)

  module _ {n m : ℕ} {t u : List ℕ} (T : Table n t) (U : Table m u) where
    shared_sym : (i : ℕ) → Shared T U i → Shared U T i
    shared_sym i a =
        record {
          left = a.right;
          right = a.left;
          same = C.symmetric (T.history i) (U.history i) (row_possible T i a.left) (row_possible U i a.right) a.same;
        }

    module _ (i : ℕ) (a : Shared T U i) (f : ¬ Final (T.history i)) where
      also_unstopped : ¬ Final (U.history i)
      also_unstopped g =
          f (C.finals (U.history i) (T.history i) (row_possible U i a.right) (row_possible T i a.left) (shared_sym i a).same g)

      same_choice : (s : ℕ) → s < observations → choice_cell o t i s ≡ choice_cell o u i s
      same_choice =
          one_choice o choices observations Same Final C (T.history i) (U.history i)
          (row_possible T i a.left) (row_possible U i a.right) a.same
          (choice_cell o t i) (choice_cell o u i) (T.goes i a.left f).choice (U.goes i a.right also_unstopped).choice

      same_step : (s : ℕ) → s < observations → Same (next T i s) (next U i s)
      same_step s sb =
          subst (λ (c : ℕ). Same (next T i s) (onward (U.history i) c s)) (same_choice s sb)
          (C.steps (T.history i) (U.history i) (row_possible T i a.left) (row_possible U i a.right) a.same
          (choice_cell o t i s) s (row_choice T i a.left f s sb) sb)

      -- an observation that leads to a shared row leads to it in both
      same_next : (s : ℕ) → s < observations → Shared T U (next_cell o t i s) → next_cell o u i s ≡ next_cell o t i s
      same_next s sb b =
          let j = next_cell o t i s in
          let j' = next_cell o u i s in
          let (jb, p) = (T.goes i a.left f).next s sb in
          let (jb', p') = (U.goes i a.right also_unstopped).next s sb in
          let x_can = next_possible T i s a.left f sb in
          let y_can = next_possible U i s a.right also_unstopped sb in
          let j_can = row_possible T j jb in
          let j'-can = row_possible U j' jb' in
          let k_can = row_possible U j b.right in
          let yx : Same (next U i s) (next T i s) = C.symmetric (next T i s) (next U i s) x_can y_can (same_step s sb) in
          let xj : Same (next T i s) (T.history j) = C.symmetric (T.history j) (next T i s) j_can x_can p in
          let yj : Same (next U i s) (T.history j) = C.transitive (next U i s) (next T i s) (T.history j) y_can x_can j_can yx xj in
          let yk : Same (next U i s) (U.history j) = C.transitive (next U i s) (T.history j) (U.history j) y_can j_can k_can yj b.same in
          U.one_row j' j jb' b.right (C.transitive (U.history j') (next U i s) (U.history j) j'-can y_can k_can p' yk)

  module _ {n m : ℕ} {t u : List ℕ} (T : Table n t) (U : Table m u) (k : ℕ) (a : (i : ℕ) → i < k → Shared T U i) where
    -- what leads to row k in one table leads to no row before it in the other
    not_before : k < m → (i s : ℕ) → MetFrom o choices observations Same Final u U.history k i s → next_cell o t i s < k → ⊥
    not_before b i s f l =
        let shared = a i f.earlier in
        let same = same_next T U i shared (also_unstopped U T i (shared_sym T U i shared) f.unstopped) s f.observed (a (next_cell o t i s) l) in
        omega (arith, met_next U k i s b f)

  module _ {n m : ℕ} {t u : List ℕ} (T : Table n t) (U : Table m u) where
    -- from the rows before k to row k
    module _ (k : ℕ) (a : (i : ℕ) → i < k → Shared T U i) where
      abbrev back : (i : ℕ) → i < k → Shared U T i
      back i l = shared_sym T U i (a i l)

      also_row : 0 < k → k < n → k < m
      also_row pos b =
          let (i, s, f) = T.met k pos b in
          let shared = a i f.earlier in
          let (jb, p) = (U.goes i shared.right (also_unstopped T U i shared f.unstopped)).next s f.observed in
          elim (dec_le k (next_cell o u i s)) [ yes l ↦ omega arith | no l ↦ absurd (not_before U T k back b i s f (omega arith)) ]

      shared_next : 0 < k → k < n → Shared T U k
      shared_next pos b =
          let c = also_row pos b in
          let (i, s, f) = T.met k pos b in
          let (i', s', f') = U.met k pos c in
          elim (either_before i s i' s') [
            | inl l ↦ absurd (not_before U T k back b i s f (f'.first i s f.observed l))
            | inr (inl l) ↦ absurd (not_before T U k a c i' s' f' (f.first i' s' f'.observed l))
            | inr (inr (e, q)) ↦
                let now : next U i s ≡ U.history k = ap₂ (λ x y. next U x y) e q ∙ sym f'.followed in
                record {
                  left = b;
                  right = c;
                  same = subst (λ (h : History). Same h (U.history k)) (sym f.followed)
                      (subst (Same (next T i s)) now (same_step T U i (a i f.earlier) f.unstopped s f.observed));
                }
          ]

    shared_at : (k : ℕ) → k < n → ((i : ℕ) → i < k → Shared T U i) → Shared T U k
    shared_at zero b a =
        record {
          left = T.start.0;
          right = U.start.0;
          same = subst (λ (h : History). Same h (U.history 0)) (sym T.start.1) (subst (Same []) (sym U.start.1) (C.reflexive [] tt));
        }
    shared_at (suc k) b a = shared_next (suc k) a (omega arith) b

    shared_rows : (k : ℕ) → k ≤ n → (i : ℕ) → i < k → Shared T U i
    shared_rows zero h i b = absurd (omega arith)
    shared_rows (suc k) h i b =
        let before = shared_rows k (omega arith) in
        elim (dec_le (suc i) k) [
          | yes l ↦ before i l
          | no l ↦ let e : k ≡ i = omega arith in subst (Shared T U) e (shared_at k (omega arith) before)
        ]

    rows_le : n ≤ m
    rows_le = let last = shared_rows n (le_refl n) (n - 1) (omega (arith, T.start.0)) in omega (arith, last.right)

    -- the cells of row i
    module _ (some_observation : 0 < observations) (i : ℕ) (b : i < n) where
      abbrev shared : Shared T U i
      shared = shared_rows n (le_refl n) i b

      abbrev also_final : Final (T.history i) → Final (U.history i)
      also_final = C.finals (T.history i) (U.history i) (row_possible T i b) (row_possible U i shared.right) shared.same

      same_first : first_cell o t i ≡ first_cell o u i
      same_first =
          elim (C.decided (T.history i) (row_possible T i b)) [
            | inl g ↦ (T.stops i b g).stop ∙ sym (U.stops i shared.right (also_final g)).stop
            | inr f ↦
                (T.goes i b f).first
                ∙ first_same o (choice_cell o t i) (choice_cell o u i) (same_choice T U i shared f 0 some_observation)
                ∙ sym (U.goes i shared.right (also_unstopped T U i shared f)).first
          ]

      -- an observation is used in both or in none
      blank_or_used : (s : ℕ) → s < side_limit → (Blank o t i s × Blank o u i s) ⊎ ((¬ Final (T.history i)) × (s < observations))
      blank_or_used s l =
          elim (C.decided (T.history i) (row_possible T i b)) [
            | inl g ↦ inl ((T.stops i b g).unused s l, (U.stops i shared.right (also_final g)).unused s l)
            | inr f ↦
                elim (dec_le observations s) [
                  | yes m ↦ inl ((T.goes i b f).unused s m l, (U.goes i shared.right (also_unstopped T U i shared f)).unused s m l)
                  | no m ↦ inr (f, omega arith)
                ]
          ]

      same_choice_cell : (s : ℕ) → s < side_limit → choice_cell o t i s ≡ choice_cell o u i s
      same_choice_cell s l =
          elim (blank_or_used s l) [
            | inl (x, y) ↦ blank_choice o t u i s same_first x y
            | inr (f, sb) ↦ same_choice T U i shared f s sb
          ]

      same_next_cell : (s : ℕ) → s < side_limit → next_cell o t i s ≡ next_cell o u i s
      same_next_cell s l =
          elim (blank_or_used s l) [
            | inl (x, y) ↦ blank_next o t i s x ∙ sym (blank_next o u i s y)
            | inr (f, sb) ↦ sym (same_next T U i shared f s sb (shared_rows n (le_refl n) (next_cell o t i s) ((T.goes i b f).next s sb).0))
          ]

      same_rank_cell : rank_cell o t i ≡ rank_cell o u i
      same_rank_cell =
          one_rank o choices observations Same Final C (T.history i) (U.history i) (rank_cell o t i) (rank_cell o u i)
          (row_possible T i b) (row_possible U i shared.right) shared.same (T.rank i b) (U.rank i shared.right)

  -- there is only one table
  pub one_table : 0 < observations → (n m : ℕ) (t u : List ℕ) → Table n t → Table m u → (n ≡ m) × (t ≡ u)
  one_table some n m t u T U =
      let less = rows_le T U in
      let more = rows_le U T in
      let e : n ≡ m = omega arith in (
        e,
        same_cells o n t u T.long (U.long ∙ ap (λ (k : ℕ). k * row_size o) (sym e))
            (same_first T U some) (same_choice_cell T U some) (same_next_cell T U some) (same_rank_cell T U some),
      )

-- The table that is computed is the one that the reference lays down (`IsTable`), and the only one.
-- Assumes nothing.
use Prim.Native.Nat.{ℕ, zero, suc, ◌≤◌, ◌<◌}
use native.Mathlib.Nat.{le_refl}
use native.Mathlib.Omega.{arith}
use mathlib.Core.Path.{◌≡◌, refl, sym, ap, ap₂, ◌∙◌, subst}
use mathlib.Core.Logic.{inl, inr}
use mathlib.Core.Bool.{Bool, true, false}
use mathlib.Core.List.{List, [], flat_map}
use lib.ListN.{length, get_or}
use borrow.Author.Tests.{eqb-true}
use Rattle.basics.specs.Says.{Says}
use Rattle.basics.specs.Reach.{closed, reachable}
use Rattle.basics.proofs.Booleans.{test, clash}
use Rattle.basics.proofs.BoundedLaws.{first_passes, first_least}
use Rattle.basics.proofs.ListsLaws.{length_tabulate, get_d_tabulate}
use Rattle.basics.proofs.MemberLaws.{get_d_in, distinct_index}
use Rattle.basics.proofs.EqualRows.{length_rows}
use Rattle.basics.proofs.ReachLaws.{closed_lists}
use Rattle.basics.proofs.FirstMet.{FirstMet, Along, values_along, closed_met}
use Rattle.play.specs.Limits.{side_limit}
use Rattle.basics.specs.declared.order.Order.{Order}
use Rattle.basics.specs.declared.order.Order.TheVariants.{Set, Read}
use Rattle.play.specs.Cells.{row_size, stop_cell, first_cell, choice_cell, next_cell, rank_cell}
use Rattle.play.specs.Rank.{Arena, RankOf, best_answer}
use Rattle.play.specs.History.{History, Possible, onward, know}
use Rattle.play.specs.Table.{list_of, followers_by, followers, row_of, rows, table_cells}
use Rattle.play.specs.Answer.{start_rank}
use Rattle.play.specs.IsTable.{RankIs, SmallestBest, Takes, Before, IsTable}
use Rattle.play.proofs.StepOrder.{StepOrder, order_of}
use Rattle.play.proofs.RankLaws.{In, rank_searched}
use Rattle.play.proofs.SmallestChoice.{best_leads}
use Rattle.play.proofs.RankedRows.{reached_all, followers_mem, some_row, first_row}
use Rattle.play.proofs.CellsLaws.{blank_next}
use Rattle.play.proofs.TableLaws.{row_width, rank_cell_lem, stop_row_lem, stop_blank, choice_cell_lem, first_choice, unused_blank, next_row}
use Rattle.play.proofs.HistoryLaws.{possible_onward, know_onward, Tells}
use Rattle.play.proofs.HistoryRanks.{rank_iff, takes_best}
use Rattle.play.proofs.OneChoice.{Congruence, one_rank}
use Rattle.play.proofs.OneTable.{one_table}

-- ---- the steps from a row

module _ (A : Arena) (answer : A.K → ℕ → ℕ) (observations : ℕ) (k d : A.K) (s : ℕ) where
  abbrev Follows : Type 0
  Follows = (A.final k ≡ false) × (s < observations) × (get_or (followers_by A answer observations k) s d ≡ A.move k (answer k s) s)

  entry_follows : s < length (followers_by A answer observations k) → Follows
  entry_follows h =
      elim (test (A.final k)) [
        | inl t ↦ let none : s < 0 = rw (t, followers_by) at h in absurd (omega arith)
        | inr f ↦
            let b : s < observations = subst (λ (n : ℕ). s < n) (length_tabulate observations _) (rw (f, followers_by) at h) in
            (f, b, rw (f, followers_by) (get_d_tabulate observations (λ s. A.move k (answer k s) s) s d b))
      ]

  follows_entry : A.final k ≡ false → s < observations → (s < length (followers_by A answer observations k)) × Follows
  follows_entry f b =
      let h : s < length (followers_by A answer observations k) = rw (f, followers_by, length_tabulate) b in
      (h, entry_follows h)

-- what is taken is known by the choices at the observations that can occur
takes_ext : (o : Order) (choices observations : ℕ) (Final : History → Type 0) (h : History) (f g : ℕ → ℕ) → ((s : ℕ) → s < observations → f s ≡ g s)
    → Takes o choices observations Final h f → Takes o choices observations Final h g
takes_ext Set choices observations Final h f g e t =
    record {
      choice = t.choice;
      taken = λ s sb. sym (e s sb) ∙ t.taken s sb;
      is_choice = t.is_choice;
      rank = t.rank;
      is_rank = t.is_rank;
      leads = t.leads;
      smallest = t.smallest;
    }
takes_ext Read choices observations Final h f g e t = λ s sb. subst (SmallestBest choices observations Final h s) (e s sb) (t s sb)

-- ---- the table

module _ (o : Order) (A : Arena) (same : A.K → A.K → Bool) (says : (a b : A.K) → Says (same a b) (a ≡ b)) (choices observations n : ℕ)
    (some_observation : 0 < observations) (few_choices : choices < stop_cell) (few_observations : observations ≤ side_limit)
    (ks : List A.K) (listed : reachable same (followers o A same choices observations n) A.start n ≡ closed ks)
    (ranked : start_rank o A same choices observations n < n)
    (Same : History → History → Type 0) (Final : History → Type 0) (tells : Tells A choices observations Same Final) where
  abbrev O : StepOrder choices observations
  O = order_of o choices observations

  abbrev Can : History → Type 0
  Can h = Possible choices observations h

  abbrev position : History → A.K
  position h = know A A.start h

  abbrev answer : A.K → ℕ → ℕ
  answer = best_answer o A choices observations n

  abbrev at : ℕ → A.K
  at i = get_or ks i A.start

  abbrev table : List ℕ
  table = flat_map (row_of o A same choices observations n ks) ks

  start_rank_lem : RankOf o A choices observations A.start (start_rank o A same choices observations n)
  start_rank_lem = (first_passes (λ q. In O A q A.start) n ranked, first_least (λ q. In O A q A.start) n)

  -- ---- every row is ranked

  abbrev Ranked : A.K → Type 0
  Ranked k = (q : ℕ) × (q < n) × RankOf o A choices observations k q

  next_ranked : (k : A.K) → Ranked k → A.final k ≡ false → (s : ℕ) → s < observations → Ranked (A.move k (answer k s) s)
  next_ranked k (q, b, a) f s sb =
      let (p, pb, d) = (best_leads o A choices observations n k q b f a s sb).1 in
      (p, omega arith, d)

  row_ranked : (i : ℕ) → i < length ks → Ranked (at i)
  row_ranked i b =
      reached_all Ranked (start_rank o A same choices observations n, ranked, start_rank_lem)
      (λ x y r m. let (f, s, sb, e) = followers_mem A answer observations x y m in subst Ranked e (next_ranked x r f s sb))
      (((closed_lists same says (followers o A same choices observations n) A.start n ks listed).0.exact (at i)).0 (get_d_in ks i A.start b))

  same_index : (i j : ℕ) → i < length ks → j < length ks → at i ≡ at j → i ≡ j
  same_index i j b c e =
      distinct_index (closed_lists same says (followers o A same choices observations n) A.start n ks listed).0.distinct i j A.start b c e

  -- ---- every row is met

  module _ (j i s : ℕ) (pos : 0 < j) (b : j < length ks) (m : FirstMet (followers o A same choices observations n) A.start ks j i s) where
    met_follows : (A.final (at i) ≡ false) × (s < observations) × (A.move (at i) (answer (at i) s) s ≡ at j)
    met_follows =
        let (f, sb, e) = entry_follows A answer observations (at i) A.start s m.step in
        (f, sb, sym e ∙ m.leads)

    met_before : (k u : ℕ) → u < observations → Before k u i s → next_cell o table k u < j
    met_before k u ub sooner =
        let kb : k < length ks = elim sooner [ inl l ↦ omega (arith, m.earlier) | inr (e, l) ↦ omega (arith, m.earlier) ] in
        elim (test (A.final (at k))) [
          | inl t ↦
              let z = blank_next o table k u
              (stop_blank o A same says choices observations n some_observation few_choices few_observations ks listed k kb t u (omega arith)) in
              omega arith
          | inr f ↦
              let (h, (g, c, e)) = follows_entry A answer observations (at k) A.start u f ub in
              let (l, lj, q) = m.before k u h sooner in
              let (nb, p) = next_row o A same says choices observations n some_observation few_choices few_observations ks listed k kb f u ub in
              let z = same_index (next_cell o table k u) l nb (omega arith) (p ∙ sym e ∙ sym q) in
              omega arith
        ]

  -- ---- with the history by which each row is first met

  abbrev further : ℕ → ℕ → History → History
  further i s h = onward h (choice_cell o table i s) s

  module _ (history : ℕ → History) (along : Along (followers o A same choices observations n) A.start [] further ks (length ks) history) where
    abbrev choice : (i : ℕ) → i < length ks → A.final (at i) ≡ false → (s : ℕ) → s < observations → choice_cell o table i s ≡ answer (at i) s
    choice = choice_cell_lem o A same says choices observations n some_observation few_choices few_observations ks listed

    chosen : (i : ℕ) → i < length ks → A.final (at i) ≡ false → (s : ℕ) → s < observations → choice_cell o table i s < choices
    chosen i b f s sb =
        let (q, qb, a) = row_ranked i b in
        subst (λ (c : ℕ). c < choices) (sym (choice i b f s sb)) (best_leads o A choices observations n (at i) q qb f a s sb).0

    -- the history of a row can occur, and leads to its position
    row_below : (m j : ℕ) → j < m → j < length ks → Can (history j) × (position (history j) ≡ at j)
    row_below zero j h b = absurd (omega arith)
    row_below (suc m) zero h b =
        subst (λ (x : History). Can x × (position x ≡ at 0)) (sym along.0)
        (tt, sym (first_row A same says answer observations n ks listed))
    row_below (suc m) (suc j) h b =
        let (i, s, met, q) = along.1 (suc j) (omega arith) b in
        let (f, sb, e) = met_follows (suc j) i s (omega arith) b met in
        let ib : i < length ks = omega (arith, met.earlier) in
        let (p, r) = row_below m i (omega (arith, met.earlier)) ib in
        subst (λ (x : History). Can x × (position x ≡ at (suc j))) (sym q) (
          possible_onward choices observations (history i) (choice_cell o table i s) s p (chosen i ib f s sb) sb,
          know_onward A A.start (history i) (choice_cell o table i s) s ∙ ap₂ (λ k c. A.move k c s) r (choice i ib f s sb) ∙ e,
        )

    can : (j : ℕ) → j < length ks → Can (history j)
    can j b = (row_below (suc j) j (le_refl _) b).0

    leads : (j : ℕ) → j < length ks → position (history j) ≡ at j
    leads j b = (row_below (suc j) j (le_refl _) b).1

    final_row : (i : ℕ) → i < length ks → Final (history i) → A.final (at i) ≡ true
    final_row i b g = ap A.final (sym (leads i b)) ∙ (tells.finals (history i) (can i b)).0 g

    other_row : (i : ℕ) → i < length ks → (¬ Final (history i)) → A.final (at i) ≡ false
    other_row i b g =
        elim (test (A.final (at i))) [ inl t ↦ absurd (g ((tells.finals (history i) (can i b)).1 (ap A.final (leads i b) ∙ t))) | inr f ↦ f ]

    laid : IsTable o choices observations Same Final (length ks) table
    laid =
        record {
          long = length_rows (row_size o) (row_of o A same choices observations n ks) (row_width o A same choices observations n ks) ks;
          history = history;
          start = (some_row A same says answer observations n ks listed, along.0);
          one_row = λ i j b c e.
              same_index i j b c (sym (leads i b) ∙ (tells.sames (history i) (history j) (can i b) (can j c)).0 e ∙ leads j c);
          met = λ j pos b.
              let (i, s, m, q) = along.1 j pos b in
              let (f, sb, e) = met_follows j i s pos b m in
              let ib : i < length ks = omega (arith, m.earlier) in (
                i,
                s,
                record {
                  earlier = m.earlier;
                  unstopped = λ g. clash (final_row i ib g) f;
                  observed = sb;
                  followed = q;
                  first = met_before j i s pos b m;
                },
              );
          stops = λ i b g.
              let t = final_row i b g in
              record {
                stop = eqb-true (first_cell o table i) stop_cell
                    (stop_row_lem o A same says choices observations n some_observation few_choices few_observations ks listed i b t);
                unused = stop_blank o A same says choices observations n some_observation few_choices few_observations ks listed i b t;
              };
          goes = λ i b g.
              let f = other_row i b g in
              let (q, qb, a) = row_ranked i b in
              let k : position (history i) ≡ at i = leads i b in
              record {
                first = first_choice o A same says choices observations n some_observation few_choices few_observations ks listed i b f;
                choice =
                    takes_ext o choices observations Final (history i) (answer (at i)) (choice_cell o table i) (λ s sb. sym (choice i b f s sb))
                    (subst (λ (x : A.K). Takes o choices observations Final (history i) (answer x)) k
                    (takes_best o A choices observations some_observation Final tells.finals n (history i) (can i b) q qb (ap A.final k ∙ f)
                    (subst (λ (x : A.K). RankOf o A choices observations x q) (sym k) a)));
                next = λ s sb.
                    let (jb, e) = next_row o A same says choices observations n some_observation few_choices few_observations ks listed i b f s sb in
                    let j = next_cell o table i s in (
                      jb,
                      (tells.sames (history j) (onward (history i) (choice_cell o table i s) s) (can j jb)
                          (possible_onward choices observations (history i) (choice_cell o table i s) s (can i b) (chosen i b f s sb) sb)).1
                          (leads j jb ∙ e ∙ sym (know_onward A A.start (history i) (choice_cell o table i s) s
                          ∙ ap₂ (λ k c. A.move k c s) k (choice i b f s sb))),
                    );
                unused = unused_blank o A same says choices observations n some_observation few_choices few_observations ks listed i b f;
              };
          rank = λ i b.
              let (q, qb, a) = row_ranked i b in
              let e = rank_cell_lem o A same says choices observations n some_observation few_choices few_observations ks listed i b
              ∙ rank_searched O A n q (at i) qb a in
              (rank_iff o A choices observations some_observation Final tells.finals (history i) (can i b) (rank_cell o table i)).1
              (subst (λ (x : A.K). RankOf o A choices observations x (rank_cell o table i)) (sym (leads i b))
              (subst (RankOf o A choices observations (at i)) (sym e) a));
        }

  -- the table that is computed is the one that the reference lays down
  pub table_is : IsTable o choices observations Same Final (length (rows o A same choices observations n)) (table_cells o A same choices observations n)
  table_is =
      let steps : A.K → List A.K = followers o A same choices observations n in
      let (history, along) = values_along steps A.start [] further ks (closed_met steps A.start same says n ks listed) (length ks) (le_refl _) in
      subst (λ l. IsTable o choices observations Same Final (length (list_of l)) (flat_map (row_of o A same choices observations n (list_of l)) (list_of l)))
      (sym listed) (laid history along)

  -- its worst case is the rank of the start
  pub start_rank_is : RankIs o choices observations Final [] (start_rank o A same choices observations n)
  start_rank_is = (rank_iff o A choices observations some_observation Final tells.finals [] tt (start_rank o A same choices observations n)).1 start_rank_lem

  -- beliefs that positions tell apart meet what is asked of them
  congruence : Congruence choices observations Same Final
  congruence =
      record {
        reflexive = λ h p. (tells.sames h h p p).1 refl;
        symmetric = λ h k p q e. (tells.sames k h q p).1 (sym ((tells.sames h k p q).0 e));
        transitive = λ h k l p q r e d. (tells.sames h l p r).1 ((tells.sames h k p q).0 e ∙ (tells.sames k l q r).0 d);
        steps = λ h k p q e c s cb sb.
            (tells.sames (onward h c s) (onward k c s) (possible_onward choices observations h c s p cb sb)
            (possible_onward choices observations k c s q cb sb)).1
            (know_onward A A.start h c s ∙ ap (λ x. A.move x c s) ((tells.sames h k p q).0 e) ∙ sym (know_onward A A.start k c s));
        finals = λ h k p q e f. (tells.finals k q).1 (ap A.final (sym ((tells.sames h k p q).0 e)) ∙ (tells.finals h p).0 f);
        decided = λ h p.
            elim (test (A.final (position h))) [ inl t ↦ inl ((tells.finals h p).1 t) | inr f ↦ inr (λ g. clash ((tells.finals h p).0 g) f) ];
      }

  -- and there is no other
  pub only_table : (m : ℕ) (cells : List ℕ) → IsTable o choices observations Same Final m cells
      → (m ≡ length (rows o A same choices observations n)) × (cells ≡ table_cells o A same choices observations n)
  only_table m cells T =
      one_table o choices observations Same Final congruence some_observation m
      (length (rows o A same choices observations n)) cells (table_cells o A same choices observations n)
      T table_is

  pub only_rank : (r : ℕ) → RankIs o choices observations Final [] r → r ≡ start_rank o A same choices observations n
  only_rank r a =
      one_rank o choices observations Same Final congruence [] [] r
      (start_rank o A same choices observations n) tt tt ((tells.sames [] [] tt tt).1 refl) a start_rank_is

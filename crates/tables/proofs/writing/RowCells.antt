-- The cells of a row, written observation by observation over zeros.
-- Assumes nothing.
use Prim.Native.Nat.{ℕ, zero, suc, ◌+◌, ◌*◌, ◌/◌, ◌%◌, ◌<◌}
use native.Mathlib.Nat.{div-add-mod', mod-lt}
use native.Mathlib.Decide.{dec_lt}
use native.Mathlib.Omega.{arith}
use mathlib.Core.Path.{◌≡◌, refl, sym, ap, ap₂, ◌∙◌}
use mathlib.Core.Logic.{inl, inr}
use mathlib.Core.Bool.{Bool, cond}
use mathlib.Core.List.{List, ◌∷◌}
use lib.Arith.{digits_div, digits_mod}
use lib.Dec.{eqb, ltb}
use lib.ListN.{set, replicate}
use borrow.Author.Tests.{lt-ltb, le-ltb, eq-eqb, ne_eqb, eqb-true, eqb-false}
use Rattle.basics.specs.Lists.{tabulate}
use Rattle.basics.specs.declared.order.Order.{Order}
use Rattle.basics.specs.declared.order.Order.TheVariants.{Set, Read}
use Rattle.basics.proofs.Booleans.{test}
use Rattle.basics.proofs.ListsLaws.{tabulate_ext}
use Rattle.play.specs.Limits.{side_limit}
use Rattle.play.specs.Cells.{choice_at, next_at, rank_at, row_size, first_of, stop_row, choice_row, pair_cell, with_rank}
use Rattle.tables.specs.PositionMemory.{with_pair}

-- ---- the first cell

pub first_at : (o : Order) → 0 * row_size o ≡ 0
first_at o = omega arith

-- ---- the last cell

-- written over what is there
pub rank_put : (o : Order) (cells row : List ℕ) (r : ℕ) → cells ≡ row → set cells (0 * row_size o + rank_at o) r ≡ with_rank o r row
unfolding with_rank
rank_put o cells row r e =
    let at : 0 * row_size o + rank_at o ≡ rank_at o = omega arith in
    ap₂ (λ l i. set l i r) e at

-- where the table stops it is 0 as it is
pub stop_ranked : (o : Order) → with_rank o 0 (stop_row o) ≡ stop_row o
unfolding with_rank stop_row
stop_ranked Set = refl
stop_ranked Read = refl

-- ---- the cells of the observations

-- a table with one entry stored
set_table : (n i v : ℕ) (f g : ℕ → ℕ) → g i ≡ v → ((j : ℕ) → (j ≡ i → ⊥) → f j ≡ g j) → set (tabulate n f) i v ≡ tabulate n g
set_table zero i v f g here other = refl
set_table (suc n) zero v f g here other =
    ap₂ (λ x l. x ∷ l) (sym here) (tabulate_ext n (λ j. f (suc j)) (λ j. g (suc j)) (λ j h. other (suc j) (λ e. omega arith)))
set_table (suc n) (suc i) v f g here other =
    ap₂ (λ x l. x ∷ l) (other 0 (λ e. omega arith))
    (set_table n i v (λ j. f (suc j)) (λ j. g (suc j)) here (λ j ne. other (suc j) (λ e. ne (omega arith))))

-- a number other than s is below s as it is below s + 1
below_next : (t s : ℕ) → (t ≡ s → ⊥) → ltb t s ≡ ltb t (s + 1)
below_next t s ne =
    elim (dec_lt t s) [
      | yes l ↦ lt-ltb t s l ∙ sym (lt-ltb t (s + 1) (omega arith))
      | no l ↦
          elim (dec_lt t (s + 1)) [
            | yes m ↦ absurd (ne (omega arith))
            | no m ↦ le-ltb t s (omega arith) ∙ sym (le-ltb t (s + 1) (omega arith))
          ]
    ]

module _ (answer next : ℕ → ℕ) where
  -- the cells of pairs by their number, those of the observations below s being written
  abbrev entry : ℕ → ℕ → ℕ
  entry s = pair_cell s answer next

  -- with the choice for observation s
  abbrev chosen : ℕ → ℕ → ℕ
  chosen s i = cond (eqb i (s * 2 + 0)) (answer s) (entry s i)

  entry_new : (s m : ℕ) → m < 2 → entry (s + 1) (s * 2 + m) ≡ cond (eqb m 0) (answer s) (next s)
  entry_new s m b =
      ap₂ (λ (q p : ℕ). cond (ltb q (s + 1)) (cond (eqb p 0) (answer q) (next q)) 0) (digits_div s b) (digits_mod s b)
      ∙ rw (lt-ltb s (s + 1) (omega arith))

  entry_old : (s i : ℕ) → (i ≡ s * 2 + 0 → ⊥) → (i ≡ s * 2 + 1 → ⊥) → entry s i ≡ entry (s + 1) i
  entry_old s i even odd =
      let e = div-add-mod' i 2 in
      let b : i % 2 < 2 = mod-lt i (omega arith) in
      let ne : i / 2 ≡ s → ⊥ = λ q. elim (dec_lt (i % 2) 1) [ yes l ↦ even (omega arith) | no l ↦ odd (omega arith) ] in
      ap (λ (t : Bool). cond t (cond (eqb (i % 2) 0) (answer (i / 2)) (next (i / 2))) 0) (below_next (i / 2) s ne)

  chosen_is : (s i : ℕ) → (i ≡ s * 2 + 1 → ⊥) → chosen s i ≡ entry (s + 1) i
  chosen_is s i odd =
      elim (test (eqb i (s * 2 + 0))) [
        | inl t ↦
            ap (λ (b : Bool). cond b (answer s) (entry s i)) t
            ∙ sym (ap (entry (s + 1)) (eqb-true i (s * 2 + 0) t) ∙ entry_new s 0 (omega arith))
        | inr f ↦ ap (λ (b : Bool). cond b (answer s) (entry s i)) f ∙ entry_old s i (eqb-false i (s * 2 + 0) f) odd
      ]

  -- no observation is written yet
  pub row_begin : (o : Order) → set (replicate (row_size o) 0) 0 (first_of o answer) ≡ choice_row o 0 answer next
  unfolding choice_row
  row_begin Set = refl
  row_begin Read = refl

  -- one more
  pub row_more : (o : Order) (s : ℕ) → with_pair o (choice_row o s answer next) s (answer s) (next s) ≡ choice_row o (s + 1) answer next
  unfolding choice_row
  row_more Set s =
      let at : next_at Set s ≡ suc s = omega arith in
      ap (λ i. set (choice_row Set s answer next) i (next s)) at
      ∙ ap (λ l. answer 0 ∷ l)
      (set_table (1 + side_limit) s (next s) (λ t. cond (ltb t s) (next t) 0) (λ t. cond (ltb t (s + 1)) (next t) 0)
      (ap (λ (b : Bool). cond b (next s) 0) (lt-ltb s (s + 1) (omega arith)))
      (λ t ne. ap (λ (b : Bool). cond b (next t) 0) (below_next t s ne)))
  row_more Read s =
      let at : choice_at Read s ≡ suc (s * 2 + 0) = omega arith in
      let at' : next_at Read s ≡ suc (s * 2 + 1) = omega arith in
      ap₂ (λ i j. set (set (choice_row Read s answer next) i (answer s)) j (next s)) at at'
      ∙ ap (λ l. 0 ∷ set l (s * 2 + 1) (next s))
      (set_table (1 + 2 * side_limit) (s * 2 + 0) (answer s) (entry s) (chosen s)
      (ap (λ (b : Bool). cond b (answer s) (entry s (s * 2 + 0))) (eq-eqb (s * 2 + 0) (s * 2 + 0) refl))
      (λ i ne. sym (ap (λ (b : Bool). cond b (answer s) (entry s i)) (ne_eqb i (s * 2 + 0) ne))))
      ∙ ap (λ l. 0 ∷ l)
      (set_table (1 + 2 * side_limit) (s * 2 + 1) (next s) (chosen s) (entry (s + 1)) (entry_new s 1 (omega arith)) (chosen_is s))

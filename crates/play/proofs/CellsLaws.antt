-- The cells of a row: how many there are, and what stands where; tables whose rows say the same.
-- Assumes nothing.
use Prim.Native.Nat.{ℕ, zero, suc, ◌+◌, ◌*◌, ◌/◌, ◌%◌, ◌≤◌, ◌<◌}
use native.Mathlib.Nat.{div-add-mod', mod-lt}
use native.Mathlib.Decide.{dec_le}
use native.Mathlib.Omega.{arith}
use mathlib.Core.Path.{◌≡◌, refl, sym, ap, ap₂, ◌∙◌, subst}
use mathlib.Core.Logic.{◌⊎◌, inl, inr}
use mathlib.Core.Bool.{true, false, cond}
use mathlib.Core.List.{List, ◌∷◌}
use lib.Dec.{eqb, ltb}
use lib.ListN.{length, get_or, take, length-set}
use lib.Seq.{ext_get_or, get_or-take, get_or-set_same, get_or-set_other}
use lib.Arith.{digits_div, digits_mod}
use borrow.Author.Tests.{lt-ltb, le-ltb, ltb-true}
use Rattle.basics.specs.declared.order.Order.{Order}
use Rattle.basics.specs.declared.order.Order.TheVariants.{Set, Read}
use Rattle.basics.proofs.Booleans.{test}
use Rattle.basics.proofs.EqualRows.{row_at}
use Rattle.basics.proofs.ListsLaws.{get_d_tabulate, tabulate_ext, get_d_zeros}
use Rattle.play.specs.Limits.{side_limit}
use Rattle.play.specs.Game.{chosen}
use Rattle.play.specs.Rank.{answer_of}
use Rattle.play.specs.Cells.{choice_at, next_at, rank_at, row_size, stop_cell, first_of, cell, first_cell, is_stop, choice_cell, next_cell, rank_cell}
use Rattle.play.specs.Cells.{Blank, stop_row, pair_cell, choice_row, with_rank}

-- ---- where cells stand: the rank behind all others

pub choice_before : (o : Order) (s : ℕ) → s < side_limit → choice_at o s < rank_at o
choice_before Set s h = omega arith
choice_before Read s h = omega arith

pub next_before : (o : Order) (s : ℕ) → s < side_limit → next_at o s < rank_at o
next_before Set s h = omega arith
next_before Read s h = omega arith

pub first_before : (o : Order) → 0 < rank_at o
first_before Set = omega arith
first_before Read = omega arith

pub rank_last : (o : Order) → row_size o ≡ suc (rank_at o)
rank_last Set = refl
rank_last Read = refl

pub before_inside : (o : Order) (i : ℕ) → i < rank_at o → i < row_size o
before_inside o i h = omega (arith, rank_last o)

pub choice_inside : (o : Order) (s : ℕ) → s < side_limit → choice_at o s < row_size o
choice_inside o s h = before_inside o (choice_at o s) (choice_before o s h)

pub next_inside : (o : Order) (s : ℕ) → s < side_limit → next_at o s < row_size o
next_inside o s h = before_inside o (next_at o s) (next_before o s h)

pub first_inside : (o : Order) → 0 < row_size o
first_inside o = before_inside o 0 (first_before o)

pub rank_inside : (o : Order) → rank_at o < row_size o
rank_inside o = omega (arith, rank_last o)

-- a row's cells lie among those of the rows
pub inside_rows : (o : Order) (n i j : ℕ) → i < n → j < row_size o → i * row_size o + j < n * row_size o
inside_rows Set n i j h b = omega arith
inside_rows Read n i j h b = omega arith

-- their places, as numbers
choice_read : (s : ℕ) → choice_at Read s ≡ suc (s * 2 + 0)
choice_read s = omega arith

next_read : (s : ℕ) → next_at Read s ≡ suc (s * 2 + 1)
next_read s = omega arith

next_set : (s : ℕ) → next_at Set s ≡ suc s
next_set s = omega arith

-- ---- where the table stops

pub stop_length : (o : Order) → length (stop_row o) ≡ row_size o
unfolding stop_row
stop_length Set = refl
stop_length Read = refl

pub stop_first : (o : Order) → get_or (stop_row o) 0 0 ≡ stop_cell
unfolding stop_row
stop_first Set = refl
stop_first Read = refl

-- all other cells are 0
pub stop_rest : (o : Order) (i : ℕ) → get_or (stop_row o) (suc i) 0 ≡ 0
unfolding stop_row
stop_rest Set i = get_d_zeros (1 + side_limit) i
stop_rest Read i = get_d_zeros (1 + 2 * side_limit) i

-- ---- with choices

module _ (observations : ℕ) (answer next : ℕ → ℕ) where
  pub choice_length : (o : Order) → length (choice_row o observations answer next) ≡ row_size o
  unfolding choice_row
  choice_length Set = refl
  choice_length Read = refl

  pub choice_first : (o : Order) → get_or (choice_row o observations answer next) 0 0 ≡ first_of o answer
  unfolding choice_row
  choice_first Set = refl
  choice_first Read = refl

  pair_entry : (s i : ℕ) → s < side_limit → i < 2 → get_or (choice_row Read observations answer next) (suc (s * 2 + i)) 0
      ≡ cond (ltb s observations) (cond (eqb i 0) (answer s) (next s)) 0
  unfolding choice_row
  pair_entry s i h b =
      get_d_tabulate (1 + 2 * side_limit) (pair_cell observations answer next) (s * 2 + i) 0 (omega arith)
      ∙ ap₂ (λ (q m : ℕ). cond (ltb q observations) (cond (eqb m 0) (answer q) (next q)) 0) (digits_div s b) (digits_mod s b)

  -- the choice for an observation
  pub choice_at_lem : (o : Order) (s : ℕ) → s < side_limit → s < observations
      → get_or (choice_row o observations answer next) (choice_at o s) 0 ≡ chosen o (answer_of o answer) s
  choice_at_lem Set s h b = choice_first Set
  choice_at_lem Read s h b =
      ap (λ (i : ℕ). get_or (choice_row Read observations answer next) i 0) (choice_read s)
      ∙ pair_entry s 0 h (omega arith) ∙ rw (lt-ltb s observations b)

  pub next_at_lem : (o : Order) (s : ℕ) → s < side_limit
      → get_or (choice_row o observations answer next) (next_at o s) 0 ≡ cond (ltb s observations) (next s) 0
  unfolding choice_row
  next_at_lem Set s h =
      ap (λ (i : ℕ). get_or (choice_row Set observations answer next) i 0) (next_set s)
      ∙ get_d_tabulate (1 + side_limit) (λ s. cond (ltb s observations) (next s) 0) s 0 (omega arith)
  next_at_lem Read s h = ap (λ (i : ℕ). get_or (choice_row Read observations answer next) i 0) (next_read s) ∙ pair_entry s 1 h (omega arith)

  pub choice_next : (o : Order) (s : ℕ) → s < side_limit → s < observations
      → get_or (choice_row o observations answer next) (next_at o s) 0 ≡ next s
  choice_next o s h b = next_at_lem o s h ∙ rw (lt-ltb s observations b)

  pub next_unused : (o : Order) (s : ℕ) → s < side_limit → observations ≤ s → get_or (choice_row o observations answer next) (next_at o s) 0 ≡ 0
  next_unused o s h b = next_at_lem o s h ∙ rw (le-ltb s observations b)

  pub choice_unused : (s : ℕ) → s < side_limit → observations ≤ s → get_or (choice_row Read observations answer next) (choice_at Read s) 0 ≡ 0
  choice_unused s h b =
      ap (λ (i : ℕ). get_or (choice_row Read observations answer next) i 0) (choice_read s)
      ∙ pair_entry s 0 h (omega arith) ∙ rw (le-ltb s observations b)

-- a row is known by its choices and next rows at the observations that can occur
pub choice_ext : (o : Order) (observations : ℕ) (answer answer' next next' : ℕ → ℕ) → 0 < observations
    → ((s : ℕ) → s < observations → answer s ≡ answer' s) → ((s : ℕ) → s < observations → next s ≡ next' s)
    → choice_row o observations answer next ≡ choice_row o observations answer' next'
unfolding choice_row
choice_ext Set observations answer answer' next next' some a n =
    ap₂ (λ x l. x ∷ l) (a 0 some) (tabulate_ext (1 + side_limit) _ _ (λ s h. at s (test (ltb s observations))))
  where
    at : (s : ℕ) → (ltb s observations ≡ true) ⊎ (ltb s observations ≡ false) → cond (ltb s observations) (next s) 0 ≡ cond (ltb s observations) (next' s) 0
    at s (inl t) = rw t (n s (ltb-true s observations t))
    at s (inr t) = rw t
choice_ext Read observations answer answer' next next' some a n =
    ap (λ l. 0 ∷ l) (tabulate_ext (1 + 2 * side_limit) _ _ (λ i h. at i (test (ltb (i / 2) observations))))
  where
    at : (i : ℕ) → (ltb (i / 2) observations ≡ true) ⊎ (ltb (i / 2) observations ≡ false)
        → pair_cell observations answer next i ≡ pair_cell observations answer' next' i
    at i (inl t) =
        let b = ltb-true (i / 2) observations t in
        rw t (ap₂ (λ (x y : ℕ). cond (eqb (i % 2) 0) x y) (a (i / 2) b) (n (i / 2) b))
    at i (inr t) = rw t

-- ---- with a rank

module _ (o : Order) (r : ℕ) (row : List ℕ) where
  pub rank_length : length (with_rank o r row) ≡ length row
  unfolding with_rank
  rank_length = length-set row (rank_at o) r

  -- the last cell, and the others
  pub rank_there : length row ≡ row_size o → get_or (with_rank o r row) (rank_at o) 0 ≡ r
  unfolding with_rank
  rank_there e = get_or-set_same row (rank_at o) r 0 (subst (λ (n : ℕ). rank_at o < n) (sym e) (rank_inside o))

  pub rank_other : (i : ℕ) → i < rank_at o → get_or (with_rank o r row) i 0 ≡ get_or row i 0
  unfolding with_rank
  rank_other i h = get_or-set_other row (rank_at o) i r 0 (λ e. omega arith)

-- ---- the first n rows of a table

module _ (o : Order) (n : ℕ) (t : List ℕ) (i : ℕ) (h : i < n) where
  pub cell_taken : (j : ℕ) → j < row_size o → cell o (take (n * row_size o) t) i j ≡ cell o t i j
  cell_taken j b = get_or-take (n * row_size o) t (i * row_size o + j) 0 (inside_rows o n i j h b)

  pub first_taken : first_cell o (take (n * row_size o) t) i ≡ first_cell o t i
  first_taken = cell_taken 0 (first_inside o)

  pub choice_taken : (s : ℕ) → s < side_limit → choice_cell o (take (n * row_size o) t) i s ≡ choice_cell o t i s
  choice_taken s b = cell_taken (choice_at o s) (choice_inside o s b)

  pub next_taken : (s : ℕ) → s < side_limit → next_cell o (take (n * row_size o) t) i s ≡ next_cell o t i s
  next_taken s b = cell_taken (next_at o s) (next_inside o s b)

  pub rank_taken : rank_cell o (take (n * row_size o) t) i ≡ rank_cell o t i
  rank_taken = cell_taken (rank_at o) (rank_inside o)

  pub stop_taken : is_stop o (take (n * row_size o) t) i ≡ is_stop o t i
  stop_taken = ap (λ c. eqb c stop_cell) first_taken

-- ---- blank cells

pub blank_next : (o : Order) (t : List ℕ) (i s : ℕ) → Blank o t i s → next_cell o t i s ≡ 0
blank_next Set t i s b = b
blank_next Read t i s b = b.1

pub blank_of : (o : Order) (t : List ℕ) (i s : ℕ) → ((j : ℕ) → suc j < rank_at o → cell o t i (suc j) ≡ 0) → s < side_limit → Blank o t i s
blank_of Set t i s zeros b = subst (λ (p : ℕ). cell Set t i p ≡ 0) (sym (next_set s)) (zeros s (omega arith))
blank_of Read t i s zeros b = (
  subst (λ (p : ℕ). cell Read t i p ≡ 0) (sym (choice_read s)) (zeros (s * 2 + 0) (omega arith)),
  subst (λ (p : ℕ). cell Read t i p ≡ 0) (sym (next_read s)) (zeros (s * 2 + 1) (omega arith)),
)

-- those of a row with choices, behind the observations that can occur
pub blank_in : (o : Order) (observations : ℕ) (answer next : ℕ → ℕ) (t : List ℕ) (i : ℕ)
    → ((j : ℕ) → j < rank_at o → cell o t i j ≡ get_or (choice_row o observations answer next) j 0) → (s : ℕ) → s < side_limit → observations ≤ s → Blank o t i s
blank_in Set observations answer next t i is s h b = is (next_at Set s) (next_before Set s h) ∙ next_unused observations answer next Set s h b
blank_in Read observations answer next t i is s h b = (
  is (choice_at Read s) (choice_before Read s h) ∙ choice_unused observations answer next s h b,
  is (next_at Read s) (next_before Read s h) ∙ next_unused observations answer next Read s h b,
)

-- the first cell goes by the first choice
pub first_same : (o : Order) (f g : ℕ → ℕ) → f 0 ≡ g 0 → first_of o f ≡ first_of o g
first_same Set f g e = e
first_same Read f g e = refl

-- ---- tables of n rows, and no more cells, whose rows say the same

-- a row of pairs, before its rank: the first cell, a choice, or a next row
pair_place : (p : ℕ) → p < rank_at Read → (p ≡ 0) ⊎ ((s : ℕ) × (s < side_limit) × ((p ≡ choice_at Read s) ⊎ (p ≡ next_at Read s)))
pair_place zero h = inl refl
pair_place (suc i) h =
    let e = div-add-mod' i 2 in
    let b : i % 2 < 2 = mod-lt i (omega arith) in
    inr (i / 2, omega arith, parity (i % 2) refl)
  where
    parity : (m : ℕ) → i % 2 ≡ m → (suc i ≡ choice_at Read (i / 2)) ⊎ (suc i ≡ next_at Read (i / 2))
    parity zero q = let e = div-add-mod' i 2 in inl (omega arith)
    parity (suc m) q = let e = div-add-mod' i 2 in let b : i % 2 < 2 = mod-lt i (omega arith) in inr (omega arith)

-- cells of row i that say the same are the same
same_before : (o : Order) (t u : List ℕ) (i : ℕ) → first_cell o t i ≡ first_cell o u i
    → ((s : ℕ) → s < side_limit → choice_cell o t i s ≡ choice_cell o u i s) → ((s : ℕ) → s < side_limit → next_cell o t i s ≡ next_cell o u i s)
    → (p : ℕ) → p < rank_at o → cell o t i p ≡ cell o u i p
same_before Set t u i first choice next zero l = first
same_before Set t u i first choice next (suc s) l =
    subst (λ (p : ℕ). cell Set t i p ≡ cell Set u i p) (next_set s) (next s (omega arith))
same_before Read t u i first choice next p l =
    elim (pair_place p l) [
      | inl z ↦ subst (λ (p : ℕ). cell Read t i p ≡ cell Read u i p) (sym z) first
      | inr (s, b, inl e) ↦ subst (λ (p : ℕ). cell Read t i p ≡ cell Read u i p) (sym e) (choice s b)
      | inr (s, b, inr e) ↦ subst (λ (p : ℕ). cell Read t i p ≡ cell Read u i p) (sym e) (next s b)
    ]

same_row : (o : Order) (t u : List ℕ) (i : ℕ) → first_cell o t i ≡ first_cell o u i
    → ((s : ℕ) → s < side_limit → choice_cell o t i s ≡ choice_cell o u i s) → ((s : ℕ) → s < side_limit → next_cell o t i s ≡ next_cell o u i s)
    → rank_cell o t i ≡ rank_cell o u i → (p : ℕ) → p < row_size o → cell o t i p ≡ cell o u i p
same_row o t u i first choice next rank p l =
    elim (dec_le (suc p) (rank_at o)) [
      | yes b ↦ same_before o t u i first choice next p b
      | no b ↦
          let e : rank_at o ≡ p = omega (arith, rank_last o) in
          subst (λ (p : ℕ). cell o t i p ≡ cell o u i p) e rank
    ]

pub same_cells : (o : Order) (n : ℕ) (t u : List ℕ) → length t ≡ n * row_size o → length u ≡ n * row_size o
    → ((i : ℕ) → i < n → first_cell o t i ≡ first_cell o u i)
    → ((i : ℕ) → i < n → (s : ℕ) → s < side_limit → choice_cell o t i s ≡ choice_cell o u i s)
    → ((i : ℕ) → i < n → (s : ℕ) → s < side_limit → next_cell o t i s ≡ next_cell o u i s)
    → ((i : ℕ) → i < n → rank_cell o t i ≡ rank_cell o u i) → t ≡ u
same_cells o n t u long short first choice next rank =
    ext_get_or 0 t u (long ∙ sym short) (λ y l.
    let (i, p) = row_at (row_size o) n y (subst (λ (k : ℕ). y < k) long l) in
    let q : ℕ = y / row_size o in
    subst (λ (z : ℕ). get_or t z 0 ≡ get_or u z 0) (div-add-mod' y (row_size o))
    (same_row o t u q (first q i) (choice q i) (next q i) (rank q i) (y % row_size o) p))

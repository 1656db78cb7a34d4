-- Which cells of a row are printed behind its rank, and what they can hold: those of the possible observations; the others of a row that
-- goes on are 0.
-- Assumes nothing.
use Prim.Native.Nat.{ℕ, zero, suc, ◌+◌, ◌*◌, ◌%◌, ◌^◌, ◌≤◌, ◌<◌}
use native.Mathlib.Decide.{dec_le}
use native.Mathlib.Omega.{arith}
use mathlib.Core.Path.{◌≡◌, refl, sym, ap, ◌∙◌, subst}
use mathlib.Core.Logic.{◌⊎◌, inl, inr}
use mathlib.Core.List.{List}
use lib.Dec.{eqb}
use lib.Pow.{pow_pos}
use borrow.Author.Tests.{ne_eqb}
use Rattle.basics.specs.Says.{Says}
use Rattle.basics.specs.declared.order.Order.{Order}
use Rattle.basics.specs.declared.order.Order.TheVariants.{Set, Read}
use Rattle.basics.proofs.Booleans.{cond_elim}
use Rattle.basics.proofs.SaysLaws.{says_and, le_says, lt_says}
use Rattle.play.specs.Limits.{belief_limit, side_limit}
use Rattle.play.specs.Cells.{choice_at, next_at, rank_at, stop_cell, cell, first_cell, Blank}
use Rattle.printer.specs.Text.{shown_from, shown_count}
use Rattle.wellformed.specs.WellFormed.{IsFirst, ShapedRow}
use Rattle.tables.specs.declared.shape.Shape.{Shape}
use Rattle.loader.specs.Candidate.{is_shown, limit_at}

-- ---- the printed cells, for n observations

abbrev pub Shown : Order → ℕ → ℕ → Type 0
Shown o n i = (shown_from o ≤ i) × (i < shown_from o + shown_count o n)

pub shown_says : (o : Order) (n i : ℕ) → Says (is_shown o n i) (Shown o n i)
shown_says o n i = says_and (le_says (shown_from o) i) (lt_says i (shown_from o + shown_count o n))

pub choice_shown : (o : Order) (n s : ℕ) → s < n → Shown o n (choice_at o s)
choice_shown Set n s h = (omega arith, omega arith)
choice_shown Read n s h = (omega arith, omega arith)

pub next_shown : (o : Order) (n s : ℕ) → s < n → Shown o n (next_at o s)
next_shown Set n s h = (omega arith, omega arith)
next_shown Read n s h = (omega arith, omega arith)

-- a row of pairs: the first cell, a choice, or a next row
pair_at : (i : ℕ) → (i ≡ 0) ⊎ ((s : ℕ) × ((i ≡ choice_at Read s) ⊎ (i ≡ next_at Read s)))
pair_at zero = inl refl
pair_at (suc i) =
    elim (pair_at i) [
      | inl z ↦ inr (0, inl (omega arith))
      | inr (s, inl e) ↦ inr (s, inr (omega arith))
      | inr (s, inr e) ↦ inr (suc s, inl (omega arith))
    ]

-- a printed cell is the choice or the next row for one of the observations
pub shown_at : (o : Order) (n i : ℕ) → 0 < n → Shown o n i → (s : ℕ) × (s < n) × ((i ≡ choice_at o s) ⊎ (i ≡ next_at o s))
shown_at Set n zero some h = (0, some, inl refl)
shown_at Set n (suc s) some (l, b) = (s, omega arith, inr (omega arith))
shown_at Read n i some (l, b) =
    elim (pair_at i) [
      | inl z ↦ absurd (omega arith)
      | inr (s, inl e) ↦ (s, omega arith, inl e)
      | inr (s, inr e) ↦ (s, omega arith, inr e)
    ]

-- ---- the own cells of an observation

abbrev pub OwnAt : Order → ℕ → ℕ → Type 0
OwnAt Set s i = i ≡ next_at Set s
OwnAt Read s i = (i ≡ choice_at Read s) ⊎ (i ≡ next_at Read s)

pub own_before : (o : Order) (s i : ℕ) → s < side_limit → OwnAt o s i → i < rank_at o
own_before Set s i h e = omega arith
own_before Read s i h (inl e) = omega arith
own_before Read s i h (inr e) = omega arith

pub own_some : (o : Order) (s i : ℕ) → OwnAt o s i → 0 < i
own_some Set s i e = omega arith
own_some Read s i (inl e) = omega arith
own_some Read s i (inr e) = omega arith

pub own_hidden : (o : Order) (n s i : ℕ) → n ≤ s → OwnAt o s i → ¬ Shown o n i
own_hidden Set n s i h e (l, b) = omega arith
own_hidden Read n s i h (inl e) (l, b) = omega arith
own_hidden Read n s i h (inr e) (l, b) = omega arith

-- a cell that is not printed, and not the rank, is the first, or an own cell of another observation
hidden_at : (o : Order) (n i : ℕ) → i < rank_at o → ¬ Shown o n i → (i ≡ 0) ⊎ ((s : ℕ) × (s < side_limit) × (n ≤ s) × OwnAt o s i)
hidden_at Set n zero b h = inl refl
hidden_at Set n (suc s) b h =
    elim (dec_le n s) [
      | yes l ↦ inr (s, omega arith, l, omega arith)
      | no m ↦ absurd (h (omega arith, omega arith))
    ]
hidden_at Read n i b h =
    elim (pair_at i) [
      | inl z ↦ inl z
      | inr (s, e) ↦
          elim (dec_le n s) [
            | yes l ↦ inr (s, below s e, l, e)
            | no m ↦ absurd (h (within s e (omega arith)))
          ]
    ]
  where
    below : (s : ℕ) → OwnAt Read s i → s < side_limit
    below s (inl e) = omega arith
    below s (inr e) = omega arith

    within : (s : ℕ) → OwnAt Read s i → s < n → Shown Read n i
    within s (inl e) l = (omega arith, omega arith)
    within s (inr e) l = (omega arith, omega arith)

module _ (o : Order) (t : List ℕ) (row s : ℕ) where
  pub blank_own : (i : ℕ) → Blank o t row s → OwnAt o s i → cell o t row i ≡ 0
  blank_own i = go o
    where
      go : (o : Order) → Blank o t row s → OwnAt o s i → cell o t row i ≡ 0
      go Set b e = ap (cell Set t row) e ∙ b
      go Read b (inl e) = ap (cell Read t row) e ∙ b.0
      go Read b (inr e) = ap (cell Read t row) e ∙ b.1

  pub blank_by : ((i : ℕ) → OwnAt o s i → cell o t row i ≡ 0) → Blank o t row s
  blank_by = go o
    where
      go : (o : Order) → ((i : ℕ) → OwnAt o s i → cell o t row i ≡ 0) → Blank o t row s
      go Set f = f (next_at Set s) refl
      go Read f = (f (choice_at Read s) (inl refl), f (next_at Read s) (inr refl))

-- ---- what a printed cell is below

pub choice_limit : (o : Order) (rows s : ℕ) → limit_at o rows (choice_at o s) ≡ side_limit
choice_limit Set rows s = refl
choice_limit Read rows s = let e : (1 + 2 * s) % 2 ≡ 1 = omega arith in rw e refl

pub next_limit : (o : Order) (rows s : ℕ) → limit_at o rows (next_at o s) ≡ rows
next_limit Set rows s = rw (ne_eqb (1 + s) 0 (λ e. omega arith)) refl
next_limit Read rows s = let e : (2 + 2 * s) % 2 ≡ 0 = omega arith in rw e refl

limit_cases : (P : ℕ → Type 0) (o : Order) (rows i : ℕ) → P side_limit → P rows → P (limit_at o rows i)
limit_cases P Set rows i a b = cond_elim P (eqb i 0) side_limit rows (λ e. a) (λ e. b)
limit_cases P Read rows i a b = cond_elim P (eqb (i % 2) 1) side_limit rows (λ e. a) (λ e. b)

pub limit_some : (o : Order) (rows i : ℕ) → 0 < rows → 0 < limit_at o rows i
limit_some o rows i h = limit_cases (λ k. 0 < k) o rows i (omega arith) h

pub limit_few : (o : Order) (rows i : ℕ) → rows ≤ belief_limit → limit_at o rows i ≤ belief_limit
limit_few o rows i h = limit_cases (λ k. k ≤ belief_limit) o rows i (omega arith) h

-- ---- the cells of a row before its rank, which is any

first_zero : (o : Order) (n c : ℕ) → ¬ Shown o n 0 → IsFirst o c → ¬ (c ≡ stop_cell) → c ≡ 0
first_zero Set n c h f m = absurd (h (omega arith, omega arith))
first_zero Read n c h (inl l) m = omega arith
first_zero Read n c h (inr e) m = absurd (m e)

module _ (t : List ℕ) (shape : Shape) (row : ℕ) (p : ShapedRow t shape row) where
  abbrev o : Order
  o = shape.order

  abbrev n : ℕ
  n = 2 ^ shape.observed

  -- where it stops, all but the first are 0
  pub stop_zero : first_cell o t row ≡ stop_cell → (i : ℕ) → i < rank_at o → 0 < i → cell o t row i ≡ 0
  stop_zero e i b some =
      elim (hidden_at o 0 i b (none i some)) [
        | inl z ↦ absurd (omega arith)
        | inr (s, h, l, own) ↦ blank_own o t row s i (p.blank s h (inl e)) own
      ]
    where
      none : (i : ℕ) → 0 < i → ¬ Shown shape.order 0 i
      none i = go shape.order
        where
          go : (o : Order) → 0 < i → ¬ Shown o 0 i
          go Set some (l, b) = omega arith
          go Read some (l, b) = omega arith

  module _ (goes : ¬ (first_cell o t row ≡ stop_cell)) (i : ℕ) where
    pub shown_low : Shown o n i → cell o t row i < limit_at o shape.rows i
    shown_low h =
        let (s, b, at) = shown_at o n i (pow_pos shape.observed) h in
        let g = p.formed.goes s (goes, b) in
        elim at [
          | inl e ↦ subst (λ (k : ℕ). cell o t row k < limit_at o shape.rows k) (sym e) (rw (choice_limit o shape.rows s) g.choice)
          | inr e ↦ subst (λ (k : ℕ). cell o t row k < limit_at o shape.rows k) (sym e) (rw (next_limit o shape.rows s) g.next)
        ]

    pub hidden_zero : i < rank_at o → ¬ Shown o n i → cell o t row i ≡ 0
    hidden_zero b h =
        elim (hidden_at o n i b h) [
          | inl z ↦ ap (cell o t row) z ∙ first_zero o n (first_cell o t row) (λ x. h (subst (Shown o n) (sym z) x)) p.formed.first goes
          | inr (s, l, m, own) ↦ blank_own o t row s i (p.blank s l (inr m)) own
        ]

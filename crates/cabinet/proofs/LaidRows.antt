-- A table laid out as the solver lays it is one that the printer prints and the cabinet runs. It may stand at the front of more cells.
-- Assumes nothing.
use Prim.Native.Nat.{ℕ, ◌*◌, ◌^◌, ◌≤◌, ◌<◌}
use native.Mathlib.Omega.{arith}
use mathlib.Core.Path.{◌≡◌, sym, ◌∙◌, subst}
use mathlib.Core.Logic.{◌⊎◌, inl, inr}
use mathlib.Core.List.{List}
use lib.ListN.{length, take, length-take}
use lib.Pow.{pow_pos}
use borrow.Author.Tests.{eqb-true}
use Rattle.basics.specs.Limits.{kind_limit}
use Rattle.basics.specs.declared.order.Order.{Order}
use Rattle.basics.specs.declared.order.Order.TheVariants.{Set, Read}
use Rattle.play.specs.Limits.{belief_limit, side_limit}
use Rattle.play.specs.Cells.{row_size, stop_cell, first_of, first_cell, choice_cell, next_cell, rank_cell, Blank}
use Rattle.play.proofs.CellsLaws.{first_same, first_taken, choice_taken, next_taken, rank_taken, stop_taken}
use Rattle.tables.specs.declared.shape.Shape.{Shape}
use Rattle.play.specs.Table.{GoesRow, StopsRow, Laid}
use Rattle.wellformed.specs.WellFormed.{Sized, first_limit, IsFirst, Stops, Used, RankFits, GoodRow, Unused, Printable}
use Rattle.wellformed.proofs.WellFormedLaws.{side_le, first_goes}
use Rattle.stepping.specs.Position.{Standing}

-- the first cell goes by the choices, which are few
first_few : (o : Order) (choices : ℕ) (answer : ℕ → ℕ) → choices ≤ side_limit → answer 0 < choices → first_of o answer < first_limit o
first_few Set choices answer few h = omega arith
first_few Read choices answer few h = omega arith

same_blank : (o : Order) (t u : List ℕ) (i s : ℕ) → choice_cell o t i s ≡ choice_cell o u i s → next_cell o t i s ≡ next_cell o u i s
    → Blank o t i s → Blank o u i s
same_blank Set t u i s c m z = sym m ∙ z
same_blank Read t u i s c m z = (sym c ∙ z.0, sym m ∙ z.1)

module _ (choices : ℕ) (shape : Shape) (t : List ℕ) (few_choices : choices ≤ side_limit) (few_observed : shape.observed ≤ kind_limit)
    (some : 0 < shape.rows) (within : shape.rows ≤ belief_limit)
    (laid : Laid shape.order choices (2 ^ shape.observed) shape.rows (take (shape.rows * row_size shape.order) t)) where
  abbrev o : Order
  o = shape.order

  abbrev n : ℕ
  n = shape.rows

  abbrev observations : ℕ
  observations = 2 ^ shape.observed

  few_observations : observations ≤ side_limit
  few_observations = side_le shape.observed few_observed

  sized : Sized (length t) shape
  sized = record {
    some = some;
    few = within;
    room = omega (arith, sym (length-take (n * row_size o) t) ∙ laid.long);
    seen = few_observed;
  }

  module _ (i : ℕ) (h : i < n) where
    blank_taken : (s : ℕ) → s < side_limit → Blank o (take (n * row_size o) t) i s → Blank o t i s
    blank_taken s b = same_blank o (take (n * row_size o) t) t i s (choice_taken o n t i h s b) (next_taken o n t i h s b)

    ranked : rank_cell o t i < n
    ranked = subst (λ c. c < n) (rank_taken o n t i h) (laid.ranked i h)

    lower_taken : GoesRow o choices observations n (take (n * row_size o) t) i → (s : ℕ) → s < observations
        → rank_cell o t (next_cell o t i s) < rank_cell o t i
    lower_taken g s b =
        let j = next_cell o (take (n * row_size o) t) i s in
        let low : rank_cell o t j < rank_cell o t i = omega (arith, g.lower s b, rank_taken o n t j (g.next s b), rank_taken o n t i h) in
        subst (λ (k : ℕ). rank_cell o t k < rank_cell o t i) (next_taken o n t i h s (omega (arith, b, few_observations))) low

    -- a row is a stop row, or goes on; its unused cells are 0
    row_laid : StopsRow o t i ⊎ GoesRow o choices observations n t i
    row_laid =
        elim (laid.row i h) [
          | inl r ↦
              inl (record {
                stop = sym (stop_taken o n t i h) ∙ r.stop;
                rank = sym (rank_taken o n t i h) ∙ r.rank;
                unused = λ s b. blank_taken s b (r.unused s b);
              })
          | inr g ↦
              inr (record {
                first = sym (first_taken o n t i h) ∙ g.first
                    ∙ first_same o (choice_cell o (take (n * row_size o) t) i) (choice_cell o t i) (choice_taken o n t i h 0 (omega arith));
                choice = λ s b. subst (λ c. c < choices) (choice_taken o n t i h s (omega (arith, b, few_observations))) (g.choice s b);
                next = λ s b. subst (λ c. c < n) (next_taken o n t i h s (omega (arith, b, few_observations))) (g.next s b);
                lower = lower_taken g;
                unused = λ s u b. blank_taken s b (g.unused s u b);
              })
        ]

    goes_first : GoesRow o choices observations n t i → first_cell o t i < first_limit o
    goes_first g =
        subst (λ c. c < first_limit o) (sym g.first)
        (first_few o choices (choice_cell o t i) few_choices (g.choice 0 (pow_pos shape.observed)))

    is_first_lem : IsFirst o (first_cell o t i)
    is_first_lem = elim row_laid [ inl r ↦ inr (eqb-true (first_cell o t i) stop_cell r.stop) | inr g ↦ inl (goes_first g) ]

    goes_on_lem : (¬ Stops t shape i) → GoesRow o choices observations n t i
    goes_on_lem m = elim row_laid [ inl r ↦ absurd (m (eqb-true (first_cell o t i) stop_cell r.stop)) | inr g ↦ g ]

    fits : RankFits t shape i
    fits = record {
      below = ranked;
      stops = λ e. elim row_laid [ inl r ↦ r.rank | inr g ↦ absurd (first_goes o (first_cell o t i) (goes_first g) e) ];
      goes = λ m. omega (arith, (goes_on_lem m).lower 0 (pow_pos shape.observed));
    }

  row_good : (i : ℕ) (h : i < n) → GoodRow t shape i
  row_good i h =
      let next : (s : ℕ) → Used t shape i s → next_cell o t i s < n = λ s u. (goes_on_lem i h u.0).next s u.1 in
      record {
        formed = record {
          first = is_first_lem i h;
          goes = λ s u. record {
            choice = omega (arith, (goes_on_lem i h u.0).choice s u.1, few_choices);
            next = next s u;
            first = is_first_lem (next_cell o t i s) (next s u);
          };
        };
        ranked = record { own = fits i h; lower = λ s u. (goes_on_lem i h u.0).lower s u.1 };
        next = λ s u. fits (next_cell o t i s) (next s u);
      }

  row_blank : (i : ℕ) → i < n → (s : ℕ) → s < side_limit → Unused t shape i s → Blank o t i s
  row_blank i h s b u =
      elim (row_laid i h) [
        | inl r ↦ r.unused s b
        | inr g ↦ elim u [ inl e ↦ absurd (first_goes o (first_cell o t i) (goes_first i h g) e) | inr l ↦ g.unused s l b ]
      ]

  pub standing : (i : ℕ) → i < n → Standing t shape i
  standing i h = record { sized = sized; inside = h; good = row_good i h }

  -- with the rank of row 0 as the worst case
  pub printable : (r : ℕ) → rank_cell o (take (n * row_size o) t) 0 ≡ r → Printable t shape r
  printable r e =
      let first = sym (rank_taken o n t 0 some) ∙ e in
      record {
        shaped = record {
          sized = sized;
          below = subst (λ c. c < n) first (ranked 0 some);
          each = λ i h. record { formed = (row_good i h).formed; blank = row_blank i h; rank = omega (arith, ranked i h, within) };
        };
        first = first;
        ranked = λ i h. (row_good i h).ranked;
      }

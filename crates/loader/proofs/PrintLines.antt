-- The lines of a table's text, and their fields.
-- Assumes nothing.
use Prim.Native.Nat.{ℕ, suc, ◌+◌, ◌^◌, ◌≤◌, ◌<◌}
use native.Mathlib.Omega.{arith}
use mathlib.Core.Path.{◌≡◌, refl, ap, ◌∙◌}
use mathlib.Core.Bool.{Bool, true}
use mathlib.Core.List.{List, [], ◌∷◌, ◌++◌, append_assoc, flat_map}
use lib.ListN.{get_or}
use borrow.Author.Tests.{ne_eqb}
use Rattle.basics.specs.Bytes.{bytes_of, not_tab, not_line_end}
use Rattle.basics.specs.Lists.{tabulate}
use Rattle.basics.specs.Pieces.{Unparted, field_at, line_at}
use Rattle.basics.specs.Text.{decimal, field}
use Rattle.basics.specs.declared.order.Order.{Order}
use Rattle.basics.specs.declared.order.Order.TheVariants.{Set, Read}
use Rattle.basics.proofs.Booleans.{cond_elim}
use Rattle.basics.proofs.PiecesLaws.{unparted_append, unparted_decimal, AllUnparted, unparted_table, unparted_fields, field_of}
use Rattle.play.specs.Cells.{cell, is_stop, rank_cell}
use Rattle.printer.specs.Text.{shown_from, shown_count, shown_fields, row_fields, row_text, table_word, table_text}
use Rattle.tables.specs.declared.shape.Shape.{Shape}
use Rattle.loader.specs.LoadedAs.{Lines}
use Rattle.loader.proofs.WholeLines.{line_here, line_next, lines_more, lines_are, line_of, line_last}

-- ---- what does not part

no_tab : (b : ℕ) → 48 ≤ b → b < 58 → not_tab b ≡ true
no_tab b l h = rw (ne_eqb b 9 (λ e. omega arith)) refl

no_end : (b : ℕ) → 48 ≤ b → b < 58 → not_line_end b ≡ true
no_end b l h = rw (ne_eqb b 10 (λ e. omega arith)) refl

-- ---- the first line without its end

abbrev pub head_body : Order → ℕ → ℕ → List ℕ
head_body o rows worst = table_word o ++ flat_map field (decimal rows ∷ decimal worst ∷ [])

word_whole : (o : Order) → Unparted not_line_end (table_word o)
word_whole Set = (refl, (refl, (refl, (refl, (refl, tt)))))
word_whole Read = (refl, (refl, (refl, (refl, (refl, (refl, tt))))))

word_field : (o : Order) → Unparted not_tab (table_word o)
word_field Set = (refl, (refl, (refl, (refl, (refl, tt)))))
word_field Read = (refl, (refl, (refl, (refl, (refl, (refl, tt))))))

module _ (o : Order) (rows worst : ℕ) where
  head_whole : Unparted not_line_end (head_body o rows worst)
  head_whole =
      unparted_append not_line_end (table_word o) (flat_map field (decimal rows ∷ decimal worst ∷ [])) (word_whole o)
      (unparted_fields not_line_end refl (decimal rows ∷ decimal worst ∷ [])
      (unparted_decimal not_line_end no_end rows, (unparted_decimal not_line_end no_end worst, tt)))

  head_field : (k : ℕ) → field_at k (head_body o rows worst) ≡ get_or (table_word o ∷ decimal rows ∷ decimal worst ∷ []) k []
  head_field =
      field_of (table_word o) (decimal rows ∷ decimal worst ∷ []) (word_field o)
      (unparted_decimal not_tab no_tab rows, (unparted_decimal not_tab no_tab worst, tt))

  pub head_word : field_at 0 (head_body o rows worst) ≡ table_word o
  head_word = head_field 0

  pub head_rows : field_at 1 (head_body o rows worst) ≡ decimal rows
  head_rows = head_field 1

  pub head_worst : field_at 2 (head_body o rows worst) ≡ decimal worst
  head_worst = head_field 2

-- ---- the line of a row without its end

abbrev pub row_body : List ℕ → Shape → ℕ → List ℕ
row_body t shape i = bytes_of "row" ++ flat_map field (decimal i ∷ decimal (rank_cell shape.order t i) ∷ row_fields t shape i)

module _ (t : List ℕ) (shape : Shape) (i : ℕ) where
  -- the rank and what the row does
  abbrev rank_fields : List (List ℕ)
  rank_fields = decimal (rank_cell shape.order t i) ∷ row_fields t shape i

  fields_whole : (p : ℕ → Bool) → ((b : ℕ) → 48 ≤ b → b < 58 → p b ≡ true) → Unparted p (bytes_of "stop") → AllUnparted p (decimal i ∷ rank_fields)
  fields_whole p digit word =
      let o = shape.order in
      let n = 2 ^ shape.observed in (
        unparted_decimal p digit i,
        (
          unparted_decimal p digit (rank_cell o t i),
          cond_elim (AllUnparted p) (is_stop o t i) (bytes_of "stop" ∷ []) (shown_fields o t i n) (λ e. (word, tt))
              (λ e. unparted_table p (shown_count o n) (λ k. decimal (cell o t i (shown_from o + k)))
              (λ k. unparted_decimal p digit (cell o t i (shown_from o + k)))),
        ),
      )

  row_whole : Unparted not_line_end (row_body t shape i)
  row_whole =
      unparted_append not_line_end (bytes_of "row") (flat_map field (decimal i ∷ rank_fields)) (refl, (refl, (refl, tt)))
      (unparted_fields not_line_end refl (decimal i ∷ rank_fields) (fields_whole not_line_end no_end (refl, (refl, (refl, (refl, tt))))))

  body_field : (k : ℕ) → field_at k (row_body t shape i) ≡ get_or (bytes_of "row" ∷ decimal i ∷ rank_fields) k []
  body_field =
      field_of (bytes_of "row") (decimal i ∷ rank_fields) (refl, (refl, (refl, tt)))
      (fields_whole not_tab no_tab (refl, (refl, (refl, (refl, tt)))))

  -- what stands behind the row's number: the rank, and then what it does
  pub rank_field : field_at 2 (row_body t shape i) ≡ decimal (rank_cell shape.order t i)
  rank_field = body_field 2

  pub row_field : (k : ℕ) → field_at (3 + k) (row_body t shape i) ≡ get_or (row_fields t shape i) k []
  row_field k =
      let e : 3 + k ≡ suc (suc (suc k)) = omega arith in
      ap (λ n. field_at n (row_body t shape i)) e ∙ body_field (suc (suc (suc k)))

-- ---- all lines

module _ (t : List ℕ) (shape : Shape) (worst : ℕ) where
  abbrev rows : ℕ
  rows = shape.rows

  abbrev behind_head : List ℕ
  behind_head = flat_map (row_text t shape) (tabulate rows (λ i. i))

  pub print_lines : Lines (suc rows) (table_text t shape worst)
  print_lines =
      lines_more (head_body shape.order rows worst) (head_whole shape.order rows worst) rows behind_head
      (lines_are (row_body t shape) (row_whole t shape) rows (λ i. i))

  split : table_text t shape worst ≡ head_body shape.order rows worst ++ (10 ∷ behind_head)
  split = append_assoc (head_body shape.order rows worst) (10 ∷ []) behind_head

  pub print_head : line_at 0 (table_text t shape worst) ≡ head_body shape.order rows worst
  print_head = ap (line_at 0) split ∙ line_here (head_body shape.order rows worst) behind_head (head_whole shape.order rows worst)

  pub print_row : (i : ℕ) → i < rows → line_at (suc i) (table_text t shape worst) ≡ row_body t shape i
  print_row i h =
      ap (line_at (suc i)) split ∙ line_next (head_body shape.order rows worst) behind_head (head_whole shape.order rows worst) i
      ∙ line_of (row_body t shape) (row_whole t shape) rows (λ i. i) i h

  pub print_end : line_at (suc rows) (table_text t shape worst) ≡ []
  print_end = line_last (suc rows) (table_text t shape worst) print_lines

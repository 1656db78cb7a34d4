-- A text that is longer than that of any table is answered by its beginning: one byte more than the text of a table may have.
-- Assumes nothing.
use Prim.Native.Nat.{ℕ, suc, ◌+◌, ◌-◌, ◌≤◌, ◌<◌}
use native.Mathlib.Omega.{arith}
use mathlib.Core.Path.{◌≡◌, sym, ap, ◌∙◌, subst}
use mathlib.Core.List.{List, ◌++◌, append_assoc}
use lib.ListN.{length, take, drop, length-append, take-append-drop}
use lib.Seq.{length-take-le, take-append-add}
use Rattle.lines.specs.Refusal.{Told}
use Rattle.printer.specs.Limits.{text_size}
use Rattle.printer.proofs.TextLaws.{text_fits}
use Rattle.loader.specs.LoadedAs.{loaded_by, cells_by, told_loaded, IsText, Begins, FaultAt, bad_line, bad_worst, bad_rank}
use Rattle.loader.specs.LoadedAs.{LoadedAs, short_memory, bad_text, table}
use Rattle.loader.proofs.LoadedIffDue.{load_due, load_iff}

text_short : (s : List ℕ) → IsText s → length s ≤ text_size
text_short s (t, shape, worst, is) = subst (λ x. length x ≤ text_size) is.text (text_fits t shape worst is.shaped)

module _ (s : List ℕ) (long : text_size < length s) where
  abbrev front : List ℕ
  front = take (suc text_size) s

  abbrev back : List ℕ
  back = drop (suc text_size) s

  whole : s ≡ front ++ back
  whole = sym (take-append-drop (suc text_size) s)

  front_length : length front ≡ suc text_size
  front_length = length-take-le (suc text_size) s long

  begins_front : (k : ℕ) → Begins k s → Begins k front
  begins_front k b =
      let m = suc text_size - length b.front in
      let fits = text_short (b.front ++ b.other) b.table in
      let e : suc text_size ≡ length b.front + m = omega (arith, fits, length-append b.front b.other) in
      record {
        front = b.front;
        lines = b.lines;
        rest = take m b.rest;
        text = ap (λ n. take n s) e ∙ ap (take (length b.front + m)) b.text ∙ take-append-add b.front b.rest m;
        other = b.other;
        table = b.table;
      }

  begins_whole : (k : ℕ) → Begins k front → Begins k s
  begins_whole k b =
      record {
        front = b.front;
        lines = b.lines;
        rest = b.rest ++ back;
        text = whole ∙ ap (λ x. x ++ back) b.text ∙ append_assoc b.front b.rest back;
        other = b.other;
        table = b.table;
      }

  no_text : ¬ IsText s
  no_text is = let fits = text_short s is in omega arith

  fault_front : (place : ℕ) → FaultAt s place → FaultAt front place
  fault_front place (bad_line untold good begins greatest) =
      bad_line (λ is. let fits = text_short front is in omega (arith, front_length)) good (begins_front good begins)
      (λ j b. greatest j (begins_whole j b))
  fault_front place (bad_worst t shape worst is m) = absurd (no_text (t, shape, worst, is))
  fault_front place (bad_rank t shape worst is e i h m before) = absurd (no_text (t, shape, worst, is))

  carried : (room : ℕ) (a : Told) (cells : List ℕ) → LoadedAs room s a cells → LoadedAs room front a cells
  carried room a cells (short_memory h) = short_memory h
  carried room a cells (bad_text h place f) = bad_text h place (fault_front place f)
  carried room a c (table h shape worst cells is) =
      absurd (no_text (cells, shape, worst, record { shaped = is.printable.shaped; text = is.prints }))

  pub longer_alike : (room : ℕ) → (told_loaded (loaded_by room front) ≡ told_loaded (loaded_by room s)) × (cells_by room front ≡ cells_by room s)
  longer_alike room =
      (load_iff front room (told_loaded (loaded_by room s)) (cells_by room s)).1
      (carried room (told_loaded (loaded_by room s)) (cells_by room s) (load_due s room))

-- The printing call, in the shape in which the code makes it.
-- Assumes nothing.
use Prim.Native.Nat.{ℕ, ◌≤◌, ◌<◌}
use mathlib.Core.Path.{◌≡◌, refl}
use mathlib.Core.Bool.{true, false}
use mathlib.Core.List.{List, [], ◌∷◌}
use lib.ListN.{length, take, drop}
use lib.Seq.{take_at}
use Rattle.basics.proofs.Booleans.{clash}
use Rattle.lines.specs.Refusal.{values, refused}
use Rattle.tables.specs.declared.shape.Shape.{Shape}
use Rattle.basics.specs.Lists.{written}
use Rattle.printer.specs.Limits.{text_size}
use Rattle.wellformed.specs.WellFormed.{is_sized, is_printable}
use Rattle.printer.specs.Text.{table_text}
use Rattle.cabinet.specs.Print.{PrintedAs, short_memory, bad_table, text}
use Rattle.wellformed.proofs.TestsSay.{printable_says}
use Rattle.printer.proofs.TextLaws.{text_fits}

module _ (t : List ℕ) (shape : Shape) (worst : ℕ) where
  -- what the writing of the table asks
  pub text_room : is_printable t shape worst ≡ true → length (table_text t shape worst) ≤ text_size
  text_room e = text_fits t shape worst ((printable_says t shape worst).0 e).shaped

  pub unsized : is_sized (length t) shape ≡ false → is_printable t shape worst ≡ false
  unfolding is_printable
  unsized e = rw e refl

  pub short_due : (room : List ℕ) → length room < text_size → PrintedAs t shape worst (length room) (refused 12 0) []
  short_due room h = short_memory h

  module _ (room : List ℕ) (h : text_size ≤ length room) where
    pub table_due : is_printable t shape worst ≡ true → (n : ℕ) → n ≡ length (table_text t shape worst)
        → (after : List ℕ) → after ≡ written (table_text t shape worst) room
        → PrintedAs t shape worst (length room) (values (n ∷ [])) (take n after)
    table_due e n p after q =
        rw (p, q, take_at (table_text t shape worst) (drop (length (table_text t shape worst)) room) (length (table_text t shape worst)) refl)
        (text h ((printable_says t shape worst).0 e))

    pub refused_due : is_printable t shape worst ≡ false → PrintedAs t shape worst (length room) (refused 13 0) []
    refused_due f = bad_table h (λ p. clash ((printable_says t shape worst).1 p) f)

-- what the call is proved by
pub ruleset print_laws = (text_room, short_due, refused_due, table_due)

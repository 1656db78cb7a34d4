-- What the printing call answers is what is due, and what is due is what it answers.
-- Assumes nothing.
use Rattle.std.specs.Prelude.{Result}
use Rattle.lines.specs.declared.refusal.Refusal.{Refusal}
use Prim.Native.Nat.{ℕ}
use mathlib.Core.Path.{◌≡◌, refl, ap, subst}
use mathlib.Core.Logic.{◌↔◌, inl, inr}
use mathlib.Core.List.{List, [], ◌∷◌}
use lib.Dec.{ltb}
use lib.ListN.{length, drop}
use lib.Seq.{take_at}
use borrow.Author.Tests.{ltb-true, ltb-false, lt-ltb, le-ltb}
use Rattle.basics.proofs.Booleans.{test, clash}
use Rattle.basics.proofs.SaysLaws.{says_false}
use Rattle.basics.specs.Lists.{written}
use Rattle.basics.proofs.ListsLaws.{written_rest}
use Rattle.lines.specs.Refusal.{Told, values, refused}
use Rattle.tables.specs.declared.shape.Shape.{Shape}
use Rattle.printer.specs.Limits.{text_size}
use Rattle.wellformed.specs.WellFormed.{is_printable}
use Rattle.printer.specs.Text.{table_text}
use Rattle.wellformed.proofs.TestsSay.{printable_says}
use Rattle.cabinet.specs.Print.{printed_by, bytes_by, text_after, told_printed, used_text, PrintedAs, short_memory, bad_table, text}

-- bytes that are an answer's own
abbrev pub OwnBytes : Told → List ℕ → Type 0
OwnBytes (values []) bytes = ⊥
OwnBytes (values (n ∷ l)) bytes = length bytes ≡ n
OwnBytes (refused number place) bytes = bytes ≡ []

module _ (t : List ℕ) (shape : Shape) (worst : ℕ) where
  print_due : (room : ℕ) → PrintedAs t shape worst room (told_printed (printed_by t shape worst room)) (bytes_by t shape worst room)
  unfolding printed_by bytes_by
  print_due room =
      elim (test (ltb room text_size)) [
        | inl s ↦ rw s (short_memory (ltb-true room text_size s))
        | inr l ↦
            elim (test (is_printable t shape worst)) [
              | inr f ↦ rw (l, f) (bad_table (ltb-false room text_size l) (λ p. clash ((printable_says t shape worst).1 p) f))
              | inl e ↦ rw (l, e) (text (ltb-false room text_size l) ((printable_says t shape worst).0 e))
            ]
      ]

  -- what stands at the front of the text
  print_used : (room : List ℕ) → used_text (printed_by t shape worst (length room)) (text_after t shape worst room) ≡ bytes_by t shape worst (length room)
  unfolding printed_by bytes_by
  print_used room =
      elim (test (ltb (length room) text_size)) [
        | inl s ↦ rw s refl
        | inr l ↦
            elim (test (is_printable t shape worst)) [
              | inr f ↦ rw (l, f) refl
              | inl e ↦
                  rw (l, e)
                  (take_at (table_text t shape worst) (drop (length (table_text t shape worst)) room) (length (table_text t shape worst)) refl)
            ]
      ]

  pub print_told : (room : List ℕ) (r : Result ℕ Refusal) (after : List ℕ)
      → (r ≡ printed_by t shape worst (length room)) × (after ≡ text_after t shape worst room)
      → PrintedAs t shape worst (length room) (told_printed r) (used_text r after)
  print_told room r after e = rw (e.0, e.1, print_used room) (print_due (length room))

  print_answered : (room : ℕ) (a : Told) (bytes : List ℕ) → PrintedAs t shape worst room a bytes
      → (told_printed (printed_by t shape worst room) ≡ a) × (bytes_by t shape worst room ≡ bytes)
  unfolding printed_by bytes_by
  print_answered room a bytes (short_memory s) = rw (lt-ltb room text_size s) (refl, refl)
  print_answered room a bytes (bad_table l n) = rw (le-ltb room text_size l, says_false (printable_says t shape worst) n) (refl, refl)
  print_answered room a bytes (text l p) = rw (le-ltb room text_size l, (printable_says t shape worst).1 p) (refl, refl)

  pub print_iff : (room : ℕ) (a : Told) (bytes : List ℕ)
      → ((told_printed (printed_by t shape worst room) ≡ a) × (bytes_by t shape worst room ≡ bytes)) ↔ PrintedAs t shape worst room a bytes
  print_iff room a bytes = (
    λ e. subst (PrintedAs t shape worst room a) e.1
        (subst (λ b. PrintedAs t shape worst room b (bytes_by t shape worst room)) e.0 (print_due room)),
    print_answered room a bytes,
  )

  -- a refusal writes nothing, and a text as many bytes as it tells
  print_counted : (room : ℕ) → OwnBytes (told_printed (printed_by t shape worst room)) (bytes_by t shape worst room)
  print_counted room = counted (told_printed (printed_by t shape worst room)) (bytes_by t shape worst room) (print_due room)
    where
      counted : (a : Told) (bytes : List ℕ) → PrintedAs t shape worst room a bytes → OwnBytes a bytes
      counted a bytes (short_memory s) = refl
      counted a bytes (bad_table l f) = refl
      counted a bytes (text l e) = refl

  pub text_kept : (x : List ℕ) (number place : ℕ) → told_printed (printed_by t shape worst (length x)) ≡ refused number place → text_after t shape worst x ≡ x
  text_kept x number place e =
      ap (λ b. written b x) (subst (λ a. OwnBytes a (bytes_by t shape worst (length x))) e (print_counted (length x)))

  pub text_rest : (x : List ℕ) (n : ℕ) → told_printed (printed_by t shape worst (length x)) ≡ values (n ∷ []) → drop n (text_after t shape worst x) ≡ drop n x
  text_rest x n e =
      written_rest (bytes_by t shape worst (length x)) x n
      (subst (λ a. OwnBytes a (bytes_by t shape worst (length x))) e (print_counted (length x)))

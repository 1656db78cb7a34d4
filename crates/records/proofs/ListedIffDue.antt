-- What reading into records answers and leaves is what is due.
-- Assumes nothing.
use Rattle.lines.specs.declared.refusal.Refusal.{Refusal}
use Rattle.lines.specs.declared.problem.Sizes.{Sizes}
use Rattle.std.specs.Prelude.{Result}
use Prim.Native.Nat.{ℕ, ◌≤◌, ◌<◌}
use native.Mathlib.Omega.{arith}
use mathlib.Core.Path.{◌≡◌, refl, sym, ap₂, subst}
use mathlib.Core.Logic.{◌↔◌, inl, inr}
use mathlib.Core.List.{List}
use borrow.Author.Tests.{ltb-true, ltb-false, lt-ltb, le-ltb}
use lib.Dec.{ltb}
use lib.ListN.{length}
use Rattle.basics.specs.Lists.{written}
use Rattle.basics.proofs.Booleans.{test}
use Rattle.formula.specs.Limits.{part_limit}
use Rattle.formula.specs.declared.parts.Part.{Part}
use Rattle.lines.specs.Refusal.{Told}
use Rattle.lines.specs.Refusal as told
use Rattle.lines.proofs.RefusalLaws.{told_apart, one_number, one_place}
use Rattle.rules.specs.Problem.{Outcome, accepted, refused, read_problem}
use Rattle.rules.specs.Reading.{reading_of, told_reading}
use Rattle.rules.proofs.DenotesLaws.{read_denotes, denotes_read}
use Rattle.rules.specs.Refuses.{Refuses}
use Rattle.rules.proofs.RefusesLaws.{told_refused, refuses_number}
use Rattle.rules.proofs.RefusesLaws as refusal
use Rattle.records.specs.Reading.{read_into, parts_given, records_after, told_read, ListedAs, short_memory, bad_source, listed}

module _ (source : List ℕ) (old : List Part) where
  listed_due : ListedAs source old (told_read source old) (records_after source old)
  unfolding read_into
  listed_due =
      elim (test (ltb (length old) part_limit)) [
        | inl e ↦ rw e (short_memory (ltb-true _ _ e))
        | inr e ↦ rw e (at (ltb-false _ _ e) (read_problem source) refl)
      ]
    where
      at : part_limit ≤ length old → (o : Outcome) → read_problem source ≡ o
          → ListedAs source old (told_reading (reading_of o)) (written (parts_given o) old)
      at h (accepted p) e = listed h p (read_denotes source p e)
      at h (refused r) e = bad_source h _ _ ((refusal.refused_iff source r).0 e)

  -- as the call has it
  pub listed_as : (r : Result Sizes Refusal) (new : List Part) → r ≡ reading_of (read_into (length old) source) → new ≡ records_after source old
      → ListedAs source old (told_reading r) new
  listed_as r new e f = subst (λ x. ListedAs source old (told_reading x) new) (sym e)
      (subst (ListedAs source old (told_read source old)) (sym f) listed_due)

  listed_told : {a : Told} {new : List Part} → ListedAs source old a new → (told_read source old ≡ a) × (records_after source old ≡ new)
  unfolding read_into
  listed_told (short_memory h) = (rw (lt-ltb (length old) part_limit h), rw (lt-ltb (length old) part_limit h) refl)
  listed_told (bad_source h n m f) =
      let r = told_refused source f in
      (rw (le-ltb (length old) part_limit h, r.1) (ap₂ told.refused r.2 r.3), rw (le-ltb (length old) part_limit h, r.1) refl)
  listed_told (listed h p d) =
      let e = denotes_read source p d in (rw (le-ltb (length old) part_limit h, e), rw (le-ltb (length old) part_limit h, e) refl)

  -- exactly so
  pub listed_iff : (a : Told) (new : List Part) → ((told_read source old ≡ a) × (records_after source old ≡ new)) ↔ ListedAs source old a new
  listed_iff a new = (
    λ e. subst (ListedAs source old a) e.1
        (subst (λ b. ListedAs source old b (records_after source old)) e.0 listed_due),
    listed_told,
  )

  -- ---- case by case

  was_short : {a : Told} {new : List Part} → ListedAs source old a new → a ≡ told.refused 12 0 → length old < part_limit
  was_short (short_memory h) e = h
  was_short (bad_source h n m f) e = absurd (omega (arith, one_number e, refuses_number f))
  was_short (listed h p d) e = told_apart (sym e)

  pub short_iff : (told_read source old ≡ told.refused 12 0) ↔ (length old < part_limit)
  short_iff = (λ e. was_short listed_due e, λ h. (listed_told (short_memory h)).0)

  was_refused : (n m : ℕ) → n ≤ 8 → {a : Told} {new : List Part} → ListedAs source old a new → a ≡ told.refused n m → Refuses source n m
  was_refused n m small (short_memory h) e = absurd (omega (arith, one_number e))
  was_refused n m small (bad_source h x y f) e = subst (λ k. Refuses source k m) (one_number e) (subst (Refuses source x) (one_place e) f)
  was_refused n m small (listed h p d) e = told_apart (sym e)

  pub refused_iff : part_limit ≤ length old → (n m : ℕ) → n ≤ 8 → (told_read source old ≡ told.refused n m) ↔ Refuses source n m
  refused_iff h n m small = (λ e. was_refused n m small listed_due e, λ f. (listed_told (bad_source h n m f)).0)

  was_kept : {a : Told} {new : List Part} → ListedAs source old a new → (n m : ℕ) → a ≡ told.refused n m → new ≡ old
  was_kept (short_memory h) n m e = refl
  was_kept (bad_source h x y f) n m e = refl
  was_kept (listed h p d) n m e = told_apart (sym e)

  pub records_kept : (n m : ℕ) → told_read source old ≡ told.refused n m → records_after source old ≡ old
  records_kept n m e = was_kept listed_due n m e

-- What reading a whole problem answers is what is due.
-- Assumes nothing.
use Rattle.lines.specs.declared.refusal.Refusal.{Refusal}
use Rattle.lines.specs.declared.problem.Sizes.{Sizes}
use Rattle.std.specs.Prelude.{Result}
use Prim.Native.Nat.{ℕ}
use mathlib.Core.Path.{◌≡◌, refl, ap, ◌∙◌, subst}
use mathlib.Core.Logic.{◌↔◌}
use mathlib.Core.List.{List}
use Rattle.lines.specs.Refusal.{Told, number_of, place_of}
use Rattle.lines.specs.Refusal as told
use Rattle.rules.specs.Problem.{Outcome, accepted, refused, read_problem}
use Rattle.rules.specs.Reading.{reading_of, told_reading, ReadAs, denoted, bad_source}
use Rattle.rules.proofs.DenotesLaws.{read_iff_denotes}
use Rattle.rules.proofs.RefusesLaws.{refused_iff, told_refused}

module _ (source : List ℕ) where
  read_due : ReadAs source (told_reading (reading_of (read_problem source)))
  read_due = at (read_problem source) refl
    where
      at : (o : Outcome) → read_problem source ≡ o → ReadAs source (told_reading (reading_of o))
      at (accepted p) e = denoted p ((read_iff_denotes source p).0 e)
      at (refused r) e = bad_source (number_of r) (place_of r) ((refused_iff source r).0 e)

  pub read_told : (r : Result Sizes Refusal) → r ≡ reading_of (read_problem source) → ReadAs source (told_reading r)
  read_told r e = rw e read_due

  read_answered : (a : Told) → ReadAs source a → told_reading (reading_of (read_problem source)) ≡ a
  read_answered a (denoted p d) = ap (λ o. told_reading (reading_of o)) ((read_iff_denotes source p).1 d)
  read_answered a (bad_source number place x) =
      let (r, e, n, m) = told_refused source x in
      ap (λ o. told_reading (reading_of o)) e ∙ ap (λ k. told.refused k (place_of r)) n ∙ ap (told.refused number) m

  pub read_iff : (a : Told) → (told_reading (reading_of (read_problem source)) ≡ a) ↔ ReadAs source a
  read_iff a = (λ e. subst (ReadAs source) e read_due, read_answered a)

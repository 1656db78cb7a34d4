-- From a problem that was read to the verdict on a trace, and what the verdict means. Assumes nothing.
use Rattle.std.specs.Prelude.{Bool, Err, Ok, Result, false, true}
use Prim.Native.Nat.{ℕ, ◌≤◌, ◌<◌}
use native.Mathlib.Omega.{arith}
use mathlib.Core.Path.{◌≡◌, refl, sym, ap, ◌∙◌, subst}
use mathlib.Core.List.{List}
use borrow.Author.Tests.{lt-ltb, le-ltb}
use lib.ListN.{length, take, replicate, length-map, length-replicate}
use Rattle.lines.specs.declared.refusal.Refusal.{Refusal}
use Rattle.lines.specs.declared.refusal.Refusal.TheVariants.{ShortMemory}
use Rattle.lines.specs.declared.problem.Sizes.{Sizes}
use Rattle.basics.specs.Limits.{kind_limit}
use Rattle.formula.specs.Limits.{part_limit}
use Rattle.rules.specs.Limits.{work_size}
use Rattle.formula.specs.Formula.{Formula}
use Rattle.formula.specs.Semantics.{Trace, holds}
use Rattle.formula.specs.Parts.{last_of, AllReady}
use Rattle.formula.specs.Codes.{code_of, codes_of, parts_in}
use Rattle.formula.specs.Values.{value_on}
use Rattle.rules.specs.Problem.{Problem, formula_in, problem_parts, Outcome, accepted, refused, read_problem}
use Rattle.rules.specs.Reading.{sizes_of, reading_of, parts_of_outcome}
use Rattle.rules.specs.Trace.{counts_of, verdict_on}
use Rattle.rules.specs.Judge.{judged_by, judged, work_after, told_verdict, JudgedAs}
use Rattle.rules.proofs.ProblemLaws.{parts_counted, some_part, formed}
use Rattle.lines.proofs.MemoryLaws.{stored_front}
use Rattle.rules.proofs.TraceLaws.{verdict_holds}
use Rattle.rules.proofs.WithinLimits.{read_within, read_held}
use Rattle.rules.specs.Within.{Within}
use Rattle.formula.proofs.CodesLaws.{Held}
use Rattle.rules.proofs.JudgedIffDue.{judged_as}
use Rattle.rules.proofs.ReadingLaws.{not_refused, same_sizes, same_refusal}

-- a refusal is handed on
pub refused_source : (o : Outcome) (π : Trace) (r : Result Sizes Refusal) (x : Refusal) → r ≡ reading_of o → r ≡ Err x → Err x ≡ judged_by o π
refused_source (accepted p) π r x e h = not_refused x _ (sym h ∙ e)
refused_source (refused y) π r x e h = ap Err (same_refusal x y (sym h ∙ e))

-- a problem was read, and its parts are at the front of the list
pub record Taken (o : Outcome) (s : Sizes) (codes : List ℕ) : Type 0 where
  pub problem : Problem
  pub is : o ≡ accepted problem
  pub within : Within problem
  pub held : Held (problem_parts problem)
  pub sizes : s ≡ sizes_of problem
  pub front : take s.parts codes ≡ codes_of (problem_parts problem)

-- what `read` leaves in a list that was all zero
pub taken : (source : List ℕ) (s : Sizes) (r : Result Sizes Refusal) → r ≡ reading_of (read_problem source) → r ≡ Ok s
    → (q : List ℕ) → q ≡ parts_of_outcome (read_problem source) (replicate part_limit 0) → Taken (read_problem source) s q
taken source s r e h q i = go (read_problem source) (sym e ∙ h) i (read_within source) (read_held source)
  where
    go : (o : Outcome) → reading_of o ≡ Ok s → q ≡ parts_of_outcome o (replicate part_limit 0)
        → ((x : Problem) → o ≡ accepted x → Within x) → ((x : Problem) → o ≡ accepted x → Held (problem_parts x)) → Taken o s q
    go (accepted x) h i within held =
        let w = within x refl in
        let z = sym (same_sizes (sizes_of x) s h) in
        let n : length (problem_parts x) ≡ s.parts = parts_counted x ∙ sym (ap (λ (t : Sizes). t.parts) z) in
        let m : s.parts ≤ part_limit = rw z w.parts in
        record {
          problem = x;
          is = refl;
          within = w;
          held = held x refl;
          sizes = z;
          front = ap (λ t. take s.parts t) i
              ∙ stored_front (problem_parts x) s.parts (replicate part_limit 0) n (omega (arith, length-replicate {A = ℕ} part_limit 0));
        }
    go (refused x) h i within held = not_refused x s h

module _ {o : Outcome} {s : Sizes} {codes : List ℕ} (t : Taken o s codes) where
  abbrev φ : Formula
  φ = formula_in t.problem

  pub taken_length : length (take s.parts codes) ≡ s.parts
  taken_length =
      ap length t.front ∙ length-map (problem_parts t.problem) code_of ∙ parts_counted t.problem ∙ sym (ap (λ (x : Sizes). x.parts) t.sizes)

  pub some_parts : 0 < length (take s.parts codes)
  some_parts = rw (t.front, length-map (problem_parts t.problem) code_of) (some_part t.problem)

  pub few_parts : s.parts ≤ part_limit
  few_parts = rw t.sizes t.within.parts

  pub few_signals : (s.outputs ≤ kind_limit) × (s.observed ≤ kind_limit) × (s.hidden ≤ kind_limit)
  few_signals = rw t.sizes (t.within.few.outputs, t.within.few.observed, t.within.few.hidden)

  -- the numbers hold the formula's parts
  pub taken_parts : parts_in (take s.parts codes) ≡ problem_parts t.problem
  taken_parts = ap parts_in t.front ∙ t.held

  -- and they stand as the states need them
  pub taken_ready : AllReady (parts_in (take s.parts codes))
  taken_ready = subst AllReady (sym taken_parts) (formed t.problem)

  pub judged_source : (π : Trace) (v : Result Bool Refusal)
      → v ≡ verdict_on (counts_of s) π (value_on (parts_in (take s.parts codes)) π (last_of (parts_in (take s.parts codes)))) → v ≡ judged_by o π
  judged_source π v e =
      rw t.is (e ∙ ap (λ ps. verdict_on (counts_of s) π (value_on ps π (last_of ps))) taken_parts ∙ verdict_holds (counts_of s) π φ
      ∙ ap (λ (x : Sizes). verdict_on (counts_of x) π (holds φ π)) t.sizes)

-- ---- the call

pub work_kept : (w : List ℕ) → length w < work_size → work_after w ≡ w
work_kept w h = rw (lt-ltb (length w) work_size h) refl

pub work_cleared : (w : List ℕ) → work_size ≤ length w → work_after w ≡ replicate (length w) 0
work_cleared w h = rw (le-ltb (length w) work_size h) refl

module _ (source work : List ℕ) (π : Trace) where
  abbrev Judged : Result Bool Refusal → Type 0
  Judged v = (v ≡ judged (length work) source π) × JudgedAs (length work) source π (told_verdict v)

  judged_told : (v : Result Bool Refusal) → v ≡ judged (length work) source π → Judged v
  judged_told v e = (e, subst (λ u. JudgedAs (length work) source π (told_verdict u)) (sym e) (judged_as (length work) source π))

  pub short_memory : length work < work_size
      → (Err ShortMemory ≡ judged (length work) source π) × (work ≡ work_after work) × JudgedAs (length work) source π (told_verdict (Err ShortMemory))
  unfolding judged
  short_memory h =
      let j = judged_told (Err ShortMemory) (rw (lt-ltb (length work) work_size h)) in
      (j.0, rw (lt-ltb (length work) work_size h) refl, j.1)

  pub long_memory : work_size ≤ length work → (v : Result Bool Refusal) → v ≡ judged_by (read_problem source) π
      → (v ≡ judged (length work) source π) × (replicate (length work) 0 ≡ work_after work) × JudgedAs (length work) source π (told_verdict v)
  unfolding judged
  long_memory h v e =
      let j = judged_told v (e ∙ rw (le-ltb (length work) work_size h) refl) in
      (j.0, rw (le-ltb (length work) work_size h) refl, j.1)

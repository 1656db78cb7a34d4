-- A trace is judged by the records that reading left, with the sizes that it answered, as it is judged by the text.
-- Assumes nothing.
use Rattle.lines.specs.declared.refusal.Refusal.{Refusal}
use Rattle.std.specs.Prelude.{Bool, Err, Ok, Result, false, true}
use Prim.Native.Nat.{ℕ, ◌≤◌, ◌<◌}
use native.Mathlib.Nat.{le_refl}
use native.Mathlib.Omega.{arith}
use mathlib.Core.Path.{◌≡◌, refl, sym, ap, ◌∙◌, subst}
use mathlib.Core.Logic.{◌↔◌, ◌⊎◌, inl, inr}
use mathlib.Core.Bool.{cond}
use mathlib.Core.List.{List}
use borrow.Author.Tests.{ltb-false, le-ltb}
use lib.Dec.{ltb}
use lib.ListN.{length, take, drop}
use lib.Seq.{take_at}
use Rattle.basics.specs.Lists.{written}
use Rattle.basics.proofs.Booleans.{test}
use Rattle.basics.proofs.ListsLaws.{written_rest}
use Rattle.formula.specs.Limits.{part_limit}
use Rattle.formula.specs.Semantics.{Trace}
use Rattle.formula.specs.declared.parts.Part.{Part}
use Rattle.formula.specs.Parts.{last_of, Earlier, formula_at}
use Rattle.formula.proofs.PartsLaws.{WellFormed, parts_formed, parts_formula}
use Rattle.lines.specs.declared.problem.Sizes.{Sizes}
use Rattle.lines.specs.declared.refusal.Refusal.TheVariants.{ShortMemory, BadTrace}
use Rattle.rules.specs.Limits.{work_size}
use Rattle.rules.specs.Problem.{Problem, formula_in, problem_parts, Outcome, accepted, refused, read_problem}
use Rattle.rules.specs.Denotes.{Denotes}
use Rattle.rules.specs.Reading.{sizes_of, reading_of}
use Rattle.rules.specs.Satisfies.{Satisfies}
use Rattle.rules.specs.Trace.{RightLength, IsTrace, FirstBad, counts_of, verdict_on}
use Rattle.rules.specs.Within.{FewCounted, Within, counts_in}
use Rattle.rules.specs.Judge.{judged, told_verdict, JudgedAs}
use Rattle.rules.proofs.DenotesLaws.{read_denotes, denotes_read}
use Rattle.rules.proofs.ProblemLaws.{parts_counted, some_part}
use Rattle.rules.proofs.ReadingLaws.{not_refused, same_sizes}
use Rattle.rules.proofs.TraceLaws.{verdict_holds}
use Rattle.rules.proofs.WithinLimits.{read_within}
use Rattle.rules.proofs.JudgedIffDue as text
use Rattle.records.specs.Reading.{read_into, records_after}
use Rattle.records.specs.Judging.{last_value, judged_in, verdict_once}
use Rattle.records.proofs.ReadingLaws.{up_to_length, up_to_all}
use Rattle.records.proofs.JudgingLaws.{few_iff, value_is}

-- sizes are answered exactly where enough records are lent and the text denotes a problem of these sizes
module _ (source : List ℕ) (old : List Part) (s : Sizes) where
  abbrev Denoted : Type 0
  Denoted = (part_limit ≤ length old) × ((p : Problem) × Denotes source p × (s ≡ sizes_of p))

  pub read_iff : (reading_of (read_into (length old) source) ≡ Ok s) ↔ Denoted
  unfolding read_into
  read_iff = (to, from)
    where
      at : part_limit ≤ length old → (o : Outcome) → read_problem source ≡ o → reading_of o ≡ Ok s → Denoted
      at h (accepted p) e i = (h, (p, read_denotes source p e, sym (same_sizes (sizes_of p) s i)))
      at h (refused r) e i = not_refused r s i

      to : reading_of (read_into (length old) source) ≡ Ok s → Denoted
      to e =
          elim (test (ltb (length old) part_limit)) [
            | inl t ↦ not_refused ShortMemory s (subst
                (λ b. reading_of (cond b (refused ShortMemory) (read_problem source)) ≡ Ok s) t e)
            | inr t ↦ at (ltb-false _ _ t) (read_problem source) refl
                (subst (λ b. reading_of (cond b (refused ShortMemory) (read_problem source)) ≡ Ok s) t e)
          ]

      from : Denoted → reading_of (read_into (length old) source) ≡ Ok s
      from (h, (p, d, e)) = rw (le-ltb (length old) part_limit h, denotes_read source p d) (ap Ok (sym e))

module _ (source : List ℕ) (old : List Part) (enough : part_limit ≤ length old) (p : Problem) (d : Denotes source p) where
  within : Within p
  within = read_within source p (denotes_read source p d)

  few_parts : length (problem_parts p) ≤ length old
  few_parts = omega (arith, parts_counted p, within.parts, enough)

  after_is : records_after source old ≡ written (problem_parts p) old
  unfolding read_into
  after_is = rw (le-ltb (length old) part_limit enough, denotes_read source p d) refl

  after_length : length (records_after source old) ≡ length old
  after_length =
      ap length (after_is ∙ sym (up_to_all (problem_parts p) old few_parts))
      ∙ up_to_length (problem_parts p) old few_parts (length (problem_parts p)) (omega arith)

  -- the parts stand at the front, and the records behind stay
  pub after_front : take (sizes_of p).parts (records_after source old) ≡ problem_parts p
  after_front = ap (take (sizes_of p).parts) after_is ∙ take_at (problem_parts p) _ (sizes_of p).parts (parts_counted p)

  -- each after its operands, and the last the whole formula
  abbrev front : List Part
  front = take (sizes_of p).parts (records_after source old)

  pub after_earlier : (i : ℕ) → i < (sizes_of p).parts → Earlier front i
  unfolding WellFormed
  after_earlier i h =
      let inside : i < length (problem_parts p) = omega (arith, h, parts_counted p) in
      subst (λ ps. Earlier ps i) (sym after_front) (parts_formed (formula_in p) i inside)

  pub after_formula : formula_at front (last_of front) ≡ formula_in p
  after_formula = ap (λ ps. formula_at ps (last_of ps)) after_front ∙ parts_formula (formula_in p)

  pub after_rest : drop (sizes_of p).parts (records_after source old) ≡ drop (sizes_of p).parts old
  after_rest = ap (drop (sizes_of p).parts) after_is ∙ written_rest (problem_parts p) old (sizes_of p).parts (parts_counted p)

  judged_once : (work : ℕ) → work_size ≤ work → (π : Trace)
      → judged_in (length (records_after source old)) (sizes_of p) (take (sizes_of p).parts (records_after source old)) π ≡ judged work source π
  unfolding judged
  judged_once work h π =
      let few : FewCounted (counts_of (sizes_of p)) = within.few in
      let lent : (sizes_of p).parts ≤ length (records_after source old) = omega (arith, after_length, parts_counted p, few_parts) in
      let some : ¬ ((sizes_of p).parts ≡ 0) = λ e. omega (arith, e, parts_counted p, some_part p) in
      value_is (length (records_after source old)) (sizes_of p) _ π lent ((few_iff (counts_of (sizes_of p))).1 few) within.parts some
      ∙ ap (λ ps. verdict_on (counts_of (sizes_of p)) π (last_value ps π)) after_front ∙ verdict_holds (counts_of (sizes_of p)) π (formula_in p)
      ∙ rw (le-ltb work work_size h, denotes_read source p d) refl

-- read once, judge many
module _ (source : List ℕ) (old : List Part) (s : Sizes) (read : reading_of (read_into (length old) source) ≡ Ok s) where
  pub as_judged : (work : ℕ) → work_size ≤ work → (π : Trace) → verdict_once source old s π ≡ judged work source π
  as_judged work h π =
      let (enough, (p, d, e)) = (read_iff source old s).0 read in
      ap (λ (z : Sizes). judged_in (length (records_after source old)) z (take z.parts (records_after source old)) π) e
      ∙ judged_once source old enough p d work h π

  pub once_due : (work : ℕ) → work_size ≤ work → (π : Trace) → JudgedAs work source π (told_verdict (verdict_once source old s π))
  once_due work h π = (text.judged_iff work source π (told_verdict (verdict_once source old s π))).0 (ap told_verdict (sym (as_judged work h π)))

  -- verdict by verdict
  module _ (π : Trace) where
    by_text : {v : Result Bool Refusal} {C : Type 0} → (judged work_size source π ≡ v) ↔ C → (verdict_once source old s π ≡ v) ↔ C
    by_text (to, from) = (λ e. to (sym (as_judged work_size (le_refl _) π) ∙ e), λ c. as_judged work_size (le_refl _) π ∙ from c)

    pub true_iff : (verdict_once source old s π ≡ Ok true) ↔ ((p : Problem) × Denotes source p × IsTrace (counts_in p.signals) π × Satisfies π p)
    true_iff = by_text (text.true_iff work_size source π (le_refl _))

    pub false_iff : (verdict_once source old s π ≡ Ok false) ↔ ((p : Problem) × Denotes source p × IsTrace (counts_in p.signals) π × (¬ Satisfies π p))
    false_iff = by_text (text.false_iff work_size source π (le_refl _))

    pub bad_trace_iff : (step : ℕ) → (verdict_once source old s π ≡ Err (BadTrace step))
        ↔ ((p : Problem) × Denotes source p × (((step ≡ 0) × ¬ RightLength π) ⊎ (RightLength π × FirstBad (counts_in p.signals) π step)))
    bad_trace_iff step = by_text (text.bad_trace_iff work_size source π (le_refl _) step)

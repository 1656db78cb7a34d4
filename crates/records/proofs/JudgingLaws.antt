-- What the code answers where it judges by a list of parts.
-- Assumes nothing.
use Rattle.std.specs.Prelude.{Err}
use Prim.Native.Nat.{ℕ, ◌+◌, ◌≤◌, ◌<◌}
use native.Mathlib.Numerals.{add-one}
use native.Mathlib.Omega.{arith}
use mathlib.Core.Path.{◌≡◌, refl, sym, ap, ◌∙◌, subst}
use mathlib.Core.Logic.{◌↔◌, inl, inr}
use mathlib.Core.Bool.{Bool, true, false, ◌&&◌}
use mathlib.Core.List.{List, [], ◌∷◌, ◌++◌, map-append}
use borrow.Author.Tests.{leb-true, ltb-true, ltb-false, lt-ltb, le-ltb, le-leb, eq-eqb, ne_eqb}
use lib.Dec.{leb, ltb}
use lib.ListN.{length, get_or, set, take, drop, replicate, length-map, length-replicate}
use lib.Seq.{take-suc, take_at, length-take-le}
use Rattle.basics.specs.Limits.{kind_limit, signal_limit}
use Rattle.basics.proofs.Booleans.{test, and_left, and_right}
use Rattle.basics.proofs.Filling.{put_next}
use Rattle.formula.specs.Limits.{part_limit}
use Rattle.formula.specs.Letter.{Counts}
use Rattle.formula.specs.Semantics.{Trace}
use Rattle.formula.specs.declared.parts.Part.{Part}
use Rattle.formula.specs.Parts.{no_part}
use Rattle.formula.specs.Codes.{code_of, codes_of, parts_in}
use Rattle.formula.proofs.CodesLaws.{Bytes, Held, part_coded, held_append}
use Rattle.lines.specs.declared.problem.Sizes.{Sizes}
use Rattle.lines.specs.declared.refusal.Refusal.TheVariants.{ShortMemory, TooManySignals, TooManyParts, NoFormula}
use Rattle.rules.specs.Trace.{counts_of, verdict_on}
use Rattle.records.specs.declared.listing.PartList.{PartList}
use Rattle.rules.specs.Within.{FewCounted}
use Rattle.records.specs.Judging.{few_counted, last_value, judged_in, count_taken, list_to}

-- ---- few enough signals

-- four tests at once
all_four : (a b c d : Bool) → a && (b && (c && d)) ≡ true → (a ≡ true) × (b ≡ true) × (c ≡ true) × (d ≡ true)
all_four a b c d e =
    let f = and_right a (b && (c && d)) e in
    let g = and_right b (c && d) f in
    (and_left a (b && (c && d)) e, and_left b (c && d) f, and_left c d g, and_right c d g)

-- the test says so
pub few_iff : (c : Counts) → (few_counted c ≡ true) ↔ FewCounted c
unfolding few_counted
few_iff c = (
  λ e.
      let f = all_four (leb c.outputs kind_limit) (leb c.observed kind_limit) (leb c.hidden kind_limit)
      (leb (c.outputs + c.observed + c.hidden) signal_limit) e in
      record {
        outputs = leb-true _ _ f.0;
        observed = leb-true _ _ f.1;
        hidden = leb-true _ _ f.2;
        total = leb-true _ _ f.3;
      },
  λ h. rw (le-leb _ _ h.outputs, le-leb _ _ h.observed, le-leb _ _ h.hidden, le-leb _ _ h.total),
)

-- ---- the answer, test by test

module _ (room : ℕ) (s : Sizes) (ps : List Part) (π : Trace) where
  pub short_is : room < s.parts → judged_in room s ps π ≡ Err ShortMemory
  unfolding judged_in
  short_is h = rw (lt-ltb room s.parts h)

  module _ (lent : s.parts ≤ room) where
    pub signals_is : few_counted (counts_of s) ≡ false → judged_in room s ps π ≡ Err (TooManySignals 0)
    unfolding judged_in
    signals_is e = rw (le-ltb room s.parts lent, e)

    module _ (few : few_counted (counts_of s) ≡ true) where
      pub many_is : part_limit < s.parts → judged_in room s ps π ≡ Err (TooManyParts 0)
      unfolding judged_in
      many_is h = rw (le-ltb room s.parts lent, few, lt-ltb part_limit s.parts h)

      module _ (fits : s.parts ≤ part_limit) where
        pub none_is : s.parts ≡ 0 → judged_in room s ps π ≡ Err NoFormula
        unfolding judged_in
        none_is e = rw (le-ltb room s.parts lent, few, le-ltb part_limit s.parts fits, eq-eqb s.parts 0 e)

        pub value_is : ¬ (s.parts ≡ 0) → judged_in room s ps π ≡ verdict_on (counts_of s) π (last_value ps π)
        unfolding judged_in
        value_is n = rw (le-ltb room s.parts lent, few, le-ltb part_limit s.parts fits, ne_eqb s.parts 0 n)

-- ---- how many records are listed

module _ (room : ℕ) (s : Sizes) where
  count_all : s.parts ≤ room → s.parts ≤ part_limit → s.parts ≡ count_taken room s
  count_all l h = rw (le-ltb room s.parts l, le-ltb part_limit s.parts h) refl

-- ---- the records as a list of numbers

pub held_none : Held []
unfolding parts_in
held_none = refl

module _ (ys : List Part) (i : ℕ) (few : i < part_limit) (inside : i < length ys) where
  abbrev part : Part
  part = get_or ys i no_part

  -- one more of them
  taken_more : take (i + 1) ys ≡ take i ys ++ (part ∷ [])
  taken_more = ap (λ n. take n ys) (add-one i) ∙ take-suc ys i no_part inside

  pub list_more : (r : PartList) → r ≡ record { codes = set (list_to ys i).codes i (code_of part) } → r ≡ list_to ys (i + 1)
  list_more r e =
      let zeros = replicate {A = ℕ} part_limit 0 in
      let long : length (codes_of (take i ys)) ≡ i = length-map (take i ys) code_of ∙ length-take-le i ys (omega arith) in
      let room : i < length zeros = rw (length-replicate {A = ℕ} part_limit 0) few in
      let codes : codes_of (take i ys) ++ (code_of part ∷ []) ≡ codes_of (take (i + 1) ys)
      = sym (ap codes_of taken_more ∙ map-append code_of (take i ys) (part ∷ [])) in
      e ∙ ap (λ us. record { codes = us }) (put_next (codes_of (take i ys)) zeros i (code_of part) long room
      ∙ ap (λ us. us ++ drop (i + 1) zeros) codes)

  -- and their numbers hold them, if each holds bytes, as every record in memory does
  pub held_more : Held (take i ys) → Bytes part → Held (take (i + 1) ys)
  unfolding parts_in
  held_more h b =
      subst Held (sym taken_more) (held_append (take i ys) (part ∷ []) h (ap (λ q. q ∷ []) (part_coded part b)))

module _ (room : ℕ) (s : Sizes) where
  pub count_room : count_taken room s ≤ room
  count_room = elim (test (ltb room s.parts)) [
    | inl e ↦ rw e (omega arith)
    | inr e ↦ elim (test (ltb part_limit s.parts)) [ inl f ↦ rw (e, f) (omega arith) | inr f ↦ rw (e, f) (ltb-false _ _ e) ]
  ]

  pub count_few : count_taken room s ≤ part_limit
  count_few = elim (test (ltb room s.parts)) [
    | inl e ↦ rw e (omega arith)
    | inr e ↦ elim (test (ltb part_limit s.parts)) [ inl f ↦ rw (e, f) (omega arith) | inr f ↦ rw (e, f) (ltb-false _ _ f) ]
  ]

-- the parts are not looked at where too many are counted
same_many : (room : ℕ) (s : Sizes) (ps qs : List Part) (π : Trace) → part_limit < s.parts → judged_in room s ps π ≡ judged_in room s qs π
unfolding judged_in
same_many room s ps qs π h = rw (lt-ltb part_limit s.parts h) refl

-- judging by the list of the records is judging by the records
pub judged_list : (ys : List Part) (s : Sizes) (π : Trace) → Held (take (count_taken (length ys) s) ys)
    → judged_in (length ys) s (parts_in (take s.parts (list_to ys (count_taken (length ys) s)).codes)) π ≡ judged_in (length ys) s
    (take s.parts ys) π
judged_list ys s π held =
    elim (test (ltb (length ys) s.parts)) [
      | inl e ↦ short_is (length ys) s _ π (ltb-true _ _ e) ∙ sym (short_is (length ys) s _ π (ltb-true _ _ e))
      | inr e ↦ elim (test (ltb part_limit s.parts)) [
        | inl f ↦ same_many (length ys) s _ _ π (ltb-true _ _ f)
        | inr f ↦ all (ltb-false _ _ e) (ltb-false _ _ f)
      ]
    ]
  where
    all : s.parts ≤ length ys → s.parts ≤ part_limit
        → judged_in (length ys) s (parts_in (take s.parts (list_to ys (count_taken (length ys) s)).codes)) π ≡ judged_in (length ys) s
        (take s.parts ys) π
    all l h =
        let n : count_taken (length ys) s ≡ s.parts = sym (count_all (length ys) s l h) in
        let held' : Held (take s.parts ys) = subst (λ k. Held (take k ys)) n held in
        let long : length (codes_of (take s.parts ys)) ≡ s.parts = length-map (take s.parts ys) code_of ∙ length-take-le
        s.parts ys l in
        ap (λ ps. judged_in (length ys) s ps π)
        (ap (λ k. parts_in (take s.parts (list_to ys k).codes)) n ∙ ap parts_in (take_at (codes_of (take s.parts ys)) _ s.parts long)
        ∙ held')

-- Reading line by line: what is kept between lines, and what each way out of the loop answers. Assumes nothing.
use Rattle.std.specs.Prelude.{Err, None, Ok, Result, Option, Some}
use Prim.Native.Nat.{ℕ, suc, ◌+◌, ◌≤◌, ◌<◌}
use native.Mathlib.Numerals.{add-one}
use native.Mathlib.Omega.{arith}
use mathlib.Core.Path.{◌≡◌, refl, sym, ap, ◌∙◌, subst}
use mathlib.Core.Bool.{false}
use mathlib.Core.List.{List, [], ◌∷◌, ◌++◌}
use borrow.Author.Tests.{ltb-false, lt-ltb, le-ltb, eqb-false}
use lib.Dec.{eqb, ltb}
use lib.ListN.{length, drop, replicate}
use lib.Seq.{length-sets}
use Rattle.basics.specs.Bytes.{not_line_end, past, between}
use Rattle.grammar.specs.Names.{Name, bits}
use Rattle.lines.specs.declared.refusal.Refusal.{Refusal}
use Rattle.lines.specs.declared.refusal.Refusal.TheVariants.{LongSource, BadLine, NoFormula}
use Rattle.lines.specs.declared.problem.Kind.{Kind}
use Rattle.lines.specs.declared.problem.Kind.TheVariants.{Output, Observed, Hidden}
use Rattle.lines.specs.declared.problem.Sizes.{Sizes}
use Rattle.basics.specs.Limits.{kind_limit, operator_limit}
use Rattle.rules.specs.Limits.{source_limit}
use Rattle.formula.specs.Limits.{part_limit}
use Rattle.formula.specs.Formula.{Formula, size, operators}
use Rattle.lines.specs.Lines.{lines}
use Rattle.basics.specs.declared.order.Order.{Order}
use Rattle.rules.specs.Problem.{rule, joined, joined_lines, size_in, operators_in, Draft, part_count, operator_count, Outcome, accepted, refused}
use Rattle.rules.specs.Problem.{finish, with_declared, with_formula, with_order, after, read_lines, blank, read_problem}
use Rattle.lines.specs.Effect.{with_name, is_full, joint, Effect, declares, states, orders, refuses, with_signal}
use Rattle.lines.specs.Memory.{signals_in, more_signals, more_parts, order_in, fix_order, added_parts, stored_from}
use Rattle.lines.specs.Memory.{reading_after, names_after, parts_after, Kept, line_effect, LineRead}
use Rattle.rules.specs.Reading.{reading_of, PartsRead, parts_of_outcome}
use Rattle.basics.proofs.BytesLaws.{past_in}
use Rattle.rules.proofs.JoinedFormulas.{written, stored_joined, size_joined, operators_joined, joined_more, joined_some, no_parts_lem}
use Rattle.rules.proofs.DenotesLaws.{finish_some}
use Rattle.basics.proofs.Booleans.{or_left, or_right}
use Rattle.lines.proofs.LinesLaws.{lines_none, lines_ended, lines_unended}
use Rattle.lines.proofs.EffectLaws.{declaring, stating}

-- ---- what is kept between lines

-- reading goes on at place `at`, line `line`, as it began, with what the memory holds
pub record Going (source p₀ : List ℕ) (at line : ℕ) (s : Sizes) (names : List Name) (p : List ℕ) : Type 0 where
  pub draft : Draft
  pub inside : at ≤ length source
  pub numbered : line ≤ at + 1
  pub rest : read_lines line (lines (drop at source)) draft ≡ read_lines 1 (lines source) blank
  pub signals : draft.signals ≡ signals_in s names
  pub parts : part_count draft ≡ s.parts
  pub operators : operator_count draft ≡ s.operators
  pub order : draft.order ≡ s.order
  pub stored : p ≡ stored_from (written (joined_lines draft.lines)) 0 p₀
  pub kept : Kept s p

abbrev pub no_sizes : Sizes
no_sizes = record { outputs = 0; observed = 0; hidden = 0; parts = 0; operators = 0; order = None }

pub begin : (source p : List ℕ) → length p ≡ part_limit → Going source p 0 1 no_sizes (replicate bits []) p
unfolding written
begin source p h =
    record {
      draft = blank;
      inside = omega arith;
      numbered = omega arith;
      rest = refl;
      signals = refl;
      parts = refl;
      operators = refl;
      order = refl;
      stored = refl;
      kept = record {
        outputs_few = omega arith;
        observed_few = omega arith;
        hidden_few = omega arith;
        parts_few = omega arith;
        operators_few = omega arith;
        parts_long = h;
      };
    }

-- ---- one more line

-- the counts after a signal for which there was room
more_few : (names : List Name) (k : Kind) (s : Sizes) → is_full k (signals_in s names) ≡ false → (s.outputs ≤ kind_limit) ×
    (s.observed ≤ kind_limit) × (s.hidden ≤ kind_limit)
    → ((more_signals k s).outputs ≤ kind_limit) × ((more_signals k s).observed ≤ kind_limit) × ((more_signals k s).hidden ≤ kind_limit)
more_few names Output s f h = let n = eqb-false s.outputs kind_limit (or_left (eqb s.outputs kind_limit) _ f) in omega (arith, n)
more_few names Observed s f h = let n = eqb-false s.observed kind_limit (or_left (eqb s.observed kind_limit) _ f) in omega (arith, n)
more_few names Hidden s f h = let n = eqb-false s.hidden kind_limit (or_left (eqb s.hidden kind_limit) _ f) in omega (arith, n)

pub signals_more : (k : Kind) (name : Name) (s : Sizes) (names : List Name)
    → signals_in (more_signals k s) (with_name k name (signals_in s names)) ≡ with_signal k name (signals_in s names)
signals_more Output name s names = refl
signals_more Observed name s names = refl
signals_more Hidden name s names = refl

same_parts : (k : Kind) (s : Sizes)
    → ((more_signals k s).parts ≡ s.parts) × ((more_signals k s).operators ≡ s.operators) × ((more_signals k s).order ≡ s.order)
same_parts Output s = (refl, refl, refl)
same_parts Observed s = (refl, refl, refl)
same_parts Hidden s = (refl, refl, refl)

pub not_refused : {C : Type 0} (x : Refusal) (t : Sizes) → Err x ≡ Ok t → C
not_refused x t e = let z : ◌≡◌ {A = ℕ} 0 1 = cc in absurd (omega arith)

pub same_sizes : (s t : Sizes) → ◌≡◌ {A = Result Sizes Refusal} (Ok s) (Ok t) → s ≡ t
same_sizes s t e = cc

pub same_refusal : (x y : Refusal) → ◌≡◌ {A = Result Sizes Refusal} (Err x) (Err y) → x ≡ y
same_refusal x y e = cc

module _ {source p₀ : List ℕ} {at line : ℕ} {s : Sizes} {names : List Name} {p : List ℕ} (g : Going source p₀ at line s names p) where
  -- the problem that is read
  abbrev whole : Outcome
  whole = read_lines 1 (lines source) blank

  module _ {end : ℕ} (e : end ≡ past not_line_end source at) (h : at < length source) where
    pub line_in : (at ≤ end) × (end ≤ length source)
    line_in = subst (λ n. (at ≤ n) × (n ≤ length source)) (sym e) (past_in not_line_end source at (omega arith))

    pub unended_line : end ≡ length source → whole ≡ refused (BadLine line)
    unfolding read_lines
    unended_line q = sym g.rest ∙ ap (λ ls. read_lines line ls g.draft) (lines_unended source at end e h q)

    module _ (l : end < length source) where
      abbrev effect : Effect
      effect = line_effect (between source at end) line s names

      rest_after : whole ≡ after effect g.draft (read_lines (suc line) (lines (drop (end + 1) source)))
      unfolding read_lines
      rest_after =
          sym g.rest ∙ ap (λ ls. read_lines line ls g.draft) (lines_ended source at end e g.inside l)
          ∙ rw (g.signals, g.parts, g.operators, g.order)

      module _ {names' : List Name} {p' : List ℕ} {r : Result Sizes Refusal} (d : LineRead (between source at end) line s names p names' p' r) where
        pub refused_line : (x : Refusal) → r ≡ Err x → whole ≡ refused x
        refused_line x q = go effect refl
          where
            go : (f : Effect) → effect ≡ f → whole ≡ refused x
            go (declares k name) i = not_refused x _ (sym q ∙ d.reading ∙ ap (λ f. reading_after f s) i)
            go (states φ) i = not_refused x _ (sym q ∙ d.reading ∙ ap (λ f. reading_after f s) i)
            go (orders o) i = not_refused x _ (sym q ∙ d.reading ∙ ap (λ f. reading_after f s) i)
            go (refuses y) i =
                rest_after ∙ ap (λ f. after f g.draft (read_lines (suc line) (lines (drop (end + 1) source)))) i
                ∙ ap refused (sym (same_refusal x y (sym q ∙ d.reading ∙ ap (λ f. reading_after f s) i)))

        goes_on_lem : (f : Effect) → effect ≡ f → after f g.draft (read_lines (suc line) (lines (drop (end + 1) source))) ≡ whole
        goes_on_lem f i = sym (rest_after ∙ ap (λ x. after x g.draft (read_lines (suc line) (lines (drop (end + 1) source)))) i)

        -- the memory after a signal
        declares_going : (k : Kind) (name : List ℕ) → effect ≡ declares k name → (t : Sizes) → r ≡ Ok t → Going source p₀ (end + 1) (line + 1) t names' p'
        declares_going k name i t q =
            let b = declaring line (between source at end) (signals_in s names) s.parts s.operators s.order k name i in
            let kept = g.kept in
            let few = more_few names k s b.room (kept.outputs_few, kept.observed_few, kept.hidden_few) in
            let sizes : more_signals k s ≡ t = same_sizes _ t (sym (ap (λ f. reading_after f s) i) ∙ sym d.reading ∙ q) in
            let here : names' ≡ with_name k name (signals_in s names) = d.names_left ∙ ap (λ f. names_after f s names) i in
            let left : p' ≡ p = d.parts_left ∙ ap (λ f. parts_after f s p) i in
            rw (← sizes, here, left)
            (record {
              draft = with_declared k name g.draft;
              inside = omega arith;
              numbered = omega (arith, g.numbered, line_in);
              rest = rw (add-one line) (goes_on_lem (declares k name) i);
              signals = ap (with_signal k name) g.signals ∙ sym (signals_more k name s names);
              parts = g.parts ∙ sym (same_parts k s).0;
              operators = g.operators ∙ sym (same_parts k s).1;
              order = g.order ∙ sym (same_parts k s).2;
              stored = g.stored;
              kept = record {
                outputs_few = few.0;
                observed_few = few.1;
                hidden_few = few.2;
                parts_few = rw (same_parts k s).0 kept.parts_few;
                operators_few = rw (same_parts k s).1 kept.operators_few;
                parts_long = kept.parts_long;
              };
            })

        -- the memory after a formula
        states_going : (φ : Formula) → effect ≡ states φ → (t : Sizes) → r ≡ Ok t → Going source p₀ (end + 1) (line + 1) t names' p'
        states_going φ i t q =
            let kept = g.kept in
            let f : Option Formula = joined_lines g.draft.lines in
            let joined_now : joined_lines (g.draft.lines ++ (rule φ ∷ [])) ≡ Some (joined f φ) = joined_more g.draft.lines φ in
            let small = stating line (between source at end) (signals_in s names) s.parts s.operators s.order φ i in
            let sizes : more_parts (size φ) (operators φ) s ≡ t = same_sizes _ t (sym (ap (λ f. reading_after f s) i) ∙ sym d.reading ∙ q) in
            let here : names' ≡ names = d.names_left ∙ ap (λ f. names_after f s names) i in
            let left : p' ≡ stored_from (added_parts φ s.parts) s.parts p = d.parts_left ∙ ap (λ f. parts_after f s p) i in
            rw (← sizes, here, left)
            (record {
              draft = with_formula φ g.draft;
              inside = omega arith;
              numbered = omega (arith, g.numbered, line_in);
              rest = rw (add-one line) (goes_on_lem (states φ) i);
              signals = g.signals;
              parts = ap size_in joined_now ∙ sym (size_joined f φ) ∙ ap (λ n. n + size φ + joint n) g.parts;
              operators = ap operators_in joined_now ∙ sym (operators_joined f φ) ∙ ap (λ n. n + operators φ) g.operators;
              order = g.order;
              stored = ap (λ n. stored_from (added_parts φ n) n p) (sym g.parts)
                  ∙ ap (stored_from (added_parts φ (size_in f)) (size_in f)) g.stored
                  ∙ stored_joined f φ p₀ ∙ ap (λ x. stored_from (written x) 0 p₀) (sym joined_now);
              kept = record {
                outputs_few = kept.outputs_few;
                observed_few = kept.observed_few;
                hidden_few = kept.hidden_few;
                parts_few = ltb-false part_limit _ (or_left _ _ small);
                operators_few = ltb-false operator_limit _ (or_right (ltb part_limit (s.parts + size φ + joint s.parts)) _ small);
                parts_long = simp length-sets kept.parts_long;
              };
            })

        -- the memory after an order
        orders_going : (o : Order) → effect ≡ orders o → (t : Sizes) → r ≡ Ok t → Going source p₀ (end + 1) (line + 1) t names' p'
        orders_going o i t q =
            let kept = g.kept in
            let sizes : fix_order o s ≡ t = same_sizes _ t (sym (ap (λ f. reading_after f s) i) ∙ sym d.reading ∙ q) in
            let here : names' ≡ names = d.names_left ∙ ap (λ f. names_after f s names) i in
            let left : p' ≡ p = d.parts_left ∙ ap (λ f. parts_after f s p) i in
            rw (← sizes, here, left)
            (record {
              draft = with_order o g.draft;
              inside = omega arith;
              numbered = omega (arith, g.numbered, line_in);
              rest = rw (add-one line) (goes_on_lem (orders o) i);
              signals = g.signals;
              parts = g.parts;
              operators = g.operators;
              order = refl;
              stored = g.stored;
              kept = record {
                outputs_few = kept.outputs_few;
                observed_few = kept.observed_few;
                hidden_few = kept.hidden_few;
                parts_few = kept.parts_few;
                operators_few = kept.operators_few;
                parts_long = kept.parts_long;
              };
            })

        pub accepted_line : (t : Sizes) → r ≡ Ok t → Going source p₀ (end + 1) (line + 1) t names' p'
        accepted_line t q = go effect refl
          where
            go : (f : Effect) → effect ≡ f → Going source p₀ (end + 1) (line + 1) t names' p'
            go (declares k name) i = declares_going k name i t q
            go (states φ) i = states_going φ i t q
            go (orders o) i = orders_going o i t q
            go (refuses x) i = not_refused x t (sym (ap (λ f. reading_after f s) i) ∙ sym d.reading ∙ q)

  -- ---- no more lines

  module _ (h : length source ≤ at) where
    finished : whole ≡ finish g.draft.signals g.draft.order g.draft.lines
    unfolding read_lines
    finished = sym g.rest ∙ ap (λ ls. read_lines line ls g.draft) (lines_none source at h)

    pub no_formula : s.parts ≡ 0 → whole ≡ refused NoFormula
    no_formula z = finished ∙ ap (finish g.draft.signals g.draft.order) (no_parts_lem g.draft.lines (g.parts ∙ z))

    -- a problem that is read has the counts and the order that are kept, and its parts are stored
    pub some_formula : (s.parts ≡ 0 → ⊥) → (t : Sizes) → t ≡ fix_order (order_in s) s → (Ok t ≡ reading_of whole) × PartsRead whole p₀ p
    unfolding written
    some_formula z t i =
        let some_line : ¬ (g.draft.lines ≡ []) = λ e. z (sym g.parts ∙ ap (λ ls. size_in (joined_lines ls)) e) in
        let (φ, e) = joined_some g.draft.lines some_line in
        rw (finished, finish_some g.draft.signals g.draft.order g.draft.lines some_line, i)
        (rw (g.signals, g.order, e, sym (ap size_in e) ∙ g.parts, sym (ap operators_in e) ∙ g.operators)
        (refl, g.stored ∙ ap (λ f. stored_from (written f) 0 p₀) e))

pub refused_answer : (o : Outcome) (x : Refusal) (q q' : List ℕ) → o ≡ refused x → (Err x ≡ reading_of o) × PartsRead o q q'
refused_answer o x q q' e = rw e (refl, tt)

-- ---- the whole text

pub long_source : (source q q' : List ℕ) → source_limit < length source
    → (Err LongSource ≡ reading_of (read_problem source)) × PartsRead (read_problem source) q q'
unfolding read_problem
long_source source q q' h = rw (lt-ltb source_limit (length source) h) (refl, tt)

pub short_source : (source : List ℕ) → length source ≤ source_limit → read_lines 1 (lines source) blank ≡ read_problem source
unfolding read_problem
short_source source h = rw (le-ltb source_limit (length source) h)

-- what is left in the list
module _ (o : Outcome) (r : Result Sizes Refusal) (e : r ≡ reading_of o) (p : List ℕ) where
  pub parts_accepted : (s : Sizes) → r ≡ Ok s → (q : List ℕ) → PartsRead o p q → q ≡ parts_of_outcome o p
  parts_accepted s a q h = go o (sym e ∙ a) h
    where
      go : (o : Outcome) → reading_of o ≡ Ok s → PartsRead o p q → q ≡ parts_of_outcome o p
      go (accepted x) i h = h
      go (refused x) i h = not_refused x s i

  pub parts_refused : (x : Refusal) → r ≡ Err x → (k : ℕ) → k ≡ length p → replicate k 0 ≡ parts_of_outcome o p
  parts_refused x a k l = go o (sym e ∙ a)
    where
      go : (o : Outcome) → reading_of o ≡ Err x → replicate k 0 ≡ parts_of_outcome o p
      go (accepted y) i = not_refused x _ (sym i)
      go (refused y) i = rw l

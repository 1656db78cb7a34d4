-- A line is read or refused exactly as its effect says. Assumes nothing.
use Rattle.std.specs.Prelude.{None, Option, Some}
use Prim.Native.Nat.{ℕ}
use native.Mathlib.Omega.{arith}
use mathlib.Core.Path.{◌≡◌, refl, sym, ap, subst, ◌∙◌}
use mathlib.Core.Logic.{inl, inr}
use mathlib.Core.Bool.{true, false, not}
use mathlib.Core.List.{List}
use lib.ListN.{length, length-set}
use Rattle.basics.specs.Says.{Says}
use Rattle.basics.proofs.SaysLaws.{says_false}
use borrow.Author.Tests.{not-false, not-true}
use Rattle.syntax.specs.Lex.{tokens}
use Rattle.grammar.specs.Parse.{Res, none, some}
use Rattle.grammar.specs.PlanParse.{parse_formula}
use Rattle.grammar.specs.Names.{Name, bits}
use Rattle.formula.specs.Formula.{Formula}
use Rattle.grammar.proofs.ReadIffDerived.{sound, found, refused_iff}
use Rattle.basics.proofs.Booleans.{test, clash, cond_elim}
use Rattle.lines.specs.declared.refusal.Refusal.{Refusal}
use Rattle.lines.specs.declared.refusal.Refusal.TheVariants.{BadLine, NameTwice, TooManySignals, BadFormula, UnknownName, TooManyParts}
use Rattle.lines.specs.declared.problem.Kind.{Kind}
use Rattle.lines.specs.Refusal.{number_of, place_of}
use Rattle.basics.specs.declared.order.Order.{Order}
use Rattle.lines.specs.Lines.{declare_line, rule_line, order_line, is_name, is_text}
use Rattle.lines.specs.Effect.{Signals, with_signal, is_declared, is_full, all_declared, is_large, Effect, declares, states, orders, refuses}
use Rattle.lines.specs.Effect.{declare_effect, read_effect, state_effect, order_effect}
use Rattle.lines.proofs.LineCases.{LineCase, same_name, same_text, not_both, declare_no_order, rule_no_order, open_fixed}
use Rattle.lines.proofs.LineCases.{line_case, declare_line_lem, rule_line_lem, order_line_lem}
use Rattle.lines.proofs.LineCases as case
use Rattle.rules.specs.Problem.{Draft, part_count, operator_count, with_declared, with_formula, with_order, Outcome, after, effect_after, blank}
use Rattle.rules.specs.Within.{Few}
use Rattle.rules.specs.Denotes.{IsDeclared, AllDeclared, stated_formula, Fits, Reads, declared, stated, ordered}
use Rattle.rules.specs.Refuses.{LineRefused, bad_line, name_twice, too_many_signals, bad_formula, unknown_name, too_many_parts}
use Rattle.rules.proofs.LineTests.{names_more, declared_says, all_declared_says, few_more, few_room, small_fits, fits_small}

-- what holds of the signals between lines
pub record Sound (g : Signals) : Type 0 where
  pub few : Few g
  pub all : length g.names ≡ bits

pub sound_blank : Sound blank.signals
sound_blank =
    record { few = record { outputs = omega arith; observed = omega arith; hidden = omega arith; total = omega arith }; all = refl }

pub sound_after : {d d' : Draft} {bytes : List ℕ} → Sound d.signals → Reads d bytes d' → Sound d'.signals
sound_after {d} s (declared k name named new few) =
    record { few = few; all = ap length (names_more k name d.signals) ∙ length-set d.signals.names _ name ∙ s.all }
sound_after s (stated text a is derives known fits) = s
sound_after s (ordered o first) = s

module _ (d : Draft) (s : Sound d.signals) (line : ℕ) where
  -- what an effect says of a line
  abbrev pub Said : List ℕ → Effect → Type 0
  Said bytes (declares k name) = Reads d bytes (with_declared k name d)
  Said bytes (states φ) = Reads d bytes (with_formula φ d)
  Said bytes (orders o) = Reads d bytes (with_order o d)
  Said bytes (refuses r) = LineRefused d bytes (number_of r) × (place_of r ≡ line)

  -- the tests
  abbrev declares_says : (name : Name) → Says (is_declared d.signals name) (IsDeclared d.signals name)
  declares_says name = declared_says d.signals s.all name

  abbrev knows_says : (text : List ℕ) → Says (all_declared d.signals text (tokens text 0)) (AllDeclared d.signals text)
  knows_says text = all_declared_says d.signals s.all text

  declare_said : (k : Kind) (name : Name) → Said (declare_line k name) (declare_effect line k name d.signals)
  unfolding declare_effect
  declare_said k name =
      let S = Said (declare_line k name) in
      cond_elim S (not (is_name name)) _ _
      (λ b. (
        bad_line (λ j x e t. clash (subst (λ y. is_name y ≡ true) (sym (same_name k j name x e)) t) (not-true _ b))
            (λ x e. absurd (not_both k name x e)) (λ o e. absurd (declare_no_order k name o e)),
        refl,
      ))
      (λ b. cond_elim S (is_declared d.signals name) _ _ (λ t. (name_twice k name (not-false _ b) ((declares_says name).0 t), refl))
      (λ f. let new : ¬ IsDeclared d.signals name = λ m. clash ((declares_says name).1 m) f in
      cond_elim S (is_full k d.signals) _ _
      (λ t. (too_many_signals k name (not-false _ b) new (λ w. clash t (few_room d.signals k name w)), refl))
      (λ r. declared k name (not-false _ b) new (few_more d.signals s.few k name r))))

  read_said : (text : List ℕ) → is_text text ≡ true → (res : Res) → parse_formula text ≡ res
      → Said (rule_line text) (read_effect line text res d.signals (part_count d) (operator_count d))
  read_said text t none e = (bad_formula text t ((refused_iff text).0 e), refl)
  read_said text t (some a next) e =
      let S = Said (rule_line text) in
      let derived = sound text a next e in
      cond_elim S (not (all_declared d.signals text (tokens text 0))) _ _
      (λ b. (unknown_name text a t derived (λ f. clash ((knows_says text).1 f) (not-true _ b)), refl))
      (λ b. let known = (knows_says text).0 (not-false _ b) in
      cond_elim S (is_large (part_count d) (operator_count d) (stated_formula d text a)) _ _
      (λ l. (too_many_parts text a t derived known (λ f. clash l (fits_small d (stated_formula d text a) f)), refl))
      (λ l. stated text a t derived known (small_fits d (stated_formula d text a) l)))

  state_said : (text : List ℕ) → Said (rule_line text) (state_effect line text d.signals (part_count d) (operator_count d))
  unfolding state_effect
  state_said text =
      cond_elim (Said (rule_line text)) (not (is_text text)) _ _
      (λ b. (
        bad_line (λ k name e. absurd (not_both k name text (sym e)))
            (λ x e t. clash (subst (λ y. is_text y ≡ true) (sym (same_text text x e)) t) (not-true _ b))
            (λ o e. absurd (rule_no_order text o e)),
        refl,
      ))
      (λ b. read_said text (not-false _ b) (parse_formula text) refl)

  order_said : (o : Order) → Said (order_line o) (order_effect line d.order (Some o))
  order_said o = go d.order refl
    where
      go : (before : Option Order) → d.order ≡ before → Said (order_line o) (order_effect line before (Some o))
      go None e = ordered o e
      go (Some x) e = (
        bad_line (λ k name q. absurd (declare_no_order k name o (sym q))) (λ text q. absurd (rule_no_order text o (sym q)))
            (λ _ _ first. open_fixed (sym first ∙ e)),
        refl,
      )

  abbrev declare_is : (k : Kind) (name : Name) → effect_after line (declare_line k name) d ≡ declare_effect line k name d.signals
  declare_is k name = declare_line_lem line d.signals (part_count d) (operator_count d) d.order k name

  abbrev rule_is : (text : List ℕ) → effect_after line (rule_line text) d ≡ state_effect line text d.signals (part_count d) (operator_count d)
  rule_is text = rule_line_lem line d.signals (part_count d) (operator_count d) d.order text

  abbrev order_is : (o : Order) → effect_after line (order_line o) d ≡ order_effect line d.order (Some o)
  order_is o = order_line_lem line d.signals (part_count d) (operator_count d) d.order o

  pub said : (bytes : List ℕ) → Said bytes (effect_after line bytes d)
  said bytes = go (line_case bytes)
    where
      go : LineCase bytes → Said bytes (effect_after line bytes d)
      go (case.declares k name e) = subst (λ l. Said l (effect_after line l d)) (sym e) (rw (declare_is k name) (declare_said k name))
      go (case.states text e) = subst (λ l. Said l (effect_after line l d)) (sym e) (rw (rule_is text) (state_said text))
      go (case.orders o e) = subst (λ l. Said l (effect_after line l d)) (sym e) (rw (order_is o) (order_said o))
      go (case.neither f g h e) =
          rw (e line d.signals (part_count d) (operator_count d) d.order)
          (bad_line (λ k name q. absurd (f k name q)) (λ text q. absurd (g text q)) (λ o q. absurd (h o q)), refl)

  -- ---- and the other way round

  new_test : (name : Name) → ¬ IsDeclared d.signals name → is_declared d.signals name ≡ false
  new_test name n = says_false (declares_says name) n

  pub read_after : {bytes : List ℕ} {d' : Draft} (f : Draft → Outcome) → Reads d bytes d' → after (effect_after line bytes d) d f ≡ f d'
  unfolding declare_effect state_effect
  read_after f (declared k name named new few) = rw (declare_is k name, named, new_test name new, few_room d.signals k name few)
  read_after f (stated text a is derives known fits) =
      let p = found text a derives in rw (rule_is text, is, p.1, (knows_says text).1 known, fits_small d (stated_formula d text a) fits)
  read_after f (ordered o first) = rw (order_is o, first)

  -- a refusal with this number at this line is its effect
  abbrev pub Due : List ℕ → ℕ → Type 0
  Due bytes number = (r : Refusal) × (effect_after line bytes d ≡ refuses r) × (number_of r ≡ number) × (place_of r ≡ line)

  order_twice : (before : Option Order) (o : Order) → ¬ (before ≡ None) → order_effect line before (Some o) ≡ refuses (BadLine line)
  order_twice None o n = absurd (n refl)
  order_twice (Some x) o n = refl

  due_bad : (bytes : List ℕ) → ((k : Kind) (name : Name) → bytes ≡ declare_line k name → ¬ (is_name name ≡ true))
      → ((text : List ℕ) → bytes ≡ rule_line text → ¬ (is_text text ≡ true)) → ((o : Order) → bytes ≡ order_line o → ¬ (d.order ≡ None))
      → LineCase bytes → effect_after line bytes d ≡ refuses (BadLine line)
  unfolding declare_effect state_effect
  due_bad bytes f g h (case.declares k name e) =
      elim (test (is_name name)) [ inl t ↦ absurd (f k name e t) | inr n ↦ ap (λ l. effect_after line l d) e ∙ declare_is k name ∙ rw n ]
  due_bad bytes f g h (case.states text e) =
      elim (test (is_text text)) [ inl t ↦ absurd (g text e t) | inr n ↦ ap (λ l. effect_after line l d) e ∙ rule_is text ∙ rw n ]
  due_bad bytes f g h (case.orders o e) = ap (λ l. effect_after line l d) e ∙ order_is o ∙ order_twice d.order o (h o e)
  due_bad bytes f g h (case.neither _ _ _ e) = e line d.signals (part_count d) (operator_count d) d.order

  full_test : (k : Kind) (name : Name) → ¬ Few (with_signal k name d.signals) → is_full k d.signals ≡ true
  full_test k name n = elim (test (is_full k d.signals)) [ inl t ↦ t | inr f ↦ absurd (n (few_more d.signals s.few k name f)) ]

  unknown_test : (text : List ℕ) → ¬ AllDeclared d.signals text → all_declared d.signals text (tokens text 0) ≡ false
  unknown_test text n = says_false (knows_says text) n

  large_test : (φ : Formula) → ¬ Fits (with_formula φ d) → is_large (part_count d) (operator_count d) φ ≡ true
  large_test φ n = elim (test (is_large (part_count d) (operator_count d) φ)) [ inl t ↦ t | inr f ↦ absurd (n (small_fits d φ f)) ]

  pub due : {bytes : List ℕ} {number : ℕ} → LineRefused d bytes number → Due bytes number
  unfolding declare_effect state_effect
  due (bad_line {line = bytes} f g h) = (BadLine line, due_bad bytes f g h (line_case bytes), refl, refl)
  due (name_twice k name named twice) = (NameTwice line, rw (declare_is k name, named, (declares_says name).1 twice), refl, refl)
  due (too_many_signals k name named new full) =
      (TooManySignals line, rw (declare_is k name, named, new_test name new, full_test k name full), refl, refl)
  due (bad_formula text is underived) = (BadFormula line, rw (rule_is text, is, (refused_iff text).1 underived), refl, refl)
  due (unknown_name text a is derives unknown) =
      let p = found text a derives in (UnknownName line, rw (rule_is text, is, p.1, unknown_test text unknown), refl, refl)
  due (too_many_parts text a is derives known large) =
      let p = found text a derives in
      (TooManyParts line, rw (rule_is text, is, p.1, (knows_says text).1 known, large_test (stated_formula d text a) large), refl, refl)

-- The tests of a line say what the reading of a line asks. Assumes nothing.
use Prim.Native.Nat.{ℕ, ◌+◌, ◌≤◌, ◌<◌}
use native.Mathlib.Omega.{arith}
use mathlib.Core.Path.{◌≡◌, refl, sym, ap, subst, ◌∙◌}
use mathlib.Core.Bool.{false}
use mathlib.Core.List.Memᴰ
use mathlib.Core.List.{List, [], ◌∷◌}
use borrow.Author.Tests.{eq-eqb, ne_eqb, eqb-true, eqb-false, lt-ltb, le-ltb, ltb-true, ltb-false}
use lib.Dec.{eqb, ltb}
use lib.ListN.{length, set}
use Rattle.basics.specs.Bytes.{between}
use Rattle.basics.specs.Limits.{kind_limit, signal_limit, operator_limit}
use Rattle.basics.specs.Member.{◌∈◌}
use Rattle.basics.specs.Says.{Says}
use Rattle.basics.proofs.Booleans.{or_left, or_right, or_false}
use Rattle.basics.proofs.SaysLaws.{says_and, says_implies}
use Rattle.syntax.specs.declared.lex.Token.{Token}
use Rattle.syntax.specs.Kinds.{name_kind}
use Rattle.syntax.specs.Lex.{tokens}
use Rattle.grammar.specs.Names.{Name, bits, index_of}
use Rattle.formula.specs.Limits.{part_limit}
use Rattle.formula.specs.Formula.{Formula, size, operators}
use Rattle.lines.specs.declared.problem.Kind.{Kind}
use Rattle.lines.specs.declared.problem.Kind.TheVariants.{Output, Observed, Hidden}
use Rattle.lines.specs.Effect.{Signals, count, first_bit, with_signal, is_declared, is_full, all_declared, joint, is_large}
use Rattle.lines.proofs.DeclaredNames.{index_in_lem, in_index}
use Rattle.rules.specs.Problem.{joined_lines, size_in, operators_in, Draft, part_count, operator_count, with_formula}
use Rattle.rules.specs.Within.{Few}
use Rattle.rules.specs.Denotes.{IsDeclared, AllDeclared, Fits}
use Rattle.rules.proofs.JoinedFormulas.{size_joined, operators_joined, joined_more}

-- ---- signals

module _ (g : Signals) (all : length g.names ≡ bits) where
  pub declared_says : (name : Name) → Says (is_declared g name) (IsDeclared g name)
  declared_says name = (
    λ e. index_in_lem name g.names (omega (arith, ltb-true (index_of name g.names) bits e, all)),
    λ m. lt-ltb (index_of name g.names) bits (omega (arith, in_index name m, all)),
  )

  kind_says : (t : Token) → Says (eqb t.kind name_kind) (t.kind ≡ name_kind)
  kind_says t = (eqb-true t.kind name_kind, eq-eqb t.kind name_kind)

  tokens_says : (text : List ℕ) (ts : List Token)
      → Says (all_declared g text ts) ((t : Token) → t ∈ ts → t.kind ≡ name_kind → IsDeclared g (between text t.from t.next))
  unfolding all_declared
  tokens_says text [] = (λ _ t m. absurd (Memᴰ.not-nil m), λ _. refl)
  tokens_says text (t ∷ ts) =
      let (to, from) = says_and (says_implies (kind_says t) (declared_says (between text t.from t.next))) (tokens_says text ts) in
      (λ e. more (to e).0 (to e).1, λ f. from (f t (Memᴰ.head refl), λ u m. f u (Memᴰ.tail m)))
    where
      Known : Token → Type 0
      Known u = u.kind ≡ name_kind → IsDeclared g (between text u.from u.next)

      more : Known t → ((u : Token) → u ∈ ts → Known u) → (u : Token) → u ∈ t ∷ ts → Known u
      more h f u (Memᴰ.head e) = subst Known (sym e) h
      more h f u (Memᴰ.tail m) = f u m

  pub all_declared_says : (text : List ℕ) → Says (all_declared g text (tokens text 0)) (AllDeclared g text)
  all_declared_says text = tokens_says text (tokens text 0)

-- one more name stands at the next bit of its kind
pub names_more : (k : Kind) (name : Name) (g : Signals) → (with_signal k name g).names ≡ set g.names (first_bit k + count k g) name
names_more Output name g = refl
names_more Observed name g = refl
names_more Hidden name g = refl

-- room for one more signal
module _ (g : Signals) (few : Few g) where
  pub room : (k : Kind) → is_full k g ≡ false → count k g < kind_limit
  room Output f = let n = eqb-false g.outputs kind_limit (or_left (eqb g.outputs kind_limit) _ f) in omega (arith, n, few.outputs)
  room Observed f = let n = eqb-false g.observed kind_limit (or_left (eqb g.observed kind_limit) _ f) in omega (arith, n, few.observed)
  room Hidden f = let n = eqb-false g.hidden kind_limit (or_left (eqb g.hidden kind_limit) _ f) in omega (arith, n, few.hidden)

  spare : (k : Kind) → is_full k g ≡ false → g.outputs + g.observed + g.hidden < signal_limit
  spare k f =
      let n = eqb-false (g.outputs + g.observed + g.hidden) signal_limit (or_right (eqb (count k g) kind_limit) _ f) in
      omega (arith, n, few.total)

  pub few_more : (k : Kind) (name : Name) → is_full k g ≡ false → Few (with_signal k name g)
  few_more Output name f =
      let n = room Output f in
      let t = spare Output f in
      record { outputs = omega (arith, n); observed = few.observed; hidden = few.hidden; total = omega (arith, t) }
  few_more Observed name f =
      let n = room Observed f in
      let t = spare Observed f in
      record { outputs = few.outputs; observed = omega (arith, n); hidden = few.hidden; total = omega (arith, t) }
  few_more Hidden name f =
      let n = room Hidden f in
      let t = spare Hidden f in
      record { outputs = few.outputs; observed = few.observed; hidden = omega (arith, n); total = omega (arith, t) }

pub few_room : (g : Signals) (k : Kind) (name : Name) → Few (with_signal k name g) → is_full k g ≡ false
few_room g Output name w =
    or_false (ne_eqb g.outputs kind_limit (λ e. omega (arith, e, w.outputs)))
    (ne_eqb (g.outputs + g.observed + g.hidden) signal_limit (λ e. omega (arith, e, w.total)))
few_room g Observed name w =
    or_false (ne_eqb g.observed kind_limit (λ e. omega (arith, e, w.observed)))
    (ne_eqb (g.outputs + g.observed + g.hidden) signal_limit (λ e. omega (arith, e, w.total)))
few_room g Hidden name w =
    or_false (ne_eqb g.hidden kind_limit (λ e. omega (arith, e, w.hidden)))
    (ne_eqb (g.outputs + g.observed + g.hidden) signal_limit (λ e. omega (arith, e, w.total)))

-- ---- formulas

module _ (d : Draft) (φ : Formula) where
  parts_are : part_count d + size φ + joint (part_count d) ≡ part_count (with_formula φ d)
  parts_are = size_joined (joined_lines d.lines) φ ∙ ap size_in (sym (joined_more d.lines φ))

  operators_are : operator_count d + operators φ ≡ operator_count (with_formula φ d)
  operators_are = operators_joined (joined_lines d.lines) φ ∙ ap operators_in (sym (joined_more d.lines φ))

  pub small_fits : is_large (part_count d) (operator_count d) φ ≡ false → Fits (with_formula φ d)
  small_fits e = (
    subst (λ n. n ≤ part_limit) parts_are (ltb-false part_limit _ (or_left _ _ e)),
    subst (λ n. n ≤ operator_limit) operators_are
        (ltb-false operator_limit _ (or_right (ltb part_limit (part_count d + size φ + joint (part_count d))) _ e)),
  )

  pub fits_small : Fits (with_formula φ d) → is_large (part_count d) (operator_count d) φ ≡ false
  fits_small f =
      or_false (le-ltb part_limit _ (subst (λ n. n ≤ part_limit) (sym parts_are) f.0))
      (le-ltb operator_limit _ (subst (λ n. n ≤ operator_limit) (sym operators_are) f.1))

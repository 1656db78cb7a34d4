-- A formula's text has one reading: the reader finds a tree exactly when the written grammar derives it, and there is at most one.
-- Assumes nothing.
use mathlib.Core.Path.{◌≡◌, refl, sym, subst, ap, ◌∙◌}
use mathlib.Core.Bool.{true}
use mathlib.Core.Logic.{◌↔◌}
use mathlib.Core.List.{List, [], ◌++◌, append-nil}
use Prim.Native.Nat.{ℕ}
use native.Mathlib.Omega.{arith}
use borrow.Author.Tests.{eqb-true, eq-eqb}
use Rattle.syntax.specs.Lex.{tokens}
use Rattle.syntax.specs.Tree.{Tree}
use Rattle.grammar.specs.Grammar.{Derives, formulas, Derived}
use Rattle.grammar.specs.Parse.{Res, none, some, parse}
use Rattle.grammar.specs.PlanParse.{parse_formula}
use Rattle.grammar.proofs.ParseCases.{none_some, on_elim, bind_elim, on_true, bind_some}
use Rattle.grammar.proofs.ReadsInside.{some_one, parse_in}
use Rattle.syntax.proofs.Spelt.{first, first_token, tokens_end}
use Rattle.grammar.proofs.Sound.{parse_sound}
use Rattle.grammar.proofs.Complete.{complete}
use Rattle.grammar.proofs.PlanParseLaws.{formulas_laws, formulas_exact}

module _ (text : List ℕ) where
  pub sound : (a : Tree) (next : ℕ) → parse_formula text ≡ some a next → Derived text a
  unfolding parse_formula parse
  sound a next e =
      bind_elim _ _ _ _ e (λ b m eb es.
      on_elim _ _ _ _ es
      (λ o e₁. let i = parse_sound (formulas_laws true) formulas_exact text _ 4 0 b m (omega arith) eb in
      let h = (parse_in (formulas_laws true) text _ 4 0 b m (omega arith) eb).high in
      let q = i.spells ∙ ap (λ ts. i.us ++ ts) (tokens_end text m h (eqb-true _ _ o)) ∙ append-nil i.us in
      subst (λ x. Derived text x) (some_one b a m next e₁) (subst (λ ts. Derives (formulas true) 4 ts b) (sym q) i.derives))
      (λ _ e₁. none_some a next e₁))

  pub found : (a : Tree) → Derived text a → (next : ℕ) × (parse_formula text ≡ some a next)
  unfolding parse_formula first
  found a d =
      let f = complete (formulas_laws true) formulas_exact text d 0 [] (omega arith) (omega arith)
      (sym (append-nil (tokens text 0))) formulas_exact.end_op in
      let z = sym (first_token text f.next f.inside) ∙ ap first f.after in
      (f.next, bind_some _ _ a f.next f.found ∙ on_true _ _ _ (eq-eqb _ _ z))

  pub one_reading : (a b : Tree) → Derived text a → Derived text b → a ≡ b
  one_reading a b p q = let x = found a p in let y = found b q in some_one a b x.0 y.0 (sym x.1 ∙ y.1)

  -- a text that the reader refuses is one from which nothing is derived
  pub refused_iff : (parse_formula text ≡ none) ↔ ((a : Tree) → ¬ Derived text a)
  refused_iff = (λ e a d. none_some a (found a d).0 (sym e ∙ (found a d).1), λ n. go (parse_formula text) refl n)
    where
      go : (r : Res) → parse_formula text ≡ r → ((a : Tree) → ¬ Derived text a) → r ≡ none
      go none e n = refl
      go (some a next) e n = absurd (n a (sound a next e))

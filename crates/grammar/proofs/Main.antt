-- The theorems of this crate: that a formula's text is read exactly as the written grammar derives it, and so has one reading. Before them, what
-- its tokens are, by laws of `syntax`.
-- Assumes nothing.
use Prim.Native.Nat.{ℕ, ◌≤◌}
use mathlib.Core.Path.{◌≡◌}
use mathlib.Core.Logic.{◌↔◌}
use mathlib.Core.Bool.{not}
use mathlib.Core.List.{List, [], ◌∷◌}
use lib.Dec.{eqb}
use lib.ListN.{length}
use Rattle.syntax.specs.Kinds.{end_kind, name_kind}
use Rattle.syntax.specs.Lex.{is_reserved, word_kind, token_at, tokens}
use Rattle.syntax.specs.Tree.{Tree}
use Rattle.grammar.specs.Grammar.{Derived}
use Rattle.grammar.specs.Parse.{none, some}
use Rattle.grammar.specs.PlanParse.{parse_formula}
use Rattle.syntax.proofs.LexLaws
use Rattle.syntax.proofs.Spelt
use Rattle.grammar.proofs.ReadIffDerived

-- ---- tokens

-- the tokens from a place on: none at the end, and otherwise the first and those behind it
module _ (text : List ℕ) (at : ℕ) (inside : at ≤ length text) where
  pub tokens_end : (token_at text at).kind ≡ end_kind → tokens text at ≡ []
  tokens_end = Spelt.tokens_end text at inside

  pub tokens_more : ¬ ((token_at text at).kind ≡ end_kind) → tokens text at ≡ token_at text at ∷ tokens text (token_at text at).next
  tokens_more = Spelt.tokens_more text at inside

-- a word is a name exactly where it is not reserved
pub names : (w : List ℕ) → eqb (word_kind w) name_kind ≡ not (is_reserved w)
names = LexLaws.reserved_kind

-- ---- reading

module _ (text : List ℕ) where
  -- what is read, the grammar derives
  pub correct : (a : Tree) (next : ℕ) → parse_formula text ≡ some a next → Derived text a
  correct = ReadIffDerived.sound text

  -- what the grammar derives, is read
  pub complete : (a : Tree) → Derived text a → (next : ℕ) × (parse_formula text ≡ some a next)
  complete = ReadIffDerived.found text

  -- what is refused is underivable
  pub refused : (parse_formula text ≡ none) ↔ ((a : Tree) → ¬ Derived text a)
  refused = ReadIffDerived.refused_iff text

  -- no text has two trees
  pub unambiguous : (a b : Tree) → Derived text a → Derived text b → a ≡ b
  unambiguous = ReadIffDerived.one_reading text

-- Which texts are refused, with which number and at which place: numbers 1 to 8 (REFERENCE.md, Refusals), beside `Denotes`. A number is due
-- where its row there says so and no number before it is. `proofs/RefusesLaws.antt` shows that reading refuses exactly so.
-- Assumes nothing.
use Rattle.std.specs.Prelude.{ℕ, suc, ◌≤◌, ◌<◌, ◌≡◌, true, List, [], ◌∷◌, length, None}
use Rattle.syntax.specs.Tree.{Tree}
use Rattle.grammar.specs.Grammar.{Derived}
use Rattle.grammar.specs.Names.{Name}
use Rattle.lines.specs.declared.problem.Kind.{Kind}
use Rattle.rules.specs.Limits.{source_limit}
use Rattle.basics.specs.declared.order.Order.{Order}
use Rattle.lines.specs.Lines.{SourceLine, ended, unended, lines, declare_line, rule_line, order_line, is_name, is_text}
use Rattle.lines.specs.Effect.{with_signal}
use Rattle.rules.specs.Problem.{Draft, with_formula, blank}
use Rattle.rules.specs.Within.{Few}
use Rattle.rules.specs.Denotes.{IsDeclared, AllDeclared, stated_formula, Fits, Reads}

-- the number with which a line is refused, after what was read before it
pub data LineRefused (d : Draft) : List ℕ → ℕ → Type 0 where
  -- 2: it neither declares a name, nor states a formula's text, nor is the first to say the order
  bad_line : {line : List ℕ} → ((k : Kind) (name : Name) → line ≡ declare_line k name → ¬ (is_name name ≡ true))
      → ((text : List ℕ) → line ≡ rule_line text → ¬ (is_text text ≡ true)) → ((o : Order) → line ≡ order_line o → ¬ (d.order ≡ None))
      → LineRefused d line 2
  -- 3: it declares a name again
  name_twice : (k : Kind) (name : Name) → is_name name ≡ true → IsDeclared d.signals name → LineRefused d (declare_line k name) 3
  -- 4: it declares the fifth signal of a kind, or the tenth in all
  too_many_signals : (k : Kind) (name : Name) → is_name name ≡ true → ¬ IsDeclared d.signals name → ¬ Few (with_signal k name d.signals)
      → LineRefused d (declare_line k name) 4
  -- 5: the grammar derives nothing from its text
  bad_formula : (text : List ℕ) → is_text text ≡ true → ((a : Tree) → ¬ Derived text a) → LineRefused d (rule_line text) 5
  -- 6: its formula has a name that is not declared above
  unknown_name : (text : List ℕ) (a : Tree) → is_text text ≡ true → Derived text a → ¬ AllDeclared d.signals text → LineRefused d (rule_line text) 6
  -- 7: its formula has the 97th part or the eighth temporal operator
  too_many_parts : (text : List ℕ) (a : Tree) → is_text text ≡ true → Derived text a → AllDeclared d.signals text
      → ¬ Fits (with_formula (stated_formula d text a) d) → LineRefused d (rule_line text) 7

-- the number and the place with which the lines from line `at` on are refused
pub data RefusedFrom : ℕ → Draft → List SourceLine → ℕ → ℕ → Type 0 where
  -- 2: no byte 10 ends the line
  not_ended : {at : ℕ} {d : Draft} {l : List ℕ} {ls : List SourceLine} → RefusedFrom at d (unended l ∷ ls) 2 at
  here : {at : ℕ} {d : Draft} {l : List ℕ} {ls : List SourceLine} {number : ℕ} → LineRefused d l number → RefusedFrom at d (ended l ∷ ls) number at
  later : {at : ℕ} {d : Draft} {l : List ℕ} {ls : List SourceLine} {number place : ℕ} (d' : Draft) → Reads d l d'
      → RefusedFrom (suc at) d' ls number place → RefusedFrom at d (ended l ∷ ls) number place
  -- 8: all is read, and no line states a formula
  no_formula : {at : ℕ} {d : Draft} → d.lines ≡ [] → RefusedFrom at d [] 8 0

-- the number and the place with which a text is refused
pub data Refuses (source : List ℕ) : ℕ → ℕ → Type 0 where
  long_source : source_limit < length source → Refuses source 1 0
  in_lines : {number place : ℕ} → length source ≤ source_limit → RefusedFrom 1 blank (lines source) number place → Refuses source number place

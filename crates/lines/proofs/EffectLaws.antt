-- What a line that declares a signal or states a formula has passed. Assumes nothing.
use Rattle.basics.specs.declared.order.Order.{Order}
use Rattle.std.specs.Prelude.{None, Option, Some}
use Prim.Native.Nat.{ℕ}
use mathlib.Core.Path.{◌≡◌, refl, subst}
use mathlib.Core.Bool.{true, false, not}
use mathlib.Core.List.{List}
use Rattle.basics.proofs.Booleans.{cond_elim}
use Rattle.syntax.specs.Lex.{tokens}
use Rattle.grammar.specs.Parse.{Res, none, some}
use Rattle.grammar.specs.PlanParse.{parse_formula}
use Rattle.grammar.specs.Names.{Name, leaf_value}
use Rattle.lines.specs.declared.problem.Kind.{Kind}
use Rattle.lines.specs.declared.problem.Word.{Word}
use Rattle.lines.specs.declared.problem.Word.TheVariants.{Declare, Rule, Order as OrderWord, Unknown}
use Rattle.formula.specs.Formula.{Formula}
use Rattle.lines.specs.Lines.{has_tab, first_field, second_field, word_of, is_name, is_text, order_named}
use Rattle.lines.specs.Effect.{Signals, is_declared, is_full, formula_of, all_declared, is_large, Effect, declares, states, orders, refuses}
use Rattle.lines.specs.Effect.{declare_effect, read_effect, state_effect, order_effect, by_word, effect_of}

-- a line that declares a signal
pub record Declaring (bytes : List ℕ) (g : Signals) (k : Kind) (name : Name) : Type 0 where
  pub tab : has_tab bytes ≡ true
  pub room : is_full k g ≡ false
  pub is : second_field bytes ≡ name

module _ (line : ℕ) (bytes : List ℕ) (g : Signals) (n m : ℕ) (o : Option Order) where
  abbrev second : List ℕ
  second = second_field bytes

  -- what an effect shows of the line
  abbrev Passed : Effect → Type 0
  Passed (declares k name) = Declaring bytes g k name
  Passed (states φ) = is_large n m φ ≡ false
  Passed (orders x) = Unit {0}
  Passed (refuses r) = Unit {0}

  declare_passed : has_tab bytes ≡ true → (k : Kind) → Passed (declare_effect line k second g)
  unfolding declare_effect
  declare_passed tab k =
      cond_elim Passed (not (is_name second)) _ _ (λ _. tt)
      (λ _. cond_elim Passed (is_declared g second) _ _ (λ _. tt)
      (λ _. cond_elim Passed (is_full k g) _ _ (λ _. tt) (λ f. record { tab = tab; room = f; is = refl })))

  read_passed : (res : Res) → Passed (read_effect line second res g n m)
  read_passed none = tt
  read_passed (some a next) =
      cond_elim Passed (not (all_declared g second (tokens second 0))) _ _ (λ _. tt)
      (λ _. cond_elim Passed (is_large n m (formula_of (leaf_value g.names second) a)) _ _ (λ _. tt) (λ l. l))

  order_passed : (before named : Option Order) → Passed (order_effect line before named)
  order_passed (Some x) named = tt
  order_passed None None = tt
  order_passed None (Some x) = tt

  word_passed : has_tab bytes ≡ true → (w : Word) → Passed (by_word w line second g n m o)
  unfolding state_effect
  word_passed tab (Declare k) = declare_passed tab k
  word_passed tab Rule = cond_elim Passed (not (is_text second)) _ _ (λ _. tt) (λ _. read_passed (parse_formula second))
  word_passed tab OrderWord = order_passed o (order_named second)
  word_passed tab Unknown = tt

  passed : Passed (effect_of line bytes g n m o)
  unfolding effect_of
  passed = cond_elim Passed (has_tab bytes) _ _ (λ b. word_passed b (word_of (first_field bytes))) (λ _. tt)

  pub declaring : (k : Kind) (name : Name) → effect_of line bytes g n m o ≡ declares k name → Declaring bytes g k name
  declaring k name e = subst Passed e passed

  pub stating : (φ : Formula) → effect_of line bytes g n m o ≡ states φ → is_large n m φ ≡ false
  stating φ e = subst Passed e passed

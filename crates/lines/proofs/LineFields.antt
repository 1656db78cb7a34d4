-- A line read by its fields: what each word leads to. Assumes nothing.
use Rattle.lines.specs.declared.refusal.Refusal.{Refusal}
use Rattle.basics.specs.declared.order.Order.{Order}
use Rattle.std.specs.Prelude.{Err, None, Option, Result, Some}
use Prim.Native.Nat.{ℕ, ◌+◌, ◌≤◌, ◌<◌}
use native.Mathlib.Omega.{arith}
use mathlib.Core.Path.{◌≡◌, refl, sym, ap, ◌∙◌, subst}
use mathlib.Core.Bool.{not}
use mathlib.Core.List.{List}
use borrow.Author.Tests.{lt-ltb, le-ltb}
use lib.ListN.{length, take, drop, length-drop}
use lib.Seq.{take-length}
use Rattle.basics.proofs.Booleans.{cond_elim}
use Rattle.basics.specs.Bytes.{not_tab, past, between}
use Rattle.syntax.specs.Lex.{tokens}
use Rattle.grammar.specs.Parse.{Res, none, some}
use Rattle.grammar.specs.PlanParse.{parse_formula}
use Rattle.grammar.specs.Names.{Name, leaf_value}
use Rattle.basics.proofs.BytesLaws.{past_in}
use Rattle.lines.specs.declared.refusal.Refusal.TheVariants.{BadLine}
use Rattle.lines.specs.declared.problem.Kind.{Kind}
use Rattle.lines.specs.declared.problem.Word.{Word}
use Rattle.lines.specs.declared.problem.Word.TheVariants.{Declare, Rule, Order as OrderWord, Unknown}
use Rattle.lines.specs.declared.problem.Sizes.{Sizes}
use Rattle.lines.specs.Lines.{tab_place, word_of, is_name, is_text, order_named}
use Rattle.lines.specs.Effect.{Signals, is_declared, is_full, formula_of, all_declared, is_large, Effect, refuses}
use Rattle.lines.specs.Effect.{declare_effect, read_effect, state_effect, order_effect, by_word, effect_of}
use Rattle.lines.specs.Memory.{signals_in, reading_after, names_after, parts_after, line_effect, LineRead}

-- the first tab is in the line or at its end
module _ (bytes : List ℕ) (t : ℕ) (e : t ≡ past not_tab bytes 0) where
  pub tab_in : t ≤ length bytes
  tab_in = omega (arith, past_in not_tab bytes 0 (omega arith), e)

  pub tab_below : (t ≡ length bytes → ⊥) → t < length bytes
  tab_below n = omega (arith, tab_in, n)

-- a declaration leaves the parts, and a formula the names
declare_parts : (line : ℕ) (k : Kind) (name : List ℕ) (g : Signals) (s : Sizes) (p : List ℕ) → p ≡ parts_after (declare_effect line k name g) s p
unfolding declare_effect
declare_parts line k name g s p =
    cond_elim (λ e. p ≡ parts_after e s p) (not (is_name name)) _ _ (λ _. refl)
    (λ _. cond_elim (λ e. p ≡ parts_after e s p) (is_declared g name) _ _ (λ _. refl)
    (λ _. cond_elim (λ e. p ≡ parts_after e s p) (is_full k g) _ _ (λ _. refl) (λ _. refl)))

module _ (line : ℕ) (text : List ℕ) (g : Signals) (n m : ℕ) (s : Sizes) (names : List Name) where
  abbrev Same : Effect → Type 0
  Same e = names ≡ names_after e s names

  read_names : (res : Res) → Same (read_effect line text res g n m)
  read_names none = refl
  read_names (some a next) =
      cond_elim Same (not (all_declared g text (tokens text 0))) _ _ (λ _. refl)
      (λ _. cond_elim Same (is_large n m (formula_of (leaf_value g.names text) a)) _ _ (λ _. refl) (λ _. refl))

  state_names : Same (state_effect line text g n m)
  unfolding state_effect
  state_names = cond_elim Same (not (is_text text)) _ _ (λ _. refl) (λ _. read_names (parse_formula text))

-- an order leaves both
order_left : (line : ℕ) (before named : Option Order) (s : Sizes) (names : List Name) (p : List ℕ)
    → (names ≡ names_after (order_effect line before named) s names) × (p ≡ parts_after (order_effect line before named) s p)
order_left line (Some o) named s names p = (refl, refl)
order_left line None None s names p = (refl, refl)
order_left line None (Some o) s names p = (refl, refl)

module _ (bytes : List ℕ) (line : ℕ) (s : Sizes) (names : List Name) (p : List ℕ) (t : ℕ) (it : t ≡ past not_tab bytes 0) where
  tab_is : t ≡ tab_place bytes
  unfolding past tab_place
  tab_is = omega arith

  made : (e : Effect) → line_effect bytes line s names ≡ e → {names' : List Name} {p' : List ℕ} {r : Result Sizes Refusal} → r ≡ reading_after e s
      → names' ≡ names_after e s names → p' ≡ parts_after e s p → LineRead bytes line s names p names' p' r
  made e i a b c =
      record {
        reading = a ∙ ap (λ f. reading_after f s) (sym i);
        names_left = b ∙ ap (λ f. names_after f s names) (sym i);
        parts_left = c ∙ ap (λ f. parts_after f s p) (sym i);
      }

  pub no_tab : length bytes ≤ t → LineRead bytes line s names p names p (Err (BadLine line))
  unfolding effect_of
  no_tab h = made (refuses (BadLine line)) (rw (le-ltb (tab_place bytes) (length bytes) (subst (λ k. length bytes ≤ k) tab_is h))) refl refl refl

  module _ (h : t < length bytes) where
    -- the second field, as the code takes it
    abbrev second : List ℕ
    second = between bytes (t + 1) (length bytes)

    by_word_lem : (w : Word) → w ≡ word_of (take t bytes)
        → line_effect bytes line s names ≡ by_word w line second (signals_in s names) s.parts s.operators s.order
    unfolding effect_of
    by_word_lem w e =
        let f = ap (λ k. take k (drop (t + 1) bytes)) (sym (length-drop (t + 1) bytes)) ∙ take-length (drop (t + 1) bytes) in
        rw (lt-ltb (tab_place bytes) (length bytes) (subst (λ k. k < length bytes) tab_is h), e, f, tab_is)

    pub unknown_word : (w : Word) → w ≡ word_of (take t bytes) → w ≡ Unknown → LineRead bytes line s names p names p (Err (BadLine line))
    unknown_word w e u = made (refuses (BadLine line)) (by_word_lem Unknown (sym u ∙ e)) refl refl refl

    module _ (w : Word) (e : w ≡ word_of (take t bytes)) where
      pub declare_word : (k : Kind) → w ≡ Declare k → {names' : List Name} {r : Result Sizes Refusal}
          → r ≡ reading_after (declare_effect line k second (signals_in s names)) s
          → names' ≡ names_after (declare_effect line k second (signals_in s names)) s names
          → LineRead bytes line s names p names' p r
      declare_word k u a b =
          made (declare_effect line k second (signals_in s names)) (by_word_lem (Declare k) (sym u ∙ e)) a b (declare_parts line k _ _ s p)

      pub rule_word : w ≡ Rule → {p' : List ℕ} {r : Result Sizes Refusal}
          → r ≡ reading_after (state_effect line second (signals_in s names) s.parts s.operators) s
          → p' ≡ parts_after (state_effect line second (signals_in s names) s.parts s.operators) s p
          → LineRead bytes line s names p names p' r
      rule_word u a b =
          made (state_effect line second (signals_in s names) s.parts s.operators) (by_word_lem Rule (sym u ∙ e)) a
          (state_names line second (signals_in s names) s.parts s.operators s names) b

      pub order_word_lem : w ≡ OrderWord → {r : Result Sizes Refusal}
          → r ≡ reading_after (order_effect line s.order (order_named second)) s → LineRead bytes line s names p names p r
      order_word_lem u a =
          let left = order_left line s.order (order_named second) s names p in
          made (order_effect line s.order (order_named second)) (by_word_lem OrderWord (sym u ∙ e)) a left.0 left.1

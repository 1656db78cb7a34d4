-- Every line is one that declares, one that states, one that says an order, or none of these, and its effect goes by that. Assumes
-- nothing.
use Rattle.std.specs.Prelude.{None, Option, Some}
use Prim.Native.Nat.{ℕ, zero, suc, ◌+◌, ◌<◌}
use native.Mathlib.Nat.{le_of_suc-le-suc, suc-add}
use native.Mathlib.Omega.{arith}
use mathlib.Core.Path.{◌≡◌, refl, sym, ap, ap₂, subst, ◌∙◌}
use mathlib.Core.Bool.{Bool, true, false, not}
use mathlib.Core.List.{List, [], ◌∷◌, ◌++◌}
use borrow.Author.Tests.{ltb-true, eqb-true, lt-ltb}
use lib.Dec.{eqb}
use lib.ListN.{length, take, drop}
use Rattle.basics.specs.Bytes.{not_tab, run, bytes_of, same_bytes}
use Rattle.basics.proofs.Booleans.{clash, cond_elim}
use Rattle.basics.proofs.BytesLaws.{same_bytes_lem}
use Rattle.lines.specs.declared.refusal.Refusal.TheVariants.{BadLine}
use Rattle.lines.specs.declared.problem.Kind.{Kind}
use Rattle.lines.specs.declared.problem.Kind.TheVariants.{Output, Observed, Hidden}
use Rattle.lines.specs.declared.problem.Word.{Word}
use Rattle.lines.specs.declared.problem.Word.TheVariants.{Declare, Rule, Order as OrderWord, Unknown}
use Rattle.basics.specs.declared.order.Order.{Order}
use Rattle.basics.specs.declared.order.Order.TheVariants.{Set, Read}
use Rattle.lines.specs.Lines.{kind_word, declare_line, rule_line, order_word, order_line, tab_place, has_tab, first_field, second_field}
use Rattle.lines.specs.Lines.{word_of, order_named}
use Rattle.lines.specs.Effect.{Signals, refuses, declare_effect, state_effect, order_effect, effect_of}

-- ---- the fields of a line

-- a line with a tab is its fields, parted by it
fields : (line : List ℕ) → run not_tab line < length line → line ≡ take (run not_tab line) line ++ 9 ∷ drop (run not_tab line + 1) line
unfolding run
fields [] h = absurd (omega arith)
fields (b ∷ s) h = go (eqb b 9) refl h (fields s)
  where
    go : (t : Bool) → eqb b 9 ≡ t → elim (not t) [ true ↦ suc (run not_tab s) | false ↦ zero ] < suc (length s)
        → (run not_tab s < length s → s ≡ take (run not_tab s) s ++ 9 ∷ drop (run not_tab s + 1) s)
        → b ∷ s ≡ take (elim (not t) [ true ↦ suc (run not_tab s) | false ↦ zero ]) (b ∷ s)
        ++ 9 ∷ drop (elim (not t) [ true ↦ suc (run not_tab s) | false ↦ zero ] + 1) (b ∷ s)
    go true e h ih = ap (λ z. z ∷ s) (eqb-true b 9 e)
    go false e h ih = rw (suc-add (run not_tab s) 1) (ap (λ l. b ∷ l) (ih (le_of_suc-le-suc h)))

-- the fields of a written line
pub declare_fields : (k : Kind) (name : List ℕ)
    → (has_tab (declare_line k name) ≡ true) × (word_of (first_field (declare_line k name)) ≡ Declare k) × (second_field (declare_line k name) ≡ name)
unfolding tab_place run word_of same_bytes
declare_fields Output name = (lt-ltb 3 (suc (suc (suc (suc (length name))))) (omega arith), refl, refl)
declare_fields Observed name = (lt-ltb 3 (suc (suc (suc (suc (length name))))) (omega arith), refl, refl)
declare_fields Hidden name = (lt-ltb 3 (suc (suc (suc (suc (length name))))) (omega arith), refl, refl)

pub rule_fields : (text : List ℕ) → (has_tab (rule_line text) ≡ true) × (word_of (first_field (rule_line text)) ≡ Rule) × (second_field (rule_line text) ≡ text)
unfolding tab_place run word_of same_bytes
rule_fields text = (lt-ltb 4 (suc (suc (suc (suc (suc (length text)))))) (omega arith), refl, refl)

pub order_fields : (o : Order)
    → (has_tab (order_line o) ≡ true) × (word_of (first_field (order_line o)) ≡ OrderWord) × (order_named (second_field (order_line o)) ≡ Some o)
unfolding tab_place run word_of same_bytes order_named
order_fields Set = (refl, refl, refl)
order_fields Read = (refl, refl, refl)

-- a line is written in one way
pub same_name : (k j : Kind) (name other : List ℕ) → declare_line k name ≡ declare_line j other → name ≡ other
same_name k j name other e = sym (declare_fields k name).2 ∙ ap second_field e ∙ (declare_fields j other).2

pub same_text : (text other : List ℕ) → rule_line text ≡ rule_line other → text ≡ other
same_text text other e = sym (rule_fields text).2 ∙ ap second_field e ∙ (rule_fields other).2

pub same_order : (o x : Order) → order_line o ≡ order_line x → o ≡ x
same_order o x e = go (sym (order_fields o).2 ∙ ap (λ l. order_named (second_field l)) e ∙ (order_fields x).2)
  where
    go : Some o ≡ Some x → o ≡ x
    go z = cc

-- lines with different words differ
abbrev place : Word → ℕ
place (Declare k) = 0
place Rule = 1
place OrderWord = 2
place Unknown = 3

apart : {a b : List ℕ} (v w : Word) → word_of (first_field a) ≡ v → word_of (first_field b) ≡ w → ¬ (place v ≡ place w) → ¬ (a ≡ b)
apart v w p q n e = n (ap place (sym p ∙ ap (λ l. word_of (first_field l)) e ∙ q))

pub not_both : (k : Kind) (name text : List ℕ) → ¬ (declare_line k name ≡ rule_line text)
not_both k name text = apart (Declare k) Rule (declare_fields k name).1 (rule_fields text).1 (λ z. omega arith)

pub declare_no_order : (k : Kind) (name : List ℕ) (o : Order) → ¬ (declare_line k name ≡ order_line o)
declare_no_order k name o = apart (Declare k) OrderWord (declare_fields k name).1 (order_fields o).1 (λ z. omega arith)

pub rule_no_order : (text : List ℕ) (o : Order) → ¬ (rule_line text ≡ order_line o)
rule_no_order text o = apart Rule OrderWord (rule_fields text).1 (order_fields o).1 (λ z. omega arith)

-- ---- words

-- the bytes of a word
abbrev Spelt : List ℕ → Word → Type 0
Spelt w (Declare k) = w ≡ kind_word k
Spelt w Rule = w ≡ bytes_of "rule"
Spelt w OrderWord = w ≡ bytes_of "order"
Spelt w Unknown = Unit {0}

spelt : (w : List ℕ) → Spelt w (word_of w)
unfolding word_of
spelt w =
    cond_elim (Spelt w) (same_bytes w (bytes_of "out")) _ _ (same_bytes_lem w (bytes_of "out"))
    (λ _. cond_elim (Spelt w) (same_bytes w (bytes_of "see")) _ _ (same_bytes_lem w (bytes_of "see"))
    (λ _. cond_elim (Spelt w) (same_bytes w (bytes_of "hid")) _ _ (same_bytes_lem w (bytes_of "hid"))
    (λ _. cond_elim (Spelt w) (same_bytes w (bytes_of "rule")) _ _ (same_bytes_lem w (bytes_of "rule"))
    (λ _. cond_elim (Spelt w) (same_bytes w (bytes_of "order")) _ _ (same_bytes_lem w (bytes_of "order")) (λ _. tt)))))

-- and of an order
abbrev Named : List ℕ → Option Order → Type 0
Named s None = Unit {0}
Named s (Some o) = s ≡ order_word o

named : (s : List ℕ) → Named s (order_named s)
unfolding order_named
named s =
    cond_elim (Named s) (same_bytes s (bytes_of "set")) _ _ (same_bytes_lem s (bytes_of "set"))
    (λ _. cond_elim (Named s) (same_bytes s (bytes_of "read")) _ _ (same_bytes_lem s (bytes_of "read")) (λ _. tt))

-- ---- the four cases

pub data LineCase (bytes : List ℕ) : Type 0 where
  declares : (k : Kind) (name : List ℕ) → bytes ≡ declare_line k name → LineCase bytes
  states : (text : List ℕ) → bytes ≡ rule_line text → LineCase bytes
  orders : (o : Order) → bytes ≡ order_line o → LineCase bytes
  neither : ((k : Kind) (name : List ℕ) → ¬ (bytes ≡ declare_line k name)) → ((text : List ℕ) → ¬ (bytes ≡ rule_line text))
      → ((o : Order) → ¬ (bytes ≡ order_line o))
      → ((line : ℕ) (g : Signals) (n m : ℕ) (o : Option Order) → effect_of line bytes g n m o ≡ refuses (BadLine line)) → LineCase bytes

pub open_fixed : {o : Order} → ¬ (None ≡ Some o)
open_fixed e = let x : ◌≡◌ {A = ℕ} 0 1 = cc in omega arith

-- a field that names no order is refused, whatever was said before
unnamed : (line : ℕ) (o : Option Order) → order_effect line o None ≡ refuses (BadLine line)
unnamed line None = refl
unnamed line (Some o) = refl

pub line_case : (bytes : List ℕ) → LineCase bytes
unfolding effect_of tab_place
line_case bytes = by_tab (has_tab bytes) refl
  where
    first : (w : Word) → word_of (first_field bytes) ≡ w → Spelt (first_field bytes) w
    first w e = subst (Spelt (first_field bytes)) e (spelt (first_field bytes))

    split : has_tab bytes ≡ true → bytes ≡ first_field bytes ++ 9 ∷ second_field bytes
    split t = fields bytes (ltb-true _ _ t)

    by_order : has_tab bytes ≡ true → word_of (first_field bytes) ≡ OrderWord → (x : Option Order) → order_named (second_field bytes) ≡ x → LineCase bytes
    by_order t e (Some o) i =
        orders o
        (split t ∙ ap₂ (λ w s. w ++ 9 ∷ s) (first OrderWord e) (subst (Named (second_field bytes)) i (named (second_field bytes))))
    by_order t e None i =
        neither (λ k name q. apart OrderWord (Declare k) e (declare_fields k name).1 (λ z. omega arith) q)
        (λ text q. apart OrderWord Rule e (rule_fields text).1 (λ z. omega arith) q)
        (λ o q. open_fixed (sym i ∙ ap (λ l. order_named (second_field l)) q ∙ (order_fields o).2)) (λ line g n m o. rw (t, e, i) (unnamed line o))

    by_word_lem : has_tab bytes ≡ true → (w : Word) → word_of (first_field bytes) ≡ w → LineCase bytes
    by_word_lem t (Declare k) e = declares k (second_field bytes) (split t ∙ ap (λ w. w ++ 9 ∷ second_field bytes) (first (Declare k) e))
    by_word_lem t Rule e = states (second_field bytes) (split t ∙ ap (λ w. w ++ 9 ∷ second_field bytes) (first Rule e))
    by_word_lem t OrderWord e = by_order t e (order_named (second_field bytes)) refl
    by_word_lem t Unknown e =
        neither (λ k name q. apart Unknown (Declare k) e (declare_fields k name).1 (λ z. omega arith) q)
        (λ text q. apart Unknown Rule e (rule_fields text).1 (λ z. omega arith) q)
        (λ o q. apart Unknown OrderWord e (order_fields o).1 (λ z. omega arith) q) (λ line g n m o. rw (t, e))

    by_tab : (t : Bool) → has_tab bytes ≡ t → LineCase bytes
    by_tab true e = by_word_lem e (word_of (first_field bytes)) refl
    by_tab false e =
        neither (λ k name q. clash (declare_fields k name).0 (sym (ap has_tab q) ∙ e)) (λ text q. clash (rule_fields text).0 (sym (ap has_tab q) ∙ e))
        (λ o q. clash (order_fields o).0 (sym (ap has_tab q) ∙ e)) (λ line g n m o. rw e)

-- the effect of a line that declares, of one that states, and of one that says an order
module _ (line : ℕ) (g : Signals) (n m : ℕ) (o : Option Order) where
  pub declare_line_lem : (k : Kind) (name : List ℕ) → effect_of line (declare_line k name) g n m o ≡ declare_effect line k name g
  unfolding effect_of
  declare_line_lem k name = let f = declare_fields k name in rw (f.0, f.1, f.2)

  pub rule_line_lem : (text : List ℕ) → effect_of line (rule_line text) g n m o ≡ state_effect line text g n m
  unfolding effect_of
  rule_line_lem text = let f = rule_fields text in rw (f.0, f.1, f.2)

  pub order_line_lem : (x : Order) → effect_of line (order_line x) g n m o ≡ order_effect line o (Some x)
  unfolding effect_of
  order_line_lem x = let f = order_fields x in rw (f.0, f.1, f.2)

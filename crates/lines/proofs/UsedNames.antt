-- The signals that the formula of a text uses are those that its name tokens name.
-- Assumes nothing.
use Prim.Native.Nat.{ℕ, suc, ◌-◌, ◌≤◌}
use native.Mathlib.Omega.{arith}
use mathlib.Core.Path.{◌≡◌, refl, sym, ap, ap₂, ◌∙◌}
use mathlib.Core.Logic.{◌↔◌, ◌⊎◌, inl, inr}
use mathlib.Core.Bool.{Bool, true, false, ◌&&◌, ◌||◌, or_assoc, or_comm, or-false, or_self, or_self_left, true≢false, false≢true}
use mathlib.Core.List.Memᴰ
use mathlib.Core.List.{List, [], ◌∷◌, ◌++◌}
use borrow.Author.Tests.{ne_eqb}
use lib.Dec.{eqb}
use Rattle.basics.specs.Member.{◌∈◌}
use Rattle.basics.specs.Says.{Says}
use Rattle.basics.proofs.SaysLaws.{says_and, says_or, eqb_says}
use Rattle.syntax.specs.declared.lex.Token.{Token}
use Rattle.syntax.specs.declared.plans.PlanWord.{PlanWord}
use Rattle.syntax.specs.declared.plans.PlanWord.TheVariants.{Once, Before, After, Within, During}
use Rattle.syntax.specs.Kinds.{name_kind, digit_kind}
use Rattle.syntax.specs.Lex.{tokens}
use Rattle.syntax.specs.Plans.{InRange}
use Rattle.syntax.specs.Tree.{Tree, bin}
use Rattle.grammar.specs.Grammar.{is_op, is_pre, is_leaf, Derives, tighter, to_left, to_right, prefixed, plain, grouped, other}
use Rattle.grammar.specs.Grammar.{PlanHead, once, before, after, within, during, takes_two}
use Rattle.grammar.specs.Grammar.{table, propositional, Plan, over_one, over_two, Derived}
use Rattle.grammar.proofs.GrammarLaws.{leaf_cases, pre_cases, op_cases}
use Rattle.formula.specs.Formula.{Formula, False, uses}
use Rattle.formula.specs.Parts.{op_of, build}
use Rattle.formula.specs.Constraints.{hold}
use Rattle.formula.proofs.UsedSignals.{soon_uses, hold_uses, delay_uses}
use Rattle.lines.specs.Effect.{plan_formula, formula_of}

-- ---- what a kind of token makes, by how many operands it takes: only a name adds a signal

abbrev LeafUses : ℕ → Type 0
LeafUses k = (v b : ℕ) → uses (build (op_of k) v False False) b ≡ (eqb k name_kind && eqb v b)

abbrev PrefixUses : ℕ → Type 0
PrefixUses k = (eqb k name_kind ≡ false) × ((φ : Formula) (b : ℕ) → uses (build (op_of k) 0 φ False) b ≡ uses φ b)

abbrev InfixUses : ℕ → Type 0
InfixUses k = (eqb k name_kind ≡ false) × ((φ ψ : Formula) (b : ℕ) → uses (build (op_of k) 0 φ ψ) b ≡ (uses φ b || uses ψ b))

leaf_uses : (k : ℕ) → is_leaf k ≡ true → LeafUses k
unfolding op_of uses
leaf_uses = leaf_cases LeafUses (λ v b. refl) (λ v b. refl) (λ v b. refl)

prefix_uses : (m : Bool) (k : ℕ) → is_pre m k ≡ true → PrefixUses k
unfolding op_of uses
prefix_uses = pre_cases PrefixUses (refl, λ φ b. refl) (refl, λ φ b. refl) (refl, λ φ b. refl) (refl, λ φ b. refl) (refl, λ φ b. refl)

infix_uses : (m : Bool) (l k : ℕ) → is_op m l k ≡ true → InfixUses k
unfolding op_of uses
infix_uses =
    op_cases (λ l k. InfixUses k) (refl, λ φ ψ b. refl) (refl, λ φ ψ b. refl) (refl, λ φ ψ b. refl) (refl, λ φ ψ b. refl) (refl, λ φ ψ b. refl)

-- ---- plan words

module _ (φ ψ : Formula) (b : ℕ) where
  one_used : (w : PlanWord) → takes_two w ≡ false → uses (plan_formula w φ ψ) b ≡ uses φ b
  unfolding uses
  one_used Once e = or_self_left (uses φ b) (uses φ b) ∙ or_self (uses φ b)
  one_used Before e = absurd (true≢false e)
  one_used After e = absurd (true≢false e)
  one_used (Within steps) e = absurd (true≢false e)
  one_used (During first last) e = delay_uses (hold (last - first) φ) b (first - 1) ∙ hold_uses φ b (last - first)

  both_used : (w : PlanWord) → takes_two w ≡ true → uses (plan_formula w φ ψ) b ≡ (uses φ b || uses ψ b)
  unfolding uses
  both_used Once e = absurd (false≢true e)
  both_used Before e = or_comm (uses ψ b) (uses φ b)
  both_used After e = refl
  both_used (Within steps) e = ap (λ c. uses φ b || c) (soon_uses ψ b steps)
  both_used (During first last) e = absurd (false≢true e)

digit_other : (n : ℕ) → n ≤ 9 → eqb (digit_kind n) name_kind ≡ false
digit_other n h = ne_eqb (digit_kind n) name_kind (λ e. omega arith)

-- ---- the names among tokens

module _ (val : Token → ℕ) (b : ℕ) where
  -- whether one of these tokens names the signal b
  unfoldable named : List Token → Bool
  named [] = false
  named (t ∷ ts) = (eqb t.kind name_kind && eqb (val t) b) || named ts

  abbrev Names : List Token → Type 0
  Names ts = (t : Token) × (t ∈ ts) × (t.kind ≡ name_kind) × (val t ≡ b)

  named_says : (ts : List Token) → Says (named ts) (Names ts)
  unfolding named
  named_says [] = (λ e. absurd (false≢true e), λ n. absurd (Memᴰ.not-nil n.1))
  named_says (t ∷ ts) =
      let s = says_or (says_and (eqb_says t.kind name_kind) (eqb_says (val t) b)) (named_says ts) in
      (λ e. there (s.0 e), λ n. s.1 (back n))
    where
      there : ((t.kind ≡ name_kind) × (val t ≡ b)) ⊎ Names ts → Names (t ∷ ts)
      there (inl (k, e)) = (t, Memᴰ.head refl, k, e)
      there (inr (u, m, k, e)) = (u, Memᴰ.tail m, k, e)

      back : Names (t ∷ ts) → ((t.kind ≡ name_kind) × (val t ≡ b)) ⊎ Names ts
      back (u, Memᴰ.head p, k, e) = inl (ap (λ (x : Token). x.kind) (sym p) ∙ k, ap val (sym p) ∙ e)
      back (u, Memᴰ.tail m, k, e) = inr (u, m, k, e)

  named_append : (ts us : List Token) → named (ts ++ us) ≡ (named ts || named us)
  unfolding named
  named_append [] us = refl
  named_append (t ∷ ts) us =
      let c = eqb t.kind name_kind && eqb (val t) b in
      ap (λ d. c || d) (named_append ts us) ∙ sym (or_assoc c (named ts) (named us))

  -- a token of another kind names none
  skip : (t : Token) (ts : List Token) {k : ℕ} → t.kind ≡ k → eqb k name_kind ≡ false → named (t ∷ ts) ≡ named ts
  unfolding named
  skip t ts e o = rw (e, o)

  behind : (ts : List Token) (t : Token) {k : ℕ} → t.kind ≡ k → eqb k name_kind ≡ false → named (ts ++ t ∷ []) ≡ named ts
  unfolding named
  behind ts t e o = named_append ts (t ∷ []) ∙ ap (λ d. named ts || d) (skip t [] e o) ∙ or-false (named ts)

  ahead : (ts us : List Token) → named ts ≡ false → named (ts ++ us) ≡ named us
  ahead ts us e = named_append ts us ∙ ap (λ d. d || named us) e

  -- the numbers of a word are single digits
  head_names : {w : PlanWord} {hs : List Token} → PlanHead hs w → InRange w → named hs ≡ false
  unfolding named
  head_names (once w o p q) r = rw (p, q)
  head_names (before w o p q) r = rw (p, q)
  head_names (after w o p q) r = rw (p, q)
  head_names (within w o d i steps p q x y) r = rw (p, q, x, y, digit_other steps (omega arith))
  head_names (during w o d i e j first last p q x y z s) r =
      rw (p, q, x, y, z, s, digit_other first (omega (arith, r.1, r.2)), digit_other last (omega (arith, r.2)))

  -- ---- the tree of a text

  abbrev Named : List Token → Tree → Type 0
  Named ts a = uses (formula_of val a) b ≡ named ts

  infix_named : (t : Token) → InfixUses t.kind → (ts us : List Token) (x y : Tree) → Named ts x → Named us y
      → Named (ts ++ t ∷ us) (bin t x y)
  unfolding formula_of
  infix_named t w ts us x y d e =
      w.1 (formula_of val x) (formula_of val y) b ∙ ap₂ ◌||◌ d (e ∙ sym (skip t us refl w.0)) ∙ sym (named_append ts (t ∷ us))

  -- with temporal operators and plan words or without, where the other atoms do
  table_named : (m : Bool) (O : List Token → Tree → Type 0) → ((us : List Token) (a : Tree) → O us a → Named us a)
      → {l : ℕ} {us : List Token} {a : Tree} → Derives (table m O) l us a → Named us a
  unfolding formula_of named
  table_named m O others (tighter d) = table_named m O others d
  table_named m O others (to_left {r} {ts} {us} {a = x} {b = y} t _ o d e) =
      infix_named t (infix_uses m (suc r) t.kind o) ts us x y (table_named m O others d) (table_named m O others e)
  table_named m O others (to_right {r} {ts} {us} {a = x} {b = y} t _ o d e) =
      infix_named t (infix_uses m (suc r) t.kind o) ts us x y (table_named m O others d) (table_named m O others e)
  table_named m O others (prefixed {us} {a} t o d) =
      let w = prefix_uses m t.kind o in
      w.1 (formula_of val a) b ∙ table_named m O others d ∙ sym (skip t us refl w.0)
  table_named m O others (plain t o) = leaf_uses t.kind o (val t) b ∙ sym (or-false (eqb t.kind name_kind && eqb (val t) b))
  table_named m O others (grouped {us} o c p q d) = table_named m O others d ∙ sym (behind (o ∷ us) c q refl ∙ skip o us p refl)
  table_named m O others (other {us} {a} x) = others us a x

  operand_named : {us : List Token} {a : Tree} → Derives propositional 4 us a → Named us a
  operand_named d = table_named false (λ ts a. ⊥) (λ us a x. absurd x) d

  plan_named : {us : List Token} {a : Tree} → Plan us a → Named us a
  unfolding formula_of
  plan_named (over_one {w} {hs} {us} c h n t d k) =
      one_used _ _ b w t ∙ operand_named d ∙ sym (ahead hs (us ++ c ∷ []) (head_names h n) ∙ behind us c k refl)
  plan_named (over_two {w} {hs} {us} {vs} i c h n t d j e k) =
      both_used _ _ b w t ∙ ap₂ ◌||◌ (operand_named d) (operand_named e ∙ sym (skip i (vs ++ c ∷ []) j refl ∙ behind vs c k refl))
      ∙ sym (ahead hs (us ++ i ∷ (vs ++ c ∷ [])) (head_names h n) ∙ named_append us (i ∷ (vs ++ c ∷ [])))

pub derived_uses : (val : Token → ℕ) (text : List ℕ) {a : Tree} → Derived text a → (b : ℕ)
    → (uses (formula_of val a) b ≡ true) ↔ ((t : Token) × (t ∈ tokens text 0) × (t.kind ≡ name_kind) × (val t ≡ b))
derived_uses val text d b =
    let e = table_named val b true Plan (λ us a x. plan_named val b x) d in
    let s = named_says val b (tokens text 0) in
    (λ u. s.0 (sym e ∙ u), λ n. e ∙ s.1 n)

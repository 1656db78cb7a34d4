-- The written grammar of a formula text (REFERENCE.md, Formulas): a table of operators by level, and what it derives from a list of
-- tokens. Levels by number: 4 `->`, 3 `|`, 2 `&`, 1 `U` and `R`, 0 the prefixes and the atoms.
-- Assumes nothing.
use Rattle.std.specs.Prelude.{◌≡◌, ℕ, zero, suc, List, [], ◌∷◌, ◌++◌, Bool, true, false, ◌&&◌, ◌||◌, eqb}
use Rattle.syntax.specs.declared.lex.Token.{Token}
use Rattle.syntax.specs.declared.plans.PlanWord.{PlanWord}
use Rattle.syntax.specs.declared.plans.PlanWord.TheVariants.{Once, Before, After, Within, During}
use Rattle.syntax.specs.Kinds.{name_kind, true_kind, false_kind, open_kind, close_kind, comma_kind, digit_kind}
use Rattle.syntax.specs.Kinds.{once_kind, before_kind, after_kind, within_kind, during_kind}
use Rattle.syntax.specs.Kinds.{implies_kind, or_kind, and_kind, until_kind, release_kind}
use Rattle.syntax.specs.Kinds.{not_kind, next_kind, weak_next_kind, eventually_kind, always_kind}
use Rattle.syntax.specs.Lex.{tokens}
use Rattle.syntax.specs.Plans.{InRange}
use Rattle.syntax.specs.Tree.{Tree, leaf, pre, bin, plan}

-- ---- the table; m says whether temporal operators are in it

-- the operators that make phrases of level l; level 0 has none
unfoldable pub is_op : Bool → ℕ → ℕ → Bool
is_op m l k =
    (m && (eqb k until_kind || eqb k release_kind) && eqb l 1)
    || (eqb k and_kind && eqb l 2)
    || (eqb k or_kind && eqb l 3)
    || (eqb k implies_kind && eqb l 4)

-- the levels that group to the left
unfoldable pub leftward : ℕ → Bool
leftward l = eqb l 2 || eqb l 3

unfoldable pub is_pre : Bool → ℕ → Bool
is_pre m k = eqb k not_kind || (m && (eqb k next_kind || eqb k weak_next_kind || eqb k eventually_kind || eqb k always_kind))

unfoldable pub is_leaf : ℕ → Bool
is_leaf k = eqb k name_kind || eqb k true_kind || eqb k false_kind

-- ---- what a grammar derives

-- a grammar: its levels with operators, loosest last, its other tokens, and its atoms beside leaves and groups, with their trees
pub record Grammar : Type 1 where
  pub top : ℕ
  pub is_op : ℕ → ℕ → Bool
  pub leftward : ℕ → Bool
  pub is_pre : ℕ → Bool
  pub is_leaf : ℕ → Bool
  pub Other : List Token → Tree → Type 0

-- `Derives G l ts a`: the tokens ts are a phrase of level l, and a is its tree
pub data Derives (G : Grammar) : ℕ → List Token → Tree → Type 0 where
  tighter : {r : ℕ} {ts : List Token} {a : Tree} → Derives G r ts a → Derives G (suc r) ts a
  to_left : {r : ℕ} {ts us : List Token} {a b : Tree} (t : Token) → G.leftward (suc r) ≡ true → G.is_op (suc r) t.kind ≡ true
      → Derives G (suc r) ts a → Derives G r us b → Derives G (suc r) (ts ++ t ∷ us) (bin t a b)
  to_right : {r : ℕ} {ts us : List Token} {a b : Tree} (t : Token) → G.leftward (suc r) ≡ false → G.is_op (suc r) t.kind ≡ true
      → Derives G r ts a → Derives G (suc r) us b → Derives G (suc r) (ts ++ t ∷ us) (bin t a b)
  prefixed : {us : List Token} {a : Tree} (t : Token) → G.is_pre t.kind ≡ true → Derives G zero us a → Derives G zero (t ∷ us) (pre t a)
  plain : (t : Token) → G.is_leaf t.kind ≡ true → Derives G zero (t ∷ []) (leaf t)
  grouped : {us : List Token} {a : Tree} (o c : Token) → o.kind ≡ open_kind → c.kind ≡ close_kind → Derives G G.top us a
      → Derives G zero (o ∷ us ++ c ∷ []) a
  other : {us : List Token} {a : Tree} → G.Other us a → Derives G zero us a

-- the grammar of formulas with these other atoms
abbrev pub table : Bool → (List Token → Tree → Type 0) → Grammar
table m O = record { top = 4; is_op = is_op m; leftward = leftward; is_pre = is_pre m; is_leaf = is_leaf; Other = O }

-- formulas without temporal operators and plan words
abbrev pub propositional : Grammar
propositional = table false (λ ts a. ⊥)

-- ---- plan words (REFERENCE.md, Plan words)

-- the tokens of a word up to its first operand
pub data PlanHead : List Token → PlanWord → Type 0 where
  once : (w o : Token) → w.kind ≡ once_kind → o.kind ≡ open_kind → PlanHead (w ∷ o ∷ []) Once
  before : (w o : Token) → w.kind ≡ before_kind → o.kind ≡ open_kind → PlanHead (w ∷ o ∷ []) Before
  after : (w o : Token) → w.kind ≡ after_kind → o.kind ≡ open_kind → PlanHead (w ∷ o ∷ []) After
  within : (w o d i : Token) (steps : ℕ) → w.kind ≡ within_kind → o.kind ≡ open_kind → d.kind ≡ digit_kind steps → i.kind ≡ comma_kind
      → PlanHead (w ∷ o ∷ d ∷ i ∷ []) (Within steps)
  during : (w o d i e j : Token) (first last : ℕ) → w.kind ≡ during_kind → o.kind ≡ open_kind → d.kind ≡ digit_kind first
      → i.kind ≡ comma_kind → e.kind ≡ digit_kind last → j.kind ≡ comma_kind → PlanHead (w ∷ o ∷ d ∷ i ∷ e ∷ j ∷ []) (During first last)

-- whether a word takes a second operand
abbrev pub takes_two : PlanWord → Bool
takes_two Once = false
takes_two Before = true
takes_two After = true
takes_two (Within steps) = true
takes_two (During first last) = false

-- a whole word over one operand, or over two
pub data Plan : List Token → Tree → Type 0 where
  over_one : {w : PlanWord} {hs us : List Token} {a : Tree} (c : Token) → PlanHead hs w → InRange w → takes_two w ≡ false
      → Derives propositional propositional.top us a → c.kind ≡ close_kind → Plan (hs ++ (us ++ (c ∷ []))) (plan w a a)
  over_two : {w : PlanWord} {hs us vs : List Token} {a b : Tree} (i c : Token) → PlanHead hs w → InRange w → takes_two w ≡ true
      → Derives propositional propositional.top us a → i.kind ≡ comma_kind → Derives propositional propositional.top vs b
      → c.kind ≡ close_kind → Plan (hs ++ (us ++ (i ∷ (vs ++ (c ∷ []))))) (plan w a b)

-- ---- formulas

abbrev Others : Bool → List Token → Tree → Type 0
Others true ts a = Plan ts a
Others false ts a = ⊥

-- with temporal operators and plan words, or without: `formulas false` is `propositional`
abbrev pub formulas : Bool → Grammar
formulas m = table m (Others m)

-- a text is a formula, and a is its tree
abbrev pub Derived : List ℕ → Tree → Type 0
Derived text a = Derives (formulas true) 4 (tokens text 0) a

-- What a grammar has to be for its reader to find all that it derives: no token stands in two places, and its other atoms are read
-- right. Assumes nothing.
use mathlib.Core.Path.{◌≡◌, refl, sym, subst}
use mathlib.Core.Bool.{Bool, true, false, ◌&&◌, ◌||◌}
use mathlib.Core.List.{List, ◌++◌}
use Prim.Native.Nat.{ℕ, zero, suc, ◌-◌, ◌≤◌}
use native.Mathlib.Omega.{arith}
use borrow.Author.Tests.{eqb-true}
use lib.Dec.{eqb}
use lib.ListN.{length}
use Rattle.basics.proofs.Booleans.{and_right}
use Rattle.syntax.specs.declared.lex.Token.{Token}
use Rattle.syntax.specs.Kinds.{end_kind, name_kind, true_kind, false_kind, open_kind, close_kind, comma_kind}
use Rattle.syntax.specs.Kinds.{implies_kind, or_kind, and_kind, until_kind, release_kind}
use Rattle.syntax.specs.Kinds.{not_kind, next_kind, weak_next_kind, eventually_kind, always_kind}
use Rattle.syntax.specs.Lex.{token_at, tokens}
use Rattle.syntax.specs.Tree.{Tree}
use Rattle.grammar.specs.Grammar.{Grammar, is_op, is_pre, is_leaf, formulas}
use Rattle.grammar.specs.Parse.{some, Reader}
use Rattle.grammar.specs.PlanParse.{propositions}
use Rattle.grammar.proofs.ParseCases.{none_some, false_true}
use Rattle.grammar.proofs.ReadsInside.{Laws}

-- that a token of kind k goes on a phrase of level l
unfoldable pub goes_on : Grammar → ℕ → ℕ → Bool
goes_on G zero k = false
goes_on G (suc r) k = G.is_op (suc r) k || goes_on G r k

-- another atom that is read from a place on, with what comes after it
pub record OtherFound (R : Reader) (text : List ℕ) (at : ℕ) (a : Tree) (rest : List Token) : Type 0 where
  pub next : ℕ
  pub found : R.other text at ≡ some a next
  pub inside : next ≤ length text
  pub after : tokens text next ≡ rest
  pub not_pre : R.grammar.is_pre (token_at text at).kind ≡ false
  pub not_leaf : R.grammar.is_leaf (token_at text at).kind ≡ false
  pub not_open : (token_at text at).kind ≡ open_kind → ⊥

pub record Exact (R : Reader) : Type 0 where
  pub apart : (r k : ℕ) → R.grammar.is_op (suc r) k ≡ true → goes_on R.grammar r k ≡ false
  pub close_op : goes_on R.grammar R.grammar.top close_kind ≡ false
  pub end_op : goes_on R.grammar R.grammar.top end_kind ≡ false
  pub leaf_pre : (k : ℕ) → R.grammar.is_leaf k ≡ true → R.grammar.is_pre k ≡ false
  pub open_pre : R.grammar.is_pre open_kind ≡ false
  pub open_leaf : R.grammar.is_leaf open_kind ≡ false
  pub other_sound : (text : List ℕ) (at : ℕ) (a : Tree) (next : ℕ) → at ≤ length text → R.other text at ≡ some a next
      → (us : List Token) × (R.grammar.Other us a) × (tokens text at ≡ us ++ tokens text next)
  pub other_found : {us : List Token} {a : Tree} → R.grammar.Other us a → (text : List ℕ) (at : ℕ) (rest : List Token) → at ≤ length text
      → tokens text at ≡ us ++ rest → OtherFound R text at a rest

-- ---- the kinds in the table of formulas, one by one

either : {C : Type 0} (a b : Bool) → (a || b) ≡ true → (a ≡ true → C) → (b ≡ true → C) → C
either true b e f g = f refl
either false b e f g = g e

is : (P : ℕ → Type 0) (k m : ℕ) → P m → eqb k m ≡ true → P k
is P k m h e = subst P (sym (eqb-true k m e)) h

row : (P : ℕ → ℕ → Type 0) (l k m : ℕ) (a : Bool) → (a ≡ true → P m k) → (a && eqb l m) ≡ true → P l k
row P l k m true f e = is (λ x. P x k) l m (f refl) e
row P l k m false f e = false_true e

pub op_cases : (P : ℕ → ℕ → Type 0) → P 1 until_kind → P 1 release_kind → P 2 and_kind → P 3 or_kind → P 4 implies_kind
    → (m : Bool) (l k : ℕ) → is_op m l k ≡ true → P l k
unfolding is_op
op_cases P u r a o i m l k e =
    either _ _ e
    (λ e₃. either _ _ e₃
    (λ e₂. either _ _ e₂
    (row P l k 1 (m && (eqb k until_kind || eqb k release_kind))
    (λ e₁. either _ _ (and_right m (eqb k until_kind || eqb k release_kind) e₁) (is (P 1) k until_kind u) (is (P 1) k release_kind r)))
    (row P l k 2 (eqb k and_kind) (is (P 2) k and_kind a)))
    (row P l k 3 (eqb k or_kind) (is (P 3) k or_kind o)))
    (row P l k 4 (eqb k implies_kind) (is (P 4) k implies_kind i))

pub pre_cases : (P : ℕ → Type 0) → P not_kind → P next_kind → P weak_next_kind → P eventually_kind → P always_kind
    → (m : Bool) (k : ℕ) → is_pre m k ≡ true → P k
unfolding is_pre
pre_cases P n x w f g m k e =
    either _ _ e (is P k not_kind n)
    (λ e₄. either _ _ (and_right m (eqb k next_kind || eqb k weak_next_kind || eqb k eventually_kind || eqb k always_kind) e₄)
    (λ e₃. either _ _ e₃
    (λ e₂. either _ _ e₂ (is P k next_kind x) (is P k weak_next_kind w)) (is P k eventually_kind f)) (is P k always_kind g))

pub leaf_cases : (P : ℕ → Type 0) → P name_kind → P true_kind → P false_kind → (k : ℕ) → is_leaf k ≡ true → P k
unfolding is_leaf
leaf_cases P n t f k e =
    either _ _ e (λ e₂. either _ _ e₂ (is P k name_kind n) (is P k true_kind t)) (is P k false_kind f)

-- ---- no token of the table stands in two places

pub op_apart : (m : Bool) (r k : ℕ) → is_op m (suc r) k ≡ true → goes_on (formulas m) r k ≡ false
unfolding goes_on is_op
op_apart m r k o =
    let e : suc r - 1 ≡ r = omega arith in
    subst (λ x. goes_on (formulas m) x k ≡ false) e (go m o)
  where
    go : (m : Bool) → is_op m (suc r) k ≡ true → goes_on (formulas m) (suc r - 1) k ≡ false
    go true o = op_cases (λ l k. goes_on (formulas true) (l - 1) k ≡ false) refl refl refl refl refl true (suc r) k o
    go false o = op_cases (λ l k. goes_on (formulas false) (l - 1) k ≡ false) refl refl refl refl refl false (suc r) k o

-- a kind that no operator has goes on no phrase
pub kind_stops : (m : Bool)
    → (goes_on (formulas m) 4 end_kind ≡ false) × (goes_on (formulas m) 4 close_kind ≡ false) × (goes_on (formulas m) 4 comma_kind ≡ false)
unfolding goes_on is_op
kind_stops true = (refl, refl, refl)
kind_stops false = (refl, refl, refl)

pub op_end : (m : Bool) (l : ℕ) → is_op m l end_kind ≡ false
unfolding is_op
op_end true l = refl
op_end false l = refl

pub pre_end : (m : Bool) → is_pre m end_kind ≡ false
unfolding is_pre
pre_end true = refl
pre_end false = refl

pub leaf_end : is_leaf end_kind ≡ false
unfolding is_leaf
leaf_end = refl

pub leaf_pre : (m : Bool) (k : ℕ) → is_leaf k ≡ true → is_pre m k ≡ false
unfolding is_pre
leaf_pre true = leaf_cases (λ k. is_pre true k ≡ false) refl refl refl
leaf_pre false = leaf_cases (λ k. is_pre false k ≡ false) refl refl refl

pub open_pre : (m : Bool) → is_pre m open_kind ≡ false
unfolding is_pre
open_pre true = refl
open_pre false = refl

pub open_leaf : is_leaf open_kind ≡ false
unfolding is_leaf
open_leaf = refl

-- ---- the reader of formulas without plan words is such

pub propositions_laws : Laws (λ x. x) propositions
propositions_laws =
    record {
      few = omega arith;
      op_end = op_end false;
      pre_end = pre_end false;
      leaf_end = leaf_end;
      steps = λ x y h. h;
      other_in = λ text at a next h e. none_some a next e;
    }

pub propositions_exact : Exact propositions
propositions_exact =
    record {
      apart = op_apart false;
      close_op = (kind_stops false).1;
      end_op = (kind_stops false).0;
      leaf_pre = leaf_pre false;
      open_pre = open_pre false;
      open_leaf = open_leaf;
      other_sound = λ text at a next h e. none_some a next e;
      other_found = λ w. absurd w;
    }

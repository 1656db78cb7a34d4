-- The names in a text: their numbers, and whether all are declared, token by token.
-- Assumes nothing.
use Prim.Native.Nat.{ℕ, zero, suc, ◌≤◌, ◌<◌}
use native.Mathlib.Nat.{le_of_suc-le-suc}
use native.Mathlib.Omega.{arith}
use mathlib.Core.Path.{◌≡◌, refl, sym, subst, ap, ◌∙◌}
use mathlib.Core.Logic.{inl, inr}
use mathlib.Core.Bool.{Bool, true, false, cond}
use mathlib.Core.List.Memᴰ
use mathlib.Core.List.{List, [], ◌∷◌}
use borrow.Author.Tests.{eq-eqb, ne_eqb}
use lib.Dec.{eqb}
use lib.ListN.{length, get_or, set}
use Rattle.basics.specs.Limits.{index_limit}
use Rattle.basics.specs.Member.{◌∈◌}
use Rattle.syntax.specs.declared.lex.Token.{Token}
use Rattle.basics.specs.Bytes.{between, same_bytes}
use Rattle.syntax.specs.Kinds.{name_kind}
use Rattle.syntax.specs.Lex.{token_at, tokens}
use Rattle.grammar.specs.Names.{Name, bits, index_of, bit_of, leaf_value}
use Rattle.syntax.proofs.Spelt.{tokens_end, tokens_more, falls}
use Rattle.lines.specs.Effect.{Signals, is_declared, all_declared}
use Rattle.basics.proofs.Booleans.{test}
use Rattle.basics.proofs.BytesLaws.{same_bytes_lem, same_refl}
use Rattle.std.specs.Prelude.{Option, Some, None}
use Rattle.std.specs.Option.{is_some}
use Rattle.grammar.proofs.NamesLaws.{index_of_le}
use Rattle.lines.proofs.TreeCodes.{Values}

-- ---- the number of a name

-- a name has a number exactly where it is an entry
pub index_in_lem : (name : Name) (xs : List Name) → index_of name xs < length xs → name ∈ xs
unfolding index_of
index_in_lem name [] h = absurd (omega arith)
index_in_lem name (x ∷ xs) h = go (same_bytes x name) refl h (index_in_lem name xs)
  where
    go : (b : Bool) → same_bytes x name ≡ b → cond b 0 (suc (index_of name xs)) < suc (length xs) → (index_of name xs < length xs → name ∈ xs) → name ∈ x ∷ xs
    go true e h ih = Memᴰ.head (sym (same_bytes_lem x name e))
    go false e h ih = Memᴰ.tail (ih (le_of_suc-le-suc h))

pub in_index : (name : Name) {xs : List Name} → name ∈ xs → index_of name xs < length xs
unfolding index_of
in_index name (Memᴰ.head {x = x} e) = rw (← e, same_refl name) (omega arith)
in_index name (Memᴰ.tail {x = x} {xs = xs} m) = go (same_bytes x name) (in_index name m)
  where
    go : (b : Bool) → index_of name xs < length xs → cond b 0 (suc (index_of name xs)) < suc (length xs)
    go true h = omega arith
    go false h = omega (arith, h)

-- a new name has the number of the place where it is put
pub index_new : (name : Name) (xs : List Name) (i : ℕ) → i < length xs → ¬ (name ∈ xs) → index_of name (set xs i name) ≡ i
unfolding index_of
index_new name [] i h n = absurd (omega arith)
index_new name (x ∷ xs) zero h n = rw (same_refl name)
index_new name (x ∷ xs) (suc i) h n = go (same_bytes x name) refl (index_new name xs i (le_of_suc-le-suc h) (λ m. n (Memᴰ.tail m)))
  where
    go : (b : Bool) → same_bytes x name ≡ b → index_of name (set xs i name) ≡ i → cond b 0 (suc (index_of name (set xs i name))) ≡ suc i
    go true e ih = absurd (n (Memᴰ.head (sym (same_bytes_lem x name e))))
    go false e ih = ap suc ih

-- the entry at a name's number is the name
pub index_at : (name : Name) {xs : List Name} → name ∈ xs → get_or xs (index_of name xs) [] ≡ name
unfolding index_of
index_at name (Memᴰ.head {x = x} e) = rw (← e, same_refl name)
index_at name (Memᴰ.tail {x = x} {xs = xs} m) = go (same_bytes x name) refl (index_at name m)
  where
    go : (b : Bool) → same_bytes x name ≡ b → get_or xs (index_of name xs) [] ≡ name → get_or (x ∷ xs) (cond b 0 (suc (index_of name xs))) [] ≡ name
    go true e ih = same_bytes_lem x name e
    go false e ih = ih

-- names with one number are the same
pub one_name : (x y : Name) (xs : List Name) → x ∈ xs → index_of x xs ≡ index_of y xs → x ≡ y
one_name x y xs m e =
    let n : y ∈ xs = index_in_lem y xs (subst (λ i. i < length xs) e (in_index x m)) in
    sym (index_at x m) ∙ ap (λ i. get_or xs i []) e ∙ index_at y n

-- a name keeps its number where another takes a place that was free
pub index_kept : (x new : Name) (xs : List Name) (i : ℕ) → get_or xs i [] ≡ [] → ¬ (x ≡ []) → ¬ (new ≡ x) → index_of x (set xs i new) ≡ index_of x xs
unfolding index_of
index_kept x new [] i free some other = refl
index_kept x new (y ∷ xs) zero free some other =
    rw (unlike new other, unlike y (λ e. some (sym e ∙ free)))
  where
    unlike : (z : Name) → ¬ (z ≡ x) → same_bytes z x ≡ false
    unlike z n = elim (test (same_bytes z x)) [ inl e ↦ absurd (n (same_bytes_lem z x e)) | inr e ↦ e ]
index_kept x new (y ∷ xs) (suc i) free some other = ap (λ n. cond (same_bytes y x) 0 (suc n)) (index_kept x new xs i free some other)

-- a signal with a name is declared where the name has a bit
pub declared_some : (g : Signals) (name : Name) {r : Option ℕ} → r ≡ bit_of name g.names → is_some r ≡ is_declared g name
declared_some g name e = ap is_some e ∙ go (is_declared g name)
  where
    go : (b : Bool) → is_some (cond b (Some (index_of name g.names)) None) ≡ b
    go true = refl
    go false = refl

-- what leaves hold
pub leaf_values : (names : List Name) (text : List ℕ) → length names ≡ bits → Values (leaf_value names text)
unfolding leaf_value
leaf_values names text e =
    record { small = λ t. go (eqb t.kind name_kind) _ (index_of_le (between text t.from t.next) names); constant = λ t e. rw e }
  where
    go : (b : Bool) (i : ℕ) → i ≤ length names → cond b i 0 < index_limit
    go true i h = omega arith
    go false i h = omega arith

-- ---- the tokens from a place on

module _ (text : List ℕ) (at : ℕ) (h : at ≤ length text) (tok : Token) (it : tok ≡ token_at text at) where
  pub declared_end : (g : Signals) → tok.kind ≡ 0 → all_declared g text (tokens text at) ≡ true
  unfolding all_declared
  declared_end g z = rw (tokens_end text at h (ap (λ (x : Token). x.kind) (sym it) ∙ z))

  module _ (f : tok.kind ≡ 0 → ⊥) where
    here : tokens text at ≡ tok ∷ tokens text tok.next
    here = tokens_more text at h (λ z. f (ap (λ (x : Token). x.kind) it ∙ z)) ∙ ap (λ (x : Token). x ∷ tokens text x.next) (sym it)

    pub token_past : at < tok.next
    token_past = subst (λ (x : Token). at < x.next) (sym it) (falls text at h (λ z. f (ap (λ (x : Token). x.kind) it ∙ z)))

    module _ (g : Signals) where
      pub declared_other : (tok.kind ≡ name_kind → ⊥) → all_declared g text (tokens text at) ≡ all_declared g text (tokens text tok.next)
      unfolding all_declared
      declared_other n = rw (here, ne_eqb tok.kind name_kind n)

      module _ (k : tok.kind ≡ name_kind) where
        pub declared_name : is_declared g (between text tok.from tok.next) ≡ true
            → all_declared g text (tokens text at) ≡ all_declared g text (tokens text tok.next)
        unfolding all_declared
        declared_name d = rw (here, eq-eqb tok.kind name_kind k, d)

        pub declared_none : is_declared g (between text tok.from tok.next) ≡ false → all_declared g text (tokens text at) ≡ false
        unfolding all_declared
        declared_none d = rw (here, eq-eqb tok.kind name_kind k, d)

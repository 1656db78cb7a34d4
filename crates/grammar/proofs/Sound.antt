-- What the reader finds, the grammar derives. Assumes nothing.
use mathlib.Core.Path.{◌≡◌, refl, sym, subst₂, ap, ◌∙◌}
use mathlib.Core.Bool.{false}
use mathlib.Core.List.{List, [], ◌∷◌, ◌++◌, append_assoc}
use Prim.Native.Nat.{ℕ, zero, suc, ◌≤◌}
use borrow.Author.Tests.{eqb-true}
use lib.ListN.{length}
use Rattle.syntax.specs.declared.lex.Token.{Token}
use Rattle.syntax.specs.Kinds.{open_kind, close_kind}
use Rattle.syntax.specs.Lex.{token_at, tokens}
use Rattle.syntax.specs.Tree.{Tree, leaf, pre, bin}
use Rattle.grammar.specs.Grammar.{Grammar, Derives, tighter, to_left, to_right, prefixed, plain, grouped, other}
use Rattle.grammar.specs.Parse.{Reader, some, parse_f, grow_f, atom_f, close}
use Rattle.grammar.proofs.ParseCases.{is_kind, none_some, false_true, on_elim, bind_elim}
use Rattle.syntax.proofs.LexLaws.{ends}
use Rattle.grammar.proofs.ReadsInside.{Laws, parse_in, some_one, some_two}
use Rattle.grammar.proofs.GrammarLaws.{Exact}
use Rattle.syntax.proofs.Spelt.{tokens_test}

-- the tokens from `at` up to `next` are a phrase of level l with the tree a
pub record Phrase (G : Grammar) (text : List ℕ) (l at : ℕ) (a : Tree) (next : ℕ) : Type 0 where
  pub us : List Token
  pub derives : Derives G l us a
  pub spells : tokens text at ≡ us ++ tokens text next

to : {G : Grammar} (text : List ℕ) (l at : ℕ) (a b : Tree) (m n : ℕ) → some a m ≡ some b n → Phrase G text l at a m → Phrase G text l at b n
to {G} text l at a b m n e i = subst₂ (λ x y. Phrase G text l at x y) (some_one a b m n e) (some_two a b m n e) i

module _ {f : ℕ → ℕ} {R : Reader} (L : Laws f R) (X : Exact R) where
  module _ (text : List ℕ) where
    mutual
      unfolding parse_f close

      pub parse_sound : (k l at : ℕ) (a : Tree) (next : ℕ) → at ≤ length text → parse_f R k text l at ≡ some a next
          → Phrase R.grammar text l at a next
      parse_sound zero l at a next h e = none_some a next e
      parse_sound (suc k) zero at a next h e =
          on_elim _ _ _ _ e
          (λ p e₁. bind_elim _ _ _ _ e₁ (λ b m eb es.
          let i = parse_sound k zero (token_at text at).next b m (ends text at h).high eb in
          to text zero at (pre (token_at text at) b) a m next es
          (record {
            us = token_at text at ∷ i.us;
            derives = prefixed (token_at text at) p i.derives;
            spells = tokens_test text at h R.grammar.is_pre L.pre_end p ∙ ap (λ ts. token_at text at ∷ ts) i.spells;
          })))
          (λ p e₂. atom_sound k at a next h e₂)
      parse_sound (suc k) (suc r) at a next h e =
          bind_elim _ _ _ _ e (λ b m eb es.
          let i = parse_sound k r at b m h eb in
          grow_sound k r b at m a next (parse_in L text k r at b m h eb).high (λ _. i)
          (record { us = i.us; derives = tighter i.derives; spells = i.spells }) es)

      grow_sound : (k r : ℕ) (b : Tree) (from at : ℕ) (a : Tree) (next : ℕ) → at ≤ length text
          → (R.grammar.leftward (suc r) ≡ false → Phrase R.grammar text r from b at) → Phrase R.grammar text (suc r) from b at
          → grow_f R k text r b at ≡ some a next → Phrase R.grammar text (suc r) from a next
      grow_sound zero r b from at a next h tight loose e = none_some a next e
      grow_sound (suc k) r b from at a next h tight loose e =
          on_elim _ _ _ _ e
          (λ o e₁. let u = (ends text at h).high in
          let here = tokens_test text at h (R.grammar.is_op (suc r)) (L.op_end (suc r)) o in
          on_elim _ _ _ _ e₁
          (λ l e₂. bind_elim _ _ _ _ e₂ (λ c m ec es.
          let i = parse_sound k r (token_at text at).next c m u ec in
          grow_sound k r (bin (token_at text at) b c) from m a next (parse_in L text k r (token_at text at).next c m u ec).high
          (λ z. false_true (sym z ∙ l))
          (record {
            us = loose.us ++ token_at text at ∷ i.us;
            derives = to_left (token_at text at) l o loose.derives i.derives;
            spells = joined loose.us i.us from at m loose.spells here i.spells;
          }) es))
          (λ l e₂. bind_elim _ _ _ _ e₂ (λ c m ec es.
          let i = parse_sound k (suc r) (token_at text at).next c m u ec in
          let j = tight l in
          to text (suc r) from (bin (token_at text at) b c) a m next es
          (record {
            us = j.us ++ token_at text at ∷ i.us;
            derives = to_right (token_at text at) l o j.derives i.derives;
            spells = joined j.us i.us from at m j.spells here i.spells;
          }))))
          (λ _ e₁. to text (suc r) from b a at next e₁ loose)
        where
          joined : (us vs : List Token) (from at m : ℕ) → tokens text from ≡ us ++ tokens text at
              → tokens text at ≡ token_at text at ∷ tokens text (token_at text at).next → tokens text (token_at text at).next ≡ vs ++ tokens text m
              → tokens text from ≡ (us ++ token_at text at ∷ vs) ++ tokens text m
          joined us vs from at m p q s = p ∙ ap (λ ts. us ++ ts) (q ∙ ap (λ ts. token_at text at ∷ ts) s)
              ∙ sym (append_assoc us (token_at text at ∷ vs) (tokens text m))

      atom_sound : (k at : ℕ) (a : Tree) (next : ℕ) → at ≤ length text → atom_f R k text at ≡ some a next
          → Phrase R.grammar text zero at a next
      atom_sound zero at a next h e = none_some a next e
      atom_sound (suc k) at a next h e =
          on_elim _ _ _ _ e
          (λ p e₁. to text zero at (leaf (token_at text at)) a (token_at text at).next next e₁
          (record {
            us = token_at text at ∷ [];
            derives = plain (token_at text at) p;
            spells = tokens_test text at h R.grammar.is_leaf L.leaf_end p;
          }))
          (λ _ e₁. on_elim _ _ _ _ e₁
          (λ p e₂. bind_elim _ _ _ _ e₂ (λ b m eb es.
          let u = (ends text at h).high in
          let i = parse_sound k R.grammar.top (token_at text at).next b m u eb in
          let v = (parse_in L text k R.grammar.top (token_at text at).next b m u eb).high in
          on_elim _ _ _ _ es
          (λ q e₃. to text zero at b a (token_at text m).next next e₃
          (record {
            us = token_at text at ∷ i.us ++ token_at text m ∷ [];
            derives = grouped (token_at text at) (token_at text m) (eqb-true _ _ p) (eqb-true _ _ q) i.derives;
            spells = tokens_test text at h (is_kind open_kind) refl p
                ∙ ap (λ ts. token_at text at ∷ ts) (i.spells ∙ ap (λ ts. i.us ++ ts) (tokens_test text m v (is_kind close_kind) refl q)
                ∙ sym (append_assoc i.us (token_at text m ∷ []) (tokens text (token_at text m).next)));
          }))
          (λ _ e₃. none_some a next e₃)))
          (λ _ e₂. let o = X.other_sound text at a next h e₂ in record { us = o.0; derives = other o.1; spells = o.2 }))

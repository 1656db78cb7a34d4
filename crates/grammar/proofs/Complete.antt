-- What the grammar derives, the reader finds. Assumes nothing.
use mathlib.Core.Path.{◌≡◌, sym, ap, ◌∙◌}
use mathlib.Core.Bool.{true, false}
use mathlib.Core.List.{List, [], ◌∷◌, ◌++◌, append_assoc}
use Prim.Native.Nat.{ℕ, zero, suc, ◌≤◌}
use native.Mathlib.Omega.{arith}
use native.Mathlib.Nat.{le_refl}
use borrow.Author.Tests.{eq-eqb}
use lib.ListN.{length}
use Rattle.syntax.specs.declared.lex.Token.{Token}
use Rattle.syntax.specs.Lex.{token_at, tokens}
use Rattle.syntax.specs.Tree.{Tree, leaf, pre, bin}
use Rattle.grammar.specs.Grammar.{Derives, tighter, to_left, to_right, prefixed, plain, grouped, other}
use Rattle.grammar.specs.Parse.{Res, some, close, Reader, parse, grow}
use Rattle.basics.proofs.Booleans.{or_left, or_right}
use Rattle.grammar.proofs.ParseCases.{false_true, on_true, bind_some}
use Rattle.syntax.proofs.LexLaws.{ends}
use Rattle.grammar.proofs.ReadsInside.{Laws}
use Rattle.grammar.proofs.GrammarLaws.{Exact, goes_on}
use Rattle.grammar.proofs.ParseLaws.{parse_bin, parse_atom, parse_pre}
use Rattle.grammar.proofs.ParseLaws.{grow_stop, grow_left, grow_right, atom_leaf, atom_other, atom_group}
use Rattle.syntax.proofs.Spelt.{first, first_token, head_is, tail_is}

module _ {f : ℕ → ℕ} {R : Reader} (L : Laws f R) (X : Exact R) where
  module _ (text : List ℕ) where
    -- the reader finds a at level l from `at`, and what comes after it is spelt rest
    pub record Found (res : Res) (a : Tree) (rest : List Token) : Type 0 where
      pub next : ℕ
      pub found : res ≡ some a next
      pub inside : next ≤ length text
      pub after : tokens text next ≡ rest

    -- the reader has a and looks for operators of level suc r
    record Grown (res : Res) (r : ℕ) (a : Tree) (rest : List Token) : Type 0 where
      next : ℕ
      grown : res ≡ grow R text r a next
      inside : next ≤ length text
      after : tokens text next ≡ rest

    -- no operator of the level follows
    stop : (r : ℕ) (res : Res) (a : Tree) (rest : List Token) → suc r ≤ R.grammar.top → R.grammar.is_op (suc r) (first rest) ≡ false
        → Grown res r a rest → Found res a rest
    stop r res a rest hr o g =
        record {
          next = g.next;
          inside = g.inside;
          after = g.after;
          found = g.grown ∙ grow_stop L text g.next g.inside r hr a
              (ap (R.grammar.is_op (suc r)) (sym (first_token text g.next g.inside) ∙ ap first g.after) ∙ o);
        }

    -- a phrase of level r is where the reader of level suc r begins
    begin : (r at : ℕ) (a : Tree) (rest : List Token) → at ≤ length text → suc r ≤ R.grammar.top → Found (parse R text r at) a rest
        → Grown (parse R text (suc r) at) r a rest
    begin r at a rest h hr f =
        record {
          next = f.next;
          inside = f.inside;
          after = f.after;
          grown = parse_bin L text at h r hr ∙ bind_some _ _ a f.next f.found;
        }

    module _ (r : ℕ) (res : Res) (a b : Tree) (t : Token) (us rest : List Token) (hr : suc r ≤ R.grammar.top)
        (o : R.grammar.is_op (suc r) t.kind ≡ true) (g : Grown res r a (t ∷ us ++ rest)) where
      op_here : token_at text g.next ≡ t
      op_here = head_is text g.next g.inside t (us ++ rest) g.after

      op_is : R.grammar.is_op (suc r) (token_at text g.next).kind ≡ true
      op_is = ap (λ (x : Token). R.grammar.is_op (suc r) x.kind) op_here ∙ o

      op_tail : tokens text (token_at text g.next).next ≡ us ++ rest
      op_tail = tail_is text g.next g.inside t (us ++ rest) g.after

      op_in : (token_at text g.next).next ≤ length text
      op_in = (ends text g.next g.inside).high

      join_left : R.grammar.leftward (suc r) ≡ true → Found (parse R text r (token_at text g.next).next) b rest
          → Grown res r (bin t a b) rest
      join_left l f =
          record {
            next = f.next;
            inside = f.inside;
            after = f.after;
            grown = g.grown ∙ grow_left L text g.next g.inside r hr a op_is l ∙ bind_some _ _ b f.next f.found
                ∙ ap (λ x. grow R text r (bin x a b) f.next) op_here;
          }

      join_right : R.grammar.leftward (suc r) ≡ false → Found (parse R text (suc r) (token_at text g.next).next) b rest
          → Found res (bin t a b) rest
      join_right l f =
          record {
            next = f.next;
            inside = f.inside;
            after = f.after;
            found = g.grown ∙ grow_right L text g.next g.inside r hr a op_is l ∙ bind_some _ _ b f.next f.found
                ∙ ap (λ x. some (bin x a b) f.next) op_here;
          }

    -- what is shown of a phrase, by induction on how it is derived: read by itself, and, at a level that groups to the left, before
    -- further operators
    abbrev Whole : ℕ → List Token → Tree → Type 0
    Whole l us a =
        (at : ℕ) (rest : List Token) → at ≤ length text → l ≤ R.grammar.top → tokens text at ≡ us ++ rest
        → goes_on R.grammar l (first rest) ≡ false → Found (parse R text l at) a rest

    abbrev Left : ℕ → List Token → Tree → Type 0
    Left zero us a = Unit {0}
    Left (suc r) us a =
        (at : ℕ) (rest : List Token) → at ≤ length text → suc r ≤ R.grammar.top → R.grammar.leftward (suc r) ≡ true
        → tokens text at ≡ us ++ rest → goes_on R.grammar r (first rest) ≡ false → Grown (parse R text (suc r) at) r a rest

    -- what does not go on a phrase of a level is no operator of it, and does not go on one of the level below
    no_op : (r : ℕ) (rest : List Token) → goes_on R.grammar (suc r) (first rest) ≡ false → R.grammar.is_op (suc r) (first rest) ≡ false
    unfolding goes_on
    no_op r rest s = or_left (R.grammar.is_op (suc r) (first rest)) (goes_on R.grammar r (first rest)) s

    below : (r : ℕ) (rest : List Token) → goes_on R.grammar (suc r) (first rest) ≡ false → goes_on R.grammar r (first rest) ≡ false
    unfolding goes_on
    below r rest s = or_right (R.grammar.is_op (suc r) (first rest)) (goes_on R.grammar r (first rest)) s

    done : {l : ℕ} {us : List Token} {a : Tree} → Derives R.grammar l us a → Whole l us a × Left l us a
    unfolding goes_on first close
    done (tighter {r = r} {a = a} d) =
        let i = done d in (
          λ at rest h hl e s. stop r _ a rest (omega arith) (no_op r rest s)
              (begin r at a rest h (omega arith) (i.0 at rest h (omega arith) e (below r rest s))),
          λ at rest h hr l e s. begin r at a rest h hr (i.0 at rest h (omega arith) e s),
        )
    done (to_left {r = r} {ts = ts} {us = us} {a = a} {b = b} t l o d d') =
        let i = done d in
        let j = done d' in
        let both : Left (suc r) (ts ++ t ∷ us) (bin t a b) =
        (λ at rest h hr l' e s.
        let g = i.1 at (t ∷ us ++ rest) h hr l (e ∙ append_assoc ts (t ∷ us) rest) (X.apart r t.kind o) in
        join_left r _ a b t us rest hr o g l
        (j.0 _ rest (op_in r _ a b t us rest hr o g) (omega arith) (op_tail r _ a b t us rest hr o g) s)) in (
          λ at rest h hl e s. stop r _ (bin t a b) rest (omega arith) (no_op r rest s) (both at rest h (omega arith) l e (below r rest s)),
          both,
        )
    done (to_right {r = r} {ts = ts} {us = us} {a = a} {b = b} t l o d d') =
        let i = done d in
        let j = done d' in (
          λ at rest h hl e s.
              let hr : suc r ≤ R.grammar.top = omega arith in
              let g = begin r at a (t ∷ us ++ rest) h hr
              (i.0 at (t ∷ us ++ rest) h (omega arith) (e ∙ append_assoc ts (t ∷ us) rest) (X.apart r t.kind o)) in
              join_right r _ a b t us rest hr o g l
              (j.0 _ rest (op_in r _ a b t us rest hr o g) hl (op_tail r _ a b t us rest hr o g) s),
          λ at rest h hr l' e s. false_true (sym l ∙ l'),
        )
    done (prefixed {us = us} {a = a} t p d) =
        let i = done d in (
          λ at rest h hl e s.
              let q = head_is text at h t (us ++ rest) e in
              let f = i.0 (token_at text at).next rest (ends text at h).high hl (tail_is text at h t (us ++ rest) e) s in
              record {
                next = f.next;
                inside = f.inside;
                after = f.after;
                found = parse_pre L text at h (ap (λ (x : Token). R.grammar.is_pre x.kind) q ∙ p) ∙ bind_some _ _ a f.next f.found
                    ∙ ap (λ x. some (pre x a) f.next) q;
              },
          tt,
        )
    done (plain t p) = (
      λ at rest h hl e s.
          let q = head_is text at h t rest e in
          let k = ap (λ (x : Token). R.grammar.is_leaf x.kind) q ∙ p in
          record {
            next = (token_at text at).next;
            inside = (ends text at h).high;
            after = tail_is text at h t rest e;
            found = parse_atom L text at h (X.leaf_pre (token_at text at).kind k) ∙ atom_leaf L text at h k
                ∙ ap (λ x. some (leaf x) (token_at text at).next) q;
          },
      tt,
    )
    done (grouped {us = us} {a = a} t c o z d) =
        let i = done d in (
          λ at rest h hl e s.
              let e' = e ∙ ap (λ ts. t ∷ ts) (append_assoc us (c ∷ []) rest) in
              let q = head_is text at h t (us ++ c ∷ rest) e' in
              let k = ap (λ (x : Token). x.kind) q ∙ o in
              let f = i.0 (token_at text at).next (c ∷ rest) (ends text at h).high (le_refl R.grammar.top)
              (tail_is text at h t (us ++ c ∷ rest) e') (rw z X.close_op) in
              let y = head_is text f.next f.inside c rest f.after in
              record {
                next = (token_at text f.next).next;
                inside = (ends text f.next f.inside).high;
                after = tail_is text f.next f.inside c rest f.after;
                found = parse_atom L text at h (rw k X.open_pre) ∙ atom_group L text at h (rw k X.open_leaf) k
                    ∙ bind_some _ _ a f.next f.found ∙ on_true _ _ _ (eq-eqb _ _ (ap (λ (x : Token). x.kind) y ∙ z));
              },
          tt,
        )
    done (other {us = us} {a = a} w) = (
      λ at rest h hl e s.
          let f = X.other_found w text at rest h e in
          record {
            next = f.next;
            inside = f.inside;
            after = f.after;
            found = parse_atom L text at h f.not_pre ∙ atom_other L text at h f.not_leaf f.not_open ∙ f.found;
          },
      tt,
    )

    pub complete : {l : ℕ} {us : List Token} {a : Tree} → Derives R.grammar l us a → (at : ℕ) (rest : List Token) → at ≤ length text
        → l ≤ R.grammar.top → tokens text at ≡ us ++ rest → goes_on R.grammar l (first rest) ≡ false → Found (parse R text l at) a rest
    complete d = (done d).0

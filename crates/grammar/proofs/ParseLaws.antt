-- The reader's bound makes no difference once it is large enough, so the reader goes by these equations. Assumes nothing.
use mathlib.Core.Path.{◌≡◌, refl, ◌∙◌}
use mathlib.Core.Bool.{true, false}
use mathlib.Core.List.{List}
use Prim.Native.Nat.{ℕ, zero, suc, ◌-◌, ◌≤◌}
use native.Mathlib.Omega.{arith}
use borrow.Author.Tests.{eq-eqb, ne_eqb}
use lib.ListN.{length}
use Rattle.syntax.specs.Kinds.{open_kind}
use Rattle.syntax.specs.Lex.{token_at}
use Rattle.syntax.specs.Tree.{Tree, leaf, pre, bin}
use Rattle.grammar.specs.Parse.{Reader, some, bind, parse_f, grow_f, atom_f, close, need, need₁, parse, grow, atom}
use Rattle.grammar.proofs.ParseCases.{is_kind, on_cong, bind_cong, on_true, on_false}
use Rattle.syntax.proofs.LexLaws.{ends}
use Rattle.grammar.proofs.ReadsInside.{In, Laws, parse_in}

module _ {f : ℕ → ℕ} {R : Reader} (L : Laws f R) where
  module _ (text : List ℕ) where
    mutual
      unfolding parse_f

      parse_same : (k m l at : ℕ) → at ≤ length text → l ≤ R.grammar.top → need l (length text - at) ≤ k → need l (length text - at) ≤ m
          → parse_f R k text l at ≡ parse_f R m text l at
      parse_same zero m l at h hl p q = absurd (omega (arith, L.few))
      parse_same (suc k) zero l at h hl p q = absurd (omega (arith, L.few))
      parse_same (suc k) (suc m) zero at h hl p q =
          on_cong _ _ _ _ _
          (λ o. let t = ends text at h in
          let s = t.real R.grammar.is_pre L.pre_end o in
          let u = t.high in
          bind_cong _ _ _ _ (parse_same k m zero (token_at text at).next u hl (omega (arith, L.few)) (omega (arith, L.few))) (λ b n e. refl))
          (λ o. atom_same k m at h (omega (arith, L.few)) (omega (arith, L.few)))
      parse_same (suc k) (suc m) (suc r) at h hl p q =
          bind_cong _ _ _ _ (parse_same k m r at h (omega (arith, L.few)) (omega (arith, L.few)) (omega (arith, L.few)))
          (λ b n e. let i = parse_in L text k r at b n h e in
          let il = i.later in
          let ih = i.high in
          grow_same k m r b n ih (omega (arith, L.few)) (omega (arith, L.few)) (omega (arith, L.few)))

      grow_same : (k m r : ℕ) (a : Tree) (at : ℕ) → at ≤ length text → suc r ≤ R.grammar.top → need₁ (length text - at) ≤ k
          → need₁ (length text - at) ≤ m → grow_f R k text r a at ≡ grow_f R m text r a at
      grow_same zero m r a at h hr p q = absurd (omega (arith, L.few))
      grow_same (suc k) zero r a at h hr p q = absurd (omega (arith, L.few))
      grow_same (suc k) (suc m) r a at h hr p q =
          on_cong _ _ _ _ _
          (λ o. let t = ends text at h in
          let s = t.real (R.grammar.is_op (suc r)) (L.op_end (suc r)) o in
          let u = t.high in
          on_cong _ _ _ _ _
          (λ _. bind_cong _ _ _ _
          (parse_same k m r (token_at text at).next u (omega (arith, L.few)) (omega (arith, L.few)) (omega (arith, L.few)))
          (λ b n e. let i = parse_in L text k r (token_at text at).next b n u e in
          let il = i.later in
          let ih = i.high in
          grow_same k m r _ n ih hr (omega (arith, L.few)) (omega (arith, L.few))))
          (λ _. bind_cong _ _ _ _
          (parse_same k m (suc r) (token_at text at).next u (omega (arith, L.few)) (omega (arith, L.few)) (omega (arith, L.few)))
          (λ b n e. refl)))
          (λ o. refl)

      atom_same : (k m at : ℕ) → at ≤ length text → need₁ (length text - at) ≤ k → need₁ (length text - at) ≤ m
          → atom_f R k text at ≡ atom_f R m text at
      atom_same zero m at h p q = absurd (omega (arith, L.few))
      atom_same (suc k) zero at h p q = absurd (omega (arith, L.few))
      atom_same (suc k) (suc m) at h p q =
          on_cong _ _ _ _ _ (λ _. refl)
          (λ _. on_cong _ _ _ _ _
          (λ o. let t = ends text at h in
          let s = t.real (is_kind open_kind) refl o in
          let u = t.high in
          bind_cong _ _ _ _
          (parse_same k m R.grammar.top (token_at text at).next u (omega (arith, L.few)) (omega (arith, L.few))
          (omega (arith, L.few))) (λ b n e. refl))
          (λ _. refl))

    module _ (at : ℕ) (h : at ≤ length text) where
      -- a phrase of a level with operators: one of the level below, and then its operators
      pub parse_bin : (r : ℕ) → suc r ≤ R.grammar.top
          → parse R text (suc r) at ≡ bind (parse R text r at) (λ a next. grow R text r a next)
      unfolding parse grow parse_f
      parse_bin r hr =
          let K = need (suc r) (length text - at) in
          parse_same K (suc K) (suc r) at h (omega (arith, L.few)) (omega (arith, L.few)) (omega (arith, L.few))
          ∙ bind_cong _ _ _ _
          (parse_same K (need r (length text - at)) r at h (omega (arith, L.few)) (omega (arith, L.few)) (omega (arith, L.few)))
          (λ b n e. let i = parse_in L text K r at b n h e in
          let il = i.later in
          let ih = i.high in
          grow_same K (need₁ (length text - n)) r b n ih hr (omega (arith, L.few)) (omega (arith, L.few)))

      pub parse_atom : R.grammar.is_pre (token_at text at).kind ≡ false → parse R text 0 at ≡ atom R text at
      unfolding parse atom parse_f
      parse_atom o =
          let K = need 0 (length text - at) in
          parse_same K (suc K) 0 at h (omega (arith, L.few)) (omega (arith, L.few)) (omega (arith, L.few))
          ∙ on_false _ _ _ o
          ∙ atom_same K (need₁ (length text - at)) at h (omega (arith, L.few)) (omega (arith, L.few))

      pub parse_pre : R.grammar.is_pre (token_at text at).kind ≡ true
          → parse R text 0 at ≡ bind (parse R text 0 (token_at text at).next) (λ a next. some (pre (token_at text at) a) next)
      unfolding parse parse_f
      parse_pre o =
          let K = need 0 (length text - at) in
          let t = ends text at h in
          let s = t.real R.grammar.is_pre L.pre_end o in
          let u = t.high in
          parse_same K (suc K) 0 at h (omega (arith, L.few)) (omega (arith, L.few)) (omega (arith, L.few))
          ∙ on_true _ _ _ o
          ∙ bind_cong _ _ _ _ (parse_same K (need 0 (length text - (token_at text at).next)) 0 (token_at text at).next u (omega (arith, L.few))
          (omega (arith, L.few)) (omega (arith, L.few))) (λ b n e. refl)

      module _ (r : ℕ) (hr : suc r ≤ R.grammar.top) (a : Tree) where
        pub grow_stop : R.grammar.is_op (suc r) (token_at text at).kind ≡ false → grow R text r a at ≡ some a at
        unfolding grow parse_f
        grow_stop o =
            let K = need₁ (length text - at) in
            grow_same K (suc K) r a at h hr (omega (arith, L.few)) (omega (arith, L.few)) ∙ on_false _ _ _ o

        module _ (o : R.grammar.is_op (suc r) (token_at text at).kind ≡ true) where
          pub grow_left : R.grammar.leftward (suc r) ≡ true
              → grow R text r a at
              ≡ bind (parse R text r (token_at text at).next) (λ b next. grow R text r (bin (token_at text at) a b) next)
          unfolding grow parse parse_f
          grow_left l =
              let K = need₁ (length text - at) in
              let t = ends text at h in
              let s = t.real (R.grammar.is_op (suc r)) (L.op_end (suc r)) o in
              let u = t.high in
              grow_same K (suc K) r a at h hr (omega (arith, L.few)) (omega (arith, L.few))
              ∙ on_true _ _ _ o
              ∙ on_true _ _ _ l
              ∙ bind_cong _ _ _ _ (parse_same K (need r (length text - (token_at text at).next)) r (token_at text at).next u (omega (arith, L.few))
              (omega (arith, L.few)) (omega (arith, L.few)))
              (λ b n e. let i = parse_in L text K r (token_at text at).next b n u e in
              let il = i.later in
              let ih = i.high in
              grow_same K (need₁ (length text - n)) r _ n ih hr (omega (arith, L.few)) (omega (arith, L.few)))

          pub grow_right : R.grammar.leftward (suc r) ≡ false
              → grow R text r a at ≡ bind (parse R text (suc r) (token_at text at).next) (λ b next. some (bin (token_at text at) a b) next)
          unfolding grow parse parse_f
          grow_right l =
              let K = need₁ (length text - at) in
              let t = ends text at h in
              let s = t.real (R.grammar.is_op (suc r)) (L.op_end (suc r)) o in
              let u = t.high in
              grow_same K (suc K) r a at h hr (omega (arith, L.few)) (omega (arith, L.few))
              ∙ on_true _ _ _ o
              ∙ on_false _ _ _ l
              ∙ bind_cong _ _ _ _ (parse_same K (need (suc r) (length text - (token_at text at).next)) (suc r) (token_at text at).next u
              (omega (arith, L.few)) (omega (arith, L.few)) (omega (arith, L.few))) (λ b n e. refl)

      pub atom_leaf : R.grammar.is_leaf (token_at text at).kind ≡ true
          → atom R text at ≡ some (leaf (token_at text at)) (token_at text at).next
      unfolding atom parse_f
      atom_leaf o =
          let K = need₁ (length text - at) in
          atom_same K (suc K) at h (omega (arith, L.few)) (omega (arith, L.few)) ∙ on_true _ _ _ o

      module _ (o : R.grammar.is_leaf (token_at text at).kind ≡ false) where
        pub atom_other : ((token_at text at).kind ≡ open_kind → ⊥) → atom R text at ≡ R.other text at
        unfolding atom parse_f
        atom_other q =
            let K = need₁ (length text - at) in
            atom_same K (suc K) at h (omega (arith, L.few)) (omega (arith, L.few)) ∙ on_false _ _ _ o ∙ on_false _ _ _ (ne_eqb _ _ q)

        pub atom_group : (token_at text at).kind ≡ open_kind
            → atom R text at ≡ bind (parse R text R.grammar.top (token_at text at).next) (close text)
        unfolding atom parse parse_f
        atom_group q =
            let K = need₁ (length text - at) in
            let t = ends text at h in
            let s = t.real (is_kind open_kind) refl (eq-eqb _ _ q) in
            let u = t.high in
            atom_same K (suc K) at h (omega (arith, L.few)) (omega (arith, L.few))
            ∙ on_false _ _ _ o
            ∙ on_true _ _ _ (eq-eqb _ _ q)
            ∙ bind_cong _ _ _ _
            (parse_same K (need R.grammar.top (length text - (token_at text at).next)) R.grammar.top (token_at text at).next u
            (omega (arith, L.few)) (omega (arith, L.few)) (omega (arith, L.few))) (λ b n e. refl)

      -- what is read lies within the text
      pub parse_inside : (l : ℕ) (a : Tree) (next : ℕ) → parse R text l at ≡ some a next → In f text at a next
      unfolding parse
      parse_inside l a next e = parse_in L text _ l at a next h e

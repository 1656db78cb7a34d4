-- The tokens of a text from a position on. Assumes nothing.
use mathlib.Core.Path.{◌≡◌, refl, sym, ap, ◌∙◌}
use mathlib.Core.Bool.{Bool, true, false}
use mathlib.Core.List.Memᴰ
use mathlib.Core.List.{List, [], ◌∷◌}
use Prim.Native.Nat.{ℕ, zero, suc, ◌-◌, ◌≤◌, ◌<◌}
use native.Mathlib.Omega.{arith}
use borrow.Author.Tests.{eq-eqb, ne_eqb, eqb-true, eqb-false}
use lib.ListN.{length}
use lib.Dec.{eqb}
use Rattle.syntax.specs.declared.lex.Token.{Token}
use Rattle.basics.specs.Member.{◌∈◌}
use Rattle.basics.proofs.Booleans.{clash}
use Rattle.syntax.specs.Kinds.{end_kind}
use Rattle.syntax.specs.Lex.{token_at, more, tokens_f, tokens}
use Rattle.syntax.proofs.LexLaws.{ends, token_some}

more_cong : (b : Bool) (t : Token) (f g : Unit {0} → List Token) → (b ≡ false → f tt ≡ g tt) → more b t f ≡ more b t g
unfolding more
more_cong true t f g h = refl
more_cong false t f g h = ap (λ ts. t ∷ ts) (h refl)

more_true : (b : Bool) (t : Token) (f : Unit {0} → List Token) → b ≡ true → more b t f ≡ []
unfolding more
more_true b t f e = rw e

more_false : (b : Bool) (t : Token) (f : Unit {0} → List Token) → b ≡ false → more b t f ≡ t ∷ f tt
unfolding more
more_false b t f e = rw e

not_end : ℕ → Bool
not_end zero = false
not_end (suc k) = true

not_end_lem : (k : ℕ) → (k ≡ end_kind → ⊥) → not_end k ≡ true
unfolding not_end
not_end_lem zero f = absurd (f refl)
not_end_lem (suc k) f = refl

-- the kind of the first token
unfoldable pub first : List Token → ℕ
first [] = end_kind
first (t ∷ ts) = t.kind

module _ (text : List ℕ) where
  pub falls : (at : ℕ) → at ≤ length text → ((token_at text at).kind ≡ end_kind → ⊥) → at < (token_at text at).next
  unfolding not_end
  falls at h n = (ends text at h).real not_end refl (not_end_lem _ n)

  same : (k m at : ℕ) → at ≤ length text → length text - at < k → length text - at < m → tokens_f k text at ≡ tokens_f m text at
  unfolding tokens_f
  same zero m at h p q = absurd (omega arith)
  same (suc k) zero at h p q = absurd (omega arith)
  same (suc k) (suc m) at h p q =
      more_cong _ _ _ _
      (λ e. let f = falls at h (eqb-false _ _ e) in
      let u = (ends text at h).high in
      same k m (token_at text at).next u (omega arith) (omega arith))

  -- no token of a text is empty
  pub tokens_some : (k at : ℕ) → at ≤ length text → (t : Token) → t ∈ tokens_f k text at → (t.from < t.next) × (t.next ≤ length text)
  unfolding tokens_f more
  tokens_some zero at h t m = absurd (Memᴰ.not-nil m)
  tokens_some (suc k) at h t m = go (eqb (token_at text at).kind end_kind) refl m (tokens_some k (token_at text at).next (ends text at h).high t)
    where
      go : (b : Bool) → eqb (token_at text at).kind end_kind ≡ b → t ∈ more b (token_at text at) (λ _. tokens_f k text (token_at text at).next)
          → (t ∈ tokens_f k text (token_at text at).next → (t.from < t.next) × (t.next ≤ length text))
          → (t.from < t.next) × (t.next ≤ length text)
      go true e m ih = absurd (Memᴰ.not-nil m)
      go false e (Memᴰ.head i) ih = rw i (token_some text at h (eqb-false _ _ e), (ends text at h).high)
      go false e (Memᴰ.tail m) ih = ih m

  module _ (at : ℕ) (h : at ≤ length text) where
    pub tokens_end : (token_at text at).kind ≡ end_kind → tokens text at ≡ []
    unfolding tokens tokens_f
    tokens_end e = more_true _ _ _ (eq-eqb _ _ e)

    pub tokens_more : ((token_at text at).kind ≡ end_kind → ⊥) → tokens text at ≡ token_at text at ∷ tokens text (token_at text at).next
    unfolding tokens tokens_f
    tokens_more n =
        let f = falls at h n in
        let u = (ends text at h).high in
        more_false _ _ _ (ne_eqb _ _ n)
        ∙ ap (λ ts. token_at text at ∷ ts)
        (same (length text - at) (suc (length text - (token_at text at).next)) (token_at text at).next u (omega arith) (omega arith))

    -- by a test that the end does not pass
    pub tokens_test : (p : ℕ → Bool) → p end_kind ≡ false → p (token_at text at).kind ≡ true
        → tokens text at ≡ token_at text at ∷ tokens text (token_at text at).next
    tokens_test p z o = tokens_more (λ e. clash (sym (ap p e) ∙ o) z)

    pub first_token : first (tokens text at) ≡ (token_at text at).kind
    unfolding first
    first_token = go (eqb (token_at text at).kind end_kind) refl
      where
        go : (b : Bool) → eqb (token_at text at).kind end_kind ≡ b → first (tokens text at) ≡ (token_at text at).kind
        go true e = ap first (tokens_end (eqb-true _ _ e)) ∙ sym (eqb-true _ _ e)
        go false e = ap first (tokens_more (eqb-false _ _ e))

    -- a token that is there
    pub head_is : (t : Token) (ts : List Token) → tokens text at ≡ t ∷ ts → token_at text at ≡ t
    head_is t ts e = go (eqb (token_at text at).kind end_kind) refl
      where
        go : (b : Bool) → eqb (token_at text at).kind end_kind ≡ b → token_at text at ≡ t
        go true z = let q = tokens_end (eqb-true _ _ z) in cc
        go false z = let q = tokens_more (eqb-false _ _ z) in cc

    pub tail_is : (t : Token) (ts : List Token) → tokens text at ≡ t ∷ ts → tokens text (token_at text at).next ≡ ts
    tail_is t ts e = go (eqb (token_at text at).kind end_kind) refl
      where
        go : (b : Bool) → eqb (token_at text at).kind end_kind ≡ b → tokens text (token_at text at).next ≡ ts
        go true z = let q = tokens_end (eqb-true _ _ z) in cc
        go false z = let q = tokens_more (eqb-false _ _ z) in cc

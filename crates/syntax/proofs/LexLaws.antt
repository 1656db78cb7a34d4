-- The cases of a token, which words are names, and where a token ends. Assumes nothing.
use Rattle.basics.proofs.Booleans.{clash, cond_elim, and_left}
use Rattle.basics.proofs.BytesLaws.{past_in, past_more}
use mathlib.Core.Path.{◌≡◌, refl, sym, subst, ap, ◌∙◌}
use mathlib.Core.Bool.{Bool, true, false, not, ◌&&◌, ◌||◌, cond}
use mathlib.Core.List.{List}
use Prim.Native.Nat.{ℕ, ◌+◌, ◌≤◌, ◌<◌}
use native.Mathlib.Omega.{arith}
use borrow.Author.Tests.{leb-false, leb-true, eq-eqb, ne_eqb, le-leb, lt-leb, lt-ltb, ltb-true}
use lib.ListN.{length, get_or}
use lib.Dec.{eqb, ltb, leb}
use Rattle.syntax.specs.declared.lex.Token.{Token}
use Rattle.basics.specs.Bytes.{between, is_space, word_byte, lower, bytes_of, same_bytes}
use Rattle.syntax.specs.Kinds.{end_kind, no_kind, name_kind, implies_kind}
use Rattle.syntax.specs.Kinds.{true_kind, false_kind, once_kind, before_kind, after_kind, within_kind, during_kind}
use Rattle.syntax.specs.Lex.{skip, word_end, token_from, token_at, is_reserved, plan_kind, word_kind}

-- the cases of a token, by the tests that a reader makes
module _ (text : List ℕ) (at i : ℕ) (si : i ≡ skip text at) where
  pub tok_end : length text ≤ i → record { kind = end_kind; from = i; next = i } ≡ token_at text at
  unfolding token_at token_from
  tok_end h = rw (← si, le-leb _ _ h)

  module _ (h : i < length text) where
    pub tok_word : (j k : ℕ) → lower (get_or text i 0) ≡ true → j ≡ word_end text i → k ≡ word_kind (between text i j)
        → record { kind = k; from = i; next = j } ≡ token_at text at
    unfolding token_at token_from
    tok_word j k l e w = rw (← si, lt-leb _ _ h, l, ← e, w)

    module _ (l : lower (get_or text i 0) ≡ false) where
      pub tok_arrow : get_or text i 0 ≡ 45 → i + 1 < length text → get_or text (i + 1) 0 ≡ 62
          → record { kind = implies_kind; from = i; next = i + 2 } ≡ token_at text at
      unfolding token_at token_from
      tok_arrow e b g = rw (← si, lt-leb _ _ h, l, eq-eqb _ _ e, lt-ltb _ _ b, eq-eqb _ _ g)

      pub tok_dash : get_or text i 0 ≡ 45 → (i + 1 < length text → get_or text (i + 1) 0 ≡ 62 → ⊥)
          → record { kind = no_kind; from = i; next = i + 1 } ≡ token_at text at
      unfolding token_at token_from
      tok_dash e b = rw (← si, lt-leb _ _ h, l, eq-eqb _ _ e, dash)
        where
          dash : (ltb (i + 1) (length text) && eqb (get_or text (i + 1) 0) 62) ≡ false
          dash = go (ltb (i + 1) (length text)) refl
            where
              go : (t : Bool) → ltb (i + 1) (length text) ≡ t → (t && eqb (get_or text (i + 1) 0) 62) ≡ false
              go true q = ne_eqb _ _ (b (ltb-true _ _ q))
              go false q = refl

      module _ (n : get_or text i 0 ≡ 45 → ⊥) where
        pub tok_none : get_or text i 0 ≡ 0 → record { kind = no_kind; from = i; next = i + 1 } ≡ token_at text at
        unfolding token_at token_from
        tok_none e = rw (← si, lt-leb _ _ h, l, ne_eqb _ _ n, eq-eqb _ _ e)

        pub tok_sign : (get_or text i 0 ≡ 0 → ⊥) → record { kind = get_or text i 0; from = i; next = i + 1 } ≡ token_at text at
        unfolding token_at token_from
        tok_sign e = rw (← si, lt-leb _ _ h, l, ne_eqb _ _ n, ne_eqb _ _ e)

-- the kind of names is that of the words that are not reserved
pub reserved_kind : (w : List ℕ) → eqb (word_kind w) name_kind ≡ not (is_reserved w)
unfolding word_kind plan_kind
reserved_kind w =
    go (same_bytes w (bytes_of "true")) (same_bytes w (bytes_of "false"))
    (same_bytes w (bytes_of "once")) (same_bytes w (bytes_of "before")) (same_bytes w (bytes_of "after"))
    (same_bytes w (bytes_of "within")) (same_bytes w (bytes_of "during"))
  where
    go : (t f o b a i d : Bool)
        → eqb (cond t true_kind (cond f false_kind
        (cond o once_kind (cond b before_kind (cond a after_kind (cond i within_kind (cond d during_kind name_kind))))))) name_kind
        ≡ not (t || f || o || b || a || i || d)
    go true f o b a i d = refl
    go false true o b a i d = refl
    go false false true b a i d = refl
    go false false false true a i d = refl
    go false false false false true i d = refl
    go false false false false false true d = refl
    go false false false false false false true = refl
    go false false false false false false false = refl

-- what holds of each kind of token holds of the one at i
from_cases : (P : Token → Type 0) (text : List ℕ) (i : ℕ) → (length text ≤ i → P (record { kind = end_kind; from = i; next = i }))
    → (i < length text → lower (get_or text i 0) ≡ true → (k : ℕ) → P (record { kind = k; from = i; next = word_end text i }))
    → (i + 1 < length text → P (record { kind = implies_kind; from = i; next = i + 2 }))
    → (i < length text → (k : ℕ) → P (record { kind = k; from = i; next = i + 1 })) → P (token_from text i)
unfolding token_from
from_cases P text i e w a s =
    let b = get_or text i 0 in
    cond_elim P (leb (length text) i) _ _ (λ q. e (leb-true _ _ q)) (λ q.
    cond_elim P (lower b) _ _ (λ l. w (leb-false _ _ q) l _) (λ _.
    cond_elim P (eqb b 45) _ _ (λ _.
    cond_elim P (ltb (i + 1) (length text) && eqb (get_or text (i + 1) 0) 62) _ _
    (λ r. a (ltb-true _ _ (and_left (ltb (i + 1) (length text)) _ r))) (λ _. s (leb-false _ _ q) no_kind)) (λ _.
    cond_elim P (eqb b 0) _ _ (λ _. s (leb-false _ _ q) no_kind) (λ _. s (leb-false _ _ q) b))))

-- a token stands behind the spaces, and a name's begins with a lowercase letter
module _ (text : List ℕ) (at : ℕ) where
  pub token_from_lem : (token_at text at).from ≡ skip text at
  unfolding token_at
  token_from_lem = from_cases (λ t. t.from ≡ skip text at) text (skip text at) (λ _. refl) (λ _ _ k. refl) (λ _. refl) (λ _ k. refl)

  pub name_letter : (token_at text at).kind ≡ name_kind → lower (get_or text (skip text at) 0) ≡ true
  unfolding token_at token_from lower
  name_letter =
      let b = get_or text (skip text at) 0 in
      let P : Token → Type 0 = λ t. t.kind ≡ name_kind → lower b ≡ true in
      cond_elim P (leb (length text) (skip text at)) _ _ (λ _ z. absurd (omega arith)) (λ _.
      cond_elim P (lower b) _ _ (λ l _. l) (λ _.
      cond_elim P (eqb b 45) _ _ (λ _.
      cond_elim P (ltb (skip text at + 1) (length text) && eqb (get_or text (skip text at + 1) 0) 62) _ _
      (λ _ z. absurd (omega arith)) (λ _ z. absurd (omega arith)))
      (λ _. cond_elim P (eqb b 0) _ _ (λ _ z. absurd (omega arith)) (λ _ z. ap lower z))))

-- a token ends within the text, and no token but the end is empty
pub record Ends (text : List ℕ) (at : ℕ) (t : Token) : Type 0 where
  pub low : at ≤ t.next
  pub ordered : t.from ≤ t.next
  pub high : t.next ≤ length text
  pub real : (p : ℕ → Bool) → p end_kind ≡ false → p t.kind ≡ true → at < t.next

pub ends : (text : List ℕ) (at : ℕ) → at ≤ length text → Ends text at (token_at text at)
unfolding token_at word_byte
ends text at h =
    from_cases (Ends text at) text (skip text at)
    (λ q. record { low = s.0; ordered = omega arith; high = s.1; real = λ p z o. clash o z })
    (λ q l k. let m = past_more word_byte text (skip text at) q (rw l) in
    let j = past_in word_byte text (skip text at + 1) (omega (arith, s)) in
    record { low = omega (arith, s); ordered = omega (arith, s); high = omega (arith, s); real = λ p z o. omega (arith, s) })
    (λ q. record { low = omega (arith, s); ordered = omega (arith, s); high = omega (arith, s); real = λ p z o. omega (arith, s) })
    (λ q k. record { low = omega (arith, s); ordered = omega (arith, s); high = omega (arith, s); real = λ p z o. omega (arith, s) })
  where
    s : (at ≤ skip text at) × (skip text at ≤ length text)
    s = past_in is_space text at h

pub token_some : (text : List ℕ) (at : ℕ) → at ≤ length text → ((token_at text at).kind ≡ end_kind → ⊥) → (token_at text at).from < (token_at text at).next
unfolding token_at word_byte
token_some text at h =
    from_cases (λ t. (t.kind ≡ end_kind → ⊥) → t.from < t.next) text (skip text at) (λ q n. absurd (n refl))
    (λ q l k n. let m = past_more word_byte text (skip text at) q (rw l) in
    omega (arith, m, past_in word_byte text (skip text at + 1) (omega arith))) (λ q n. omega arith) (λ q k n. omega arith)

-- the same of a token that was looked at
module _ (text : List ℕ) (at : ℕ) (h : at ≤ length text) (tok : Token) (it : tok ≡ token_at text at) where
  pub tok_high : tok.next ≤ length text
  tok_high = subst (λ (x : Token). x.next ≤ length text) (sym it) (ends text at h).high

  pub tok_ordered : tok.from ≤ tok.next
  tok_ordered = subst (λ (x : Token). x.from ≤ x.next) (sym it) (ends text at h).ordered

  pub tok_real : (p : ℕ → Bool) → p end_kind ≡ false → p tok.kind ≡ true → at < tok.next
  tok_real p z o = subst (λ (x : Token). at < x.next) (sym it) ((ends text at h).real p z (ap (λ (x : Token). p x.kind) (sym it) ∙ o))

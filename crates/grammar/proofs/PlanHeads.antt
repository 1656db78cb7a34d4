-- The head of a plan word is read exactly as the grammar writes it. Assumes nothing.
use mathlib.Core.Path.{◌≡◌, refl, sym, ap, subst, ◌∙◌}
use mathlib.Core.Bool.{Bool, true, false, ◌&&◌}
use mathlib.Core.List.{List, [], ◌∷◌, ◌++◌}
use Prim.Native.Nat.{ℕ, ◌+◌, ◌-◌, ◌≤◌, ◌<◌}
use native.Mathlib.Omega.{arith}
use borrow.Author.Tests.{eqb-true, eq-eqb, leb-true, le-leb}
use lib.ListN.{length}
use lib.Dec.{eqb, leb}
use Rattle.basics.proofs.Booleans.{clash, cond_elim, and_true, and_left, and_right}
use Rattle.syntax.specs.declared.lex.Token.{Token}
use Rattle.syntax.specs.declared.plans.PlanWord.{PlanWord}
use Rattle.syntax.specs.Kinds.{end_kind, open_kind, comma_kind, once_kind, before_kind, after_kind, within_kind, during_kind, digit_kind}
use Rattle.syntax.specs.Lex.{token_at, tokens}
use Rattle.syntax.specs.Plans.{InRange, steps_limit, last_limit}
use Rattle.syntax.proofs.LexLaws.{ends}
use Rattle.syntax.proofs.Spelt.{tokens_test, head_is, tail_is}
use Rattle.std.specs.Prelude.{Option, Some, None}
use Rattle.grammar.specs.declared.heads.Digit.{Digit}
use Rattle.grammar.specs.declared.heads.Head.{Head}
use Rattle.grammar.specs.Grammar.{is_pre, is_leaf, PlanHead, once, before, after, within, during}
use Rattle.grammar.specs.PlanParse.{number_at, within_head, during_head, during_from, head_of, head_at}
use Rattle.grammar.proofs.ParseCases.{is_kind}

-- ---- what was read is written so

module _ (text : List ℕ) where
  -- the second token from `at` on, the place behind it, and both before other tokens
  abbrev second_of : ℕ → Token
  second_of at = token_at text (token_at text at).next

  abbrev behind : ℕ → ℕ
  behind at = (second_of at).next

  abbrev pair : ℕ → List Token → List Token
  pair at ts = token_at text at ∷ second_of at ∷ ts

  -- two tokens and the rest
  record Two (at next : ℕ) : Type 0 where
    spells : tokens text at ≡ pair at (tokens text next)
    later : at + 1 < next
    high : next ≤ length text

  two : (at : ℕ) → at ≤ length text → (p q : ℕ → Bool) → p end_kind ≡ false → q end_kind ≡ false → p (token_at text at).kind ≡ true
      → q (second_of at).kind ≡ true → Two at (behind at)
  two at h p q pe qe pk qk =
      let t = ends text at h in
      let u = ends text (token_at text at).next t.high in
      record {
        spells = tokens_test text at h p pe pk
            ∙ ap (λ ts. token_at text at ∷ ts) (tokens_test text (token_at text at).next t.high q qe qk);
        later = omega (arith, t.real p pe pk, u.real q qe qk);
        high = u.high;
      }

  -- a number
  record Numeral (at : ℕ) (d : Digit) : Type 0 where
    digit : (token_at text at).kind ≡ digit_kind d.value
    comma : (second_of at).kind ≡ comma_kind
    both : Two at d.next

  abbrev NumberRead : ℕ → Option Digit → Type 0
  NumberRead at None = Unit {0}
  NumberRead at (Some d) = Numeral at d

  number_read : (at : ℕ) → at ≤ length text → NumberRead at (number_at text at)
  unfolding number_at
  number_read at h =
      let k = (token_at text at).kind in
      let c = (second_of at).kind in
      cond_elim (NumberRead at) (leb (digit_kind 0) k && (leb k (digit_kind 9) && eqb c comma_kind)) _ _
      (λ g. let low = and_left (leb (digit_kind 0) k) _ g in
      let r = and_right (leb k (digit_kind 9)) (eqb c comma_kind) (and_right (leb (digit_kind 0) k) _ g) in
      record {
        digit = omega (arith, leb-true (digit_kind 0) k low);
        comma = eqb-true c comma_kind r;
        both = two at h (leb (digit_kind 0)) (is_kind comma_kind) refl refl low r;
      })
      (λ _. tt)

  -- a word up to its first operand
  pub record Headed (at : ℕ) (h : Head) : Type 0 where
    pub hs : List Token
    pub begins : PlanHead hs h.word
    pub numbered : InRange h.word
    pub spells : tokens text at ≡ hs ++ tokens text h.operand
    pub later : at + 1 < h.operand
    pub high : h.operand ≤ length text

  abbrev pub HeadRead : ℕ → Option Head → Type 0
  HeadRead at None = Unit {0}
  HeadRead at (Some h) = Headed at h

  module _ (at : ℕ) (h : at ≤ length text) (o : (second_of at).kind ≡ open_kind) where
    abbrev K : ℕ
    K = (token_at text at).kind

    -- a word of kind c and its `(`
    opened : (c : ℕ) → eqb end_kind c ≡ false → K ≡ c → Two at (behind at)
    opened c z k = two at h (is_kind c) (is_kind open_kind) z refl (eq-eqb _ _ k) (eq-eqb _ _ o)

    short : (c : ℕ) → eqb end_kind c ≡ false → K ≡ c → {w : PlanWord} → PlanHead (pair at []) w → InRange w
        → Headed at (record { word = w; operand = behind at })
    short c z k b n =
        let t = opened c z k in
        record { hs = pair at []; begins = b; numbered = n; spells = t.spells; later = t.later; high = t.high }

    within_read : K ≡ within_kind → (n : Option Digit) → NumberRead (behind at) n → HeadRead at (within_head n)
    within_read k None r = tt
    within_read k (Some steps) r =
        let t = opened within_kind refl k in
        cond_elim (HeadRead at) (leb steps.value steps_limit) _ _
        (λ l. record {
          hs = pair at (pair (behind at) []);
          begins = within _ _ _ _ steps.value k o r.digit r.comma;
          numbered = leb-true _ _ l;
          spells = t.spells ∙ ap (pair at) r.both.spells;
          later = omega (arith, t.later, r.both.later);
          high = r.both.high;
        })
        (λ _. tt)

    during_read : K ≡ during_kind → (first : Digit) → Numeral (behind at) first → (n : Option Digit) → NumberRead first.next n
        → HeadRead at (during_head first.value n)
    during_read k first r None s = tt
    during_read k first r (Some last) s =
        let t = opened during_kind refl k in
        cond_elim (HeadRead at) (leb 1 first.value && (leb first.value last.value && leb last.value last_limit)) _ _
        (λ l. let m = and_right (leb 1 first.value) _ l in
        let low = leb-true _ _ (and_left (leb 1 first.value) _ l) in
        record {
          hs = pair at (pair (behind at) (pair first.next []));
          begins = during _ _ _ _ _ _ first.value last.value k o r.digit r.comma s.digit s.comma;
          numbered = (low, leb-true _ _ (and_left (leb first.value last.value) _ m), leb-true _ _ (and_right (leb first.value last.value) _ m));
          spells = t.spells ∙ ap (pair at) (r.both.spells ∙ ap (pair (behind at)) s.both.spells);
          later = omega (arith, t.later, r.both.later, s.both.later);
          high = s.both.high;
        })
        (λ _. tt)

    during_from_lem : K ≡ during_kind → (n : Option Digit) → NumberRead (behind at) n → HeadRead at (during_from text n)
    during_from_lem k None r = tt
    during_from_lem k (Some first) r =
        during_read k first r (number_at text first.next) (number_read first.next r.both.high)

    head_of_lem : HeadRead at (head_of K text (behind at))
    unfolding head_of
    head_of_lem =
        let P = HeadRead at in
        cond_elim P (eqb K once_kind) _ _ (λ e. short once_kind refl (eqb-true _ _ e) (once _ _ (eqb-true _ _ e) o) tt) (λ _.
        cond_elim P (eqb K before_kind) _ _ (λ e. short before_kind refl (eqb-true _ _ e) (before _ _ (eqb-true _ _ e) o) tt) (λ _.
        cond_elim P (eqb K after_kind) _ _ (λ e. short after_kind refl (eqb-true _ _ e) (after _ _ (eqb-true _ _ e) o) tt) (λ _.
        cond_elim P (eqb K within_kind) _ _ (λ e. within_read (eqb-true _ _ e) (number_at text (behind at)) number) (λ _.
        cond_elim P (eqb K during_kind) _ _ (λ e. during_from_lem (eqb-true _ _ e) (number_at text (behind at)) number) (λ _. tt)))))
      where
        number : NumberRead (behind at) (number_at text (behind at))
        number = number_read (behind at) (ends text (token_at text at).next (ends text at h).high).high

  pub head_read : (at : ℕ) → at ≤ length text → HeadRead at (head_at text at)
  unfolding head_at
  head_read at h = cond_elim (HeadRead at) _ _ _ (λ o. head_of_lem at h (eqb-true _ _ o)) (λ _. tt)

-- ---- what is written so is read

-- a token of this kind begins neither a prefix nor a leaf nor a group
pub record Foreign (k : ℕ) : Type 0 where
  pub not_pre : is_pre true k ≡ false
  pub not_leaf : is_leaf k ≡ false
  pub not_open : k ≡ open_kind → ⊥

foreign : (c : ℕ) → is_pre true c ≡ false → is_leaf c ≡ false → eqb c open_kind ≡ false → Foreign c
foreign c p l o = record { not_pre = p; not_leaf = l; not_open = λ z. clash (eq-eqb _ _ z) o }

module _ (text : List ℕ) where
  -- two tokens that are written from a place on, and what comes after them
  record Written (at : ℕ) (t u : Token) (rest : List Token) : Type 0 where
    one : token_at text at ≡ t
    two : second_of text at ≡ u
    inside : behind text at ≤ length text
    after : tokens text (behind text at) ≡ rest

  written : (at : ℕ) → at ≤ length text → (t u : Token) (rest : List Token) → tokens text at ≡ t ∷ u ∷ rest → Written at t u rest
  written at h t u rest e =
      let i = (ends text at h).high in
      let tail = tail_is text at h t (u ∷ rest) e in
      record {
        one = head_is text at h t (u ∷ rest) e;
        two = head_is text (token_at text at).next i u rest tail;
        inside = (ends text (token_at text at).next i).high;
        after = tail_is text (token_at text at).next i u rest tail;
      }

  -- a head that is found, with what comes after it
  pub record HeadFound (at : ℕ) (w : PlanWord) (rest : List Token) : Type 0 where
    pub first : ℕ
    pub found : head_at text at ≡ Some (record { word = w; operand = first })
    pub inside : first ≤ length text
    pub after : tokens text first ≡ rest
    pub own : Foreign (token_at text at).kind

  module _ {at : ℕ} {t u : Token} {rest : List Token} (p : Written at t u rest) where
    -- a number
    number_found : (v : ℕ) → v ≤ 9 → t.kind ≡ digit_kind v → u.kind ≡ comma_kind
        → number_at text at ≡ Some (record { value = v; next = behind text at })
    unfolding number_at
    number_found v few d i =
        let k : (token_at text at).kind ≡ digit_kind v = ap (λ (x : Token). x.kind) p.one ∙ d in
        let c : (second_of text at).kind ≡ comma_kind = ap (λ (x : Token). x.kind) p.two ∙ i in
        let g = and_true (le-leb (digit_kind 0) (token_at text at).kind (omega arith))
        (and_true (le-leb (token_at text at).kind (digit_kind 9) (omega arith)) (eq-eqb _ _ c)) in
        let z : (token_at text at).kind - digit_kind 0 ≡ v = omega arith in
        rw g (ap (λ n. Some (record { value = n; next = behind text at })) z)

    -- a word of kind c and its `(`, and then what is read of its numbers
    word_found : (c : ℕ) → Foreign c → t.kind ≡ c → u.kind ≡ open_kind → {w : PlanWord} {first : ℕ} {ts : List Token}
        → head_of c text (behind text at) ≡ Some (record { word = w; operand = first }) → first ≤ length text → tokens text first ≡ ts
        → HeadFound at w ts
    unfolding head_at
    word_found c f k o {first = first} e i a =
        let r : (token_at text at).kind ≡ c = ap (λ (x : Token). x.kind) p.one ∙ k in
        let q : (second_of text at).kind ≡ open_kind = ap (λ (x : Token). x.kind) p.two ∙ o in
        record { first = first; found = rw (eq-eqb _ _ q, r) e; inside = i; after = a; own = subst Foreign (sym r) f }

  pub head_found : {hs : List Token} {w : PlanWord} → PlanHead hs w → InRange w → (at : ℕ) (rest : List Token) → at ≤ length text
      → tokens text at ≡ hs ++ rest → HeadFound at w rest
  unfolding head_of is_pre is_leaf
  head_found (once t u k o) n at rest h e =
      let p = written at h t u rest e in
      word_found p once_kind (foreign once_kind refl refl refl) k o refl p.inside p.after
  head_found (before t u k o) n at rest h e =
      let p = written at h t u rest e in
      word_found p before_kind (foreign before_kind refl refl refl) k o refl p.inside p.after
  head_found (after t u k o) n at rest h e =
      let p = written at h t u rest e in
      word_found p after_kind (foreign after_kind refl refl refl) k o refl p.inside p.after
  head_found (within t u d i steps k o dk ik) n at rest h e =
      let p = written at h t u (d ∷ i ∷ rest) e in
      let q = written _ p.inside d i rest p.after in
      word_found p within_kind (foreign within_kind refl refl refl) k o
      (ap within_head (number_found q steps (omega arith) dk ik) ∙ rw (le-leb steps steps_limit n)) q.inside q.after
  head_found (during t u d i d₂ i₂ first last k o dk ik dk₂ ik₂) (low, mid, high) at rest h e =
      let p = written at h t u (d ∷ i ∷ d₂ ∷ i₂ ∷ rest) e in
      let q = written _ p.inside d i (d₂ ∷ i₂ ∷ rest) p.after in
      let r = written _ q.inside d₂ i₂ rest q.after in
      word_found p during_kind (foreign during_kind refl refl refl) k o
      (ap (during_from text) (number_found q first (omega arith) dk ik)
      ∙ ap (during_head first) (number_found r last (omega arith) dk₂ ik₂)
      ∙ rw (le-leb 1 first low, le-leb first last mid, le-leb last last_limit high))
      r.inside r.after

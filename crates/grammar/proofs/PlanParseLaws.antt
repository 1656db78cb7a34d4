-- A plan word is read exactly where the grammar derives it, and stands for at most eight parts a byte; with it, the reader of formulas is
-- what its theorems ask. Assumes nothing.
use mathlib.Core.Path.{◌≡◌, refl, sym, ap, subst, subst₂, ◌∙◌}
use mathlib.Core.Logic.{inl, inr}
use mathlib.Core.Bool.{Bool, true, false, cond}
use mathlib.Core.List.{List, [], ◌∷◌, ◌++◌, append_assoc}
use Prim.Native.Nat.{ℕ, ◌+◌, ◌-◌, ◌*◌, ◌≤◌}
use native.Mathlib.Nat.{mul-le-mul_right}
use native.Mathlib.Omega.{arith}
use borrow.Author.Tests.{eqb-true, eq-eqb}
use lib.ListN.{length}
use lib.Dec.{eqb}
use Rattle.basics.proofs.Booleans.{clash, test}
use Rattle.syntax.specs.declared.lex.Token.{Token}
use Rattle.syntax.specs.declared.plans.PlanWord.{PlanWord}
use Rattle.syntax.specs.declared.plans.PlanWord.TheVariants.{Once, Before, After, Within, During}
use Rattle.syntax.specs.Kinds.{close_kind, comma_kind}
use Rattle.syntax.specs.Lex.{token_at, tokens}
use Rattle.syntax.specs.Plans.{InRange, plan_size}
use Rattle.syntax.specs.Tree.{Tree, plan, size}
use Rattle.syntax.proofs.LexLaws.{ends}
use Rattle.syntax.proofs.Spelt.{first, tokens_test, head_is, tail_is}
use Rattle.std.specs.Prelude.{Option, Some, None}
use Rattle.std.proofs.lemmas.Option.{none-some, same_Some}
use Rattle.grammar.specs.declared.heads.Head.{Head}
use Rattle.grammar.specs.Grammar.{propositional, Derives, takes_two, Plan, over_one, over_two}
use Rattle.grammar.specs.Parse.{some, close, parse}
use Rattle.grammar.specs.PlanParse.{head_at, second_at, propositions, plan_second, plan_from, plan_at, others_at, reader}
use Rattle.grammar.proofs.ParseCases.{is_kind, none_some, on_elim, bind_elim, on_true, bind_some}
use Rattle.grammar.proofs.ReadsInside.{In, Laws, in_to, some_one, some_two}
use Rattle.grammar.proofs.ParseLaws.{parse_inside}
use Rattle.grammar.proofs.GrammarLaws.{goes_on, OtherFound, Exact, propositions_laws, propositions_exact}
use Rattle.grammar.proofs.GrammarLaws.{op_apart, kind_stops, op_end, pre_end, leaf_end, leaf_pre, open_pre, open_leaf}
use Rattle.grammar.proofs.Sound.{parse_sound}
use Rattle.grammar.proofs.Complete.{Found, complete}
use Rattle.grammar.proofs.PlanHeads.{Headed, HeadRead, head_read, HeadFound, head_found}

-- ---- how many parts

-- by the numbers that may stand in a word
module _ (s t : ℕ) where
  two_few : (w : PlanWord) → InRange w → takes_two w ≡ true → plan_size w s t ≤ 13 + s + 6 * t
  unfolding plan_size
  two_few Once n e = clash e refl
  two_few Before n e = omega arith
  two_few After n e = omega arith
  two_few (Within steps) n e = let few = mul-le-mul_right {m = steps + 1} {n = 6} t (omega arith) in omega (arith, few, n)
  two_few (During a b) n e = clash e refl

  one_few : (w : PlanWord) → InRange w → takes_two w ≡ false → plan_size w s t ≤ 12 + 7 * s
  unfolding plan_size
  one_few Once n e = omega arith
  one_few Before n e = clash refl e
  one_few After n e = clash refl e
  one_few (Within steps) n e = clash refl e
  one_few (During a b) (l, m, h) e = let few = mul-le-mul_right {m = b - a + 1} {n = 7} s (omega arith) in omega (arith, few)

  pub plan_few : (w : PlanWord) → InRange w → plan_size w s t ≤ 13 + 7 * s + 6 * t
  plan_few w n =
      elim (test (takes_two w)) [ inl e ↦ (let m = two_few w n e in omega arith) | inr e ↦ (let m = one_few w n e in omega arith) ]

-- ---- a word that was read, taken apart

abbrev eight : ℕ → ℕ
eight x = 8 * x

-- where the second operand stands: behind a comma, or where the first stands
module _ (text : List ℕ) (w : PlanWord) (start q s : ℕ) (z : second_at w text start q ≡ Some s) where
  second_cases : {C : Type 0} → (takes_two w ≡ true → (token_at text q).kind ≡ comma_kind → s ≡ (token_at text q).next → C)
      → (takes_two w ≡ false → s ≡ start → C) → C
  unfolding second_at
  second_cases {C} f g = go (takes_two w) refl (eqb (token_at text q).kind comma_kind) refl z
    where
      go : (b : Bool) → takes_two w ≡ b → (c : Bool) → eqb (token_at text q).kind comma_kind ≡ c
          → cond b (cond c (Some (token_at text q).next) None) (Some start) ≡ Some s → C
      go true t true k e = f t (eqb-true _ _ k) (sym (same_Some _ _ e))
      go true t false k e = absurd (none-some s e)
      go false t c k e = g t (sym (same_Some _ _ e))

  -- not before the first, and within the text
  pub second_in : start ≤ length text → {a : Tree} → In (λ y. y) text start a q → (start ≤ s) × (s ≤ length text)
  second_in h i =
      second_cases
      (λ _ _ e. let u = ends text q i.high in (omega (arith, e, i.later, u.low), omega (arith, e, u.high)))
      (λ _ e. (omega (arith, e), omega (arith, e, h)))

module _ (text : List ℕ) (at : ℕ) (h : at ≤ length text) where
  record PlanRead (x : Tree) (next : ℕ) : Type 0 where
    hd : Head
    headed : Headed text at hd
    a : Tree
    q : ℕ
    first_read : parse propositions text 4 hd.operand ≡ some a q
    s : ℕ
    second_is : second_at hd.word text hd.operand q ≡ Some s
    b : Tree
    e : ℕ
    second_read : parse propositions text 4 s ≡ some b e
    closed : (token_at text e).kind ≡ close_kind
    is : some (plan hd.word a b) (token_at text e).next ≡ some x next

  plan_read : (x : Tree) (next : ℕ) → plan_at text at ≡ some x next → PlanRead x next
  unfolding plan_at close
  plan_read x next eq = go (head_at text at) (head_read text at h) eq
    where
      go : (o : Option Head) → HeadRead text at o → plan_from text o ≡ some x next → PlanRead x next
      go None r eq = none_some x next eq
      go (Some hd) r eq =
          bind_elim _ _ _ _ eq (λ a q ea e₁. second hd r a q ea (second_at hd.word text hd.operand q) refl e₁)
        where
          second : (hd : Head) → Headed text at hd → (a : Tree) (q : ℕ) → parse propositions text 4 hd.operand ≡ some a q
              → (p : Option ℕ) → second_at hd.word text hd.operand q ≡ p → plan_second hd.word text a p ≡ some x next → PlanRead x next
          second hd r a q ea None z eq = none_some x next eq
          second hd r a q ea (Some s) z eq =
              bind_elim _ _ _ _ eq (λ b e eb e₂.
              on_elim _ _ _ _ e₂ (λ k e₃. record {
                hd = hd;
                headed = r;
                a = a;
                q = q;
                first_read = ea;
                s = s;
                second_is = z;
                b = b;
                e = e;
                second_read = eb;
                closed = eqb-true _ _ k;
                is = e₃;
              })
              (λ _ e₃. none_some x next e₃))

  module _ {x : Tree} {next : ℕ} (r : PlanRead x next) where
    inside₁ : In (λ y. y) text r.hd.operand r.a r.q
    inside₁ = parse_inside propositions_laws text r.hd.operand r.headed.high 4 r.a r.q r.first_read

    second_high : r.s ≤ length text
    second_high = (second_in text r.hd.word r.hd.operand r.q r.s r.second_is r.headed.high inside₁).1

    inside₂ : In (λ y. y) text r.s r.b r.e
    inside₂ = parse_inside propositions_laws text r.s second_high 4 r.b r.e r.second_read

    -- a word over one operand reads it twice
    same_read : r.s ≡ r.hd.operand → some r.a r.q ≡ some r.b r.e
    same_read e = sym r.first_read ∙ ap (parse propositions text 4) (sym e) ∙ r.second_read

    plan_inside : In eight text at (plan r.hd.word r.a r.b) (token_at text r.e).next
    unfolding size
    plan_inside =
        let u = ends text r.e inside₂.high in
        let v = u.real (is_kind close_kind) refl (eq-eqb _ _ r.closed) in
        let i = inside₁ in
        let j = inside₂ in
        let hd = r.headed in
        second_cases text r.hd.word r.hd.operand r.q r.s r.second_is
        (λ t c e. let m = two_few (size r.a) (size r.b) r.hd.word hd.numbered t in
        let l = (ends text r.q i.high).real (is_kind comma_kind) refl (eq-eqb _ _ c) in
        record {
          low = omega (arith, m, l, v, e, hd.later, i.low, j.low);
          later = omega (arith, l, v, e, hd.later, i.later, j.later);
          high = u.high;
        })
        (λ t e. let m = one_few (size r.a) (size r.b) r.hd.word hd.numbered t in
        let q = some_two r.a r.b r.q r.e (same_read e) in
        record { low = omega (arith, m, v, q, hd.later, i.low); later = omega (arith, v, q, hd.later, i.later); high = u.high })

    plan_derives : (us : List Token) × Plan us (plan r.hd.word r.a r.b)
        × (tokens text at ≡ us ++ tokens text (token_at text r.e).next)
    unfolding parse
    plan_derives =
        let hd = r.headed in
        let p = parse_sound propositions_laws propositions_exact text _ 4 r.hd.operand r.a r.q hd.high r.first_read in
        let last = tokens_test text r.e inside₂.high (is_kind close_kind) refl (eq-eqb _ _ r.closed) in
        let C = token_at text r.e in
        let end = tokens text C.next in
        second_cases text r.hd.word r.hd.operand r.q r.s r.second_is
        (λ t c e.
        let I = token_at text r.q in
        let p₂ = parse_sound propositions_laws propositions_exact text _ 4 r.s r.b r.e second_high r.second_read in
        let mid = tokens_test text r.q inside₁.high (is_kind comma_kind) refl (eq-eqb _ _ c) in (
          hd.hs ++ (p.us ++ (I ∷ (p₂.us ++ (C ∷ [])))),
          over_two I C hd.begins hd.numbered t p.derives c p₂.derives r.closed,
          hd.spells
              ∙ ap (λ ts. hd.hs ++ ts) (p.spells ∙ ap (λ ts. p.us ++ ts) (mid ∙ ap (λ k. I ∷ tokens text k) (sym e)
              ∙ ap (λ ts. I ∷ ts) (p₂.spells ∙ ap (λ ts. p₂.us ++ ts) last ∙ sym (append_assoc p₂.us (C ∷ []) end)))
              ∙ sym (append_assoc p.us (I ∷ (p₂.us ++ (C ∷ []))) end))
              ∙ sym (append_assoc hd.hs (p.us ++ (I ∷ (p₂.us ++ (C ∷ [])))) end),
        ))
        (λ t e.
        let f = same_read e in
        let q = some_two r.a r.b r.q r.e f in (
          hd.hs ++ (p.us ++ (C ∷ [])),
          subst (λ y. Plan (hd.hs ++ (p.us ++ (C ∷ []))) (plan r.hd.word r.a y)) (some_one r.a r.b r.q r.e f)
              (over_one C hd.begins hd.numbered t p.derives r.closed),
          hd.spells
              ∙ ap (λ ts. hd.hs ++ ts) (p.spells ∙ ap (λ k. p.us ++ tokens text k) q ∙ ap (λ ts. p.us ++ ts) last
              ∙ sym (append_assoc p.us (C ∷ []) end))
              ∙ sym (append_assoc hd.hs (p.us ++ (C ∷ [])) end),
        ))

  plan_in : (x : Tree) (next : ℕ) → plan_at text at ≡ some x next → In eight text at x next
  plan_in x next e =
      let r = plan_read x next e in
      in_to text at (plan r.hd.word r.a r.b) x (token_at text r.e).next next r.is (plan_inside r)

  plan_sound : (x : Tree) (next : ℕ) → plan_at text at ≡ some x next
      → (us : List Token) × Plan us x × (tokens text at ≡ us ++ tokens text next)
  plan_sound x next e =
      let r = plan_read x next e in
      subst₂ (λ y k. (us : List Token) × Plan us y × (tokens text at ≡ us ++ tokens text k))
      (some_one (plan r.hd.word r.a r.b) x (token_at text r.e).next next r.is)
      (some_two (plan r.hd.word r.a r.b) x (token_at text r.e).next next r.is) (plan_derives r)

-- ---- a word that is derived is read

module _ (text : List ℕ) where
  -- an operand, with a token behind it that does not go on it
  operand : {us : List Token} {a : Tree} → Derives propositional 4 us a → (at : ℕ) (t : Token) (rest : List Token) → at ≤ length text
      → goes_on propositional 4 t.kind ≡ false → tokens text at ≡ us ++ (t ∷ rest)
      → Found propositions_laws propositions_exact text (parse propositions text 4 at) a (t ∷ rest)
  unfolding first
  operand d at t rest h o e = complete propositions_laws propositions_exact text d at (t ∷ rest) h (omega arith) e o

  stops : (t : Token) (c : ℕ) → goes_on propositional 4 c ≡ false → t.kind ≡ c → goes_on propositional 4 t.kind ≡ false
  stops t c o k = ap (goes_on propositional 4) k ∙ o

  second_two : (w : PlanWord) (start q : ℕ) → takes_two w ≡ true → (token_at text q).kind ≡ comma_kind
      → second_at w text start q ≡ Some (token_at text q).next
  unfolding second_at
  second_two w start q t c = rw (t, eq-eqb _ _ c)

  second_one : (w : PlanWord) (start q : ℕ) → takes_two w ≡ false → second_at w text start q ≡ Some start
  unfolding second_at
  second_one w start q t = rw t

  -- a word from its head, its operands and its `)`
  word_found : {at : ℕ} {w : PlanWord} {ts rest : List Token} (hd : HeadFound text at w ts) {a b : Tree} {q s e : ℕ} (c : Token)
      → parse propositions text 4 hd.first ≡ some a q → second_at w text hd.first q ≡ Some s
      → parse propositions text 4 s ≡ some b e → e ≤ length text → tokens text e ≡ c ∷ rest → c.kind ≡ close_kind
      → OtherFound (reader true) text at (plan w a b) rest
  unfolding plan_at close
  word_found {w = w} {rest = rest} hd {a} {b} {q} {s} {e} c first_read second_is second_read h z ck =
      record {
        next = (token_at text e).next;
        found = ap (plan_from text) hd.found ∙ bind_some _ _ a q first_read ∙ ap (plan_second w text a) second_is
            ∙ bind_some _ _ b e second_read ∙ on_true _ _ _ (eq-eqb _ _ (ap (λ (y : Token). y.kind) (head_is text e h c rest z) ∙ ck));
        inside = (ends text e h).high;
        after = tail_is text e h c rest z;
        not_pre = hd.own.not_pre;
        not_leaf = hd.own.not_leaf;
        not_open = hd.own.not_open;
      }

  plan_found : {us : List Token} {x : Tree} → Plan us x → (at : ℕ) (rest : List Token) → at ≤ length text → tokens text at ≡ us ++ rest
      → OtherFound (reader true) text at x rest
  plan_found (over_one {w = w} {hs = hs} {us = us} c b n t d ck) at rest h e =
      let hd = head_found text b n at (us ++ (c ∷ rest)) h
      (e ∙ append_assoc hs (us ++ (c ∷ [])) rest ∙ ap (λ ts. hs ++ ts) (append_assoc us (c ∷ []) rest)) in
      let f = operand d hd.first c rest hd.inside (stops c close_kind (kind_stops false).1 ck) hd.after in
      word_found hd c f.found (second_one w hd.first f.next t) f.found f.inside f.after ck
  plan_found (over_two {w = w} {hs = hs} {us = us} {vs = vs} i c b n t d ik d₂ ck) at rest h e =
      let hd = head_found text b n at (us ++ (i ∷ (vs ++ (c ∷ rest)))) h
      (e ∙ append_assoc hs (us ++ (i ∷ (vs ++ (c ∷ [])))) rest
      ∙ ap (λ ts. hs ++ ts) (append_assoc us (i ∷ (vs ++ (c ∷ []))) rest ∙ ap (λ ts. us ++ (i ∷ ts)) (append_assoc vs (c ∷ []) rest))) in
      let f = operand d hd.first i (vs ++ (c ∷ rest)) hd.inside (stops i comma_kind (kind_stops false).2 ik) hd.after in
      let it = head_is text f.next f.inside i (vs ++ (c ∷ rest)) f.after in
      let g = operand d₂ (token_at text f.next).next c rest (ends text f.next f.inside).high
      (stops c close_kind (kind_stops false).1 ck) (tail_is text f.next f.inside i (vs ++ (c ∷ rest)) f.after) in
      word_found hd c f.found (second_two w hd.first f.next t (ap (λ (y : Token). y.kind) it ∙ ik)) g.found g.inside
      g.after ck

-- ---- the reader of formulas

others_in : (m : Bool) (text : List ℕ) (at : ℕ) (a : Tree) (next : ℕ) → at ≤ length text → others_at m text at ≡ some a next
    → In eight text at a next
others_in true text at a next h e = plan_in text at h a next e
others_in false text at a next h e = none_some a next e

pub formulas_laws : (m : Bool) → Laws eight (reader m)
formulas_laws m =
    record {
      few = omega arith;
      op_end = op_end m;
      pre_end = pre_end m;
      leaf_end = leaf_end;
      steps = λ x y h. omega arith;
      other_in = others_in m;
    }

pub formulas_exact : Exact (reader true)
formulas_exact =
    record {
      apart = op_apart true;
      close_op = (kind_stops true).1;
      end_op = (kind_stops true).0;
      leaf_pre = leaf_pre true;
      open_pre = open_pre true;
      open_leaf = open_leaf;
      other_sound = λ text at a next h e. plan_sound text at h a next e;
      other_found = λ w text at rest h e. plan_found text w at rest h e;
    }

-- Whether bytes are a name, by the token that they begin with: that is how the code tests it. Assumes nothing.
use Prim.Native.Nat.{ℕ, suc, ◌-◌}
use native.Mathlib.Omega.{arith}
use mathlib.Core.Path.{◌≡◌, refl, sym, ap, ◌∙◌}
use mathlib.Core.Logic.{◌⊎◌, inl, inr}
use mathlib.Core.Bool.{Bool, true, false, not, ◌&&◌}
use mathlib.Core.List.{List, [], ◌∷◌}
use borrow.Author.Tests.{eq-eqb, ne_eqb, eqb-true, eqb-false, leb-true}
use lib.Dec.{eqb, leb, ltb}
use lib.ListN.{length, take, get_or}
use lib.Seq.{take-length}
use Rattle.basics.specs.Bytes.{lower, word_byte, is_space, run, past, between}
use Rattle.basics.proofs.BytesLaws.{past_stop, past_more}
use Rattle.syntax.proofs.LexLaws.{tok_word, token_from_lem, name_letter, reserved_kind}
use Rattle.basics.proofs.Booleans.{test, clash, and_left, and_right}
use Rattle.syntax.specs.declared.lex.Token.{Token}
use Rattle.syntax.specs.Kinds.{name_kind}
use Rattle.syntax.specs.Lex.{token_from, token_at, is_reserved, word_kind}
use Rattle.lines.specs.Limits.{name_limit}
use Rattle.lines.specs.Lines.{is_name}

-- a token of the kind of names that is the whole text, not too long
abbrev pub names_all : Token → List ℕ → Bool
names_all t s = eqb t.kind name_kind && eqb t.from 0 && eqb t.next (length s) && leb (length s) name_limit

is_token : List ℕ → Bool
is_token s = names_all (token_at s 0) s

-- the two orders of the tests
swap : (x l : Bool) → (x && true && true && l) ≡ (true && (true && (l && x)))
swap true true = refl
swap true false = refl
swap false true = refl
swap false false = refl

fails : (x l : Bool) → (x && true && false && l) ≡ false
fails true l = refl
fails false l = refl

module _ (b : ℕ) (s : List ℕ) where
  not_space : lower b ≡ true → is_space b ≡ false
  unfolding lower
  not_space l = ne_eqb b 32 (λ e. omega (arith, leb-true 97 b (and_left (leb 97 b) (ltb b 123) l)))

  word_end_lem : lower b ≡ true → past word_byte (b ∷ s) 0 ≡ suc (run word_byte s)
  unfolding past word_byte
  word_end_lem l = past_more word_byte (b ∷ s) 0 (omega arith) (rw l) ∙ omega arith

  -- a lowercase letter begins a word
  letter_token : lower b ≡ true
      → record { kind = word_kind (between (b ∷ s) 0 (suc (run word_byte s))); from = 0; next = suc (run word_byte s) } ≡ token_at (b ∷ s) 0
  letter_token l = tok_word (b ∷ s) 0 0 (sym (past_stop is_space (b ∷ s) 0 (omega arith) (not_space l))) (omega arith) _ _ l (sym (word_end_lem l)) refl

  -- the tests of the word
  abbrev r : ℕ
  r = run word_byte s

  abbrev is_word : Bool
  is_word = eqb (word_kind (between (b ∷ s) 0 (suc r))) name_kind

  abbrev is_other : Bool
  is_other = not (is_reserved (b ∷ s))

  whole : r ≡ length s → between (b ∷ s) 0 (suc r) ≡ b ∷ s
  whole e = let z : suc r - 0 ≡ length (b ∷ s) = omega arith in ap (λ n. take n (b ∷ s)) z ∙ take-length (b ∷ s)

  token_letter : lower b ≡ true → is_token (b ∷ s) ≡ is_name (b ∷ s)
  unfolding is_token is_name
  token_letter l = rw (← letter_token l, l) (by_end (test (eqb r (length s))))
    where
      by_end : (eqb r (length s) ≡ true) ⊎ (eqb r (length s) ≡ false)
          → (is_word && true && eqb (suc r) (suc (length s)) && leb (suc (length s)) name_limit)
          ≡ (true && (eqb r (length s) && (leb (suc (length s)) name_limit && is_other)))
      by_end (inl e) =
          let q = eqb-true r (length s) e in
          rw (whole q, reserved_kind (b ∷ s), e, eq-eqb (suc r) (suc (length s)) (ap suc q)) (swap is_other (leb (suc (length s)) name_limit))
      by_end (inr e) =
          let n = ne_eqb (suc r) (suc (length s)) (λ q. eqb-false r (length s) e (omega arith)) in rw (e, n) (fails is_word (leb (suc (length s)) name_limit))

  -- another byte begins no name: the token stands behind it, or is none
  token_other : lower b ≡ false → is_token (b ∷ s) ≡ false
  unfolding is_token
  token_other l = elim (test (is_token (b ∷ s))) [ inl t ↦ absurd (no_letter t) | inr e ↦ e ]
    where
      no_letter : is_token (b ∷ s) ≡ true → ⊥
      no_letter passes =
          let t = token_at (b ∷ s) 0 in
          let is_name = eqb t.kind name_kind in
          let starts = eqb t.from 0 in
          let both = and_left (is_name && starts) _ (and_left (is_name && starts && eqb t.next (length (b ∷ s))) _ passes) in
          let k = eqb-true _ name_kind (and_left is_name starts both) in
          let f = eqb-true _ 0 (and_right is_name starts both) in
          clash (ap (λ i. lower (get_or (b ∷ s) i 0)) (sym f ∙ token_from_lem (b ∷ s) 0) ∙ name_letter (b ∷ s) 0 k) l

pub token_name : (s : List ℕ) → names_all (token_at s 0) s ≡ is_name s
unfolding is_token is_name token_at token_from past run
token_name [] = refl
token_name (b ∷ s) = elim (test (lower b)) [ inl l ↦ token_letter b s l | inr l ↦ token_other b s l ∙ rw l ]

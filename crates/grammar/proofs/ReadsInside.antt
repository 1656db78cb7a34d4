-- What is read lies within the text, and has no more parts than its bytes weigh. Assumes nothing.
use mathlib.Core.Path.{◌≡◌, ap, subst₂}
use mathlib.Core.Logic.{◌⊎◌, inl, inr}
use mathlib.Core.Bool.{false}
use mathlib.Core.List.{List}
use Prim.Native.Nat.{ℕ, zero, suc, ◌+◌, ◌≤◌, ◌<◌}
use native.Mathlib.Nat.{eq-or-lt_of_le}
use native.Mathlib.Omega.{arith}
use lib.ListN.{length}
use Rattle.syntax.specs.Kinds.{end_kind}
use Rattle.syntax.specs.Lex.{token_at}
use Rattle.syntax.specs.Tree.{Tree, leaf, pre, bin, size}
use Rattle.grammar.specs.Parse.{Reader, some, parse_f, grow_f, atom_f, close}
use Rattle.grammar.proofs.ParseCases.{none_some, on_elim, bind_elim}
use Rattle.syntax.proofs.LexLaws.{ends}

pub some_one : (a b : Tree) (m n : ℕ) → some a m ≡ some b n → a ≡ b
some_one a b m n e = cc

pub some_two : (a b : Tree) (m n : ℕ) → some a m ≡ some b n → m ≡ n
some_two a b m n e = cc

-- bytes are weighed by a function f, which grows by at least 1 with each
pub record In (f : ℕ → ℕ) (text : List ℕ) (at : ℕ) (a : Tree) (next : ℕ) : Type 0 where
  pub low : size a + f at ≤ f next
  pub later : at < next
  pub high : next ≤ length text

pub in_to : {f : ℕ → ℕ} (text : List ℕ) (at : ℕ) (a b : Tree) (m n : ℕ) → some a m ≡ some b n → In f text at a m → In f text at b n
in_to {f} text at a b m n e i = subst₂ (λ x y. In f text at x y) (some_one a b m n e) (some_two a b m n e) i

-- what a reader has to be: few levels, no operator at the end of a text, and its other atoms lie within the text too
pub record Laws (f : ℕ → ℕ) (R : Reader) : Type 0 where
  pub few : R.grammar.top ≤ 6
  pub op_end : (l : ℕ) → R.grammar.is_op l end_kind ≡ false
  pub pre_end : R.grammar.is_pre end_kind ≡ false
  pub leaf_end : R.grammar.is_leaf end_kind ≡ false
  pub steps : (x y : ℕ) → x < y → f x < f y
  pub other_in : (text : List ℕ) (at : ℕ) (a : Tree) (next : ℕ) → at ≤ length text → R.other text at ≡ some a next → In f text at a next

module _ {f : ℕ → ℕ} {R : Reader} (L : Laws f R) where
  rises : (x y : ℕ) → x ≤ y → f x ≤ f y
  rises x y h = go (eq-or-lt_of_le h)
    where
      go : (x ≡ y) ⊎ (x < y) → f x ≤ f y
      go (inl e) = let q = ap f e in omega arith
      go (inr l) = let q = L.steps x y l in omega arith

  module _ (text : List ℕ) where
    mutual
      unfolding parse_f close size

      pub parse_in : (k l at : ℕ) (a : Tree) (next : ℕ) → at ≤ length text → parse_f R k text l at ≡ some a next → In f text at a next
      parse_in zero l at a next h e = none_some a next e
      parse_in (suc k) zero at a next h e =
          on_elim _ _ _ _ e
          (λ p e₁. let t = ends text at h in
          let s = t.real R.grammar.is_pre L.pre_end p in
          let w = L.steps at (token_at text at).next s in
          bind_elim _ _ _ _ e₁ (λ b m eb es.
          let i = parse_in k zero (token_at text at).next b m t.high eb in
          in_to text at (pre (token_at text at) b) a m next es
          (record { low = omega (arith, i.low, w); later = omega (arith, i.later); high = i.high })))
          (λ p e₂. atom_in k at a next h e₂)
      parse_in (suc k) (suc r) at a next h e =
          bind_elim _ _ _ _ e (λ b m eb es.
          let i = parse_in k r at b m h eb in
          grow_in k r b at m a next i.low i.later i.high es)

      grow_in : (k r : ℕ) (b : Tree) (from at : ℕ) (a : Tree) (next : ℕ) → size b + f from ≤ f at → from < at → at ≤ length text
          → grow_f R k text r b at ≡ some a next → In f text from a next
      grow_in zero r b from at a next l d h e = none_some a next e
      grow_in (suc k) r b from at a next l d h e =
          let t = ends text at h in
          on_elim _ _ _ _ e
          (λ p e₁. let s = t.real (R.grammar.is_op (suc r)) (L.op_end (suc r)) p in
          let w = L.steps at (token_at text at).next s in
          on_elim _ _ _ _ e₁
          (λ _ e₂. bind_elim _ _ _ _ e₂ (λ c m ec es.
          let i = parse_in k r (token_at text at).next c m t.high ec in
          grow_in k r (bin (token_at text at) b c) from m a next (omega (arith, i.low, w)) (omega (arith, i.later)) i.high es))
          (λ _ e₂. bind_elim _ _ _ _ e₂ (λ c m ec es.
          let i = parse_in k (suc r) (token_at text at).next c m t.high ec in
          in_to text from (bin (token_at text at) b c) a m next es
          (record { low = omega (arith, i.low, w); later = omega (arith, i.later); high = i.high }))))
          (λ p e₂. in_to text from b a at next e₂ (record { low = l; later = d; high = h }))

      atom_in : (k at : ℕ) (a : Tree) (next : ℕ) → at ≤ length text → atom_f R k text at ≡ some a next → In f text at a next
      atom_in zero at a next h e = none_some a next e
      atom_in (suc k) at a next h e =
          let t = ends text at h in
          on_elim _ _ _ _ e
          (λ p e₁. let s = t.real R.grammar.is_leaf L.leaf_end p in
          let w = L.steps at (token_at text at).next s in
          in_to text at (leaf (token_at text at)) a (token_at text at).next next e₁
          (record { low = omega (arith, w); later = s; high = t.high }))
          (λ _ e₁. on_elim _ _ _ _ e₁
          (λ p e₂. bind_elim _ _ _ _ e₂ (λ b m eb es.
          let i = parse_in k R.grammar.top (token_at text at).next b m t.high eb in
          let u = ends text m i.high in
          let w = rises at (token_at text at).next t.low in
          let v = rises m (token_at text m).next u.low in
          on_elim _ _ _ _ es
          (λ q e₃. in_to text at b a (token_at text m).next next e₃
          (record { low = omega (arith, i.low, w, v); later = omega (arith, t.low, i.later, u.low); high = u.high }))
          (λ q e₃. none_some a next e₃)))
          (λ _ e₂. L.other_in text at a next h e₂))

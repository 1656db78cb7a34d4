-- What the searches below a bound find.
-- Assumes nothing.
use Prim.Native.Nat.{ℕ, zero, suc, ◌+◌, ◌≤◌, ◌<◌}
use native.Mathlib.Nat.{eq-or-lt_of_le, le_of_suc-le-suc, le_refl, not-suc-le-zero}
use native.Mathlib.Numerals.{add-one}
use native.Mathlib.Omega.{arith}
use mathlib.Core.Path.{◌≡◌, refl, ap, sym, ◌∙◌, subst, ap₂}
use mathlib.Core.Logic.{◌⊎◌, inl, inr}
use mathlib.Core.Bool.{Bool, true, false, cond, ◌&&◌, false≢true, ◌||◌, true≢false}
use lib.Dec.{eqb, ltb}
use borrow.Author.Tests.{ltb-true, ltb-false, eqb-true, lt-ltb, le-ltb, eq-eqb, ne_eqb}
use Rattle.basics.specs.Says.{Says}
use Rattle.basics.specs.Bounded.{agree, first_that, all, any}
use native.Mathlib.Decide.{ℕ_discrete, dec_lt}
use Rattle.basics.proofs.Booleans.{or_left, or_right, test, clash, and_left, and_right, or_cases}
use borrow.Author.Count.{below_more}

-- a number below a + 1 is a or below it
pub last_or_before : (a x : ℕ) → x < a + 1 → (x ≡ a) ⊎ (x < a)
last_or_before a x h = eq-or-lt_of_le (le_of_suc-le-suc (subst (λ n. x < n) (add-one a) h))

module _ (f g : ℕ → ℕ) where
  pub agree_none : agree f g 0 ≡ true
  unfolding agree
  agree_none = refl

  pub agree_more : (n : ℕ) → agree f g n ≡ true → f n ≡ g n → agree f g (n + 1) ≡ true
  unfolding agree
  agree_more n a e = rw (add-one, a, eq-eqb (f n) (g n) e)

  -- a difference is found wherever it stands
  pub agree_fails : (m n : ℕ) → n < m → (f n ≡ g n → ⊥) → agree f g m ≡ false
  unfolding agree
  agree_fails zero n h ne = absurd (omega arith)
  agree_fails (suc m) n h ne = at (λ l. agree_fails m n l ne) (eq-or-lt_of_le (le_of_suc-le-suc h))
    where
      at : (n < m → agree f g m ≡ false) → (n ≡ m) ⊎ (n < m) → agree f g (suc m) ≡ false
      at ih (inl e) = last (agree f g m) (eqb (f m) (g m)) (ne_eqb (f m) (g m) (λ q. ne (rw e q)))
        where
          last : (b c : Bool) → c ≡ false → (b && c) ≡ false
          last true c q = q
          last false c q = refl
      at ih (inr l) = ap (λ b. b && eqb (f m) (g m)) (ih l)

  -- what agreement says
  pub agree_at : (m n : ℕ) → agree f g m ≡ true → n < m → f n ≡ g n
  unfolding agree
  agree_at zero n a h = absurd (omega arith)
  agree_at (suc m) n a h = at (agree_at m n) (agree f g m) (eqb (f m) (g m)) refl refl a (eq-or-lt_of_le (le_of_suc-le-suc h))
    where
      at : (agree f g m ≡ true → n < m → f n ≡ g n) → (b c : Bool) → agree f g m ≡ b → eqb (f m) (g m) ≡ c → (b && c) ≡ true → (n ≡ m) ⊎ (n < m) → f n ≡ g n
      at ih true true p q t (inl e) = rw e (eqb-true (f m) (g m) q)
      at ih true true p q t (inr l) = ih p l
      at ih true false p q t s = absurd (false≢true t)
      at ih false c p q t s = absurd (false≢true t)

  -- equal entries agree
  pub agree_all : (m : ℕ) → ((i : ℕ) → i < m → f i ≡ g i) → agree f g m ≡ true
  unfolding agree
  agree_all zero e = refl
  agree_all (suc m) e = rw (agree_all m (λ i h. e i (omega arith)), eq-eqb (f m) (g m) (e m (omega arith)))

module _ (p : ℕ → Bool) where
  -- as far as nothing passes, the search stands at its end
  pub first_none : first_that p 0 ≡ 0
  unfolding first_that
  first_none = refl

  pub first_more : (n : ℕ) → first_that p n ≡ n → p n ≡ false → first_that p (n + 1) ≡ n + 1
  unfolding first_that
  first_more n e f = rw (add-one, e, le-ltb n n (le_refl n), f)

  pub first_end : (a b : ℕ) → b ≡ a → first_that p b ≡ b → a ≡ first_that p a
  first_end a b e q = sym (ap (first_that p) (sym e) ∙ q ∙ e)

  -- and once something passes it stays there
  pub first_found : (m n : ℕ) → n < m → first_that p n ≡ n → p n ≡ true → first_that p m ≡ n
  unfolding first_that
  first_found zero n h e t = absurd (omega arith)
  first_found (suc m) n h e t = at (λ l. first_found m n l e t) (eq-or-lt_of_le (le_of_suc-le-suc h))
    where
      at : (n < m → first_that p m ≡ n) → (n ≡ m) ⊎ (n < m) → first_that p (suc m) ≡ n
      at ih (inl q) = rw (← q, e, le-ltb n n (le_refl n), t)
      at ih (inr l) = rw (ih l, lt-ltb n m l)

  pub first_le : (n : ℕ) → first_that p n ≤ n
  unfolding first_that
  first_le zero = omega arith
  first_le (suc n) = at (ltb (first_that p n) n) refl (p n) (first_le n)
    where
      at : (b : Bool) → ltb (first_that p n) n ≡ b → (c : Bool) → first_that p n ≤ n → cond b (first_that p n) (cond c n (suc n)) ≤ suc n
      at true e c h = omega arith
      at false e true h = omega arith
      at false e false h = omega arith

  -- what is found passes, and nothing before it does
  pub first_passes : (n : ℕ) → first_that p n < n → p (first_that p n) ≡ true
  unfolding first_that
  first_passes zero h = absurd (omega arith)
  first_passes (suc n) h = at (first_passes n) (ltb (first_that p n) n) refl (p n) refl h
    where
      at : (first_that p n < n → p (first_that p n) ≡ true) → (b : Bool) → ltb (first_that p n) n ≡ b → (c : Bool) → p n ≡ c
          → cond b (first_that p n) (cond c n (suc n)) < suc n → p (cond b (first_that p n) (cond c n (suc n))) ≡ true
      at ih true e c q h = ih (ltb-true (first_that p n) n e)
      at ih false e true q h = q
      at ih false e false q h = absurd (omega arith)

  pub first_least : (n i : ℕ) → i < first_that p n → p i ≡ false
  unfolding first_that
  first_least zero i h = absurd (omega arith)
  first_least (suc n) i h = at (first_least n i) (ltb (first_that p n) n) refl (p n) refl h
    where
      at : (i < first_that p n → p i ≡ false) → (b : Bool) → ltb (first_that p n) n ≡ b → (c : Bool) → p n ≡ c → i < cond b (first_that p n)
          (cond c n (suc n)) → p i ≡ false
      at ih true e c q h = ih h
      at ih false e true q h = ih (omega (arith, ltb-false (first_that p n) n e, h))
      at ih false e false q h = last (eq-or-lt_of_le (le_of_suc-le-suc h))
        where
          last : (i ≡ n) ⊎ (i < n) → p i ≡ false
          last (inl s) = rw s q
          last (inr l) = ih (omega (arith, ltb-false (first_that p n) n e, l))

pub all_suc : (n : ℕ) (ok : ℕ → Bool) → all (suc n) ok ≡ (ok n && all n ok)
all_suc n ok = elim (ok n) as (λ (b : Bool). ◌≡◌ {A = Bool} (elim b [ true ↦ all n ok | false ↦ false ]) (b && all n ok)) [ true ↦ refl | false ↦ refl ]

pub any_suc : (n : ℕ) (ok : ℕ → Bool) → any (suc n) ok ≡ (ok n || any n ok)
any_suc n ok = elim (ok n) as (λ (b : Bool). ◌≡◌ {A = Bool} (elim b [ true ↦ true | false ↦ any n ok ]) (b || any n ok)) [ true ↦ refl | false ↦ refl ]

-- the last number below suc n, or one below n
last_or : {P : ℕ → Type 0} (n : ℕ) → P n → ((i : ℕ) → i < n → P i) → (i : ℕ) → i < suc n → P i
last_or {P} n last rest i h = go (ℕ_discrete i n)
  where
    go : Dec (i ≡ n) → P i
    go (yes e) = subst P (sym e) last
    go (no ne) = rest i (omega arith)

pub all_at : (n : ℕ) (ok : ℕ → Bool) → all n ok ≡ true → (i : ℕ) → i < n → ok i ≡ true
all_at zero ok e i h = absurd (not-suc-le-zero h)
all_at (suc n) ok e i h =
    let both : ok n && all n ok ≡ true = sym (all_suc n ok) ∙ e in
    last_or n (and_left (ok n) (all n ok) both) (all_at n ok (and_right (ok n) (all n ok) both)) i h

pub all_of : (n : ℕ) (ok : ℕ → Bool) → ((i : ℕ) → i < n → ok i ≡ true) → all n ok ≡ true
all_of zero ok f = refl
all_of (suc n) ok f =
    all_suc n ok ∙ ap (λ (b : Bool). b && all n ok) (f n (omega arith)) ∙ all_of n ok (λ i h. f i (omega arith))

-- a loop that passes one number more, and one that is through
pub all_more : (n : ℕ) (ok : ℕ → Bool) → all n ok ≡ true → ok n ≡ true → all (n + 1) ok ≡ true
all_more n ok a e = all_of (n + 1) ok (below_more (λ i. ok i ≡ true) n (all_at n ok a) e)

pub all_done : (s n : ℕ) (ok : ℕ → Bool) → s ≡ n → all s ok ≡ true → all n ok ≡ true
all_done s n ok e a = subst (λ i. all i ok ≡ true) e a

-- a loop that fails at one number fails
pub all_fails : (n : ℕ) (ok : ℕ → Bool) (i : ℕ) → i < n → ok i ≡ false → all n ok ≡ false
all_fails n ok i h f = elim (test (all n ok)) [ inl t ↦ clash (all_at n ok t i h) f | inr e ↦ e ]

pub all_not : (n : ℕ) (ok : ℕ → Bool) → all n ok ≡ false → (i : ℕ) × (i < n) × (ok i ≡ false)
all_not zero ok e = absurd (true≢false e)
all_not (suc n) ok e =
    elim (test (ok n)) [
      | inl t ↦
          let (i, h, f) = all_not n ok (ap (λ (b : Bool). b && all n ok) (sym t) ∙ sym (all_suc n ok) ∙ e) in
          (i, omega arith, f)
      | inr f ↦ (n, omega arith, f)
    ]

pub any_at : (n : ℕ) (ok : ℕ → Bool) → any n ok ≡ true → (i : ℕ) × (i < n) × (ok i ≡ true)
any_at zero ok e = absurd (false≢true e)
any_at (suc n) ok e =
    elim (or_cases (ok n) (any n ok) (sym (any_suc n ok) ∙ e)) [
      | inl t ↦ (n, omega arith, t)
      | inr t ↦ let (i, h, o) = any_at n ok t in (i, omega arith, o)
    ]

pub any_not : (n : ℕ) (ok : ℕ → Bool) → any n ok ≡ false → (i : ℕ) → i < n → ok i ≡ false
any_not zero ok e i h = absurd (not-suc-le-zero h)
any_not (suc n) ok e i h =
    let both : ok n || any n ok ≡ false = sym (any_suc n ok) ∙ e in
    last_or n (or_left (ok n) (any n ok) both) (any_not n ok (or_right (ok n) (any n ok) both)) i h

pub any_of : (n : ℕ) (ok : ℕ → Bool) (i : ℕ) → i < n → ok i ≡ true → any n ok ≡ true
any_of n ok i h t = go (test (any n ok))
  where
    go : (any n ok ≡ true) ⊎ (any n ok ≡ false) → any n ok ≡ true
    go (inl e) = e
    go (inr e) = clash t (any_not n ok e i h)

-- what `first_that` answers: the smallest, if some number below n passes
pub first_of : (ok : ℕ → Bool) (n i : ℕ) → i < n → ok i ≡ true → (first_that ok n < n) × (ok (first_that ok n) ≡ true)
first_of ok n i h t =
    elim (dec_lt (first_that ok n) n) [
      | yes l ↦ (l, first_passes ok n l)
      | no k ↦ clash t (first_least ok n i (omega arith))
    ]

-- a loop's answer: the first number that passed, or the bound after none did
pub first_is : (ok : ℕ → Bool) (n i : ℕ) → i < n → ok i ≡ true → ((j : ℕ) → j < i → ok j ≡ false) → first_that ok n ≡ i
first_is ok n i h t before =
    let (b, o) = first_of ok n i h t in
    order (ℕ_discrete (first_that ok n) i) (dec_lt (first_that ok n) i) b o
  where
    order : Dec (first_that ok n ≡ i) → Dec (first_that ok n < i) → first_that ok n < n → ok (first_that ok n) ≡ true → first_that ok n ≡ i
    order (yes e) d b o = e
    order (no ne) (yes l) b o = clash o (before (first_that ok n) l)
    order (no ne) (no nl) b o = clash t (first_least ok n i (omega arith))

pub none_first : (ok : ℕ → Bool) (n : ℕ) → ((j : ℕ) → j < n → ok j ≡ false) → first_that ok n ≡ n
none_first ok n none_is =
    elim (dec_lt (first_that ok n) n) [
      | yes l ↦ clash (first_passes ok n l) (none_is (first_that ok n) l)
      | no k ↦ let b = first_le ok n in omega arith
    ]

-- some number passes just where the search finds one
pub any_first : (ok : ℕ → Bool) (n : ℕ) → any n ok ≡ ltb (first_that ok n) n
any_first ok n =
    elim (test (any n ok)) [
      | inl t ↦ let (i, h, o) = any_at n ok t in t ∙ sym (lt-ltb (first_that ok n) n (first_of ok n i h o).0)
      | inr f ↦ let e = none_first ok n (any_not n ok f) in f ∙ sym (le-ltb (first_that ok n) n (omega arith))
    ]

-- searches by tests that agree below the bound
pub all_ext : (n : ℕ) (f g : ℕ → Bool) → ((i : ℕ) → i < n → f i ≡ g i) → all n f ≡ all n g
all_ext zero f g e = refl
all_ext (suc n) f g e = all_suc n f ∙ ap₂ ◌&&◌ (e n (omega arith)) (all_ext n f g (λ i h. e i (omega arith))) ∙ sym (all_suc n g)

pub any_ext : (n : ℕ) (f g : ℕ → Bool) → ((i : ℕ) → i < n → f i ≡ g i) → any n f ≡ any n g
any_ext zero f g e = refl
any_ext (suc n) f g e = any_suc n f ∙ ap₂ ◌||◌ (e n (omega arith)) (any_ext n f g (λ i h. e i (omega arith))) ∙ sym (any_suc n g)

pub first_ext : (n : ℕ) (f g : ℕ → Bool) → ((i : ℕ) → i < n → f i ≡ g i) → first_that f n ≡ first_that g n
first_ext n f g same =
    elim (dec_lt (first_that g n) n) [
      | yes l ↦ first_is f n (first_that g n) l (same (first_that g n) l ∙ first_passes g n l) (λ j h. same j (omega arith) ∙ first_least g n j h)
      | no k ↦
          let e : first_that g n ≡ n = omega (arith, first_le g n) in
          none_first f n (λ j h. same j h ∙ first_least g n j (omega arith)) ∙ sym e
    ]

-- what stands for a test of each number below n
pub all_says : (n : ℕ) (ok : ℕ → Bool) (P : ℕ → Type 0) → ((i : ℕ) → Says (ok i) (P i)) → Says (all n ok) ((i : ℕ) → i < n → P i)
all_says n ok P says = (λ e i h. (says i).0 (all_at n ok e i h), λ p. all_of n ok (λ i h. (says i).1 (p i h)))

-- Parts in memory.
-- Assumes nothing.
use Prim.Native.Nat.{ℕ, zero, suc, ◌+◌, ◌-◌, ◌*◌, ◌/◌, ◌%◌, ◌≤◌, ◌<◌}
use native.Mathlib.Omega.{arith}
use mathlib.Core.Path.{◌≡◌, refl, sym, ap, ap₂, ◌∙◌, subst}
use mathlib.Core.Bool.{Bool, true, false, false≢true}
use mathlib.Core.List.{List, [], ◌∷◌, ◌++◌, map-append}
use lib.Dec.{eqb}
use lib.ListN.{length, length-map, get_or}
use borrow.Author.Tests.{eqb-true, eq-eqb, ne_eqb}
use Rattle.basics.specs.Limits.{index_limit}
use Rattle.formula.specs.declared.formula.Op.{Op}
use Rattle.formula.specs.declared.formula.Op.TheVariants as op
use Rattle.formula.specs.Formula.{Formula, size}
use Rattle.formula.specs.Parts.{byte_of, op_of, part_at, is_temporal, one_part, unary_parts, binary_parts, parts_from}
use Rattle.formula.specs.declared.parts.Part.{Part}
use Rattle.formula.specs.Codes.{code_of, codes_of, part_of, parts_in}
use Rattle.formula.proofs.OperatorBytes.{op_of_byte_of, op_of_other}

pub length_in : (codes : List ℕ) → length (parts_in codes) ≡ length codes
unfolding parts_in
length_in codes = length-map codes part_of

-- part i, also past the end, where both lists give zeros
pub part_in : (codes : List ℕ) (i : ℕ) → part_at (parts_in codes) i ≡ part_of (get_or codes i 0)
unfolding parts_in part_at part_of op_of
part_in [] i = refl
part_in (n ∷ codes) zero = refl
part_in (n ∷ codes) (suc i) = part_in codes i

-- the numbers of a part are bytes
pub record Bytes (q : Part) : Type 0 where
  pub left_byte : q.left < index_limit
  pub right_byte : q.right < index_limit

pub byte_small : (k : Op) → byte_of k < 256
byte_small op.Signal = omega arith
byte_small op.True = omega arith
byte_small op.False = omega arith
byte_small op.Not = omega arith
byte_small op.And = omega arith
byte_small op.Or = omega arith
byte_small op.Implies = omega arith
byte_small op.Next = omega arith
byte_small op.WeakNext = omega arith
byte_small op.Eventually = omega arith
byte_small op.Always = omega arith
byte_small op.Until = omega arith
byte_small op.Release = omega arith

-- the bytes of a number made of three
module _ (k l r : ℕ) (hk : k < 256) (hl : l < 256) (hr : r < 256) where
  abbrev made : ℕ
  made = k + 256 * l + 65536 * r

  first_byte : made % 256 ≡ k
  first_byte = omega arith

  second_byte : made / 256 % 256 ≡ l
  second_byte =
      let n : made / 256 ≡ l + 256 * r = omega arith in
      let m : (l + 256 * r) % 256 ≡ l = omega arith in
      ap (λ x. x % 256) n ∙ m

  third_byte : made / 65536 % 256 ≡ r
  third_byte =
      let n : made / 65536 ≡ r = omega arith in
      let m : r % 256 ≡ r = omega arith in
      ap (λ x. x % 256) n ∙ m

-- a number holds the part that it was made of
pub part_coded : (q : Part) → Bytes q → part_of (code_of q) ≡ q
unfolding part_of
part_coded q h =
    let b = byte_small q.kind in
    let k = first_byte (byte_of q.kind) q.left q.right b h.left_byte h.right_byte in
    let l = second_byte (byte_of q.kind) q.left q.right b h.left_byte h.right_byte in
    let r = third_byte (byte_of q.kind) q.left q.right b h.left_byte h.right_byte in
    rw (k, l, r, op_of_byte_of q.kind) refl

-- ---- parts that their numbers hold

abbrev pub Held : List Part → Type 0
Held ps = parts_in (codes_of ps) ≡ ps

pub held_append : (ps qs : List Part) → Held ps → Held qs → Held (ps ++ qs)
unfolding parts_in
held_append ps qs h i = ap parts_in (map-append code_of ps qs) ∙ map-append part_of (codes_of ps) (codes_of qs) ∙ ap₂ ◌++◌ h i

pub held_one : (k : Op) (l r : ℕ) → l < index_limit → r < index_limit → Held (one_part k l r)
unfolding parts_in
held_one k l r hl hr = ap (λ q. q ∷ []) (part_coded (record { kind = k; left = l; right = r }) (record { left_byte = hl; right_byte = hr }))

-- a formula's parts are held wherever they stand
abbrev pub Coded : Formula → Type 0
Coded φ = (n : ℕ) → n + size φ ≤ index_limit → Held (parts_from φ n)

pub held_unary : (k : Op) (φ : Formula) → Coded φ → (n : ℕ) → n + (size φ + 1) ≤ index_limit → Held (unary_parts k φ n (parts_from φ n))
held_unary k φ c n h = held_append (parts_from φ n) _ (c n (omega arith)) (held_one k (n + size φ - 1) 0 (omega arith) (omega arith))

pub held_binary : (k : Op) (φ ψ : Formula) → Coded φ → Coded ψ → (n : ℕ) → n + (size φ + size ψ + 1) ≤ index_limit
    → Held (binary_parts k φ ψ n (parts_from φ n) (parts_from ψ (n + size φ)))
held_binary k φ ψ c d n h =
    held_append (parts_from φ n ++ parts_from ψ (n + size φ)) _
    (held_append (parts_from φ n) (parts_from ψ (n + size φ)) (c n (omega arith)) (d (n + size φ) (omega arith)))
    (held_one k (n + size φ - 1) (n + size φ + size ψ - 1) (omega arith) (omega arith))

-- ---- temporal operators

-- a statement holds of k where it holds of c, and where k is not c
unless : (P : ℕ → Type 0) (k c : ℕ) → P c → (¬ (k ≡ c) → P k) → P k
unless P k c h g = at (eqb k c) refl
  where
    at : (b : Bool) → eqb k c ≡ b → P k
    at true e = subst P (sym (eqb-true k c e)) h
    at false e = g (λ q. false≢true (sym e ∙ eq-eqb k c q))

-- a byte stands for a temporal operator as the operator itself does
abbrev AsOp : ℕ → Type 0
AsOp k = is_temporal (byte_of (op_of k)) ≡ is_temporal k

pub temporal_op : (k : ℕ) → AsOp k
unfolding op_of
temporal_op k =
    unless AsOp k 97 refl (λ a. unless AsOp k 116 refl (λ b. unless AsOp k 33 refl (λ c. unless AsOp k 38 refl (λ d.
    unless AsOp k 124 refl (λ e. unless AsOp k 45 refl (λ f. unless AsOp k 88 refl (λ g. unless AsOp k 78 refl (λ h.
    unless AsOp k 70 refl (λ i. unless AsOp k 71 refl (λ j. unless AsOp k 85 refl (λ l. unless AsOp k 82 refl (λ m.
    ap (λ q. is_temporal (byte_of q)) (op_of_other k a b c d e f g h i j l m)
    ∙ sym (none g h i j l m)))))))))))))
  where
    none : ¬ (k ≡ 88) → ¬ (k ≡ 78) → ¬ (k ≡ 70) → ¬ (k ≡ 71) → ¬ (k ≡ 85) → ¬ (k ≡ 82) → is_temporal k ≡ false
    none g h i j l m = rw (ne_eqb k 88 g, ne_eqb k 78 h, ne_eqb k 70 i, ne_eqb k 71 j, ne_eqb k 85 l, ne_eqb k 82 m) refl

-- whether part i is a temporal operator, by its number's lowest byte
pub temporal_in : (codes : List ℕ) (i : ℕ) → is_temporal (get_or codes i 0 % 256) ≡ is_temporal (byte_of (part_at (parts_in codes) i).kind)
unfolding part_of
temporal_in codes i = sym (temporal_op (get_or codes i 0 % 256)) ∙ sym (ap (λ q. is_temporal (byte_of q.kind)) (part_in codes i))

-- What the functions on sets in memory do, step by step.
-- Assumes nothing.
use Prim.Native.Nat.{ℕ, ◌+◌, ◌-◌, ◌*◌, ◌/◌, ◌%◌, ◌^◌, ◌<◌, ◌≤◌}
use native.Mathlib.Nat.{mod-lt, mod-eq_of_lt, mod-eq-sub-mod}
use native.Mathlib.Omega.{arith}
use mathlib.Core.Path.{◌≡◌, refl, sym, ap, ◌∙◌}
use mathlib.Core.Logic.{inl, inr}
use mathlib.Core.Bool.{Bool, true, false}
use mathlib.Core.List.{List, ◌++◌}
use lib.Bits.{bit_and}
use lib.Dec.{eqb, ltb}
use lib.ListN.{length, get_or, drop, set, take-append-drop}
use borrow.Author.Tests.{ltb-true, ltb-false}
use Rattle.basics.specs.Bits.{bit}
use Rattle.basics.specs.Lists.{tabulate}
use Rattle.basics.specs.Bounded.{agree}
use Rattle.search.specs.Slots.{same_run, same_slot}
use Rattle.search.specs.Memory.{spread, next_byte, repeated, next_bytes}
use Rattle.basics.proofs.BitsLaws.{bit_test}
use Rattle.basics.proofs.ListsLaws.{tabulate_ext, table_take, get_d_table}
use Rattle.basics.proofs.BoundedLaws.{agree_none, agree_more, agree_fails, agree_at, agree_all}
use Rattle.basics.proofs.Booleans.{test, clash}
use Rattle.basics.proofs.Filling.{table_more, table_all, filled}

-- ---- `put_spread`

-- bit p of some bytes
unfoldable pub spread_at : List ℕ → ℕ → Bool
spread_at bytes p = bit (get_or bytes (p / 8) 0) (p % 8)

pub spread_bit : (bytes : List ℕ) (p : ℕ) → eqb (bit_and (get_or bytes (p / 8) 0 / 2 ^ (p % 8)) 1) 1 ≡ spread_at bytes p
unfolding spread_at
spread_bit bytes p = bit_test (get_or bytes (p / 8) 0) (p % 8)

pub spread_done : (bytes : List ℕ) (d w : List Bool) (p : ℕ) → p ≡ length bytes * 8 → length d ≡ length bytes * 8
    → w ≡ tabulate p (spread_at bytes) ++ drop p d → w ≡ spread bytes
unfolding spread_at spread
spread_done bytes d w p q l e = table_all p (length bytes * 8) (spread_at bytes) d w q l e

-- ---- `repeat` and `put_next`

-- byte b of h bytes that are repeated
unfoldable pub repeated_at : ℕ → List ℕ → ℕ → ℕ
repeated_at h bytes b = get_or bytes (b % h) 0

-- the first h bytes are as they were
pub repeated_none : (h : ℕ) (d : List ℕ) → h ≤ length d → d ≡ tabulate h (repeated_at h d) ++ drop h d
unfolding repeated_at
repeated_none h d l =
    sym (take-append-drop h d)
    ∙ ap (λ t. t ++ drop h d) (sym (table_take h d l) ∙ tabulate_ext h (λ i. get_or d i 0) (repeated_at h d) (λ i q. ap (λ k. get_or d k 0) (sym (mod-eq_of_lt q))))

-- each further byte is the one h before it
repeated_back : (h b : ℕ) (d : List ℕ) → h ≤ b → repeated_at h d (b - h) ≡ repeated_at h d b
unfolding repeated_at
repeated_back h b d l = ap (λ k. get_or d k 0) (sym (mod-eq-sub-mod l))

pub repeated_more : (h b : ℕ) (d w : List ℕ) → 0 < h → h ≤ b → b < length d → w ≡ tabulate b (repeated_at h d) ++ drop b d
    → set w b (get_or w (b - h) 0) ≡ tabulate (b + 1) (repeated_at h d) ++ drop (b + 1) d
repeated_more h b d w p l q e =
    table_more b (repeated_at h d) d w (get_or w (b - h) 0) q e
    (ap (λ t. get_or t (b - h) 0) e ∙ get_d_table (repeated_at h d) b (b - h) (drop b d) (omega arith) ∙ repeated_back h b d l)

pub repeated_done : (h : ℕ) (d w : List ℕ) (b : ℕ) → b ≡ length d → w ≡ tabulate b (repeated_at h d) ++ drop b d → w ≡ repeated h d
unfolding repeated_at repeated
repeated_done h d w b q e = table_all b (length d) (repeated_at h d) d w q refl e

-- the first bytes of the next set, again and again, are the next set
next_bytes_lem : (present : List Bool) (entries : List ℕ) (h : ℕ) (w r : List ℕ) → 0 < h → w ≡ tabulate h (next_byte present entries) ++ r
    → repeated h w ≡ next_bytes (length w) present entries h
unfolding repeated next_bytes
next_bytes_lem present entries h w r p e =
    tabulate_ext (length w) (λ b. get_or w (b % h) 0) (λ b. next_byte present entries (b % h))
    (λ b q. ap (λ t. get_or t (b % h) 0) e ∙ get_d_table (next_byte present entries) h (b % h) r (mod-lt b p))

pub next_done : (present : List Bool) (entries : List ℕ) (h b : ℕ) (w d : List ℕ) → 0 < h → b ≡ h → length w ≡ length d
    → w ≡ tabulate b (next_byte present entries) ++ drop b d → repeated h w ≡ next_bytes (length d) present entries h
next_done present entries h b w d p q l e =
    next_bytes_lem present entries h w (drop h d) p (filled b h (next_byte present entries) d w q e) ∙ ap (λ n. next_bytes n present entries h) l

-- ---- `same_run`

module _ (mem : List ℕ) (a b : ℕ) where
  pub run_none : same_run mem a b 0 ≡ true
  unfolding same_run
  run_none = agree_none _ _

  pub run_more : (y : ℕ) → same_run mem a b y ≡ true → get_or mem (a + y) 0 ≡ get_or mem (b + y) 0 → same_run mem a b (y + 1) ≡ true
  unfolding same_run
  run_more y p e = agree_more _ _ y p e

  pub run_fails : (k y : ℕ) → y < k → (get_or mem (a + y) 0 ≡ get_or mem (b + y) 0 → ⊥) → same_run mem a b k ≡ false
  unfolding same_run
  run_fails k y h ne = agree_fails _ _ k y h ne

  pub run_done : (k y : ℕ) → y ≡ k → same_run mem a b y ≡ true → same_run mem a b k ≡ true
  run_done k y q p = sym (ap (same_run mem a b) q) ∙ p

-- ---- `same_slot`

module _ (w : ℕ) (mem : List ℕ) (n i y : ℕ) where
  -- k bytes more
  pub slot_more : (k : ℕ) → same_run mem (i * w) (n * w) y ≡ true → same_run mem (i * w + y) (n * w + y) k ≡ true
      → same_run mem (i * w) (n * w) (y + k) ≡ true
  unfolding same_run
  slot_more k p q = agree_all _ _ (y + k) (λ j h. at j h (ltb j y) refl)
    where
      at : (j : ℕ) → j < y + k → (b : Bool) → ltb j y ≡ b → get_or mem (i * w + j) 0 ≡ get_or mem (n * w + j) 0
      at j h true l = agree_at _ _ y j p (ltb-true j y l)
      at j h false l =
          let past : y ≤ j = ltb-false j y l in
          let at_i : i * w + y + (j - y) ≡ i * w + j = omega arith in
          let at_n : n * w + y + (j - y) ≡ n * w + j = omega arith in
          sym (ap (λ m. get_or mem m 0) at_i) ∙ agree_at _ _ k (j - y) q (omega arith) ∙ ap (λ m. get_or mem m 0) at_n

  pub slot_fails : (k : ℕ) → y + k ≤ w → same_run mem (i * w + y) (n * w + y) k ≡ false → same_slot w mem n i ≡ false
  unfolding same_run same_slot
  slot_fails k h e = elim (test (same_slot w mem n i)) [ inl t ↦ clash (part t) e | inr f ↦ f ]
    where
      part : agree (λ j. get_or mem (i * w + j) 0) (λ j. get_or mem (n * w + j) 0) w ≡ true
          → agree (λ j. get_or mem (i * w + y + j) 0) (λ j. get_or mem (n * w + y + j) 0) k ≡ true
      part t =
          agree_all _ _ k (λ j l. let at_i : i * w + y + j ≡ i * w + (y + j) = omega arith in
          let at_n : n * w + y + j ≡ n * w + (y + j) = omega arith in
          ap (λ m. get_or mem m 0) at_i ∙ agree_at _ _ w (y + j) t (omega arith) ∙ sym (ap (λ m. get_or mem m 0) at_n))

  -- the bytes that are left
  pub slot_rest : (k : ℕ) → y + k ≡ w → same_run mem (i * w) (n * w) y ≡ true → same_run mem (i * w + y) (n * w + y) k ≡ same_slot w mem n i
  unfolding same_run same_slot
  slot_rest k q p = elim (test (same_run mem (i * w + y) (n * w + y) k)) [
    | inl t ↦ t ∙ sym (ap (same_run mem (i * w) (n * w)) (sym q) ∙ slot_more k p t)
    | inr f ↦ f ∙ sym (slot_fails k (omega arith) f)
  ]

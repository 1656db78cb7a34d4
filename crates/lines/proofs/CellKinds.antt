-- The kinds of parts in their cells, and how many of them are temporal operators. Assumes nothing.
use Prim.Native.Nat.{ℕ, suc, ◌+◌, ◌-◌, ◌*◌, ◌/◌, ◌%◌, ◌<◌, ◌≤◌}
use native.Mathlib.Numerals.{add-one}
use native.Mathlib.Omega.{arith}
use mathlib.Core.Path.{◌≡◌, refl, ap, ap₂, ◌∙◌}
use mathlib.Core.Bool.{Bool, true, false, cond}
use mathlib.Core.List.{List, [], ◌∷◌}
use lib.Dec.{ltb}
use lib.ListN.{length, get_or, drop, drop_of_length-le}
use lib.Seq.{drop-cons}
use Rattle.basics.specs.Bits.{digit}
use Rattle.formula.specs.Parts.{byte_of, is_temporal, temporals, kinds_of}
use Rattle.formula.specs.declared.parts.Part.{Part}
use Rattle.formula.specs.Codes.{codes_of}
use Rattle.syntax.specs.Cells.{code_at, codes_from, kinds_in}
use Rattle.formula.proofs.CodesLaws.{byte_small}

low_code : (n c : ℕ) → code_at n c % 256 ≡ c % 256
unfolding code_at
low_code n c = go (ltb (c / 256) 256) (ltb (c / 256) 512)
  where
    go : (a b : Bool)
        → cond a (c % 256 + 256 * (c / 256)) (cond b (c % 256 + 256 * (n - 1)) (c % 256 + 256 * (n - 1 - (c / 256 - 512)) + 65536 * (n - 1))) % 256 ≡ c % 256
    go true b = omega arith
    go false true = omega arith
    go false false = omega arith

pub kinds_from : (n : ℕ) (cs : List ℕ) → kinds_in (codes_from n cs) ≡ kinds_in cs
unfolding kinds_in codes_from
kinds_from n [] = refl
kinds_from n (c ∷ cs) = ap₂ ◌∷◌ (low_code n c) (kinds_from (suc n) cs)

pub kinds_of_lem : (ps : List Part) → kinds_in (codes_of ps) ≡ kinds_of ps
unfolding kinds_in
kinds_of_lem [] = refl
kinds_of_lem (q ∷ ps) =
    let h = byte_small q.kind in
    let e : (byte_of q.kind + 256 * q.left + 65536 * q.right) % 256 ≡ byte_of q.kind = omega arith in
    ap₂ ◌∷◌ e (kinds_of_lem ps)

-- the cells from place i on, and whether the first of them counts
module _ (cs : List ℕ) (i : ℕ) (h : i < length cs) (b : Bool) (e : b ≡ is_temporal (get_or cs i 0 % 256)) where
  temporals_next : temporals (kinds_in (drop i cs)) ≡ digit b + temporals (kinds_in (drop (i + 1) cs))
  unfolding temporals kinds_in
  temporals_next = rw (e, add-one, drop-cons cs i 0)

  pub temporals_hit : b ≡ true → temporals (kinds_in (drop i cs)) ≡ 1 + temporals (kinds_in (drop (i + 1) cs))
  temporals_hit t = temporals_next ∙ ap (λ d. digit d + temporals (kinds_in (drop (i + 1) cs))) t

  pub temporals_miss : b ≡ false → temporals (kinds_in (drop i cs)) ≡ 0 + temporals (kinds_in (drop (i + 1) cs))
  temporals_miss t = temporals_next ∙ ap (λ d. digit d + temporals (kinds_in (drop (i + 1) cs))) t

pub temporals_end : (cs : List ℕ) (i : ℕ) → i ≡ length cs → temporals (kinds_in (drop i cs)) ≡ 0
unfolding temporals kinds_in
temporals_end cs i e = rw (drop_of_length-le cs {i = i} (omega arith))

-- at most as many count as there are
pub temporals_few : (cs : List ℕ) → temporals (kinds_in cs) ≤ length cs
unfolding temporals kinds_in
temporals_few [] = omega arith
temporals_few (c ∷ cs) = go (is_temporal (c % 256)) (temporals_few cs)
  where
    go : (b : Bool) → temporals (kinds_in cs) ≤ length cs → digit b + temporals (kinds_in cs) ≤ suc (length cs)
    go true h = omega arith
    go false h = omega arith

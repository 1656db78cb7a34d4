-- A part of a list that is lent, and the list with that part put in anew.
-- Assumes nothing.
use Prim.Native.Nat.{ℕ, ◌+◌, ◌-◌, ◌≤◌, ◌<◌}
use native.Mathlib.Nat.{add_assoc}
use native.Mathlib.Omega.{arith}
use mathlib.Core.Path.{◌≡◌, sym, ap, ◌∙◌, subst}
use mathlib.Core.List.{List, ◌++◌, append_assoc}
use lib.ListN.{length, get_or, take, drop, get_or-append, length-drop, take-append-drop}
use lib.Seq.{sets, sets-eq, length-take-le, get_or-take, get_or-drop, get_or-append-add, drop-drop, drop-append-le}
use borrow.Rule.Slice.PartMut.{put_mid, same_len_mid}

-- n entries from entry k on
piece_length : (k n : ℕ) (xs : List ℕ) → k + n ≤ length xs → length (take n (drop k xs)) ≡ n
piece_length k n xs h = length-take-le n (drop k xs) (rw length-drop (omega arith))

-- as code lends them
pub part_length : (k n : ℕ) (xs : List ℕ) → k + n ≤ length xs → length (take (k + n - k) (drop k xs)) ≡ n
part_length k n xs h = let e : k + n - k ≡ n = omega arith in ap (λ j. length (take j (drop k xs))) e ∙ piece_length k n xs h

pub part_at : (k n : ℕ) (xs : List ℕ) (q : ℕ) → q < n → get_or (take (k + n - k) (drop k xs)) q 0 ≡ get_or xs (k + q) 0
part_at k n xs q h =
    let e : k + n - k ≡ n = omega arith in
    ap (λ j. get_or (take j (drop k xs)) q 0) e ∙ get_or-take n (drop k xs) q 0 h ∙ get_or-drop k xs q 0

-- values that are written at the front of such a part are written in the whole
pub mid_sets : (t : List ℕ) (at s k : ℕ) (vs l : List ℕ) → at + s ≤ length t → length vs ≡ k → k ≤ s → l ≡ vs ++ drop k (take s (drop at t))
    → put_mid at s t l ≡ sets t at vs
mid_sets t at s k vs l fits size few e =
    let u = drop at t in
    let inside : k ≤ length (take s u) = omega (arith, piece_length at s t fits) in
    let rest : drop k (take s u) ++ drop s u ≡ drop (at + k) t =
    sym (drop-append-le k (take s u) (drop s u) inside) ∙ ap (drop k) (take-append-drop s u) ∙ drop-drop k at t in
    ap (put_mid at s t) e
    ∙ ap (λ r. take at t ++ r) (append_assoc vs (drop k (take s u)) (drop s u) ∙ ap (λ r. vs ++ r) (rest ∙ ap (λ n. drop (at + n) t) (sym size)))
    ∙ sym (sets-eq vs t at (omega arith) ∙ append_assoc (take at t) vs _)

-- k entries put in
module _ (w : List ℕ) (at k : ℕ) (ys : List ℕ) (fits : at + k ≤ length w) where
  cut : length (take at w) ≡ at
  cut = length-take-le at w (omega arith)

  pub mid_before : (y : ℕ) → y < at → get_or (put_mid at k w ys) y 0 ≡ get_or w y 0
  mid_before y h = get_or-append (take at w) _ 0 y (subst (λ n. y < n) (sym cut) h) ∙ get_or-take at w y 0 h

  module _ (long : length ys ≡ k) where
    pub mid_in : (j : ℕ) → j < k → get_or (put_mid at k w ys) (at + j) 0 ≡ get_or ys j 0
    mid_in j h =
        ap (λ n. get_or (put_mid at k w ys) (n + j) 0) (sym cut) ∙ get_or-append-add (take at w) _ j 0
        ∙ get_or-append ys _ 0 j (subst (λ n. j < n) (sym long) h)

    pub mid_after : (y : ℕ) → at + k ≤ y → get_or (put_mid at k w ys) y 0 ≡ get_or w y 0
    mid_after y h =
        let j : ℕ = y - (at + k) in
        let e : y ≡ at + (k + j) = omega arith in
        ap (λ n. get_or (put_mid at k w ys) n 0) (e ∙ ap (λ n. n + (k + j)) (sym cut)) ∙ get_or-append-add (take at w) _ (k + j) 0
        ∙ ap (λ n. get_or (ys ++ drop k (drop at w)) (n + j) 0) (sym long) ∙ get_or-append-add ys _ j 0
        ∙ ap (λ l. get_or l j 0) (drop-drop k at w) ∙ get_or-drop (at + k) w j 0 ∙ ap (λ n. get_or w n 0) (add_assoc at k j ∙ sym e)

    pub mid_length : length (put_mid at k w ys) ≡ length w
    mid_length = same_len_mid at k w ys (long ∙ sym (piece_length at k w fits))

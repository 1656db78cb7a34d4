-- Texts that are made of whole lines.
-- Assumes nothing.
use Prim.Native.Nat.{ℕ, zero, suc, ◌≤◌, ◌<◌}
use native.Mathlib.Omega.{arith}
use native.Mathlib.Nat.{not-suc-le-zero, le_of_suc-le-suc}
use mathlib.Core.Path.{◌≡◌, refl, sym, ap, ◌∙◌}
use mathlib.Core.List.{List, [], ◌∷◌, ◌++◌, append_assoc, flat_map}
use lib.ListN.{length}
use Rattle.basics.specs.Bytes.{not_line_end}
use Rattle.basics.specs.Lists.{tabulate}
use Rattle.basics.specs.Pieces.{piece, behind, behind_all, Unparted, line_at}
use Rattle.basics.proofs.PiecesLaws.{piece_first, behind_first, piece_last}
use Rattle.loader.specs.LoadedAs.{Lines}

-- a line and what stands behind it
module _ (l rest : List ℕ) (u : Unparted not_line_end l) where
  pub line_here : line_at 0 (l ++ (10 ∷ rest)) ≡ l
  line_here = piece_first not_line_end 10 refl rest l u

  pub line_next : (k : ℕ) → line_at (suc k) (l ++ (10 ∷ rest)) ≡ line_at k rest
  line_next k = ap (λ s. piece not_line_end (behind_all not_line_end k s)) (behind_first not_line_end 10 refl rest l u)

split_line : (l v rest u : List ℕ) → u ≡ l ++ (10 ∷ v) → u ++ rest ≡ l ++ (10 ∷ (v ++ rest))
split_line l v rest u e = ap (λ x. x ++ rest) e ∙ append_assoc l (10 ∷ v) rest

-- the lines in front are the same whatever follows
pub lines_same : (j : ℕ) (u : List ℕ) → Lines j u → (i : ℕ) → i < j → (a b : List ℕ) → line_at i (u ++ a) ≡ line_at i (u ++ b)
lines_same zero u e i h a b = absurd (not-suc-le-zero h)
lines_same (suc j) u (l, v, p, ls, e) zero h a b =
    ap (line_at 0) (split_line l v a u e) ∙ line_here l (v ++ a) p ∙ sym (ap (line_at 0) (split_line l v b u e) ∙ line_here l (v ++ b) p)
lines_same (suc j) u (l, v, p, ls, e) (suc i) h a b =
    ap (line_at (suc i)) (split_line l v a u e) ∙ line_next l (v ++ a) p i ∙ lines_same j v ls i (le_of_suc-le-suc h) a b
    ∙ sym (ap (line_at (suc i)) (split_line l v b u e) ∙ line_next l (v ++ b) p i)

-- one line more in front
pub lines_more : (l : List ℕ) → Unparted not_line_end l → (k : ℕ) (v : List ℕ) → Lines k v → Lines (suc k) (l ++ (10 ∷ []) ++ v)
lines_more l p k v ls = (l, v, p, ls, append_assoc l (10 ∷ []) v)

-- fewer lines stand in front too
pub lines_fewer : (i j : ℕ) → i ≤ j → (u : List ℕ) → Lines j u → (w : List ℕ) × (rest : List ℕ) × Lines i w × (u ≡ w ++ rest)
lines_fewer zero j h u ls = ([], u, refl, refl)
lines_fewer (suc i) zero h u ls = absurd (not-suc-le-zero h)
lines_fewer (suc i) (suc j) h u (l, v, p, ls, e) =
    let (w, rest, ks, q) = lines_fewer i j (le_of_suc-le-suc h) v ls in
    (l ++ (10 ∷ w), rest, (l, w, p, ks, refl), e ∙ ap (λ x. l ++ (10 ∷ x)) q ∙ sym (append_assoc l (10 ∷ w) rest))

-- two lines that texts begin with are the same where the texts are
same_line : (l k a b : List ℕ) → Unparted not_line_end l → Unparted not_line_end k → l ++ (10 ∷ a) ≡ k ++ (10 ∷ b) → (l ≡ k) × (a ≡ b)
same_line l k a b p q e = (
  sym (line_here l a p) ∙ ap (line_at 0) e ∙ line_here k b q,
  sym (behind_first not_line_end 10 refl a l p) ∙ ap (behind not_line_end) e ∙ behind_first not_line_end 10 refl b k q,
)

-- a text of n lines begins with no more than n
pub lines_most : (n j : ℕ) (x u w : List ℕ) → Lines n x → Lines j u → x ≡ u ++ w → j ≤ n
lines_most n zero x u w ls ks e = omega arith
lines_most zero (suc j) x u w ls (l, v, p, ks, q) e =
    absurd (empty l (v ++ w) (sym ls ∙ e ∙ split_line l v w u q))
  where
    empty : (l r : List ℕ) → [] ≡ l ++ (10 ∷ r) → ⊥
    empty [] r e = omega (arith, ap length e)
    empty (b ∷ l) r e = omega (arith, ap length e)
lines_most (suc n) (suc j) x u w (l, v, p, ls, e) (k, y, q, ks, f) g =
    let (_, t) = same_line l k v (y ++ w) p q (sym e ∙ g ∙ split_line k y w u f) in
    let h = lines_most n j v y w ls ks t in omega arith

-- a text whose first lines are those of other lines begins with these
pub lines_begin : (n j : ℕ) (x u : List ℕ) → Lines n x → Lines j u → j ≤ n → ((i : ℕ) → i < j → line_at i x ≡ line_at i u)
    → (w : List ℕ) × (x ≡ u ++ w)
lines_begin n zero x u ls ks h same = (x, ap (λ (a : List ℕ). a ++ x) (sym ks))
lines_begin zero (suc j) x u ls ks h same = absurd (not-suc-le-zero h)
lines_begin (suc n) (suc j) x u (l, v, p, ls, e) (k, y, q, ks, f) h same =
    let first : l ≡ k = sym (ap (line_at 0) e ∙ line_here l v p) ∙ same 0 (omega arith) ∙ ap (line_at 0) f ∙ line_here k y q in
    let next : (i : ℕ) → i < j → line_at i v ≡ line_at i y =
    λ i m. sym (ap (line_at (suc i)) e ∙ line_next l v p i) ∙ same (suc i) (omega arith) ∙ ap (line_at (suc i)) f ∙ line_next k y q i in
    let (w, g) = lines_begin n j v y ls ks (le_of_suc-le-suc h) next in
    (w, e ∙ ap (λ a. a ++ (10 ∷ v)) first ∙ ap (λ a. k ++ (10 ∷ a)) g ∙ sym (append_assoc k (10 ∷ y) w) ∙ ap (λ a. a ++ w) (sym f))

-- ---- lines one after another

module _ (body : ℕ → List ℕ) (whole : (i : ℕ) → Unparted not_line_end (body i)) where
  -- the lines for f 0, .., f (n - 1)
  abbrev pub lines_of : ℕ → (ℕ → ℕ) → List ℕ
  lines_of n f = flat_map (λ i. body i ++ (10 ∷ [])) (tabulate n f)

  pub lines_are : (n : ℕ) (f : ℕ → ℕ) → Lines n (lines_of n f)
  unfolding flat_map
  lines_are zero f = refl
  lines_are (suc n) f = lines_more (body (f 0)) (whole (f 0)) n (lines_of n (λ i. f (suc i))) (lines_are n (λ i. f (suc i)))

  pub line_of : (n : ℕ) (f : ℕ → ℕ) (k : ℕ) → k < n → line_at k (lines_of n f) ≡ body (f k)
  unfolding flat_map
  line_of zero f k h = absurd (not-suc-le-zero h)
  line_of (suc n) f zero h = let rest = lines_of n (λ i. f (suc i)) in
      ap (line_at 0) (append_assoc (body (f 0)) (10 ∷ []) rest) ∙ line_here (body (f 0)) rest (whole (f 0))
  line_of (suc n) f (suc k) h = let rest = lines_of n (λ i. f (suc i)) in
      ap (line_at (suc k)) (append_assoc (body (f 0)) (10 ∷ []) rest) ∙ line_next (body (f 0)) rest (whole (f 0)) k
      ∙ line_of n (λ i. f (suc i)) k (le_of_suc-le-suc h)

-- behind the last line stands an empty one
pub line_last : (n : ℕ) (u : List ℕ) → Lines n u → line_at n u ≡ []
line_last zero u e = ap (piece not_line_end) e ∙ piece_last not_line_end [] tt
line_last (suc n) u (l, v, p, ls, e) = ap (line_at (suc n)) e ∙ line_next l v p n ∙ line_last n v ls

-- A loop that fills a list d from the front: after n turns it is the list made so far, with `drop n d` behind it.
-- Assumes nothing.
use Prim.Native.Nat.{◌+◌, ◌-◌, ◌≤◌, ◌<◌, ℕ, suc}
use native.Mathlib.Numerals.{add-one}
use native.Mathlib.Omega.{arith}
use mathlib.Core.Path.{sym, ap, ap₂, ◌∙◌, ◌≡◌, subst}
use mathlib.Core.List.{List, [], ◌∷◌, ◌++◌, append-nil}
use lib.ListN.{length, get_or, set, drop}
use lib.Seq.{drop-cons, set_at, append_snoc, drop-length, get_or-append-add, get_or-drop}
use Rattle.basics.specs.Lists.{tabulate}
use Rattle.basics.proofs.ListsLaws.{length_tabulate, tabulate_suc}

-- a list written over the front of another grows by a store
pub put_next : {A : Type 0} (p d : List A) (n : ℕ) (a : A) → length p ≡ n → n < length d → set (p ++ drop n d) n a ≡ p ++ (a ∷ []) ++ drop (n + 1) d
put_next p d n a e h =
    ap (λ r. set (p ++ r) n a) (drop-cons d n a h) ∙ set_at p (get_or d n a) (drop (suc n) d) a n e
    ∙ sym (append_snoc p a (drop (suc n) d)) ∙ ap (λ m. p ++ (a ∷ []) ++ drop m d) (sym (add-one n))

-- the same of the entries of a table
pub table_more : {A : Type 0} (n : ℕ) (f : ℕ → A) (d w : List A) (v : A) → n < length d → w ≡ tabulate n f ++ drop n d → v ≡ f n
    → set w n v ≡ tabulate (n + 1) f ++ drop (n + 1) d
table_more n f d w v l e q =
    ap₂ (λ t x. set t n x) e q ∙ put_next (tabulate n f) d n (f n) (length_tabulate n f) l
    ∙ ap (λ t. t ++ drop (n + 1) d) (sym (tabulate_suc n f) ∙ ap (λ m. tabulate m f) (sym (add-one n)))

-- all is written
pub table_all : {A : Type 0} (n m : ℕ) (f : ℕ → A) (d w : List A) → n ≡ m → length d ≡ m → w ≡ tabulate n f ++ drop n d → w ≡ tabulate m f
table_all n m f d w q l e =
    e ∙ ap (λ k. tabulate k f ++ drop k d) (q ∙ sym l) ∙ ap (λ r. tabulate (length d) f ++ r) (drop-length d)
    ∙ append-nil (tabulate (length d) f) ∙ ap (λ k. tabulate k f) l

-- the entries behind stay
pub front_behind : (p d w : List ℕ) (n i : ℕ) → length p ≡ n → n ≤ i → w ≡ p ++ drop n d → get_or w i 0 ≡ get_or d i 0
front_behind p d w n i e h q =
    let here : i ≡ length p + (i - n) = omega arith in
    let back : n + (i - n) ≡ i = omega arith in
    ap₂ (λ l j. get_or l j 0) q here ∙ get_or-append-add p (drop n d) (i - n) 0 ∙ get_or-drop n d (i - n) 0 ∙ ap (λ j. get_or d j 0) back

-- a table that a loop filled is filled as far as wanted
pub filled : (k n : ℕ) (f : ℕ → ℕ) (d w : List ℕ) → k ≡ n → w ≡ tabulate k f ++ drop k d → w ≡ tabulate n f ++ drop n d
filled k n f d w e p = subst (λ i. w ≡ tabulate i f ++ drop i d) e p

-- What a search for all that steps reach finds in the end, seen from one of its turns.
-- Assumes nothing.
use Prim.Native.Nat.{ℕ, suc, ◌-◌, ◌≤◌, ◌<◌}
use native.Mathlib.Omega.{arith}
use mathlib.Core.Path.{◌≡◌, sym, ap, ◌∙◌}
use mathlib.Core.Bool.{Bool, true}
use mathlib.Core.List.{List, ◌++◌}
use lib.ListN.{length, get_or, length-append, get_or-append}
use Rattle.basics.specs.Says.{Says}
use Rattle.basics.specs.Member.{◌∈◌}
use Rattle.basics.specs.Reach.{Listing, closed, is_in, index_in, add_all}
use Rattle.basics.proofs.ReachLaws.{is_in_says, added_all, explore_tail}
use Rattle.basics.proofs.GrowingList.{index_kept}
use Rattle.basics.proofs.BreadthFirst.{search_from, search_end}
use Rattle.play.specs.Table.{list_of}

module _ {K : Type 0} (same : K → K → Bool) (steps : K → List K) (first : K) (limit : ℕ) where
  abbrev From : List K → ℕ → Listing K
  From xs i = search_from same steps first limit xs i

  -- nothing is found beyond that
  pub search_found : (found xs : List K) (i : ℕ) → length xs ≤ limit → i ≡ length xs → From xs i ≡ closed found → xs ≡ found
  search_found found xs i l q e = ap list_of (sym (search_end same steps first limit xs i l q) ∙ e)

  module _ (says : (x y : K) → Says (same x y) (x ≡ y)) (found : List K) where
    -- what is found begins with what was met
    pub search_tail : (xs : List K) (i : ℕ) → From xs i ≡ closed found → (ys : List K) × (found ≡ xs ++ ys)
    unfolding search_from
    search_tail xs i e = explore_tail same says steps first limit (suc limit - i) xs i found e

    pub search_length : (xs : List K) (i : ℕ) → From xs i ≡ closed found → length xs ≤ length found
    search_length xs i e = let t = search_tail xs i e in omega (arith, ap length t.1 ∙ length-append xs t.0)

    -- what was met keeps its place
    pub search_at : (xs : List K) (i j : ℕ) (d : K) → From xs i ≡ closed found → j < length xs → get_or found j d ≡ get_or xs j d
    search_at xs i j d e h = let t = search_tail xs i e in ap (λ l. get_or l j d) t.1 ∙ get_or-append xs t.0 d j h

    -- what a turn adds keeps its number
    pub search_number : (xs ys : List K) (i : ℕ) → From (add_all same xs ys) i ≡ closed found → (y : K) → y ∈ ys
        → index_in same y (add_all same xs ys) ≡ index_in same y found
    search_number xs ys i e y m =
        let t = search_tail (add_all same xs ys) i e in
        let there : is_in same y (add_all same xs ys) ≡ true = (is_in_says same says y (add_all same xs ys)).1 ((added_all same says ys xs).has y m) in
        sym (ap (index_in same y) t.1 ∙ (index_kept same y (add_all same xs ys) t.0 there).0)

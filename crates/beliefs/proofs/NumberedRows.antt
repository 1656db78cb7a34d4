-- Rows of numbers: each entry is the number of what a step leads to.
-- Assumes nothing.
use Prim.Native.Nat.{ℕ, ◌+◌, ◌*◌, ◌≤◌, ◌<◌}
use native.Mathlib.Nat.{lt_of_lt_of_le}
use native.Mathlib.Decide.{dec_lt}
use native.Mathlib.Omega.{arith}
use mathlib.Core.Path.{◌≡◌, sym, ◌∙◌, subst}
use mathlib.Core.Bool.{Bool}
use mathlib.Core.List.Memᴰ
use mathlib.Core.List.{List, flat_map}
use lib.Arith.{digits_lt}
use lib.ListN.{length, get_or, get_or-append}
use Rattle.basics.specs.Says.{Says}
use Rattle.basics.specs.Lists.{padded}
use Rattle.basics.specs.Reach.{closed, index_in, reachable, reached_step}
use Rattle.basics.specs.Successors.{own_steps, row_over, rows_over}
use Rattle.basics.proofs.BreadthFirst.{row_length}
use Rattle.basics.proofs.EqualRows.{length_rows, get_d_rows}
use Rattle.basics.proofs.ListsLaws.{get_d_map_in, padded_length, past_end}
use Rattle.basics.proofs.MemberLaws.{get_d_in}
use Rattle.basics.proofs.ReachLaws.{closed_lists, index_right}

-- `steps s` are the steps of s
module _ {K : Type 0} (same : K → K → Bool) (f : K → ℕ → K) (steps : K → List ℕ) (width : ℕ) (fits : (s : K) → length (steps s) ≤ width) (xs : List K) where
  row_in : K → List ℕ
  row_in s = padded width (row_over same f (steps s) xs s)

  row_long : (s : K) → length (row_over same f (steps s) xs s) ≡ length (steps s)
  row_long s = row_length same f (steps s) xs s

  row_wide : (s : K) → length (row_in s) ≡ width
  unfolding row_in
  row_wide s = padded_length width (row_over same f (steps s) xs s) (subst (λ n. n ≤ width) (sym (row_long s)) (fits s))

  -- entry b of row j
  entry_in : (e : K) (n j b : ℕ) → j < length xs → b < width
      → get_or (padded n (rows_over same f steps width (closed xs))) (j * width + b) 0 ≡ get_or (row_in (get_or xs j e)) b 0
  unfolding row_in
  entry_in e n j b h l =
      let k : j * width + b < length xs * width = digits_lt h l in
      get_or-append (flat_map row_in xs) _ 0 (j * width + b) (subst (λ m. j * width + b < m) (sym (length_rows width row_in row_wide xs)) k)
      ∙ get_d_rows width row_in row_wide xs e j b h l

  -- is the number of what step b leads to from thing j ..
  pub rows_entry : (e : K) (n j b : ℕ) → j < length xs → b < length (steps (get_or xs j e))
      → get_or (padded n (rows_over same f steps width (closed xs))) (j * width + b) 0 ≡ index_in same (f (get_or xs j e) (get_or (steps (get_or xs j e)) b 0)) xs
  unfolding row_in row_over
  rows_entry e n j b h l =
      let s = get_or xs j e in
      entry_in e n j b h (lt_of_lt_of_le l (fits s))
      ∙ get_or-append (row_over same f (steps s) xs s) _ 0 b (subst (λ m. b < m) (sym (row_long s)) l)
      ∙ get_d_map_in (λ a. index_in same (f s a) xs) (steps s) b 0 0 l

  -- .. and 0 behind its steps
  pub rows_rest : (e : K) (n j b : ℕ) → j < length xs → length (steps (get_or xs j e)) ≤ b → b < width
      → get_or (padded n (rows_over same f steps width (closed xs))) (j * width + b) 0 ≡ 0
  unfolding row_in
  rows_rest e n j b h l m =
      let s = get_or xs j e in
      entry_in e n j b h m ∙ past_end width (row_over same f (steps s) xs s) b (subst (λ k. k ≤ b) (sym (row_long s)) l)

  -- so it is the number of something listed, if the rows are of all that is reached
  pub rows_inside : ((x y : K) → Says (same x y) (x ≡ y)) → (first : K) (limit : ℕ) → reachable same (own_steps f steps) first limit ≡ closed xs
      → (n j b : ℕ) → j < length xs → b < width → get_or (padded n (rows_over same f steps width (closed xs))) (j * width + b) 0 < length xs
  rows_inside says first limit listed n j b h m =
      let all = (closed_lists same says (own_steps f steps) first limit xs listed).0.exact in
      let x = get_or xs j first in
      elim (dec_lt b (length (steps x))) [
        | yes l ↦
            subst (λ k. k < length xs) (sym (rows_entry first n j b h l))
            (index_right same says (f x (get_or (steps x) b 0)) xs first
            ((all _).1 (reached_step ((all x).0 (get_d_in xs j first h)) (Memᴰ.map (f x) (get_d_in (steps x) b 0 l))))).0
        | no l ↦ subst (λ k. k < length xs) (sym (rows_rest first n j b h (omega arith) m)) (omega arith)
      ]

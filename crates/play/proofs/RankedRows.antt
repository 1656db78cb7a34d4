-- The rows of a table: the positions met by following the answers, which are ranked and no more than the positions counted.
-- Assumes nothing.
use Prim.Native.Nat.{ℕ, zero, suc, ◌≤◌, ◌<◌}
use native.Mathlib.Nat.{le_refl}
use native.Mathlib.Omega.{arith}
use mathlib.Core.Path.{◌≡◌, refl, ap, subst}
use mathlib.Core.Logic.{inl, inr}
use mathlib.Core.Bool.{Bool, false}
use mathlib.Core.List.Memᴰ
use mathlib.Core.List.{List}
use lib.ListN.{length, get_or}
use Rattle.basics.specs.Says.{Says}
use Rattle.basics.specs.Member.{◌∈◌}
use Rattle.basics.specs.Reach.{Listing, closed, over, index_in, reachable, Reached, reached_first, reached_step}
use Rattle.basics.proofs.MemberLaws.{in_tabulate, get_d_in, distinct_length_le}
use Rattle.basics.proofs.ReachLaws.{closed_lists, over_iff, index_right, closed_begins}
use Rattle.play.specs.Rank.{Arena}
use Rattle.play.specs.Table.{followers_by}
use Rattle.basics.proofs.Booleans.{test, clash}
use Rattle.play.proofs.StepOrder.{StepOrder}
use Rattle.play.proofs.RankLaws.{HasRank, rank_of, unstopped}
use Rattle.play.proofs.UpperBound.{Descends}
use Rattle.play.proofs.FiniteArena.{Closed, rank_lt_listed}

-- what holds of the first thing, and of each step from what it holds of, holds of all that is reached
pub reached_all : {K : Type 0} {steps : K → List K} {first : K} (P : K → Type 0) → P first → ((x y : K) → P x → y ∈ steps x → P y)
    → {x : K} → Reached steps first x → P x
reached_all P p s reached_first = p
reached_all P p s (reached_step {x = x} {y = y} r m) = s x y (reached_all P p s r) m

module _ (A : Arena) (answer : A.K → ℕ → ℕ) (observations : ℕ) (k : A.K) where
  abbrev to : ℕ → A.K
  to s = A.move k (answer k s) s

  mem_followers : A.final k ≡ false → (s : ℕ) → s < observations → to s ∈ followers_by A answer observations k
  mem_followers f s b = rw (f, followers_by) ((in_tabulate observations to (to s)).1 (s, b, refl))

  pub followers_mem : (j : A.K) → j ∈ followers_by A answer observations k → (A.final k ≡ false) × (s : ℕ) × (s < observations) × (to s ≡ j)
  followers_mem j m =
      elim (test (A.final k)) [
        | inl t ↦ absurd (Memᴰ.not-nil (rw (t, followers_by) at m))
        | inr f ↦ let (s, b, e) = (in_tabulate observations to j).0 (rw (f, followers_by) at m) in (f, s, b, e)
      ]

-- rows that are listed
module _ (A : Arena) (same : A.K → A.K → Bool) (says : (a b : A.K) → Says (same a b) (a ≡ b)) (answer : A.K → ℕ → ℕ) (observations n : ℕ)
    (rows : List A.K) (listed : reachable same (followers_by A answer observations) A.start n ≡ closed rows) where
  abbrev pub row : ℕ → A.K
  row i = get_or rows i A.start

  pub some_row : 0 < length rows
  some_row = let (ys, e) = closed_begins same says (followers_by A answer observations) A.start n rows listed in rw e (omega arith)

  pub first_row : row 0 ≡ A.start
  first_row = let (ys, e) = closed_begins same says (followers_by A answer observations) A.start n rows listed in ap (λ l. get_or l 0 A.start) e

  next_in : (k : A.K) → k ∈ rows → A.final k ≡ false → (s : ℕ) → s < observations → A.move k (answer k s) s ∈ rows
  next_in k m f s b =
      let all = (closed_lists same says (followers_by A answer observations) A.start n rows listed).0.exact in
      (all (A.move k (answer k s) s)).1 (reached_step ((all k).0 m) (mem_followers A answer observations k f s b))

  -- the number of the position that an observation leads to is a row, of that position
  pub next_place : (i : ℕ) → i < length rows → A.final (row i) ≡ false → (s : ℕ) → s < observations
      → let k = A.move (row i) (answer (row i) s) s in (index_in same k rows < length rows) × (row (index_in same k rows) ≡ k)
  next_place i h f s b =
      index_right same says (A.move (row i) (answer (row i) s) s) rows A.start (next_in (row i) (get_d_in rows i A.start h) f s b)

-- positions that are met, and ranked below n; `Met` is kept by moves from positions that are not final
module _ {choices observations : ℕ} (O : StepOrder choices observations) (A : Arena) (Met : A.K → Type 0)
    (met_next : (k : A.K) → Met k → A.final k ≡ false → (c : ℕ) → c < choices → (s : ℕ) → s < observations → Met (A.move k c s))
    (n : ℕ) (answer : A.K → ℕ → ℕ) (down : Descends O A answer n) where
  abbrev pub MetRanked : A.K → Type 0
  MetRanked k = Met k × (q : ℕ) × (q < n) × HasRank O A k q

  -- answers are choices, and lead to such positions
  pub ranked_answer : (k : A.K) → MetRanked k → A.final k ≡ false → (s : ℕ) → s < observations
      → (answer k s < choices) × MetRanked (A.move k (answer k s) s)
  ranked_answer k (m, zero, b, a) f s sb = clash a.0 f
  ranked_answer k (m, suc q, b, a) f s sb =
      let (al, right) = down k q b a in
      let (q', h, a') = rank_of O A q (A.move k (answer k s) s) (right s sb) in
      let cb = O.below (answer k) al s sb in
      (cb, (met_next k m f (answer k s) cb s sb, q', omega arith, a'))

module _ {choices observations : ℕ} (O : StepOrder choices observations) (A : Arena) (same : A.K → A.K → Bool) (says : (a b : A.K) → Says (same a b) (a ≡ b))
    (some_observation : 0 < observations) (all : List A.K) (closed_all : Closed O A some_observation all) (start_in : A.start ∈ all)
    (n : ℕ) (fits : length all ≤ n) (answer : A.K → ℕ → ℕ) (down : Descends O A answer n)
    (r : ℕ) (small : r < n) (start_rank_lem : HasRank O A A.start r) where
  -- answers lead down from the rank of the start too
  abbrev low : Descends O A answer (suc r)
  low k q b a = down k q (omega arith) a

  -- a position that is counted, and ranked no higher than the start
  abbrev pub Ranked : A.K → Type 0
  Ranked = MetRanked O A (λ k. k ∈ all) closed_all (suc r) answer low

  abbrev steps : A.K → List A.K
  steps = followers_by A answer observations

  pub ranked_next : (k j : A.K) → Ranked k → j ∈ steps k → Ranked j
  ranked_next k j p u =
      let (f, s, sb, e) = followers_mem A answer observations k j u in
      subst Ranked e (ranked_answer O A (λ k. k ∈ all) closed_all (suc r) answer low k p f s sb).1

  ranked : {k : A.K} → Reached steps A.start k → Ranked k
  ranked = reached_all Ranked (start_in, r, le_refl (suc r), start_rank_lem) ranked_next

  -- the rows are among the positions, so they can be listed
  pub rows_listed : (rows : List A.K) × (reachable same steps A.start n ≡ closed rows)
  rows_listed = at (reachable same steps A.start n) refl
    where
      at : (l : Listing A.K) → reachable same steps A.start n ≡ l → (rows : List A.K) × (reachable same steps A.start n ≡ closed rows)
      at (closed rows) e = (rows, e)
      at over e =
          let many = (over_iff same says steps A.start n).0 e in
          absurd (omega (arith, distinct_length_le many.distinct all (λ x m. (ranked (many.sound x m)).0), many.count))

  module _ (rows : List A.K) (listed : reachable same steps A.start n ≡ closed rows) where
    pub rows_ranked : (k : A.K) → k ∈ rows → Ranked k
    rows_ranked k m = ranked (((closed_lists same says steps A.start n rows listed).0.exact k).0 m)

    pub rows_le : length rows ≤ length all
    rows_le = distinct_length_le (closed_lists same says steps A.start n rows listed).0.distinct all (λ k m. (rows_ranked k m).0)

    -- the rank of the start is below their number
    pub rank_lt_rows : r < length rows
    rank_lt_rows =
        rank_lt_listed O A some_observation rows n
        (λ k q m low a.
        let (al, right) = down k q low a in
        (answer k, al, λ s b. (right s b, next_in A same says answer observations n rows listed k m (unstopped O A k q a) s b)))
        r small A.start (((closed_lists same says steps A.start n rows listed).0.exact A.start).1 reached_first) start_rank_lem

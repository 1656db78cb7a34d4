-- How many cells a plan word's expansion has. Assumes nothing.
use Prim.Native.Nat.{ℕ, zero, suc, ◌+◌, ◌-◌, ◌*◌, ◌<◌, ◌≤◌}
use native.Mathlib.Omega.{arith}
use mathlib.Core.Path.{◌≡◌, sym, ap, ◌∙◌}
use mathlib.Core.List.{List, [], ◌∷◌, ◌++◌, append-nil, append_assoc}
use lib.ListN.{length, length-append}
use Rattle.syntax.specs.declared.plans.PlanWord.{PlanWord}
use Rattle.syntax.specs.declared.plans.PlanWord.TheVariants.{Once, Before, After, Within, During}
use Rattle.syntax.specs.Kinds.{and_kind, or_kind, next_kind, weak_next_kind}
use Rattle.syntax.specs.Cells.{cell, one_sided, two_sided, prefix_cells, infix_cells}
use Rattle.syntax.specs.Plans.{chain_cells, delay_cells, once_cells, before_cells, after_cells, within_cells, during_cells}
use Rattle.syntax.specs.Plans.{plan_cells, plan_size}

pub prefix_length : (k : ℕ) (cs : List ℕ) → length (prefix_cells k cs) ≡ length cs + 1
prefix_length k cs = length-append cs (cell k one_sided ∷ [])

pub infix_length : (k : ℕ) (cs ds : List ℕ) → length (infix_cells k cs ds) ≡ length cs + length ds + 1
infix_length k cs ds =
    let e = length-append ds (cell k (two_sided (length ds)) ∷ []) in
    length-append cs _ ∙ omega (arith, e)

pub chain_length : (op step n : ℕ) (cs : List ℕ) → length (chain_cells op step n cs) ≡ (n + 1) * length cs + 2 * n
unfolding chain_cells
chain_length op step zero cs = omega arith
chain_length op step (suc n) cs =
    let e = chain_length op step n cs in
    let f = prefix_length step (chain_cells op step n cs) in
    infix_length op cs (prefix_cells step (chain_cells op step n cs)) ∙ omega (arith, e, f)

-- a chain from the one that is a step shorter
module _ (op step k : ℕ) (cs : List ℕ) where
  pub chain_none : k < 1 → chain_cells op step k cs ≡ cs
  unfolding chain_cells
  chain_none h = let e : k ≡ 0 = omega arith in rw e

  pub chain_more : 1 ≤ k → chain_cells op step k cs ≡ infix_cells op cs (prefix_cells step (chain_cells op step (k - 1) cs))
  unfolding chain_cells
  chain_more h = let e : k ≡ suc (k - 1) = omega arith in ap (λ n. chain_cells op step n cs) e

pub chain_size : (k s : ℕ) → 1 ≤ k → (k + 1) * s + 2 * k ≡ s + ((k - 1 + 1) * s + 2 * (k - 1)) + 2
chain_size zero s h = absurd (omega arith)
chain_size (suc k) s h = let e : suc k - 1 ≡ k = omega arith in rw e (omega arith)

pub delay_length : (n : ℕ) (cs : List ℕ) → length (delay_cells n cs) ≡ n + length cs
unfolding delay_cells
delay_length zero cs = omega arith
delay_length (suc n) cs = let e = delay_length n cs in prefix_length weak_next_kind (delay_cells n cs) ∙ omega (arith, e)

-- one weak next more
pub delay_more : (i j : ℕ) (cs : List ℕ) → j ≤ i → delay_cells (i + 1 - j) cs ≡ prefix_cells weak_next_kind (delay_cells (i - j) cs)
unfolding delay_cells
delay_more i j cs h = let e : i + 1 - j ≡ suc (i - j) = omega arith in ap (λ n. delay_cells n cs) e

-- the weak nexts stand behind the operand
pub delay_behind : (n : ℕ) (cs : List ℕ) → delay_cells n cs ≡ cs ++ delay_cells n []
unfolding delay_cells
delay_behind zero cs = sym (append-nil cs)
delay_behind (suc n) cs =
    ap (prefix_cells weak_next_kind) (delay_behind n cs) ∙ append_assoc cs (delay_cells n []) (cell weak_next_kind one_sided ∷ [])

pub once_length : (cs : List ℕ) → length (once_cells cs) ≡ 7 + 3 * length cs
once_length cs = simp length-append (omega arith)

pub during_length : (first last : ℕ) (cs : List ℕ)
    → length (during_cells first last cs) ≡ first - 1 + (last - first + 1) * length cs + 2 * (last - first)
during_length first last cs =
    let e = chain_length and_kind weak_next_kind (last - first) cs in
    delay_length (first - 1) (chain_cells and_kind weak_next_kind (last - first) cs) ∙ omega (arith, e)

module _ (cs ds : List ℕ) where
  pub before_length : length (before_cells cs ds) ≡ 3 + length cs + length ds
  before_length = simp length-append (omega arith)

  pub after_length : length (after_cells cs ds) ≡ 4 + length cs + length ds
  after_length = simp length-append (omega arith)

  pub within_length : (steps : ℕ) → length (within_cells steps cs ds) ≡ 3 + length cs + (steps + 1) * length ds + 2 * steps
  within_length steps = let e = chain_length or_kind next_kind steps ds in simp length-append (omega (arith, e))

pub plan_length : (w : PlanWord) (cs ds : List ℕ) → length (plan_cells w cs ds) ≡ plan_size w (length cs) (length ds)
unfolding plan_cells plan_size
plan_length Once cs ds = once_length cs
plan_length Before cs ds = before_length cs ds
plan_length After cs ds = after_length cs ds
plan_length (Within steps) cs ds = within_length cs ds steps
plan_length (During first last) cs ds = during_length first last cs

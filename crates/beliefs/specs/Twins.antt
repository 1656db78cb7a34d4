-- Pairs that lead to the same states, from every state and with every hidden value: the belief after one is the belief after the other.
-- Assumes nothing.
use Rattle.std.specs.Prelude.{ℕ, ◌+◌, ◌*◌, ◌≤◌, ◌<◌, ◌≡◌, Bool, true, List, get_or}
use Rattle.basics.specs.Bounded.{agree, first_that, all}
use Rattle.beliefs.specs.BeliefMemory.{successor_in}

-- pairs a and b lead to the same states from state s
unfoldable pub same_from : List ℕ → ℕ → ℕ → ℕ → ℕ → ℕ → Bool
same_from successors pairs hiddens a b s = agree (λ h. successor_in successors s (a + h * pairs)) (λ h. successor_in successors s (b + h * pairs)) hiddens

-- from each of n states
unfoldable pub same_pairs : List ℕ → ℕ → ℕ → ℕ → ℕ → ℕ → Bool
same_pairs successors n pairs hiddens a b = all n (same_from successors pairs hiddens a b)

-- the first pair that leads where pair a leads
unfoldable pub first_twin : List ℕ → ℕ → ℕ → ℕ → ℕ → ℕ
first_twin successors n pairs hiddens a = first_that (same_pairs successors n pairs hiddens a) a

-- for each pair itself, or an earlier one that leads to the same states
pub record Twins (successors : List ℕ) (n pairs hiddens : ℕ) (twins : List ℕ) : Type 0 where
  pub before : (q : ℕ) → q < pairs → get_or twins q 0 ≤ q
  pub same : (q : ℕ) → q < pairs → same_pairs successors n pairs hiddens q (get_or twins q 0) ≡ true

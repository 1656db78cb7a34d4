-- A cabinet that runs until it stops: from a position, stepped with one observation after another.
-- Assumes nothing.
use Rattle.std.specs.Prelude.{ℕ, zero, suc, ◌+◌, ◌^◌, ◌≤◌, ◌<◌, ◌≡◌, true, false, List, [], ◌∷◌, Ok}
use Rattle.lines.specs.Refusal.{values}
use Rattle.tables.specs.declared.shape.Shape.{Shape}
use Rattle.stepping.specs.declared.position.Position.{Position}
use Rattle.stepping.specs.Position.{step_of, is_stopped, left_of, told_answer}

-- observations, one a step, that are all possible
abbrev pub AllPossible : Shape → (ℕ → ℕ) → Type 0
AllPossible shape observation = (k : ℕ) → observation k < 2 ^ shape.observed

module _ (t : List ℕ) (shape : Shape) where
  -- the position after n steps
  abbrev pub position_after : (ℕ → ℕ) → Position → ℕ → Position
  position_after observation p zero = p
  position_after observation p (suc n) = position_after (λ k. observation (suc k)) (step_of t shape (observation 0) p).position n

  -- it is refused nothing before it stops, and stops within r steps
  pub record StopsWithin (observation : ℕ → ℕ) (p : Position) (r : ℕ) : Type 0 where
    pub steps : ℕ
    pub within : steps ≤ r
    -- before that it has not stopped, and each observation is answered with a choice, or under `Set` at last with stop
    pub goes : (k : ℕ) → k < steps
        → let q = position_after observation p k in
        (is_stopped t shape q ≡ false) × (c : ℕ) × (told_answer (step_of t shape (observation k) q).answer ≡ values (c ∷ []))
    pub stops : is_stopped t shape (position_after observation p steps) ≡ true
    -- at any time it stops within the number that is shown
    pub shown : (k : ℕ) → k ≤ steps → (left : ℕ) × (left_of t shape (position_after observation p k) ≡ Ok left) × (steps ≤ k + left)

-- What the plan words mean at step i of a trace π, for statements P and Q about steps: Gerevini, Haslum, Long, Saetti and
-- Dimopoulos, "Deterministic planning in the fifth international planning competition: PDDL3 and experimental evaluation of the
-- planners". There a constraint is about the whole trace, which is i = 0, and a state's time is the number of its step here.
-- Assumes nothing.
use Rattle.std.specs.Prelude.{ℕ, suc, ◌+◌, ◌≤◌, ◌<◌, length}
use Rattle.formula.specs.Formula.{Formula}
use Rattle.formula.specs.Semantics.{Trace, Sat}

-- a formula as a statement about steps
abbrev pub TrueAt : Trace → Formula → ℕ → Type 0
TrueAt π φ k = Sat π k φ

module _ (π : Trace) (i : ℕ) (P : ℕ → Type 0) where
  -- at-most-once: wherever P holds, it goes on to hold up to some step, and holds at none after it
  abbrev pub AtMostOnce : Type 0
  AtMostOnce =
      (j : ℕ) → i ≤ j → j < length π → P j
      → (e : ℕ) × (j ≤ e) × (e < length π) × ((k : ℕ) → j ≤ k → k ≤ e → P k) × ((k : ℕ) → e < k → k < length π → ¬ P k)

  -- hold-during: P holds at each step from the m-th to the n-th. Here the request's sentence on the window decides: both ends
  -- belong to it, steps are counted from 1 at step i, and only the steps that the trace has are asked.
  abbrev pub HoldDuring : ℕ → ℕ → Type 0
  HoldDuring m n = (d : ℕ) → m ≤ suc d → suc d ≤ n → i + d < length π → P (i + d)

  module _ (Q : ℕ → Type 0) where
    -- sometime-before: wherever P holds, Q holds at an earlier step
    abbrev pub SometimeBefore : Type 0
    SometimeBefore = (j : ℕ) → i ≤ j → j < length π → P j → (k : ℕ) × (i ≤ k) × (k < j) × Q k

    -- sometime-after: wherever P holds, Q holds then or later
    abbrev pub SometimeAfter : Type 0
    SometimeAfter = (j : ℕ) → i ≤ j → j < length π → P j → (k : ℕ) × (j ≤ k) × (k < length π) × Q k

    -- always-within: wherever P holds, Q holds then or at one of the next n steps
    abbrev pub AlwaysWithin : ℕ → Type 0
    AlwaysWithin n = (j : ℕ) → i ≤ j → j < length π → P j → (k : ℕ) × (j ≤ k) × (k ≤ j + n) × (k < length π) × Q k

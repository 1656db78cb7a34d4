-- LTLf formulas over signals that are numbered by their bit in a letter.
-- Assumes nothing.
use Rattle.std.specs.Prelude.{ℕ, ◌+◌, Bool, false, ◌||◌, eqb}

-- `X` next, `N` weak next, `F` eventually, `G` always, `U` until, `R` release
pub data Formula : Type 0 where
  signal : ℕ → Formula
  True False : Formula
  Not : Formula → Formula
  And Or Implies : Formula → Formula → Formula
  X N F G : Formula → Formula
  U R : Formula → Formula → Formula

-- how many parts a formula has: each signal, constant and operator is one
unfoldable pub size : Formula → ℕ
size (signal b) = 1
size True = 1
size False = 1
size (Not φ) = size φ + 1
size (And φ ψ) = size φ + size ψ + 1
size (Or φ ψ) = size φ + size ψ + 1
size (Implies φ ψ) = size φ + size ψ + 1
size (X φ) = size φ + 1
size (N φ) = size φ + 1
size (F φ) = size φ + 1
size (G φ) = size φ + 1
size (U φ ψ) = size φ + size ψ + 1
size (R φ ψ) = size φ + size ψ + 1

-- how many temporal operators a formula has
unfoldable pub operators : Formula → ℕ
operators (signal b) = 0
operators True = 0
operators False = 0
operators (Not φ) = operators φ
operators (And φ ψ) = operators φ + operators ψ
operators (Or φ ψ) = operators φ + operators ψ
operators (Implies φ ψ) = operators φ + operators ψ
operators (X φ) = operators φ + 1
operators (N φ) = operators φ + 1
operators (F φ) = operators φ + 1
operators (G φ) = operators φ + 1
operators (U φ ψ) = operators φ + operators ψ + 1
operators (R φ ψ) = operators φ + operators ψ + 1

-- whether a signal is written in a formula
unfoldable pub uses : Formula → ℕ → Bool
uses (signal c) b = eqb c b
uses True b = false
uses False b = false
uses (Not φ) b = uses φ b
uses (And φ ψ) b = uses φ b || uses ψ b
uses (Or φ ψ) b = uses φ b || uses ψ b
uses (Implies φ ψ) b = uses φ b || uses ψ b
uses (X φ) b = uses φ b
uses (N φ) b = uses φ b
uses (F φ) b = uses φ b
uses (G φ) b = uses φ b
uses (U φ ψ) b = uses φ b || uses ψ b
uses (R φ ψ) b = uses φ b || uses ψ b

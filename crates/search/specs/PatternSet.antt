-- Sets of obligation patterns, and how a letter moves them, for any number d of temporal operators and any map that carries a
-- pattern about the next step back to the present one. Nothing here speaks of formulas.
-- A pattern is a number of d + 1 bits: one for each operator, and on top bit d, that of the whole formula. A set of patterns is
-- a table of 2 ^ (d + 1) Booleans, whose entry p says whether p is in it: two sets are the same when their tables are.
-- Assumes nothing.
use Rattle.std.specs.Prelude.{ℕ, suc, ◌^◌, Bool, false, get_or}
use mathlib.Core.List.{List, foldl}
use Rattle.basics.specs.Bits.{bit}
use Rattle.basics.specs.Lists.{tabulate}
use Rattle.basics.specs.Member.{all_of}

abbrev pub PatternSet : Type 0
PatternSet = List Bool

unfoldable pub member : PatternSet → ℕ → Bool
member s p = get_or s p false

-- the set of the patterns that pass a test
unfoldable pub set_of : ℕ → (ℕ → Bool) → PatternSet
set_of d f = tabulate (2 ^ suc d) f

-- before any letter: every pattern with the whole formula's bit set
unfoldable pub start : ℕ → PatternSet
start d = set_of d (λ p. bit p d)

-- a set accepts if it holds the all-zero pattern: no next step
unfoldable pub accepts : PatternSet → Bool
accepts s = member s 0

module _ (d : ℕ) (back : ℕ → ℕ → ℕ) where
  -- after a letter: the patterns that the letter carries back into the set
  unfoldable pub next : PatternSet → ℕ → PatternSet
  next s a = set_of d (λ p. member s (back a p))

  -- after one of several letters, whichever it is: the patterns that each of them carries back into the set
  unfoldable pub next_all : PatternSet → List ℕ → PatternSet
  next_all s letters = set_of d (λ p. all_of (λ a. member s (back a p)) letters)

  -- after a list of letters
  unfoldable pub after : PatternSet → List ℕ → PatternSet
  after s π = foldl next s π

-- `loader::candidate::observed_in` meets its contract. The invariant: no number above k is right.
-- Assumes nothing.
use mathlib.Core.Path.{◌≡◌}
use Rattle.basics.specs.Limits.{kind_limit}
use Rattle.loader.specs.Candidate.{observed_in}
use Rattle.loader.proofs.candidate.observed_in.Given as goal

abbrev pub invariant-loop-k : goal.invariant-loop-k
invariant-loop-k l =
    observed_in l.order kind_limit l.line ≡ observed_in l.order l.k l.line

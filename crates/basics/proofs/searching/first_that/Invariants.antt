-- `basics::searching::first_that` meets its contract. The invariant: no number passed passes the test.
-- Assumes nothing.
use Rattle.std.proofs.Common.{◌≡◌, ◌<◌, ℕ, Bool}
use Rattle.basics.specs.Bounded.{first_that}
use Rattle.basics.proofs.searching.first_that.Given as goal

abbrev pub invariant-loop-i : goal.invariant-loop-i
invariant-loop-i g l =
    (p : ℕ → Bool) → ((i : ℕ) (b : Bool) → i < l.n → goal.F-post g l.test i b → b ≡ p i) → first_that p l.i ≡ l.i

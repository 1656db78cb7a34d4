-- `search::searching::run` meets its contract. The invariant: the memory holds the sets found so far, and those read have their rows.
-- Assumes nothing.
use Prim.Native.Nat.{suc, ◌+◌, ◌-◌, ◌*◌, ◌^◌}
use mathlib.Core.Path.{◌≡◌}
use lib.ListN.{length}
use Rattle.search.specs.Limits.{state_limit, letter_limit, set_size}
use Rattle.search.specs.PatternSet.{start, next}
use Rattle.search.specs.Letters.{back_by, reached}
use Rattle.search.specs.Memory.{set_bytes}
use Rattle.search.proofs.SearchTurns.{Turn}
use Rattle.search.proofs.searching.run.Given as goal

abbrev pub invariant-loop-i : goal.invariant-loop-i
invariant-loop-i l =
    (length l.mem ≡ (state_limit + 1) * set_size) × (length l.successors ≡ state_limit * letter_limit)
    × Turn set_size (2 ^ suc l.letters.operators) set_bytes (next l.letters.operators (back_by l.letters)) (start l.letters.operators) state_limit letter_limit
    (λ s. l.letters.count) (reached l.letters) l.mem l.successors l.n l.i

abbrev pub decreases-loop-i : goal.decreases-loop-i
decreases-loop-i l =
    state_limit - l.i

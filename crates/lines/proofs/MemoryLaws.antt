-- The numbers of parts stored one after another.
-- Assumes nothing.
use Prim.Native.Nat.{ℕ, ◌+◌, ◌≤◌}
use native.Mathlib.Omega.{arith}
use mathlib.Core.Path.{◌≡◌, ap, ◌∙◌}
use mathlib.Core.List.{List, ◌++◌, map-append}
use lib.ListN.{length, take, length-map}
use lib.Seq.{sets, sets-eq, take_at}
use Rattle.formula.specs.declared.parts.Part.{Part}
use Rattle.formula.specs.Codes.{code_of, codes_of}
use Rattle.lines.specs.Memory.{stored_from}
use Rattle.basics.proofs.Stores.{sets_append}

pub stored_append : (ps qs : List Part) (n : ℕ) (p : List ℕ) → stored_from (ps ++ qs) n p ≡ stored_from qs (n + length ps) (stored_from ps n p)
stored_append ps qs n p =
    ap (sets p n) (map-append code_of ps qs) ∙ sets_append p n (codes_of ps) (codes_of qs)
    ∙ ap (λ k. sets (stored_from ps n p) (n + k) (codes_of qs)) (length-map ps code_of)

-- what was stored at the front is there
pub stored_front : (ps : List Part) (m : ℕ) (p : List ℕ) → length ps ≡ m → m ≤ length p → take m (stored_from ps 0 p) ≡ codes_of ps
stored_front ps m p e h =
    let k : length (codes_of ps) ≡ m = length-map ps code_of ∙ e in
    ap (λ t. take m t) (sets-eq (codes_of ps) p 0 (omega arith)) ∙ take_at (codes_of ps) _ m k

-- Cells written one behind another. Assumes nothing.
use Prim.Native.Nat.{ℕ, ◌+◌, ◌-◌, ◌<◌}
use native.Mathlib.Omega.{arith}
use mathlib.Core.Path.{◌≡◌, sym, subst, ap₂, ◌∙◌}
use mathlib.Core.List.{List, [], ◌∷◌, ◌++◌}
use lib.ListN.{length, get_or, take, length-append}
use lib.Seq.{sets, take-suc}
use native.Mathlib.Numerals.{add-one}
use Rattle.basics.proofs.Stores.{sets_append}
use Rattle.syntax.specs.declared.writer.Writer.{Writer}
use Rattle.syntax.specs.Cells.{cell, two_sided, infix_cells}
use Rattle.syntax.specs.Writer.{Writes}

pub writes_then : {w v u : Writer} {cs ds : List ℕ} → Writes w v cs → Writes v u ds → Writes w u (cs ++ ds)
writes_then {w = w} {cs = cs} {ds = ds} a b =
    record {
      at = let l = length-append cs ds in omega (arith, a.at, b.at, l);
      cells = b.cells ∙ ap₂ (λ t k. sets t k ds) a.cells a.at ∙ sym (sets_append w.cells.now w.at cs ds);
      same = b.same ∙ a.same;
    }

pub writes_as : {w v : Writer} {cs ds : List ℕ} → ds ≡ cs → Writes w v cs → Writes w v ds
writes_as {w = w} {v = v} e a = subst (Writes w v) (sym e) a

-- one more of the cells that are copied
pub writes_more : {w v u : Writer} (cs : List ℕ) (i : ℕ) → i < length cs → Writes w v (take i cs) → Writes v u (get_or cs i 0 ∷ [])
    → Writes w u (take (i + 1) cs)
writes_more cs i h a b = writes_as (rw (add-one, take-suc cs i 0 h)) (writes_then a b)

-- an operator behind its two operands, the right one behind the left one
pub writes_infix : {w v u x : Writer} {cs ds : List ℕ} (k : ℕ) → Writes w v cs → Writes v u ds
    → Writes u x (cell k (two_sided (u.at - v.at)) ∷ []) → Writes w x (infix_cells k cs ds)
writes_infix {v = v} {u = u} {ds = ds} k a b e =
    let sized : u.at - v.at ≡ length ds = omega (arith, b.at) in
    writes_then a (writes_then b (rw (← sized) e))

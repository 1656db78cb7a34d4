-- Formulas joined by "and": their parts, as they are stored one after another, and their sizes. Assumes nothing.
use Rattle.std.specs.Prelude.{Option, Some, None}
use Prim.Native.Nat.{ℕ, zero, suc, ◌+◌, ◌-◌, ◌<◌}
use native.Mathlib.Omega.{arith}
use mathlib.Core.Path.{◌≡◌, refl, sym, ap, ◌∙◌, subst}
use mathlib.Core.List.{List, [], ◌∷◌, ◌++◌, append-nil, append_assoc, foldl, foldl-append}
use lib.ListN.{length}
use Rattle.formula.specs.declared.formula.Op.TheVariants as op
use Rattle.formula.specs.Formula.{Formula, size, operators}
use Rattle.formula.specs.Parts.{one_part, parts_from, parts_of}
use Rattle.formula.specs.declared.parts.Part.{Part}
use Rattle.rules.specs.Problem.{Line, rule, joined, with_line, joined_lines, size_in, operators_in}
use Rattle.lines.specs.Effect.{joint}
use Rattle.lines.specs.Memory.{join_part, added_parts, stored_from}
use Rattle.formula.proofs.PartsLaws.{length_parts, parts_some}
use Rattle.lines.proofs.MemoryLaws.{stored_append}

-- the parts of the formulas so far
unfoldable pub written : Option Formula → List Part
written None = []
written (Some φ) = parts_of φ

pub size_pos : (φ : Formula) → 0 < size φ
size_pos φ = subst (λ n. 0 < n) (length_parts φ) (parts_some φ)

length_written : (f : Option Formula) → length (written f) ≡ size_in f
unfolding written
length_written None = refl
length_written (Some φ) = length_parts φ

added_parts_lem : (f : Option Formula) (φ : Formula) → written (Some (joined f φ)) ≡ written f ++ added_parts φ (size_in f)
unfolding written parts_of parts_from
added_parts_lem None φ = sym (append-nil (parts_from φ 0))
added_parts_lem (Some ψ) φ = go (size ψ) refl (size_pos ψ)
  where
    go : (n : ℕ) → size ψ ≡ n → 0 < n
        → parts_from ψ 0 ++ parts_from φ (0 + size ψ) ++ one_part op.And (0 + size ψ - 1) (0 + size ψ + size φ - 1)
        ≡ parts_from ψ 0 ++ (parts_from φ n ++ join_part n (size φ))
    go zero e h = absurd (omega arith)
    go (suc n) e h =
        let a : 0 + suc n ≡ suc n = omega arith in
        let b : suc n - 1 ≡ n = omega arith in
        let c : suc n + size φ - 1 ≡ n + size φ = omega arith in
        rw (e, a, c, b) (append_assoc (parts_from ψ 0) (parts_from φ (suc n)) _)

pub stored_joined : (f : Option Formula) (φ : Formula) (p : List ℕ)
    → stored_from (added_parts φ (size_in f)) (size_in f) (stored_from (written f) 0 p) ≡ stored_from (written (Some (joined f φ))) 0 p
stored_joined f φ p =
    let e : 0 + length (written f) ≡ size_in f = omega (arith, length_written f) in
    sym (ap (λ ps. stored_from ps 0 p) (added_parts_lem f φ) ∙ stored_append (written f) (added_parts φ (size_in f)) 0 p
    ∙ ap (λ n. stored_from (added_parts φ (size_in f)) n (stored_from (written f) 0 p)) e)

pub size_joined : (f : Option Formula) (φ : Formula) → size_in f + size φ + joint (size_in f) ≡ size (joined f φ)
unfolding size
size_joined None φ = omega arith
size_joined (Some ψ) φ = go (size ψ) (size_pos ψ)
  where
    go : (n : ℕ) → 0 < n → n + size φ + joint n ≡ n + size φ + 1
    go zero h = absurd (omega arith)
    go (suc n) h = refl

pub operators_joined : (f : Option Formula) (φ : Formula) → operators_in f + operators φ ≡ operators (joined f φ)
unfolding operators
operators_joined None φ = omega arith
operators_joined (Some ψ) φ = refl

-- ---- the formula of all lines

pub joined_more : (ls : List Line) (φ : Formula) → joined_lines (ls ++ (rule φ ∷ [])) ≡ Some (joined (joined_lines ls) φ)
joined_more ls φ = foldl-append with_line None ls (rule φ ∷ [])

-- there is one where there is a line
from_some : (ψ : Formula) (ls : List Line) → (φ : Formula) × (foldl with_line (Some ψ) ls ≡ Some φ)
from_some ψ [] = (ψ, refl)
from_some ψ (rule φ ∷ ls) = from_some (joined (Some ψ) φ) ls

pub joined_some : (ls : List Line) → ¬ (ls ≡ []) → (φ : Formula) × (joined_lines ls ≡ Some φ)
joined_some [] h = absurd (h refl)
joined_some (rule φ ∷ ls) h = from_some φ ls

-- and no part where there is none
pub no_parts_lem : (ls : List Line) → size_in (joined_lines ls) ≡ 0 → ls ≡ []
no_parts_lem [] e = refl
no_parts_lem (rule φ ∷ ls) e = let (ψ, q) = from_some φ ls in absurd (omega (arith, size_pos ψ, sym (ap size_in q) ∙ e))

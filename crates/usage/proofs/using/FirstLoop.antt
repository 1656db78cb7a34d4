-- The loop of `first_unused`: the line found so far, and what is still to be looked at. Assumes nothing.
use Prim.Native.Nat.{ℕ, ◌+◌, ◌≤◌, ◌<◌}
use native.Mathlib.Omega.{arith}
use mathlib.Core.Path.{◌≡◌, refl, sym, ap, ◌∙◌}
use mathlib.Core.Bool.{Bool, true, false, cond}
use mathlib.Core.List.{List, ◌∷◌}
use Rattle.std.specs.Prelude.{Option, Some, None}
use lib.ListN.{length, drop}
use Rattle.basics.specs.Bytes.{not_line_end}
use Rattle.basics.specs.Pieces.{piece, behind}
use Rattle.grammar.specs.Names.{Name}
use Rattle.lines.specs.Lines.{lines}
use Rattle.usage.specs.Used.{Declaration}
use Rattle.usage.specs.Declarations.{unused_from, declares_unused, first_line, first_of}
use Rattle.usage.proofs.DeclarationsLaws.{onward, unused_step, unused_end}

-- the line found so far, or else that of the first of some declarations
abbrev or_line : Option ℕ → Option ℕ → Option ℕ
or_line None n = n
or_line (Some m) n = Some m

first_is : (found : Option ℕ) (line : ℕ) (counts : Bool) (d : Declaration) (ds : List Declaration) → d.line ≡ line
    → or_line found (first_line (cond counts (d ∷ ds) ds)) ≡ or_line (first_of found line counts) (first_line ds)
first_is (Some n) line counts d ds e = refl
first_is None line true d ds e = ap Some e
first_is None line false d ds e = refl

module _ (used : ℕ → Bool) (names : List Name) (source : List ℕ) where
  -- looking goes on at place `at`, in line `line`
  pub record Looking (found : Option ℕ) (at line : ℕ) : Type 0 where
    pub inside : at ≤ length source
    pub numbered : (0 < line) × (line ≤ at + 1)
    pub goes : first_line (unused_from used names 1 (lines source)) ≡ or_line found (first_line (unused_from used names line (lines (drop at source))))

  pub begin : Looking None 0 1
  begin = record { inside = omega arith; numbered = omega arith; goes = refl }

  module _ {found : Option ℕ} {at line : ℕ} (l : Looking found at line) where
    module _ (h : at < length source) (next : ℕ) (inside : next ≤ length source) (e : drop next source ≡ behind not_line_end (drop at source)) where
      pub look_on : (found' : Option ℕ) (counts : Bool) → counts ≡ declares_unused used names (piece not_line_end (drop at source))
          → found' ≡ first_of found line counts → Looking found' next (line + 1)
      look_on found' counts c f =
          record {
            inside = inside;
            numbered = omega (arith, l.numbered, onward source at h next inside e);
            goes = l.goes ∙ ap (λ ds. or_line found (first_line ds)) (unused_step used names source at next line h e)
                ∙ rw (← c, f) (first_is found line counts _ (unused_from used names (line + 1) (lines (drop next source))) refl);
          }

    pub looked : length source ≤ at → found ≡ first_line (unused_from used names 1 (lines source))
    looked h = sym (l.goes ∙ ap (λ ds. or_line found (first_line ds)) (unused_end used names source at line h) ∙ only found)
      where
        only : (n : Option ℕ) → or_line n None ≡ n
        only None = refl
        only (Some n) = refl

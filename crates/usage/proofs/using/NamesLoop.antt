-- The loop of `put_unused`: the names put so far, and those that are still to be put. Assumes nothing.
use Prim.Native.Nat.{ℕ, ◌+◌, ◌≤◌, ◌<◌}
use native.Mathlib.Omega.{arith}
use mathlib.Core.Path.{◌≡◌, refl, sym, ap, ◌∙◌}
use mathlib.Core.Bool.{Bool, true, false}
use mathlib.Core.List.{List, [], ◌∷◌, ◌++◌, flat_map, append_assoc, append-nil}
use lib.ListN.{length, drop}
use Rattle.basics.specs.Bytes.{not_line_end}
use Rattle.basics.specs.Lists.{written}
use Rattle.basics.specs.Pieces.{piece, behind, field_at}
use Rattle.basics.specs.declared.text.Writer.{Writer}
use Rattle.basics.specs.Writer.{Puts}
use Rattle.basics.proofs.WriterLaws.{puts_none, puts_then, puts_as, puts_front}
use Rattle.grammar.specs.Names.{Name}
use Rattle.lines.specs.Lines.{lines}
use Rattle.usage.specs.Used.{names_text}
use Rattle.usage.specs.Declarations.{unused_from, declares_unused}
use Rattle.usage.proofs.DeclarationsLaws.{name_room, onward, unused_here, unused_next, unused_end}

module _ (used : ℕ → Bool) (names : List Name) (source : List ℕ) where
  abbrev pub whole : List ℕ
  whole = names_text (unused_from used names 1 (lines source))

  -- the names of some lines are put, and lines looked at up to place `at`
  pub record Putting (w v : Writer) (at : ℕ) : Type 0 where
    pub line : ℕ
    pub done : List ℕ
    pub put : Puts w v done
    pub goes : whole ≡ done ++ names_text (unused_from used names line (lines (drop at source)))
    pub behind_at : v.at ≤ at
    pub inside : at ≤ length source

  pub begin : {w : Writer} → w.at ≡ 0 → Putting w w 0
  begin e = record { line = 1; done = []; put = puts_none; goes = refl; behind_at = omega (arith, e); inside = omega arith }

  module _ {w v : Writer} {at : ℕ} (p : Putting w v at) where
    module _ (h : at < length source) where
      abbrev bytes : List ℕ
      bytes = piece not_line_end (drop at source)

      abbrev name : List ℕ
      name = field_at 1 bytes ++ (10 ∷ [])

      module _ (next : ℕ) (inside : next ≤ length source) (e : drop next source ≡ behind not_line_end (drop at source)) where
        pub put_on : {u : Writer} → declares_unused used names bytes ≡ true → Puts v u name → Putting w u next
        unfolding flat_map
        put_on t q =
            record {
              line = p.line + 1;
              done = p.done ++ name;
              put = puts_then p.put q;
              goes = p.goes ∙ ap (λ ds. p.done ++ names_text ds) (unused_here used names source at next p.line h e t)
                  ∙ sym (append_assoc p.done name _);
              behind_at = omega (arith, q.at, p.behind_at, name_room source at h next inside e);
              inside = inside;
            }

        pub pass_on : declares_unused used names bytes ≡ false → Putting w v next
        pass_on f =
            record {
              line = p.line + 1;
              done = p.done;
              put = p.put;
              goes = p.goes ∙ ap (λ ds. p.done ++ names_text ds) (unused_next used names source at next p.line h e f);
              behind_at = omega (arith, p.behind_at, onward source at h next inside e);
              inside = inside;
            }

    pub all_put : w.at ≡ 0 → length source ≤ length w.text.now → length source ≤ at → (v.at ≡ length whole) × (v.text.now ≡ written whole w.text.now)
    unfolding flat_map
    all_put front room h =
        let is : whole ≡ p.done = p.goes ∙ ap (λ ds. p.done ++ names_text ds) (unused_end used names source at p.line h) ∙ append-nil p.done in
        puts_front front (omega (arith, ap length is, p.put.at, p.behind_at, p.inside, room)) (puts_as is p.put)

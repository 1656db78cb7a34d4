-- Reading a problem finds exactly what its text denotes by the written grammar; hence a text denotes at most one problem.
-- Assumes nothing.
use Rattle.basics.specs.declared.order.Order.{Order}
use Rattle.std.specs.Prelude.{Option}
use Prim.Native.Nat.{ℕ, suc}
use native.Mathlib.Omega.{arith}
use mathlib.Core.Path.{◌≡◌, refl, sym, subst, ◌∙◌}
use mathlib.Core.Logic.{◌↔◌}
use mathlib.Core.Bool.{Bool, true, false, cond}
use mathlib.Core.List.{List, [], ◌∷◌}
use borrow.Author.Tests.{le-ltb, ltb-false}
use lib.Dec.{ltb}
use lib.ListN.{length}
use Rattle.lines.specs.declared.refusal.Refusal.{Refusal}
use Rattle.lines.specs.declared.refusal.Refusal.TheVariants.{LongSource}
use Rattle.rules.specs.Limits.{source_limit}
use Rattle.lines.specs.Lines.{SourceLine, ended, unended, lines}
use Rattle.lines.specs.StepOrder.{order_or}
use Rattle.rules.specs.Problem.{Line, Draft, Problem, Outcome, accepted, refused, finish, after, effect_after}
use Rattle.rules.specs.Problem.{with_declared, with_formula, with_order, read_lines, blank, read_problem}
use Rattle.lines.specs.Effect.{Signals, Effect, declares, states, orders, refuses}
use Rattle.rules.specs.Denotes.{Reads, Make, done, next, Denotes}
use Rattle.rules.proofs.LineMeaning.{Sound, sound_blank, sound_after, Said, said, read_after}

pub not_accepted : {C : Type 0} (r : Refusal) (p : Problem) → refused r ≡ accepted p → C
not_accepted r p e = let z : ◌≡◌ {A = ℕ} 0 1 = cc in absurd (omega arith)

same_problem : (p q : Problem) → accepted p ≡ accepted q → p ≡ q
same_problem p q e = cc

no_lines : {C : Type 0} {l : Line} {ls : List Line} → l ∷ ls ≡ [] → C
no_lines e = let z : ◌≡◌ {A = ℕ} 0 1 = cc in absurd (omega arith)

pub finish_some : (g : Signals) (o : Option Order) (ls : List Line) → ¬ (ls ≡ [])
    → finish g o ls ≡ accepted (record { signals = g; order = order_or o; lines = ls })
finish_some g o [] h = absurd (h refl)
finish_some g o (l ∷ ls) h = refl

make_read : {d : Draft} {ls : List SourceLine} {p : Problem} → Sound d.signals → Make d ls p → (line : ℕ) → read_lines line ls d ≡ accepted p
unfolding read_lines
make_read s (done {d = d} some) line = finish_some d.signals d.order d.lines some
make_read s (next {d = d} {ls = ls} d' r m) line = read_after d s line (read_lines (suc line) ls) r ∙ make_read (sound_after s r) m (suc line)

-- a line with an effect is read
after_read : (line : ℕ) (l : List ℕ) (d : Draft) (p : Problem) (f : Draft → Outcome) (s : Sound d.signals) (e : Effect) → Said d s line l e
    → after e d f ≡ accepted p
    → (d' : Draft) × Reads d l d' × (f d' ≡ accepted p)
after_read line l d p f s (declares k name) i h = (with_declared k name d, i, h)
after_read line l d p f s (states φ) i h = (with_formula φ d, i, h)
after_read line l d p f s (orders o) i h = (with_order o d, i, h)
after_read line l d p f s (refuses r) i h = not_accepted r p h

finish_make : (d : Draft) (p : Problem) (ls : List Line) → d.lines ≡ ls → finish d.signals d.order ls ≡ accepted p → Make d [] p
finish_make d p [] e h = not_accepted _ p h
finish_make d p (l ∷ ls) e h =
    let is : accepted (record { signals = d.signals; order = order_or d.order; lines = d.lines }) ≡ accepted p = rw e h in
    subst (Make d []) (same_problem _ p is) (done (λ z. no_lines (sym e ∙ z)))

read_make : (ls : List SourceLine) (line : ℕ) (d : Draft) (p : Problem) → Sound d.signals → read_lines line ls d ≡ accepted p → Make d ls p
unfolding read_lines
read_make [] line d p s h = finish_make d p d.lines refl h
read_make (unended l ∷ ls) line d p s h = not_accepted _ p h
read_make (ended l ∷ ls) line d p s h =
    let r = after_read line l d p (read_lines (suc line) ls) s (effect_after line l d) (said d s line l) h in
    next r.0 r.1 (read_make ls (suc line) r.0 p (sound_after s r.1) r.2)

module _ (source : List ℕ) (p : Problem) where
  pub denotes_read : Denotes source p → read_problem source ≡ accepted p
  unfolding read_problem
  denotes_read d = rw (le-ltb _ _ d.short) (make_read sound_blank d.make 1)

  pub read_denotes : read_problem source ≡ accepted p → Denotes source p
  unfolding read_problem
  read_denotes e = go (ltb source_limit (length source)) refl e
    where
      go : (b : Bool) → ltb source_limit (length source) ≡ b → cond b (refused LongSource) (read_lines 1 (lines source) blank) ≡ accepted p → Denotes source p
      go true q h = not_accepted _ p h
      go false q h = record { short = ltb-false _ _ q; make = read_make (lines source) 1 blank p sound_blank h }

  -- a problem is read exactly where the text denotes it
  pub read_iff_denotes : (read_problem source ≡ accepted p) ↔ Denotes source p
  read_iff_denotes = (read_denotes, denotes_read)

-- a text denotes one problem
pub one_problem : (source : List ℕ) (p q : Problem) → Denotes source p → Denotes source q → p ≡ q
one_problem source p q d e = same_problem p q (sym (denotes_read source p d) ∙ denotes_read source q e)

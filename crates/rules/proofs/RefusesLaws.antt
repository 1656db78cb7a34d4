-- Reading refuses a text exactly with the number and the place that are due; hence a text denotes one problem or has one refusal.
-- Assumes nothing.
use Prim.Native.Nat.{ℕ, suc, ◌≤◌}
use native.Mathlib.Omega.{arith}
use mathlib.Core.Path.{◌≡◌, refl, sym, ap, subst, ◌∙◌}
use mathlib.Core.Logic.{◌↔◌, ◌⊎◌, inl, inr}
use mathlib.Core.Bool.{Bool, true, false, cond}
use mathlib.Core.List.{List, [], ◌∷◌}
use borrow.Author.Tests.{lt-ltb, le-ltb, ltb-true, ltb-false}
use lib.Dec.{ltb}
use lib.ListN.{length}
use Rattle.lines.specs.declared.refusal.Refusal.{Refusal}
use Rattle.lines.specs.declared.refusal.Refusal.TheVariants.{LongSource, BadLine, NoFormula}
use Rattle.lines.specs.Refusal.{number_of, place_of}
use Rattle.lines.specs.Lines.{SourceLine, ended, unended, lines}
use Rattle.lines.specs.Effect.{Effect, declares, states, orders, refuses}
use Rattle.lines.proofs.RefusalLaws.{same_told}
use Rattle.rules.specs.Limits.{source_limit}
use Rattle.rules.specs.Problem.{Line, Draft, Problem, Outcome, accepted, refused, finish, after, effect_after}
use Rattle.rules.specs.Problem.{with_declared, with_formula, with_order, read_lines, blank, read_problem}
use Rattle.rules.specs.Denotes.{Denotes}
use Rattle.rules.specs.Refuses.{LineRefused, bad_line, name_twice, too_many_signals, bad_formula, unknown_name, too_many_parts}
use Rattle.rules.specs.Refuses.{RefusedFrom, not_ended, here, later, no_formula, Refuses, long_source, in_lines}
use Rattle.rules.proofs.LineMeaning.{Sound, sound_blank, sound_after, Said, said, read_after, due}
use Rattle.rules.proofs.DenotesLaws.{not_accepted, denotes_read, read_denotes}

same_refused : (r q : Refusal) → refused r ≡ refused q → r ≡ q
same_refused r q e = cc

-- ---- what is refused is due

DueFrom : ℕ → Draft → List SourceLine → Refusal → Type 0
DueFrom line d ls r = RefusedFrom line d ls (number_of r) (place_of r)

after_told : (line : ℕ) (l : List ℕ) (ls : List SourceLine) (d : Draft) (r : Refusal) (s : Sound d.signals) (e : Effect) → Said d s line l e
    → ((d' : Draft) → Sound d'.signals → read_lines (suc line) ls d' ≡ refused r → DueFrom (suc line) d' ls r) → after e d (read_lines (suc line) ls) ≡ refused r
    → DueFrom line d (ended l ∷ ls) r
unfolding DueFrom
after_told line l ls d r s (declares k name) i ih h = later (with_declared k name d) i (ih _ (sound_after s i) h)
after_told line l ls d r s (states φ) i ih h = later (with_formula φ d) i (ih _ (sound_after s i) h)
after_told line l ls d r s (orders o) i ih h = later (with_order o d) i (ih _ (sound_after s i) h)
after_told line l ls d r s (refuses q) i ih h =
    subst (DueFrom line d (ended l ∷ ls)) (same_refused q r h)
    (subst (RefusedFrom line d (ended l ∷ ls) (number_of q)) (sym i.1) (here i.0))

finish_told : (line : ℕ) (d : Draft) (r : Refusal) (ls : List Line) → d.lines ≡ ls → finish d.signals d.order ls ≡ refused r
    → DueFrom line d [] r
unfolding DueFrom
finish_told line d r [] e h = subst (DueFrom line d []) (same_refused NoFormula r h) (no_formula e)
finish_told line d r (l ∷ ls) e h = not_accepted r _ (sym h)

lines_told : (ls : List SourceLine) (line : ℕ) (d : Draft) (r : Refusal) → Sound d.signals → read_lines line ls d ≡ refused r → DueFrom line d ls r
unfolding read_lines DueFrom
lines_told [] line d r s h = finish_told line d r d.lines refl h
lines_told (unended l ∷ ls) line d r s h = subst (DueFrom line d (unended l ∷ ls)) (same_refused (BadLine line) r h) not_ended
lines_told (ended l ∷ ls) line d r s h =
    after_told line l ls d r s (effect_after line l d) (said d s line l) (λ d'. lines_told ls (suc line) d' r) h

-- ---- what is due is refused

-- a refusal with this number and this place
abbrev IsRefused : Outcome → ℕ → ℕ → Type 0
IsRefused o number place = (r : Refusal) × (o ≡ refused r) × (number_of r ≡ number) × (place_of r ≡ place)

from_refused : {line : ℕ} {d : Draft} {ls : List SourceLine} {number place : ℕ} → Sound d.signals
    → RefusedFrom line d ls number place → IsRefused (read_lines line ls d) number place
unfolding read_lines
from_refused s (not_ended {at = line}) = (BadLine line, refl, refl, refl)
from_refused s (here {at = line} {d = d} {ls = ls} l) =
    let r = due d s line l in (r.0, ap (λ e. after e d (read_lines (suc line) ls)) r.1, r.2, r.3)
from_refused s (later {at = line} {d = d} {ls = ls} d' l f) =
    let r = from_refused (sound_after s l) f in (r.0, read_after d s line (read_lines (suc line) ls) l ∙ r.1, r.2, r.3)
from_refused s (no_formula {d = d} e) = (NoFormula, ap (finish d.signals d.order) e, refl, refl)

-- ---- a whole text

module _ (source : List ℕ) where
  refused_told : (r : Refusal) → read_problem source ≡ refused r → Refuses source (number_of r) (place_of r)
  unfolding read_problem DueFrom
  refused_told r e = go (ltb source_limit (length source)) refl e
    where
      go : (b : Bool) → ltb source_limit (length source) ≡ b → cond b (refused LongSource) (read_lines 1 (lines source) blank) ≡ refused r
          → Refuses source (number_of r) (place_of r)
      go true q h = subst (λ x. Refuses source (number_of x) (place_of x)) (same_refused LongSource r h) (long_source (ltb-true _ _ q))
      go false q h = in_lines (ltb-false _ _ q) (lines_told (lines source) 1 blank r sound_blank h)

  pub told_refused : {number place : ℕ} → Refuses source number place → IsRefused (read_problem source) number place
  unfolding read_problem
  told_refused (long_source h) = (LongSource, rw (lt-ltb _ _ h), refl, refl)
  told_refused (in_lines h f) = let r = from_refused sound_blank f in (r.0, rw (le-ltb _ _ h) r.1, r.2, r.3)

  -- reading refuses exactly what is to be refused
  pub refused_iff : (r : Refusal) → (read_problem source ≡ refused r) ↔ Refuses source (number_of r) (place_of r)
  refused_iff r =
      (refused_told r, λ f. let q = told_refused f in q.1 ∙ ap refused (same_told q.0 r q.2 q.3))

  -- a text denotes a problem or is refused
  pub denotes_or_refuses : ((p : Problem) × Denotes source p) ⊎ ((number place : ℕ) × Refuses source number place)
  denotes_or_refuses = go (read_problem source) refl
    where
      go : (o : Outcome) → read_problem source ≡ o → ((p : Problem) × Denotes source p) ⊎ ((number place : ℕ) × Refuses source number place)
      go (accepted p) e = inl (p, read_denotes source p e)
      go (refused r) e = inr (number_of r, place_of r, refused_told r e)

  -- and not both
  pub not_both : (p : Problem) (number place : ℕ) → Denotes source p → ¬ Refuses source number place
  not_both p number place d f = let q = told_refused f in not_accepted q.0 p (sym q.1 ∙ denotes_read source p d)

  -- with one number and one place
  pub one_refusal : (n m number place : ℕ) → Refuses source n m → Refuses source number place → (n ≡ number) × (m ≡ place)
  one_refusal n m number place f g =
      let q = told_refused f in
      let r = told_refused g in
      let e = same_refused q.0 r.0 (sym q.1 ∙ r.1) in
      (sym q.2 ∙ ap number_of e ∙ r.2, sym q.3 ∙ ap place_of e ∙ r.3)

-- ---- the numbers are 1 to 8

line_number : {d : Draft} {line : List ℕ} {number : ℕ} → LineRefused d line number → number ≤ 8
line_number (bad_line f g h) = omega arith
line_number (name_twice k name named twice) = omega arith
line_number (too_many_signals k name named new full) = omega arith
line_number (bad_formula text is underived) = omega arith
line_number (unknown_name text a is derives unknown) = omega arith
line_number (too_many_parts text a is derives known large) = omega arith

from_number : {at : ℕ} {d : Draft} {ls : List SourceLine} {number place : ℕ} → RefusedFrom at d ls number place → number ≤ 8
from_number not_ended = omega arith
from_number (here l) = line_number l
from_number (later d r f) = from_number f
from_number (no_formula e) = omega arith

pub refuses_number : {source : List ℕ} {number place : ℕ} → Refuses source number place → number ≤ 8
refuses_number (long_source h) = omega arith
refuses_number (in_lines h f) = from_number f

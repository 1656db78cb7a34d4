-- The lines of a text, found one after another, and the fields of a line. Assumes nothing.
use Prim.Native.Nat.{ℕ, zero, suc, ◌+◌, ◌-◌, ◌≤◌, ◌<◌}
use native.Mathlib.Nat.{le_of_suc-le-suc}
use native.Mathlib.Omega.{arith}
use mathlib.Core.Path.{◌≡◌, refl, ap, ◌∙◌}
use mathlib.Core.Logic.{inl, inr}
use mathlib.Core.Bool.{Bool, true, false, not}
use mathlib.Core.List.{List, [], ◌∷◌}
use borrow.Author.Tests.{leb-true, eqb-true}
use lib.Dec.{eqb, leb}
use lib.ListN.{length, take, drop, length-drop, drop_of_length-le}
use lib.Seq.{drop-drop}
use Rattle.basics.specs.Bytes.{lower, word_byte, not_tab, not_line_end, run, past, between}
use Rattle.basics.specs.Pieces.{Unparted}
use Rattle.basics.proofs.Booleans.{test, clash, and_left, and_right, or_intro_left}
use Rattle.lines.specs.Limits.{name_limit}
use Rattle.lines.specs.Lines.{ended, unended, line_start, lines, is_name}

-- the first line of a text that has byte 10, with r bytes before it
split_ended : (s : List ℕ) (r : ℕ) → r ≡ run not_line_end s → r < length s → lines s ≡ ended (take r s) ∷ lines (drop (suc r) s)
unfolding lines run
split_ended [] r e h = absurd (omega arith)
split_ended (b ∷ s) r e h = go (eqb b 10) r e h (λ q. split_ended s q)
  where
    go : (t : Bool) (r : ℕ) → r ≡ elim (not t) [ true ↦ suc (run not_line_end s) | false ↦ zero ] → r < suc (length s)
        → ((q : ℕ) → q ≡ run not_line_end s → q < length s → lines s ≡ ended (take q s) ∷ lines (drop (suc q) s))
        → line_start t b (lines s) ≡ ended (take r (b ∷ s)) ∷ lines (drop (suc r) (b ∷ s))
    go true r e h ih = rw e
    go false zero e h ih = absurd (omega arith)
    go false (suc r) e h ih = rw (ih r (omega arith) (le_of_suc-le-suc h))

-- a text without byte 10
split_unended : (s : List ℕ) → 0 < length s → length s ≡ run not_line_end s → lines s ≡ unended s ∷ []
unfolding lines run
split_unended [] h e = absurd (omega arith)
split_unended (b ∷ s) h e = go (eqb b 10) s e (split_unended s)
  where
    go : (t : Bool) (s : List ℕ) → suc (length s) ≡ elim (not t) [ true ↦ suc (run not_line_end s) | false ↦ zero ]
        → (0 < length s → length s ≡ run not_line_end s → lines s ≡ unended s ∷ []) → line_start t b (lines s) ≡ unended (b ∷ s) ∷ []
    go true s e ih = absurd (omega arith)
    go false [] e ih = refl
    go false (c ∷ s) e ih = rw (ih (omega arith) (omega arith))

pub lines_none : (source : List ℕ) (at : ℕ) → length source ≤ at → lines (drop at source) ≡ []
unfolding lines
lines_none source at h = rw (drop_of_length-le source {i = at} h)

module _ (source : List ℕ) (at end : ℕ) (e : end ≡ past not_line_end source at) where
  run_is : end - at ≡ run not_line_end (drop at source)
  unfolding past
  run_is = omega arith

  pub lines_ended : at ≤ length source → end < length source → lines (drop at source) ≡ ended (between source at end) ∷ lines (drop (end + 1) source)
  unfolding past
  lines_ended h l =
      let n : at + suc (end - at) ≡ end + 1 = omega arith in
      split_ended (drop at source) (end - at) run_is (omega (arith, length-drop at source))
      ∙ rw (drop-drop (suc (end - at)) at source, n)

  pub lines_unended : at < length source → end ≡ length source → lines (drop at source) ≡ unended (drop at source) ∷ []
  lines_unended h q =
      split_unended (drop at source) (omega (arith, length-drop at source)) (omega (arith, length-drop at source, run_is))

-- a name has no tab
word_tabless : (b : ℕ) → word_byte b ≡ true → not_tab b ≡ true
unfolding word_byte lower
word_tabless b w = elim (test (eqb b 9)) [ inl e ↦ clash w (ap word_byte (eqb-true b 9 e)) | inr e ↦ rw e refl ]

words_tabless : (s : List ℕ) → run word_byte s ≡ length s → Unparted not_tab s
unfolding run
words_tabless [] e = tt
words_tabless (b ∷ s) e = go (word_byte b) refl e (words_tabless s)
  where
    go : (t : Bool) → word_byte b ≡ t → elim t [ true ↦ suc (run word_byte s) | false ↦ zero ] ≡ suc (length s)
        → (run word_byte s ≡ length s → Unparted not_tab s) → Unparted not_tab (b ∷ s)
    go true w e ih = (word_tabless b w, ih (omega arith))
    go false w e ih = absurd (omega arith)

pub name_tabless : (name : List ℕ) → is_name name ≡ true → Unparted not_tab name
unfolding is_name word_byte
name_tabless [] e = tt
name_tabless (b ∷ s) e =
    let l = and_left (lower b) _ e in
    (word_tabless b (or_intro_left _ l), words_tabless s (eqb-true _ _ (and_left (eqb (run word_byte s) (length s)) _ (and_right (lower b) _ e))))

-- a name is short
pub name_short : (name : List ℕ) → is_name name ≡ true → length name ≤ name_limit
unfolding is_name
name_short [] e = omega arith
name_short (b ∷ s) e =
    leb-true (length (b ∷ s)) name_limit
    (and_left (leb (length (b ∷ s)) name_limit) _ (and_right (eqb (run word_byte s) (length s)) _ (and_right (lower b) _ e)))

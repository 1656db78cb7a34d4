-- Whether bytes are a formula's text, test by test.
-- Assumes nothing.
use Prim.Native.Nat.{ℕ, ◌≤◌, ◌<◌}
use native.Mathlib.Nat.{zero-add}
use native.Mathlib.Omega.{arith}
use mathlib.Core.Path.{◌≡◌, refl}
use mathlib.Core.Bool.{Bool, true, false, ◌&&◌}
use mathlib.Core.List.{List}
use borrow.Author.Tests.{le-ltb, lt-ltb, le-leb, lt-leb, leb-true}
use lib.Dec.{eqb, leb, ltb}
use lib.ListN.{length}
use Rattle.basics.specs.Bytes.{not_tab, past}
use Rattle.grammar.proofs.ParseCases.{false_true}
use Rattle.grammar.specs.Limits.{text_limit}
use Rattle.lines.specs.Lines.{tab_place, is_text}

module _ (s : List ℕ) where
  pub text_none : length s ≡ 0 → false ≡ is_text s
  unfolding is_text
  text_none e = rw (le-ltb 0 (length s) (omega arith))

  module _ (h : length s ≡ 0 → ⊥) where
    pub text_long : text_limit < length s → false ≡ is_text s
    unfolding is_text
    text_long l = rw (lt-ltb 0 (length s) (omega arith), lt-leb (length s) text_limit l)

    pub text_tab : length s ≤ text_limit → (i : ℕ) → i ≡ past not_tab s 0 → eqb i (length s) ≡ is_text s
    unfolding is_text tab_place past
    text_tab l i e = rw (lt-ltb 0 (length s) (omega arith), le-leb (length s) text_limit l, e, zero-add)

-- a text is short
middle : (a b c : Bool) → (a && (b && c)) ≡ true → b ≡ true
middle true true c e = refl
middle true false c e = e
middle false b c e = false_true e

pub text_short : (s : List ℕ) → is_text s ≡ true → length s ≤ text_limit
unfolding is_text
text_short s e = leb-true (length s) text_limit (middle (ltb 0 (length s)) (leb (length s) text_limit) (eqb (tab_place s) (length s)) e)

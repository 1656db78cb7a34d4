-- What the functions that read a phrase answer.
-- Assumes nothing.
use Rattle.std.specs.Prelude.{◌≡◌, ℕ, ◌+◌, ◌*◌, ◌≤◌, List, length, replicate, Option, Some, None}
use Rattle.std.proofs.lemmas.List.Edits.{sets}
use Rattle.syntax.specs.declared.lex.Token.{Token}
use Rattle.syntax.specs.Tree.{size, cells}
use Rattle.grammar.specs.declared.phrase.Phrase.{Phrase}
use Rattle.grammar.specs.Limits.{text_limit}
use Rattle.grammar.specs.Parse.{Res, none, some}

-- the place behind the phrase and the count of parts after it
abbrev pub answer : Res → ℕ → Option Phrase
answer none n = None
answer (some a next) n = Some (record { next = next; count = n + size a })

-- the cells after a phrase was read; where there is none, what is written is left open, and callers do not use it
abbrev pub Left : (Token → ℕ) → Res → ℕ → List ℕ → List ℕ → Type 0
Left val none n p q = Unit {0}
Left val (some a next) n p q = q ≡ sets p n (cells val a)

pub record Reads (val : Token → ℕ) (res : Res) (n : ℕ) (p q : List ℕ) (r : Option Phrase) : Type 0 where
  pub is : r ≡ answer res n
  pub left : Left val res n p q

-- reading starts within a text that is not too long, and at most eight cells are written for each byte read
pub record Room (text : List ℕ) (at n : ℕ) : Type 0 where
  pub short : length text ≤ text_limit
  pub inside : at ≤ length text
  pub behind : n ≤ 8 * at

-- the cells after a whole formula text was read: those of its parts, as far as there is room, and the rest as they were; where the text is
-- no formula, all are 0
abbrev pub cells_after : (Token → ℕ) → Res → List ℕ → List ℕ
cells_after val none p = replicate (length p) 0
cells_after val (some a next) p = sets p 0 (cells val a)

-- The pieces of a text that single bytes part: lines by byte 10, the fields of a line by tabs. A test tells the bytes of a piece from those
-- that part.
-- Assumes nothing.
use Rattle.std.specs.Prelude.{ℕ, zero, suc, ◌+◌, ◌≡◌, Bool, true, List, [], ◌∷◌, take, drop}
use Rattle.basics.specs.Bytes.{run, not_tab, not_line_end}

module _ (p : ℕ → Bool) where
  -- the first piece
  unfoldable pub piece : List ℕ → List ℕ
  piece s = take (run p s) s

  -- what stands behind it and the byte that ends it
  unfoldable pub behind : List ℕ → List ℕ
  behind s = drop (run p s + 1) s

  -- what stands behind k pieces
  abbrev pub behind_all : ℕ → List ℕ → List ℕ
  behind_all zero s = s
  behind_all (suc k) s = behind_all k (behind s)

  -- bytes that nothing parts
  abbrev pub Unparted : List ℕ → Type 0
  Unparted [] = Unit {0}
  Unparted (b ∷ s) = (p b ≡ true) × Unparted s

-- field k of a line, line k of a text, from 0; empty where there is none
abbrev pub field_at : ℕ → List ℕ → List ℕ
field_at k s = piece not_tab (behind_all not_tab k s)

abbrev pub line_at : ℕ → List ℕ → List ℕ
line_at k s = piece not_line_end (behind_all not_line_end k s)

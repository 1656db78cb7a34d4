-- The least memory for a table's text (REFERENCE.md, Limits).
-- Assumes nothing.
use Rattle.std.specs.Prelude.{ℕ}

-- bytes that a text must have room for
abbrev pub text_size : ℕ
text_size = 32768

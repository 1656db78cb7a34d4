-- The limits of one line of a problem (REFERENCE.md, Limits); that of a formula's text stands in `grammar`.
-- Assumes nothing.
use Rattle.std.specs.Prelude.{ℕ}

-- bytes of a name
abbrev pub name_limit : ℕ
name_limit = 12

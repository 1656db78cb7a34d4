-- The limit of a problem's formula (REFERENCE.md, Limits).
-- Assumes nothing.
use Rattle.std.specs.Prelude.{ℕ}

-- parts
abbrev pub part_limit : ℕ
part_limit = 96

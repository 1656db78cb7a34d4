-- The limits of a problem's text, of a trace and of lent memory (REFERENCE.md, Limits).
-- Assumes nothing.
use Rattle.std.specs.Prelude.{ℕ}

-- bytes of a problem's text
abbrev pub source_limit : ℕ
source_limit = 4096

-- steps of a trace
abbrev pub trace_limit : ℕ
trace_limit = 1000

-- bytes of work memory
abbrev pub work_size : ℕ
work_size = 65536

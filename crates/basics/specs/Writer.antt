-- Bytes put one behind another.
-- Assumes nothing.
use Rattle.std.specs.Prelude.{◌≡◌, ℕ, ◌+◌, List, length}
use Rattle.std.proofs.lemmas.List.Edits.{sets}
use Rattle.basics.specs.declared.text.Writer.{Writer}

-- from w to v the bytes are put, into the same text
pub record Puts (w v : Writer) (bytes : List ℕ) : Type 0 where
  pub at : v.at ≡ w.at + length bytes
  pub text : v.text.now ≡ sets w.text.now w.at bytes
  pub same : v.text.ghost_name ≡ w.text.ghost_name
  pub long : length v.text.now ≡ length w.text.now

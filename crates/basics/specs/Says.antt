-- A Boolean against the statement that it stands for.
-- Assumes nothing.
use Rattle.std.specs.Prelude.{◌≡◌, ◌↔◌, Bool, true}

abbrev pub Says : Bool → Type 0 → Type 0
Says b P = (b ≡ true) ↔ P

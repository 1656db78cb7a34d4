-- `basics::bits::from_bits` meets its contract. The invariant: x has the bits from j on.
-- Assumes nothing.
use Rattle.std.proofs.Common.{◌≡◌, ◌<◌, ◌-◌, ◌^◌, ℕ, Bool}
use Rattle.basics.proofs.BitsLaws.{table_from}
use Rattle.basics.proofs.bits.from_bits.Given as goal

abbrev pub invariant-loop-j : goal.invariant-loop-j
invariant-loop-j g l = record {
  small : l.x < 2 ^ (l.n - l.j);
  bits : (f : ℕ → Bool) → ((j : ℕ) (b : Bool) → j < l.n → goal.F-post g l.bit j b → b ≡ f j) → l.x ≡ table_from f l.j (l.n - l.j);
}

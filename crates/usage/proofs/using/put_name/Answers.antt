-- `usage::using::put_name` meets its contract: two parts, one behind the other.
-- Assumes nothing.
use native.Mathlib.Omega.{arith}
use mathlib.Core.Path.{subst}
use mathlib.Core.List.{[], ◌∷◌}
use lib.ListN.{length-append}
use Rattle.basics.specs.Pieces.{field_at}
use Rattle.basics.specs.Writer.{Puts}
use Rattle.basics.proofs.WriterLaws.{puts_then}
use Rattle.usage.proofs.using.put_name.Goals as goal

pub bytes-requires : goal.bytes-requires
bytes-requires c =
    let l = length-append (field_at 1 c.args.line.now) (10 ∷ []) in
    rw c.field.ensures (omega (arith, l, c.requires))

pub byte-requires : goal.byte-requires
byte-requires c =
    let l = length-append (field_at 1 c.args.line.now) (10 ∷ []) in
    let name = subst (λ b. Puts c.args.out.now c.bytes.new.self b) c.field.ensures c.bytes.ensures in
    omega (arith, l, name.at, name.long, c.requires)

pub returns : goal.returns
returns c =
    puts_then (subst (λ b. Puts c.args.out.now c.bytes.new.self b) c.field.ensures c.bytes.ensures) c.byte.ensures

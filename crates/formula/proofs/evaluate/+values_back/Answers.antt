use Prim.Native.Nat.{◌+◌, ◌-◌}
use native.Mathlib.Omega.{arith}
use mathlib.Core.Path.{◌≡◌}
use Rattle.formula.specs.Codes.{parts_in}
use Rattle.formula.proofs.evaluate.EntryLoop.{values_none, values_more}
use Rattle.formula.proofs.evaluate.+values_back.Goals as goal

pub returns-then-n-eq0 : goal.returns-then-n-eq0
returns-then-n-eq0 t c =
    values_none (parts_in c.args.parts.now) c.args.entries.now c.args.letter c.args.n c.if-n-eq0.true

pub values_back-requires : goal.values_back-requires
values_back-requires t c =
    (omega arith, (omega arith, c.requires.parts_in_bounds))

pub returns : goal.returns
returns t c =
    let one : c.args.n ≡ c.args.n - 1 + 1 = omega arith in
    values_more (parts_in c.args.parts.now) c.args.entries.now c.args.letter c.args.n (c.args.n - 1) one (omega arith) _
    c.values_back.ensures _ c.part_at-kind.ensures
    _ _ _ _ _ _ c.bit_of.ensures c.owed_in-o.ensures c.value_in.ensures
    c.value_in-2.ensures (c.combined-v.ensures 0 (omega arith)) c.entry_of.ensures

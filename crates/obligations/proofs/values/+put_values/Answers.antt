use Prim.Native.Nat.{◌-◌, ◌<◌}
use native.Mathlib.Omega.{arith}
use lib.ListN.{length}
use Rattle.obligations.proofs.StoredParts.{number_there, number_at, number_small}
use Rattle.obligations.proofs.ValuesLaws.{values_none, values_more}
use Rattle.obligations.proofs.values.+put_values.Goals as goal

pub returns-then-n-eq0 : goal.returns-then-n-eq0
returns-then-n-eq0 t c =
    values_none _ c.args.letters.now c.args.w c.args.v.now c.args.n c.if-n-eq0.true

pub put_values-requires : goal.put_values-requires
put_values-requires t c =
    (omega arith, (c.requires.stored, (c.requires.numbers_value, (c.requires.letters_len, (omega arith, c.requires.v_len)))))

pub bounds-numbers-i : goal.bounds-numbers-i
bounds-numbers-i t c =
    number_there c.args.parts.now c.requires.stored c.args.numbers.now c.requires.numbers_value _ (omega arith)

pub obligation_lanes-o-requires : goal.obligation_lanes-o-requires
obligation_lanes-o-requires t c =
    number_small c.args.parts.now c.requires.stored c.args.numbers.now c.requires.numbers_value (c.args.n - 1) (omega arith)

pub returns : goal.returns
returns t c =
    let i = c.args.n - 1 in
    let inside : i < length c.args.parts.now = omega (arith, c.if-n-eq0.false) in
    values_more _ c.args.letters.now c.args.w c.args.v.now c.args.n c.if-n-eq0.false _ _ _ _ _
    c.part_at.ensures c.obligation_lanes-o.ensures
    (number_at c.args.parts.now c.requires.stored c.args.numbers.now c.requires.numbers_value i inside)
    c.put_values.ensures c.put_part.ensures

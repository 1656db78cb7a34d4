use Prim.Native.Nat.{◌<◌}
use native.Mathlib.Omega.{arith}
use mathlib.Core.Path.{◌≡◌}
use lib.ListN.{length}
use Rattle.obligations.proofs.NumberedParts.{numbered_none, numbered_miss, numbered_room, numbered_hit, numbers_all, spots_all}
use Rattle.obligations.proofs.numbering.number_parts.Goals as goal
use Rattle.obligations.proofs.numbering.number_parts.Goals.{else-is_temporal_at, then-is_temporal_at}

pub loop-i-init : goal.loop-i-init
loop-i-init c =
    (omega arith, numbered_none _ _ _)

pub bounds-spots-k : goal.bounds-spots-k
bounds-spots-k c =
    let h : c.loop-i.i < length c.args.parts.now = omega arith in
    let more : c.loop-i.k < length c.args.spots.now = numbered_room _ c.args.numbers.now _ c.loop-i.invariant.1 c.requires.parts_in_bounds h c.requires.parts_in_bounds_2 c.is_temporal_at.result c.is_temporal_at.ensures c.if-is_temporal_at.true in
    omega arith

pub loop-i-preserved : goal.loop-i-preserved
loop-i-preserved c =
    let h : c.loop-i.i < length c.args.parts.now = omega arith in
    elim c.if-is_temporal_at.branch [
      | then-is_temporal_at w ↦ rw (w.spots-is, w.k-is) (
        omega arith,
        numbered_hit _ _ _ c.loop-i.invariant.1 c.requires.parts_in_bounds h c.requires.parts_in_bounds_2 c.is_temporal_at.result c.is_temporal_at.ensures w.if-is_temporal_at.true,
      )
      | else-is_temporal_at w ↦ rw (w.spots-is, w.k-is) (
        omega arith,
        numbered_miss _ _ _ c.loop-i.invariant.1 c.requires.parts_in_bounds h c.is_temporal_at.result c.is_temporal_at.ensures w.if-is_temporal_at.false,
      )
    ]

pub returns : goal.returns
returns c =
    let e : c.loop-i.i ≡ length c.args.parts.now = omega arith in
    record { numbers_after = numbers_all _ _ _ c.loop-i.invariant.1 e; spots_after = spots_all _ _ _ c.loop-i.invariant.1 e }

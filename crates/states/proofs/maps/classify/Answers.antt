use Prim.Native.Nat.{◌+◌, ◌*◌, ◌≤◌}
use native.Mathlib.Omega.{arith}
use mathlib.Core.Path.{refl, ap, ◌∙◌}
use lib.ListN.{length}
use Rattle.search.specs.Limits.{map_size}
use Rattle.states.specs.Planes.{first_of, maps_to}
use Rattle.basics.proofs.Filling.{table_more}
use Rattle.states.proofs.maps.MapLoops.{length_maps, maps_first, maps_other, first_small}
use Rattle.states.proofs.maps.classify.Goals as goal
use Rattle.states.proofs.maps.classify.Goals.{else-b-a, then-b-a}

pub loop-a-init : goal.loop-a-init
unfolding maps_to
loop-a-init c = record { maps_are = refl; firsts_are = refl }

pub overflow_cast-firsts : goal.overflow_cast-firsts
overflow_cast-firsts c = record { fits = first_small c.args.words.now c.loop-a.a _ c.first_same-b.ensures (omega arith) }

pub loop-a-preserved : goal.loop-a-preserved
loop-a-preserved c =
    let room : c.loop-a.a * map_size + map_size ≤ length c.loop-a.maps
    = omega (arith, c.told-maps, ap length c.loop-a.invariant.maps_are, length_maps c.args.words.now c.args.m c.requires.m_le_plane_count c.args.maps.now c.loop-a.a) in
    let firsts = table_more c.loop-a.a (first_of c.args.words.now) c.args.firsts.now c.loop-a.firsts c.first_same-b.result (omega arith) c.loop-a.invariant.firsts_are c.first_same-b.ensures in
    elim c.if-b-a.branch [
      | then-b-a t ↦ record {
        maps_are = t.maps-is ∙ maps_first c.args.words.now c.args.m c.loop-a.a c.args.maps.now c.first_same-b.result c.first_same-b.ensures c.loop-a.maps c.loop-a.invariant.maps_are t.if-b-a.true c.requires.m_le_plane_count room _ t.put_map.ensures;
        firsts_are = firsts;
      }
      | else-b-a t ↦ record {
        maps_are = t.maps-is ∙ maps_other c.args.words.now c.args.m c.loop-a.a c.args.maps.now c.first_same-b.result c.first_same-b.ensures c.loop-a.maps c.loop-a.invariant.maps_are t.if-b-a.false;
        firsts_are = firsts;
      }
    ]

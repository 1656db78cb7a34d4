-- `states::automaton::prepare` meets its contract, by those of the functions that it calls.
-- Assumes nothing.
use Prim.Native.Nat.{ℕ, ◌*◌, ◌≤◌}
use native.Mathlib.Omega.{arith}
use mathlib.Core.Path.{sym, ◌∙◌, subst}
use lib.ListN.{length-replicate}
use Rattle.search.specs.Limits.{letter_limit}
use Rattle.rules.specs.Trace.{counts_of}
use Rattle.obligations.specs.Letters.{letters_of}
use Rattle.states.specs.Limits.{plane_size, plane_count}
use Rattle.obligations.proofs.StoredParts.{operators_few}
use Rattle.states.proofs.LimitsLaws.{planes_few}
use Rattle.states.proofs.automaton.Prepared.{prepared_all, count_letters}
use Rattle.states.proofs.ExploredStates.{letters_few}
use Rattle.states.proofs.automaton.prepare.Goals as goal

pub list_letters-n-requires-clause-hidden_in_bounds : goal.list_letters-n-requires-clause-hidden_in_bounds
list_letters-n-requires-clause-hidden_in_bounds c = letters_few _ c.requires.sized.signals_few

pub put_planes-requires-clause-block_size_bound : goal.put_planes-requires-clause-block_size_bound
put_planes-requires-clause-block_size_bound c =
    omega (arith, c.list_letters-n.ensures.value, letters_few (counts_of c.args.sizes) c.requires.sized.signals_few)

pub put_planes-requires-clause-m_le_plane_count : goal.put_planes-requires-clause-m_le_plane_count
put_planes-requires-clause-m_le_plane_count c =
    subst (λ x. x ≤ plane_count) (sym c.planes_of-m.ensures) (planes_few _ (operators_few _ c.requires.stored _ c.requires.sized.operators_are))

pub classify-requires-clause-n_le_letter_limit : goal.classify-requires-clause-n_le_letter_limit
classify-requires-clause-n_le_letter_limit c =
    subst (λ x. x ≤ letter_limit) (sym c.list_letters-n.ensures.value) (letters_few (counts_of c.args.sizes) c.requires.sized.signals_few)

pub classify-requires-clause-m_le_plane_count : goal.classify-requires-clause-m_le_plane_count
classify-requires-clause-m_le_plane_count c =
    subst (λ x. x ≤ plane_count) (sym c.planes_of-m.ensures) (planes_few _ (operators_few _ c.requires.stored _ c.requires.sized.operators_are))

pub returns : goal.returns
returns c =
    let signals = counts_of c.args.sizes in
    record {
      value = c.list_letters-n.ensures.value;
      maps_of = prepared_all c.args.parts.now c.requires.stored (letters_of signals) _ c.list_letters-n.new.letters c.list_letters-n.ensures.letters_after
          c.args.sizes.operators c.planes_of-m.result c.list_letters-n.result _ c.requires.sized.operators_are c.planes_of-m.ensures (c.list_letters-n.ensures.value ∙ count_letters signals) (omega arith)
          (omega (arith, c.list_letters-n.ensures.value, letters_few (counts_of c.args.sizes) c.requires.sized.signals_few)) _ _ (length-replicate {A = ℕ} (plane_count * plane_size) 0) c.put_planes.ensures
          c.args.maps.now c.classify.new.maps c.classify.new.firsts _ c.told-maps c.classify.ensures.maps_after c.classify.ensures.firsts_after;
    }

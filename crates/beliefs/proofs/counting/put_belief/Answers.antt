-- `beliefs::counting::put_belief` meets its contract, by those of `after_members` and `find_hinted`.
-- Assumes nothing.
use Prim.Native.Nat.{◌+◌, ◌*◌, ◌≤◌}
use native.Mathlib.Omega.{arith}
use mathlib.Core.Path.{sym, ap, ◌∙◌, subst}
use lib.ListN.{length}
use Rattle.basics.specs.Bounded.{first_that}
use Rattle.search.specs.Slots.{same_slot}
use Rattle.search.proofs.SlotsLaws.{item_back}
use Rattle.beliefs.specs.BeliefMemory.{belief_size, Apart}
use Rattle.beliefs.proofs.ApartPlaces.{apart_written}
use Rattle.beliefs.proofs.counting.put_belief.Goals as goal

pub find_hinted-requires-clause-apart : goal.find_hinted-requires-clause-apart
find_hinted-requires-clause-apart c =
    let room : c.args.m * belief_size + belief_size ≤ length c.args.mem.now = omega arith in
    let w = item_back belief_size c.args.mem.now _ _ c.args.m (c.copy_from_slice.ensures.after ∙ c.after_members.ensures) in
    subst (λ v. Apart v c.args.m) (sym w) (apart_written c.args.mem.now c.args.m _ room c.requires.apart)

pub returns : goal.returns
returns c =
    let w = item_back belief_size c.args.mem.now _ _ c.args.m (c.copy_from_slice.ensures.after ∙ c.after_members.ensures) in
    record { value = c.find_hinted.ensures ∙ ap (λ l. first_that (same_slot belief_size l c.args.m) c.args.m) w; mem_after = w }

-- `states::automaton::explore` meets its contract, by those of `prepare` and `search`.
-- Assumes nothing.
use Prim.Native.Nat.{◌≤◌}
use mathlib.Core.Path.{sym, ◌∙◌, subst}
use Rattle.formula.specs.Codes.{parts_in}
use Rattle.rules.specs.Trace.{counts_of}
use Rattle.search.specs.Limits.{letter_limit}
use Rattle.obligations.specs.Letters.{letters_of}
use Rattle.obligations.proofs.StoredParts.{operators_few}
use Rattle.states.proofs.automaton.Prepared.{count_letters}
use Rattle.states.proofs.ExploredStates.{explored, letters_few}
use Rattle.states.proofs.automaton.explore.Goals as goal

pub invariant_of-letters : goal.invariant_of-letters
invariant_of-letters c =
    record {
      operators_few = operators_few _ c.requires.stored _ c.requires.sized.operators_are;
      maps_len = c.prepare-count.array_long;
      firsts_len = c.prepare-count.array_long2;
      count_few = subst (λ x. x ≤ letter_limit) (sym c.prepare-count.ensures.value) (letters_few (counts_of c.args.sizes) c.requires.sized.signals_few);
      kept = c.prepare-count.ensures.maps_of.maps_kept;
    }

pub returns : goal.returns
returns c =
    let parts = parts_in c.args.parts.now in
    let signals = counts_of c.args.sizes in
    let whole = explored parts (letters_of signals) c.args.sizes.operators c.prepare-count.result c.prepare-count.new.maps c.prepare-count.new.firsts c.requires.sized.operators_are
    (c.prepare-count.ensures.value ∙ count_letters signals) c.prepare-count.ensures.maps_of
    c.search.result _ _ c.search.new.mem c.search.new.successors c.search.ensures.value c.search.ensures.mem_after c.search.ensures.successors_after in
    record { value = whole.0; mem_after = whole.1.0; successors_after = whole.1.1 }

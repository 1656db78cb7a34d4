-- Some small state spaces, by computation. Assumes nothing.
use mathlib.Core.Path.{◌≡◌, refl}
use mathlib.Core.List.{[], ◌∷◌, map}
use Rattle.formula.specs.Formula.{signal, True, False, X, F, U, size}
use Rattle.formula.specs.Parts.{parts_from, parts_of, part_at, bottom_up, result_at}
use Rattle.formula.specs.Values.{value_with}
use Rattle.basics.specs.Bits.{from_bits}
use Rattle.search.specs.PatternSet.{member, set_of, start, next}
use Rattle.obligations.specs.Obligation.{operators_of, number_of, spots_to, spots, value_at, owed_at, back}
use Rattle.basics.specs.Reach.{is_in, add_new, add_all, explore, reachable}
use Rattle.search.specs.ReachableSets.{same_set, next_sets, reachable_sets}
use Rattle.obligations.specs.Letters.{letters_of}
use Rattle.search.specs.Limits.{state_limit}
use Rattle.states.specs.States.{states_of}
use Rattle.examples.specs.Count.{count}

-- over two output signals
pub small_state_spaces : map (λ φ. count (states_of (parts_of φ) (letters_of (record { outputs = 2; observed = 0; hidden = 0 })) state_limit))
    (True ∷ False ∷ X True ∷ F (signal 0) ∷ U (signal 0) (signal 1) ∷ [])
    ≡ 2 ∷ 2 ∷ 3 ∷ 3 ∷ 4 ∷ []
unfolding size parts_from parts_of part_at bottom_up result_at from_bits member set_of start next operators_of
    number_of spots_to spots value_with value_at owed_at back is_in add_new add_all explore reachable same_set next_sets reachable_sets letters_of states_of
small_state_spaces = refl

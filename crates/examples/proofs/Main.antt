-- The worked examples (REFERENCE.md, Examples and Plan words), with counts of beliefs, and counts of states. Assumes nothing.
use mathlib.Core.Path.{◌≡◌}
use mathlib.Core.List.{[], ◌∷◌, map}
use Rattle.formula.specs.Formula.{signal, True, False, X, F, U}
use Rattle.formula.specs.Parts.{parts_of}
use Rattle.obligations.specs.Letters.{letters_of}
use Rattle.search.specs.Limits.{state_limit}
use Rattle.states.specs.States.{states_of}
use Rattle.examples.specs.Examples.{answer, expected, examples}
use Rattle.examples.specs.Count.{count}
use Rattle.examples.proofs.Computed.{computed}
use Rattle.examples.proofs.SmallStateSpaces

-- A to K and plan words, each from a problem's bytes to what is answered: one table
pub examples_right : map answer examples ≡ map expected examples
examples_right = computed

-- how many states some small formulas have, over two output signals
pub small_state_spaces : map (λ φ. count (states_of (parts_of φ) (letters_of (record { outputs = 2; observed = 0; hidden = 0 })) state_limit))
    (True ∷ False ∷ X True ∷ F (signal 0) ∷ U (signal 0) (signal 1) ∷ [])
    ≡ 2 ∷ 2 ∷ 3 ∷ 3 ∷ 4 ∷ []
small_state_spaces = SmallStateSpaces.small_state_spaces

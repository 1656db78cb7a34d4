-- From the states that were explored to the answer for a problem.
-- Assumes nothing.
use Rattle.lines.specs.declared.refusal.Refusal.{Refusal}
use Rattle.tables.specs.declared.shape.Table.{Table}
use Rattle.std.specs.Prelude.{Err, None, Result, Some}
use Prim.Native.Nat.{ℕ, ◌+◌, ◌*◌, ◌%◌, ◌^◌, ◌≤◌, ◌<◌}
use native.Mathlib.Nat.{mul-le-mul, pow-le-pow_right}
use native.Mathlib.Omega.{arith}
use mathlib.Core.Path.{◌≡◌, sym, ap, ap₂, ◌∙◌, subst}
use mathlib.Core.List.{List}
use lib.Dec.{lit<}
use lib.Pow.{pow_pos, pow-add}
use lib.ListN.{length}
use Rattle.basics.specs.declared.order.Order.{Order}
use Rattle.lines.specs.declared.problem.Sizes.{Sizes}
use Rattle.lines.specs.Memory.{order_in}
use Rattle.lines.specs.declared.refusal.Refusal.TheVariants as refusal
use Rattle.formula.specs.declared.parts.Part.{Part}
use Rattle.formula.specs.Codes.{parts_in}
use Rattle.rules.specs.Trace.{counts_of}
use Rattle.formula.specs.Letter.{Counts, letter_from}
use Rattle.search.specs.Limits.{state_limit, letter_limit}
use Rattle.play.specs.Limits.{side_limit, pair_limit}
use Rattle.obligations.specs.Letters.{letters_of}
use Rattle.basics.specs.Lists.{padded, written}
use Rattle.states.specs.Planes.{Sized}
use Rattle.search.specs.Memory.{sets_of, successors_of}
use Rattle.obligations.specs.Obligation.{operators_of, back}
use Rattle.search.specs.PatternSet.{PatternSet, start, next}
use Rattle.basics.specs.Reach.{Listing, closed}
use Rattle.search.specs.Slots.{explored_of}
use Rattle.search.specs.ReachableSets.{same_set}
use Rattle.states.specs.States.{states_of}
use Rattle.basics.specs.Successors.{steps_over}
use Rattle.search.proofs.ReachableSetsLaws.{same_set_says, sets_reachable}
use Rattle.states.proofs.ExploredStates.{letters_few}
use Rattle.basics.proofs.BitsLaws.{shl_one}
use Rattle.states.proofs.StatesLaws.{states_closed}
use Rattle.game.specs.Solution.{automaton_of, solution_from, parts_solution}
use Rattle.game.specs.SolvedAs.{solved_of, cells_of}
use Rattle.beliefs.specs.BeliefMemory.{Successors}
use Rattle.game.specs.StateMemory.{memory_solution}
use Rattle.game.proofs.LetterNumbers.{letter_count_lem}
use Rattle.basics.proofs.ReachLaws.{closed_begins}
use Rattle.game.proofs.SameBeliefs.{memory_same}
use Rattle.beliefs.proofs.ListedBeliefs.{counted_some, counted_over}
use Rattle.game.proofs.solving.FromBeliefs.{Answered, shifted_choices, shifted_observations, choices_are, observations_are}
use Rattle.game.proofs.ExploredAutomaton.{explored_successors, explored_tables}

module _ (codes : List ℕ) (s : Sizes) where
  abbrev ps : List Part
  ps = parts_in codes

  abbrev c : Counts
  c = counts_of s

  abbrev l : Listing PatternSet
  l = states_of ps (letters_of c) state_limit

  pub solved_many : None ≡ explored_of l → (table : List ℕ)
      → Answered (order_in s) s.observed (parts_solution (order_in s) ps c) (Err refusal.TooManyStates) table table
  solved_many e table =
      let same = ap (solution_from (order_in s) ps c) (sym (counted_over l e)) in
      (ap (solved_of (order_in s) s.observed) same, ap (λ x. written (cells_of x) table) same)

  -- how many pairs and hidden values there are, as the code shifts them
  abbrev pairs : ℕ
  pairs = shifted_choices s * shifted_observations s

  abbrev hiddens : ℕ
  hiddens = 1 * 2 ^ s.hidden % 18446744073709551616

  module _ (sized : Sized codes s) where
    sides_are : pairs ≡ 2 ^ s.outputs * 2 ^ s.observed
    sides_are = ap₂ (λ x y. x * y) (choices_are s sized.outputs_few sized.observed_few) (observations_are s sized.outputs_few sized.observed_few)

    pub pairs_are : pairs ≡ 2 ^ (s.outputs + s.observed)
    pairs_are = sides_are ∙ sym (pow-add 2 s.outputs s.observed)

    hiddens_are : hiddens ≡ 2 ^ s.hidden
    hiddens_are = shl_one s.hidden (omega (arith, sized.hidden_few))

    pub pairs_few : pairs ≤ pair_limit
    pairs_few =
        let choices_few : 2 ^ s.outputs ≤ side_limit = pow-le-pow_right (lit< tt) sized.outputs_few in
        let observations_few : 2 ^ s.observed ≤ side_limit = pow-le-pow_right (lit< tt) sized.observed_few in
        rw sides_are (mul-le-mul choices_few observations_few)

    pub letters_fit : hiddens * pairs ≤ letter_limit
    letters_fit = rw (sides_are, hiddens_are) (subst (λ m. m ≤ letter_limit) (letter_count_lem c) (letters_few c sized.signals_few))

  module _ (sized : Sized codes s) (a b : ℕ) (sets successors : List ℕ) (sets_are : sets ≡ padded a (sets_of l))
      (successors_are : successors ≡ padded b (successors_of s.operators (back ps) (letters_of c) l)) (n : ℕ) (got : Some n ≡ explored_of l) where
    abbrev found : (xs : List PatternSet) × (l ≡ closed xs) × (length xs ≡ n)
    found = counted_some l n got

    abbrev xs : List PatternSet
    xs = found.0

    successors_of_lem : successors ≡ padded b (successors_of (operators_of ps) (back ps) (letters_of c) l)
    successors_of_lem = successors_are ∙ ap (λ d. padded b (successors_of d (back ps) (letters_of c) l)) sized.operators_are

    pub states_successors : Successors successors n pairs hiddens
    states_successors =
        rw (sides_are sized, hiddens_are sized, sym found.2)
        (explored_successors ps c sized.signals_few xs found.1 b successors successors_of_lem)

    pub states_few : n ≤ state_limit
    states_few = subst (λ m. m ≤ state_limit) found.2 (states_closed ps (letters_of c) state_limit xs found.1).1

    pub states_some : 0 < n
    unfolding states_of
    states_some =
        let (ys, e) = closed_begins same_set same_set_says (steps_over (next (operators_of ps) (back ps)) (letters_of c)) (start (operators_of ps)) state_limit xs
        (sym (sets_reachable (operators_of ps) (back ps) (letters_of c) state_limit) ∙ found.1)
        in
        omega (arith, sym found.2 ∙ ap length e)

    -- what is answered from memory is what is answered from the parts
    states_solution : (o : Order) → memory_solution o sets successors n (2 ^ s.outputs) (2 ^ s.observed) hiddens ≡ parts_solution o ps c
    states_solution o =
        ap (λ m. memory_solution o sets successors m (2 ^ s.outputs) (2 ^ s.observed) hiddens) (sym found.2)
        ∙ ap (memory_solution o sets successors (length xs) (2 ^ s.outputs) (2 ^ s.observed)) (hiddens_are sized)
        ∙ memory_same (automaton_of ps xs) (2 ^ s.outputs) (2 ^ s.observed) (2 ^ s.hidden) letter_from sets successors
        (explored_tables ps c sized.signals_few xs found.1 a sets sets_are b successors successors_of_lem) o (pow_pos s.outputs) (pow_pos s.observed)
        ∙ ap (solution_from o ps c) (sym found.1)

    pub solved_some : (r : Result Table Refusal) (table table' : List ℕ)
        → Answered (order_in s) s.observed (memory_solution (order_in s) sets successors n (2 ^ s.outputs) (2 ^ s.observed) hiddens) r table table'
        → Answered (order_in s) s.observed (parts_solution (order_in s) ps c) r table table'
    solved_some r table table' = subst (λ x. Answered (order_in s) s.observed x r table table') (states_solution (order_in s))

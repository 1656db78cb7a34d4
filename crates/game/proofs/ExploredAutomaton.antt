-- What the exploration of the states leaves in memory is the automaton by number.
-- Assumes nothing.
use Prim.Native.Nat.{ℕ, ◌+◌, ◌*◌, ◌^◌, ◌≤◌, ◌<◌}
use native.Mathlib.Nat.{zero-mod, add_comm}
use native.Mathlib.Omega.{arith}
use mathlib.Core.Path.{◌≡◌, refl, sym, ap, ap₂, ◌∙◌, subst, subst₂}
use mathlib.Core.List.{List, [], flat_map}
use lib.Arith.{digits_lt}
use lib.ListN.{length, get_or, get_or-append}
use Rattle.basics.specs.Bits.{bit}
use Rattle.formula.specs.declared.parts.Part.{Part}
use Rattle.formula.specs.Letter.{Counts, letter_from}
use Rattle.basics.proofs.ListsLaws.{length_tabulate, get_d_tabulate}
use Rattle.basics.specs.Limits.{signal_limit}
use Rattle.search.specs.Limits.{state_limit, letter_limit, set_size}
use Rattle.obligations.specs.Letters.{letter_count, letter_of, letters_of}
use Rattle.basics.specs.Member.{◌∈◌}
use Rattle.basics.specs.Lists.{padded}
use Rattle.search.specs.PatternSet.{PatternSet, member, next, accepts}
use Rattle.obligations.specs.Obligation.{operators_of, back}
use Rattle.basics.specs.Reach.{closed, index_in}
use Rattle.search.specs.ReachableSets.{same_set}
use Rattle.states.specs.States.{next_state, states_of}
use Rattle.search.specs.Memory.{packed, sets_of, successors_of}
use Rattle.states.proofs.ExploredStates.{letters_few}
use Rattle.basics.proofs.EqualRows.{length_rows, get_d_rows}
use Rattle.basics.proofs.MemberLaws.{in_tabulate, get_d_in}
use Rattle.search.proofs.PackedSets.{packed_length, bit_packed}
use Rattle.states.proofs.NumberedSuccessors.{successor_right}
use Rattle.game.specs.Solution.{automaton_of}
use Rattle.game.specs.StateMemory.{letter_number}
use Rattle.beliefs.specs.BeliefMemory.{successor_in, Successors}
use Rattle.beliefs.proofs.NumberedRows.{rows_entry}
use Rattle.game.proofs.LetterNumbers.{pair_lt, letter_count_lem, letter_at}
use Rattle.game.proofs.SameBeliefs.{Tables}

module _ (ps : List Part) (c : Counts) (few : c.outputs + c.observed + c.hidden ≤ signal_limit) (xs : List PatternSet)
    (listed : states_of ps (letters_of c) state_limit ≡ closed xs) where
  abbrev choices : ℕ
  choices = 2 ^ c.outputs

  abbrev observations : ℕ
  observations = 2 ^ c.observed

  abbrev hiddens : ℕ
  hiddens = 2 ^ c.hidden

  letters_length : length (letters_of c) ≡ letter_count c
  unfolding letters_of
  letters_length = length_tabulate (letter_count c) (letter_of c)

  letter_is : (a : ℕ) → a < letter_count c → get_or (letters_of c) a 0 ≡ letter_of c a
  unfolding letters_of
  letter_is a h = get_d_tabulate (letter_count c) (letter_of c) a 0 h

  letter_in : (a : ℕ) → a < letter_count c → letter_of c a ∈ letters_of c
  unfolding letters_of
  letter_in a h = (in_tabulate (letter_count c) (letter_of c) (letter_of c a)).1 (a, h, refl)

  module _ (n : ℕ) (successors : List ℕ) (left : successors ≡ padded n
      (successors_of (operators_of ps) (back ps) (letters_of c) (states_of ps (letters_of c) state_limit))) where
    -- letter number a leads from state s to the state with the number in the table
    entry_is : (s a : ℕ) → s < length xs → a < letter_count c → successor_in successors s a ≡ index_in same_set (next_state ps (get_or xs s []) (letter_of c a)) xs
    unfolding next_state
    entry_is s a h l =
        ap (λ t. get_or t (s * letter_limit + a) 0) (left ∙ ap (λ r. padded n (successors_of (operators_of ps) (back ps) (letters_of c) r)) listed)
        ∙ rows_entry same_set (next (operators_of ps) (back ps)) (λ x. letters_of c) letter_limit
        (λ x. subst (λ k. k ≤ letter_limit) (sym letters_length) (letters_few c few))
        xs [] n s a h (subst (λ k. a < k) (sym letters_length) l)
        ∙ ap (λ v. index_in same_set (next (operators_of ps) (back ps) (get_or xs s []) v) xs) (letter_is a l)

    pub explored_successors : Successors successors (length xs) (choices * observations) hiddens
    explored_successors =
        record {
          inside = λ s a h l.
              let k : a < letter_count c = subst (λ m. a < m) (sym (letter_count_lem c)) l in
              subst (λ m. m < length xs) (sym (entry_is s a h k))
              (successor_right ps (letters_of c) state_limit xs listed (get_or xs s []) (get_d_in xs s [] h) (letter_of c a) (letter_in a k)).0;
        }

    explored_follows : (i k s h : ℕ) → i < length xs → k < choices → s < observations → h < hiddens
        → successor_in successors i (letter_number choices observations k s h) ≡ (automaton_of ps xs).next i (letter_from k s h)
    explored_follows i k s h ib kb sb hb =
        let pair = pair_lt choices observations k s kb sb in
        let few_letters : letter_number choices observations k s h < letter_count c =
        subst₂ (λ m t. m < t) (add_comm (h * (choices * observations)) (s * choices + k)) (sym (letter_count_lem c)) (digits_lt hb pair)
        in
        entry_is i (letter_number choices observations k s h) ib few_letters
        ∙ ap (λ v. index_in same_set (next_state ps (get_or xs i []) v) xs) (letter_at c k s h kb sb)

  -- a state accepts where the lowest bit of its bytes is set
  explored_accepts : (n : ℕ) (sets : List ℕ) → sets ≡ padded n (sets_of (states_of ps (letters_of c) state_limit)) → (s : ℕ) → s < length xs
      → bit (get_or sets (s * set_size) 0) 0 ≡ accepts (get_or xs s [])
  unfolding accepts
  explored_accepts n sets left s h =
      let z : s * set_size ≡ s * set_size + 0 = omega arith in
      let l : s * set_size + 0 < length xs * set_size = omega arith in
      ap (λ y. bit y 0)
      (ap₂ (λ t i. get_or t i 0) (left ∙ ap (λ r. padded n (sets_of r)) listed) z
      ∙ get_or-append (flat_map (packed set_size) xs) _ 0 (s * set_size + 0)
      (subst (λ m. s * set_size + 0 < m) (sym (length_rows set_size (packed set_size) (packed_length set_size) xs)) l)
      ∙ get_d_rows set_size (packed set_size) (packed_length set_size) xs [] s 0 h (omega arith))
      ∙ bit_packed set_size (get_or xs s []) 0 (omega arith) ∙ ap (member (get_or xs s [])) (zero-mod (length (get_or xs s [])))

  -- all that is left in memory
  pub explored_tables : (n : ℕ) (sets : List ℕ) → sets ≡ padded n (sets_of (states_of ps (letters_of c) state_limit))
      → (m : ℕ) (successors : List ℕ)
      → successors ≡ padded m (successors_of (operators_of ps) (back ps) (letters_of c) (states_of ps (letters_of c) state_limit))
      → Tables (automaton_of ps xs) choices observations hiddens letter_from sets successors
  explored_tables n sets sets_are m successors successors_are =
      record { first = refl; follows = explored_follows m successors successors_are; accepting = explored_accepts n sets sets_are }

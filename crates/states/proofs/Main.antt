-- The theorems of this crate. Assumes nothing.
use Prim.Native.Nat.{ℕ, suc, ◌+◌, ◌*◌, ◌^◌, ◌≤◌, ◌<◌}
use mathlib.Core.Path.{◌≡◌}
use mathlib.Core.Logic.{◌↔◌, ◌⊎◌}
use mathlib.Core.Bool.{true, false}
use mathlib.Core.List.{List, [], ◌∷◌, foldr}
use lib.ListN.{length, get_or}
use Rattle.formula.specs.Formula.{Formula}
use Rattle.basics.specs.Limits.{kind_limit, operator_limit}
use Rattle.formula.specs.declared.parts.Part.{Part}
use Rattle.formula.specs.Parts.{last_of, parts_of}
use Rattle.formula.specs.Semantics.{Trace, Sat}
use Rattle.formula.specs.Values.{value_on}
use Rattle.formula.specs.Letter.{Counts, IsLetter}
use Rattle.rules.specs.Problem.{Problem, problem_parts}
use Rattle.rules.specs.Satisfies.{Satisfies}
use Rattle.basics.specs.Member.{◌∈◌, Distinct}
use Rattle.search.specs.Limits.{set_size}
use Rattle.search.specs.PatternSet.{PatternSet, member, accepts, next_all}
use Rattle.search.specs.Maps.{map_at}
use Rattle.search.specs.Memory.{set_in, with_next}
use Rattle.obligations.specs.Obligation.{operators_of, value_at, back}
use Rattle.basics.specs.Reach.{closed, over, index_in}
use Rattle.search.specs.ReachableSets.{same_set}
use Rattle.obligations.specs.Letters.{letters_of}
use Rattle.states.specs.States.{start_state, next_state, state_after, states_of, IsState}
use Rattle.states.specs.Planes.{MapsOf}
use Rattle.states.proofs.Acceptance
use Rattle.states.proofs.StatesLaws
use Rattle.states.proofs.NumberedSuccessors
use Rattle.states.proofs.ExploredStates
use Rattle.search.proofs.PatternSetLaws
use Rattle.search.proofs.NextInPlace
use Rattle.obligations.proofs.LettersLaws

-- the states accept exactly the traces that satisfy the formula
pub acceptance : (φ : Formula) (π : Trace) → 0 < length π → (accepts (state_after (parts_of φ) π) ≡ true) ↔ Sat π 0 φ
acceptance = Acceptance.accepts_iff_Sat

-- and a problem's states exactly the traces that satisfy the problem
pub acceptance_of_problem : (p : Problem) (π : Trace) → 0 < length π → (accepts (state_after (problem_parts p) π) ≡ true) ↔ Satisfies π p
acceptance_of_problem = Acceptance.accepts_iff_satisfies

-- they accept exactly the traces on which the last part is true, for any parts
pub acceptance_of_parts : (ps : List Part) (a : ℕ) (π : Trace) → accepts (state_after ps (a ∷ π)) ≡ value_on ps (a ∷ π) (last_of ps)
acceptance_of_parts = Acceptance.accepts_value

-- the start does not accept
pub start_rejects : (ps : List Part) → accepts (start_state ps) ≡ false
start_rejects = Acceptance.start_state_rejects

-- a pattern is in the state exactly if, carried back over the letters, it makes the formula true at the first of them
pub meaning : (ps : List Part) (a : ℕ) (π : Trace) (p : ℕ) → p < 2 ^ suc (operators_of ps)
    → member (state_after ps (a ∷ π)) p ≡ value_at ps a (foldr (back ps) p π) (last_of ps)
meaning = Acceptance.member-state_after

-- the listed states are all that letters reach, each once, within the limit
pub listed : (ps : List Part) (letters : List ℕ) (limit : ℕ) (xs : List PatternSet) → states_of ps letters limit ≡ closed xs
    → Distinct xs × (length xs ≤ limit) × ((s : PatternSet) → (s ∈ xs) ↔ IsState ps letters s)
listed = StatesLaws.states_closed

-- none are listed exactly where there are more than the limit
pub too_many : (ps : List Part) (letters : List ℕ) (limit : ℕ) → (states_of ps letters limit ≡ over)
    ↔ ((xs : List PatternSet) × (length xs ≡ suc limit) × Distinct xs × ((s : PatternSet) → s ∈ xs → IsState ps letters s))
too_many = StatesLaws.states_over

-- a letter leads from a listed state to the one whose number the row gives
pub successor : (ps : List Part) (letters : List ℕ) (limit : ℕ) (xs : List PatternSet) → states_of ps letters limit ≡ closed xs
    → (s : PatternSet) → s ∈ xs → (a : ℕ) → a ∈ letters
    → (index_in same_set (next_state ps s a) xs < length xs) × (get_or xs (index_in same_set (next_state ps s a) xs) [] ≡ next_state ps s a)
successor = NumberedSuccessors.successor_right

-- ---- where a next state is made: `with_next` is the front of the work memory that the customer lends, once the set that some letters
-- lead to from set i is written in place m. `put_set`, in the crate `search`, leaves it so, and is given one letter

module _ (d : ℕ) (carry : ℕ → ℕ → ℕ) (mem : List ℕ) (i : ℕ) (letters : List ℕ) (m : ℕ) (room : m * set_size + set_size ≤ length mem) where
  -- the place holds that set ..
  pub next_in_place : d ≤ operator_limit → set_in d (with_next d carry mem i letters m) m ≡ next_all d carry (set_in d mem i) letters
  next_in_place = NextInPlace.next_in_place d carry mem i letters m room

  -- .. and every other byte stays
  pub others_stay : (length (with_next d carry mem i letters m) ≡ length mem)
      × ((k : ℕ) → (k < m * set_size) ⊎ (m * set_size + set_size ≤ k) → get_or (with_next d carry mem i letters m) k 0 ≡ get_or mem k 0)
  others_stay = NextInPlace.others_stay d carry mem i letters m room

-- a pattern is in the set exactly if each of the letters carries it back into the present one
pub next_of_all : (d : ℕ) (carry : ℕ → ℕ → ℕ) (s : PatternSet) (letters : List ℕ) (p : ℕ) → p < 2 ^ suc d
    → (member (next_all d carry s letters) p ≡ true) ↔ ((a : ℕ) → a ∈ letters → member s (carry a p) ≡ true)
next_of_all = PatternSetLaws.member-next_all

-- by the map that is kept for letter a it is the next state
pub next_of_map : (ps : List Part) (letters : List ℕ) (d n : ℕ) (maps firsts : List ℕ) → d ≡ operators_of ps → n ≡ length letters
    → MapsOf ps letters d n maps firsts → (s : PatternSet) (a : ℕ) → a < n → get_or firsts a 0 ≡ a
    → next_all d (map_at maps d) s (a ∷ []) ≡ next_state ps s (get_or letters a 0)
next_of_map = ExploredStates.made_same

-- ---- the letters

-- the letters by number are those of the declared signals
pub letters : (c : Counts) → c.outputs ≤ kind_limit → c.observed ≤ kind_limit → c.hidden ≤ kind_limit
    → (a : ℕ) → (a ∈ letters_of c) ↔ IsLetter c a
letters = LettersLaws.letters_are

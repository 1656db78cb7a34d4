-- A problem's states by number judge its traces, so its beliefs meet the one law.
-- Assumes nothing.
use Prim.Native.Nat.{ℕ, suc, ◌<◌}
use native.Mathlib.Omega.{arith}
use mathlib.Core.Path.{◌≡◌, refl, ap, ◌∙◌}
use mathlib.Core.Logic.{◌↔◌}
use mathlib.Core.Bool.{true}
use mathlib.Core.List.{List, [], ◌∷◌, foldl}
use lib.ListN.{length, get_or}
use lib.Pow.{pow_pos}
use Rattle.rules.specs.Within.{counts_in}
use Rattle.formula.specs.declared.parts.Part.{Part}
use Rattle.rules.specs.Problem.{Problem, problem_parts}
use Rattle.rules.specs.Satisfies.{Satisfies}
use Rattle.search.specs.Limits.{state_limit}
use Rattle.basics.specs.Member.{◌∈◌}
use Rattle.obligations.specs.Letters.{letters_of}
use Rattle.search.specs.PatternSet.{PatternSet, accepts, start, after}
use Rattle.obligations.specs.Obligation.{operators_of, back}
use Rattle.basics.specs.Reach.{closed}
use Rattle.search.specs.ReachableSets.{same_set, next_sets, reachable_sets}
use Rattle.states.specs.States.{start_state, next_state, state_after, states_of}
use Rattle.basics.proofs.MemberLaws.{get_d_in}
use Rattle.search.proofs.ReachableSetsLaws.{same_set_says}
use Rattle.states.proofs.Acceptance.{accepts_iff_satisfies, start_state_rejects}
use Rattle.states.proofs.NumberedSuccessors.{successor_right}
use Rattle.obligations.proofs.LettersLaws.{letter_listed}
use Rattle.play.specs.Game.{Game}
use Rattle.play.specs.Belief.{Automaton, state_from}
use Rattle.play.specs.History.{History, Possible, Hidden, letters, Knows}
use Rattle.game.specs.Solution.{game_of, automaton_of, problem_states, beliefs_of}
use Rattle.play.proofs.Plans.{rest}
use Rattle.play.proofs.BeliefsKnow.{Judges, belief_knows}
use Rattle.basics.proofs.ReachLaws.{closed_begins}

module _ (p : Problem) where
  abbrev G : Game
  G = game_of p

  abbrev ps : List Part
  ps = problem_parts p

  abbrev alphabet : List ℕ
  alphabet = letters_of (counts_in p.signals)

  -- what a step makes is a letter
  letter_in : (c s x : ℕ) → c < G.choices → s < G.observations → x < G.hiddens → G.letter c s x ∈ alphabet
  letter_in c s x cb sb xb = letter_listed (counts_in p.signals) c s x cb sb xb

  pub some_hidden : 0 < G.hiddens
  some_hidden = pow_pos p.signals.hidden

  module _ (xs : List PatternSet) (listed : problem_states p ≡ closed xs) where
    abbrev M : Automaton
    M = automaton_of ps xs

    abbrev at : ℕ → PatternSet
    at i = get_or xs i []

    first_state : (0 < length xs) × (at 0 ≡ start_state ps)
    unfolding states_of reachable_sets start_state
    first_state =
        let (ys, e) = closed_begins same_set same_set_says (next_sets (operators_of ps) (back ps) alphabet) (start (operators_of ps)) state_limit xs listed in
        rw e (omega arith, refl)

    step : (i : ℕ) → i < length xs → (c s x : ℕ) → c < G.choices → s < G.observations → x < G.hiddens
        → (M.next i (G.letter c s x) < length xs) × (at (M.next i (G.letter c s x)) ≡ next_state ps (at i) (G.letter c s x))
    step i h c s x cb sb xb =
        successor_right ps alphabet state_limit xs listed (at i) (get_d_in xs i [] h) (G.letter c s x) (letter_in c s x cb sb xb)

    -- a number's state after letters is its state's
    steps : (h : History) → Possible G.choices G.observations h → (x : ℕ → ℕ) → Hidden G x → (i : ℕ) → i < length xs
        → at (state_from M i (letters G h x)) ≡ foldl (next_state ps) (at i) (letters G h x)
    steps [] v x xb i b = refl
    steps (m ∷ h) v x xb i b =
        let (b', e) = step i b m.0 m.1 (x 0) v.0 v.1 (xb 0) in
        steps h v.2 (rest x) (λ j. xb (suc j)) _ b' ∙ ap (λ s. foldl (next_state ps) s (letters G h (rest x))) e

    -- the state of the number after letters is the state after them
    pub state_at : (h : History) → Possible G.choices G.observations h → (x : ℕ → ℕ) → Hidden G x
        → at (state_from M 0 (letters G h x)) ≡ state_after ps (letters G h x)
    unfolding state_after after next_state
    state_at h v x xb = steps h v x xb 0 first_state.0 ∙ ap (λ s. foldl (next_state ps) s (letters G h x)) first_state.1

    judges : (m : ℕ × ℕ) (h : History) → Possible G.choices G.observations (m ∷ h) → (x : ℕ → ℕ) → Hidden G x
        → (accepts (at (state_from M 0 (letters G (m ∷ h) x))) ≡ true) ↔ Satisfies (letters G (m ∷ h) x) p
    judges m h v x xb =
        rw (state_at (m ∷ h) v x xb) (accepts_iff_satisfies p (letters G (m ∷ h) x) (omega arith))

    pub states_judge : Judges G M
    states_judge =
        record {
          judges = judges;
          starts = ap accepts first_state.1 ∙ start_state_rejects ps;
          initial_below = first_state.0;
          next_below = λ i h c r x cb rb xb. (step i h c r x cb rb xb).0;
        }

    pub beliefs_know : Knows G (beliefs_of p xs)
    beliefs_know = belief_knows G M some_hidden states_judge

-- Beliefs over numbered states are the beliefs after histories: the same where those are, final where those are, as many as those.
-- Assumes nothing.
use Prim.Native.Nat.{ℕ, suc, ◌<◌}
use mathlib.Core.Path.{◌≡◌, refl, sym, ap, ◌∙◌, subst}
use mathlib.Core.Logic.{◌↔◌, ◌⊎◌, inl, inr}
use mathlib.Core.Bool.{Bool, true, false}
use mathlib.Core.List.{List, [], ◌∷◌}
use lib.ListN.{length, get_or}
use lib.Seq.{ext_get_or}
use Rattle.basics.specs.Reach.{Listing, closed, over, AtLeast}
use Rattle.basics.proofs.Booleans.{test, clash}
use Rattle.basics.proofs.ListsLaws.{length_tabulate}
use Rattle.basics.proofs.MemberLaws.{distinct_index}
use Rattle.basics.proofs.ReachLaws.{closed_not_over}
use Rattle.rules.specs.Problem.{Problem, problem_parts}
use Rattle.search.specs.Limits.{state_limit}
use Rattle.search.specs.PatternSet.{PatternSet, accepts}
use Rattle.search.specs.ReachableSets.{same_set}
use Rattle.states.proofs.StatesLaws.{states_closed, states_over}
use Rattle.play.specs.Game.{Game}
use Rattle.play.specs.Rank.{Arena}
use Rattle.play.specs.Belief.{Automaton, Belief, state_from, has, next_belief, final_belief}
use Rattle.play.specs.History.{History, Possible, know, AtLeastBeliefs, Hidden, letters}
use Rattle.play.specs.Answer.{all_moves, moves}
use Rattle.play.proofs.Plans.{rest}
use Rattle.play.proofs.BeliefsKnow.{stop_has}
use Rattle.play.proofs.Believed.{believed}
use Rattle.play.proofs.HistoryLaws.{Tells}
use Rattle.play.proofs.BeliefsByHistories.{at_least_iff}
use Rattle.play.proofs.KeptAnswers.{earlier_iff}
use Rattle.game.specs.Solution.{game_of, automaton_of, problem_states, beliefs_of}
use Rattle.game.specs.Believed.{Believed, SameBelief, FinalBelief, Counted, ManyStates}
use Rattle.game.proofs.StatesJudge.{state_at, states_judge, some_hidden}

module _ (p : Problem) where
  -- the states are listed exactly where they are not too many
  pub many_states_lem : (problem_states p ≡ over) ↔ ManyStates p
  many_states_lem =
      let law = states_over (problem_parts p) _ state_limit in (
        λ e. let (xs, n, d, r) = law.0 e in record { states = xs; count = n; distinct = d; reached = r },
        λ m. law.1 (m.states, m.count, m.distinct, m.reached),
      )

  module _ (xs : List PatternSet) (listed : problem_states p ≡ closed xs) where
    abbrev G : Game
    G = game_of p

    abbrev M : Automaton
    M = automaton_of (problem_parts p) xs

    abbrev A : Arena
    A = beliefs_of p xs

    abbrev at : ℕ → PatternSet
    at i = get_or xs i []

    -- the belief after a history
    abbrev K : History → Belief
    K h = know A A.start h

    pub few_states : ¬ ManyStates p
    few_states m = closed_not_over xs (sym listed ∙ many_states_lem.1 m)

    states_below : (h : History) → Possible G.choices G.observations h → (x : ℕ → ℕ) → Hidden G x → (i : ℕ) → i < length xs
        → state_from M i (letters G h x) < length xs
    states_below [] v x xb i b = b
    states_below (m ∷ h) v x xb i b =
        states_below h v.2 (rest x) (λ j. xb (suc j)) (M.next i (G.letter m.0 m.1 (x 0)))
        ((states_judge p xs listed).next_below i b m.0 m.1 (x 0) v.0 v.1 (xb 0))

    state_below : (h : History) → Possible G.choices G.observations h → (x : ℕ → ℕ) → Hidden G x → state_from M 0 (letters G h x) < length xs
    state_below h v x xb = states_below h v x xb 0 (states_judge p xs listed).initial_below

    -- a number is in the belief exactly if its state is believed
    number_iff : (h : History) → Possible G.choices G.observations h → (t : ℕ) → t < length xs → (has (K h) t ≡ true) ↔ Believed p h (at t)
    number_iff h v t tb =
        let law = believed G M (some_hidden p) (states_judge p xs listed) h v t tb in (
          λ y. let (x, xb, e) = law.0 y in (x, xb, sym (state_at p xs listed h v x xb) ∙ ap at e),
          λ w.
              let (x, xb, e) = w in
              law.1 (
                x,
                xb,
                distinct_index (states_closed (problem_parts p) _ state_limit xs listed).0 _ t [] (state_below h v x xb) tb
                    (state_at p xs listed h v x xb ∙ e),
              ),
        )

    -- what is believed has a number
    number_of : (h : History) → Possible G.choices G.observations h → (s : PatternSet) → Believed p h s
        → (t : ℕ) × (t < length xs) × (at t ≡ s) × (has (K h) t ≡ true)
    number_of h v s (x, xb, e) =
        let t = state_from M 0 (letters G h x) in
        let b = state_below h v x xb in
        let is : at t ≡ s = state_at p xs listed h v x xb ∙ e in
        (t, b, is, (number_iff h v t b).1 (x, xb, e ∙ sym is))

    know_length : (h : History) (b : Belief) → length b ≡ length xs → length (know A b h) ≡ length xs
    know_length [] b e = e
    know_length (m ∷ h) b e = know_length h (next_belief M G.hiddens G.letter b m.0 m.1) (length_tabulate (length xs) _)

    belief_length : (h : History) → length (K h) ≡ length xs
    belief_length h = know_length h A.start (length_tabulate (length xs) _)

    module _ (h k : History) (hp : Possible G.choices G.observations h) (kp : Possible G.choices G.observations k) where
      same_entry : SameBelief p h k → (t : ℕ) → t < length xs → has (K h) t ≡ has (K k) t
      same_entry e t b = entry (has (K h) t) refl (has (K k) t) refl
        where
          entry : (a : Bool) → has (K h) t ≡ a → (c : Bool) → has (K k) t ≡ c → a ≡ c
          entry true ea true ec = refl
          entry true ea false ec = clash ((number_iff k kp t b).1 ((e (at t)).0 ((number_iff h hp t b).0 ea))) ec
          entry false ea true ec = sym (clash ((number_iff h hp t b).1 ((e (at t)).1 ((number_iff k kp t b).0 ec))) ea)
          entry false ea false ec = refl

      believed_too : K h ≡ K k → (s : PatternSet) → Believed p h s → Believed p k s
      believed_too e s w =
          let (t, b, is, y) = number_of h hp s w in
          subst (Believed p k) is ((number_iff k kp t b).0 (subst (λ (c : Belief). has c t ≡ true) e y))

    -- two histories lead to the same belief exactly if they lead to the same set of numbers
    same_iff : (h k : History) → Possible G.choices G.observations h → Possible G.choices G.observations k → SameBelief p h k ↔ (K h ≡ K k)
    same_iff h k hp kp = (
      λ e. ext_get_or false (K h) (K k) (belief_length h ∙ sym (belief_length k))
          (λ t b. same_entry h k hp kp e t (subst (λ n. t < n) (belief_length h) b)),
      λ e s. (believed_too h k hp kp e s, believed_too k h kp hp (sym e) s),
    )

    final_iff : (h : History) → Possible G.choices G.observations h → FinalBelief p h ↔ (final_belief M (K h) ≡ true)
    final_iff h v = (
      λ f. (stop_has G M (K h)).1 (λ t b y. f (at t) ((number_iff h v t b).0 y)),
      λ e s w.
          let (t, b, is, y) = number_of h v s w in
          subst (λ (u : PatternSet). accepts u ≡ true) is ((stop_has G M (K h)).0 e t b y),
    )

    pub beliefs_tell : Tells A G.choices G.observations (SameBelief p) (FinalBelief p)
    beliefs_tell = record { sames = same_iff; finals = final_iff }

    -- as many beliefs count as histories lead to
    pub beliefs_iff : (n : ℕ) → AtLeast (moves A same_set G.choices G.observations) A.start n ↔ AtLeastBeliefs (Counted p) (SameBelief p) n
    beliefs_iff = at_least_iff A same_set G.choices G.observations (SameBelief p) (FinalBelief p) beliefs_tell

    -- and so it was with the earlier count
    pub earlier_beliefs_iff : (n : ℕ) → AtLeast (all_moves A same_set G.choices G.observations) A.start n
        ↔ AtLeastBeliefs (Possible G.choices G.observations) (SameBelief p) n
    earlier_beliefs_iff = earlier_iff A same_set G.choices G.observations (SameBelief p) same_iff

-- whether a belief is final is decided, where the states are within their limit
pub final_decided : (p : Problem) → (¬ ManyStates p) → (h : History) → Possible (game_of p).choices (game_of p).observations h
    → FinalBelief p h ⊎ (¬ FinalBelief p h)
final_decided p few h v = at (problem_states p) refl
  where
    at : (l : Listing PatternSet) → problem_states p ≡ l → FinalBelief p h ⊎ (¬ FinalBelief p h)
    at (closed xs) e =
        elim (test (final_belief (M p xs e) (K p xs e h))) [
          | inl t ↦ inl ((final_iff p xs e h v).1 t)
          | inr f ↦ inr (λ g. clash ((final_iff p xs e h v).0 g) f)
        ]
    at over e = absurd (few ((many_states_lem p).0 e))

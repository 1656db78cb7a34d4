-- The beliefs over the states' tables in memory: the search counts them, and what is answered from them is what is answered from the
-- automaton that the tables are those of.
-- Assumes nothing.
use Prim.Native.Nat.{ℕ, ◌+◌, ◌*◌, ◌/◌, ◌%◌, ◌<◌}
use native.Mathlib.Nat.{mod-lt, div-lt_iff_lt-mul, div-add-mod', mul_comm}
use mathlib.Core.Path.{◌≡◌, refl, sym, ap, ap₂, ◌∙◌, subst, fun_ext}
use mathlib.Core.Logic.{inl, inr}
use mathlib.Core.Bool.{not, ◌&&◌, ◌||◌}
use mathlib.Core.List.{List, map}
use lib.Dec.{eqb}
use lib.ListN.{length}
use Rattle.basics.specs.Lists.{below}
use Rattle.basics.specs.Reach.{Listing, closed, over, reachable}
use Rattle.basics.proofs.Booleans.{test}
use Rattle.basics.proofs.BoundedLaws.{all_ext, any_ext}
use Rattle.basics.proofs.ListsLaws.{map_table, tabulate_ext}
use Rattle.search.specs.ReachableSets.{same_set}
use Rattle.play.specs.Limits.{belief_limit}
use Rattle.play.specs.Rank.{Arena}
use Rattle.play.specs.Belief.{Automaton, Belief, has, alone, beliefs}
use Rattle.play.specs.Answer.{moves, positions}
use Rattle.basics.specs.declared.order.Order.{Order}
use Rattle.play.proofs.SameAnswer.{Renaming, verdict_image}
use Rattle.beliefs.specs.BeliefMemory.{accepts_in, successor_in, belief_after, pairs_from, counted_beliefs}
use Rattle.game.specs.Solution.{verdict, solution_of, belief_solution}
use Rattle.game.specs.StateMemory.{automaton_in, letter_number, memory_solution}

abbrev pub beliefs_in : (sets successors : List ℕ) (n choices observations hiddens : ℕ) → Arena
beliefs_in sets successors n choices observations hiddens =
    beliefs (automaton_in sets successors n) hiddens (letter_number choices observations)

-- they are the beliefs that pairs reach, counted either way
module _ (sets successors : List ℕ) (n choices observations hiddens : ℕ) where
  abbrev A : Arena
  A = beliefs_in sets successors n choices observations hiddens

  abbrev pairs : ℕ
  pairs = choices * observations

  pub pair_move : (b : Belief) (c s : ℕ) → A.move b c s ≡ belief_after successors n pairs hiddens b (s * choices + c)
  unfolding belief_after
  pair_move b c s = refl

  -- the pairs that are tried in a belief are its moves
  pair_moves : (b : Belief) → map (belief_after successors n pairs hiddens b) (below (pairs_from sets n pairs b)) ≡ moves A same_set choices observations b
  pair_moves b =
      elim (test (A.final b)) [
        | inl t ↦ rw (t, moves) refl
        | inr f ↦
            rw (f, moves)
            (map_table (belief_after successors n pairs hiddens b) pairs (λ q. q)
            ∙ tabulate_ext pairs _ _ (λ q l.
            ap (belief_after successors n pairs hiddens b) (sym (div-add-mod' q choices)) ∙ sym (pair_move b (q % choices) (q / choices))))
      ]

  pub counted_same : (limit : ℕ) → counted_beliefs sets successors n pairs hiddens limit ≡ positions A same_set choices observations limit
  unfolding counted_beliefs
  counted_same limit = ap (λ (st : Belief → List Belief). reachable same_set st (alone n 0) limit) (fun_ext pair_moves)

-- tables that are those of an automaton, for letters of so many choices, observations and hidden values
pub record Tables (M : Automaton) (choices observations hiddens : ℕ) (letter : ℕ → ℕ → ℕ → ℕ) (sets successors : List ℕ) : Type 0 where
  pub first : M.initial ≡ 0
  pub follows : (i c s h : ℕ) → i < M.states → c < choices → s < observations → h < hiddens
      → successor_in successors i (letter_number choices observations c s h) ≡ M.next i (letter c s h)
  pub accepting : (i : ℕ) → i < M.states → accepts_in sets i ≡ M.accepts i

module _ (M : Automaton) (choices observations hiddens : ℕ) (letter : ℕ → ℕ → ℕ → ℕ) (sets successors : List ℕ)
    (t : Tables M choices observations hiddens letter sets successors) where
  abbrev I : Arena
  I = beliefs_in sets successors M.states choices observations hiddens

  abbrev B : Arena
  B = beliefs M hiddens letter

  move_same : (b : Belief) (c s : ℕ) → c < choices → s < observations → B.move b c s ≡ I.move b c s
  move_same b c s cb sb =
      tabulate_ext M.states _ _ (λ j jb. any_ext M.states _ _ (λ i ib.
      ap (λ v. has b i && v) (any_ext hiddens _ _ (λ h hb. ap (λ y. eqb y j) (sym (t.follows i c s h ib cb sb hb))))))

  start_same : I.start ≡ B.start
  start_same = ap (alone M.states) (sym t.first)

  -- the same beliefs by their own names
  renaming : Renaming I B same_set same_set choices observations (λ b. b) (λ b. Unit {0})
  renaming =
      record {
        met_start = tt;
        met_next = λ b m f c cb s sb. tt;
        named_start = start_same;
        named_final = λ b m. all_ext M.states _ _ (λ i ib. ap (λ v. not (has b i) || v) (sym (t.accepting i ib)));
        named_move = λ b m f c cb s sb. move_same b c s cb sb;
        one = λ j k m n. refl;
      }

  pub memory_same : (o : Order) → 0 < choices → 0 < observations
      → memory_solution o sets successors M.states choices observations hiddens ≡ belief_solution o M choices observations hiddens letter
  unfolding memory_solution
  memory_same o some some_observation = at (positions I same_set choices observations belief_limit) ∙ ap (solution_of o B same_set choices observations) listed
    where
      at : (l : Listing Belief) → solution_of o I same_set choices observations l ≡ solution_of o B same_set choices observations l
      at (closed all) = ap verdict (verdict_image renaming o some_observation (length all))
      at over = refl

      steps : (b : Belief) → moves I same_set choices observations b ≡ moves B same_set choices observations b
      steps b =
          elim (test (I.final b)) [
            | inl t ↦ rw (t, moves, renaming.named_final b tt ∙ t) refl
            | inr f ↦
                rw (f, moves, renaming.named_final b tt ∙ f)
                (tabulate_ext (choices * observations) _ _ (λ q l. sym (move_same b (q % choices) (q / choices) (mod-lt q some)
                ((div-lt_iff_lt-mul some).1 (subst (λ n. q < n) (mul_comm choices observations) l)))))
          ]

      listed : positions I same_set choices observations belief_limit ≡ positions B same_set choices observations belief_limit
      listed = ap₂ (λ (st : Belief → List Belief) (b : Belief). reachable same_set st b belief_limit) (fun_ext steps) start_same

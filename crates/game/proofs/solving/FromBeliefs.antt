-- From the beliefs that were explored to the answer: their rows and marks are the beliefs by their numbers.
-- Assumes nothing.
use Rattle.tables.specs.declared.answering.Outcome.{Outcome}
use Rattle.lines.specs.declared.refusal.Refusal.{Refusal}
use Rattle.tables.specs.declared.shape.Table.{Table}
use Rattle.std.specs.Prelude.{Err, None, Option, Result, Some}
use Prim.Native.Nat.{ℕ, suc, ◌+◌, ◌*◌, ◌%◌, ◌^◌, ◌≤◌, ◌<◌}
use native.Mathlib.Nat.{add_assoc, mul-le-mul, pow-le-pow_right}
use native.Mathlib.Omega.{arith}
use mathlib.Core.Path.{◌≡◌, refl, sym, ap, ap₂, ◌∙◌, subst}
use mathlib.Core.Bool.{false, cond}
use mathlib.Core.List.{List, ◌++◌}
use lib.Dec.{eqb, lit<}
use lib.Pow.{pow_pos, pow-add}
use lib.ListN.{length, get_or, length-map, get_or-append}
use Rattle.lines.specs.declared.refusal.Refusal.TheVariants as refusal
use Rattle.basics.proofs.ListsLaws.{get_d_map_in}
use Rattle.basics.specs.Lists.{padded, written}
use Rattle.basics.specs.Member.{◌∈◌}
use Rattle.basics.specs.Reach.{Listing, closed, over, index_in}
use Rattle.search.specs.ReachableSets.{same_set}
use Rattle.search.specs.Slots.{explored_of}
use Rattle.basics.proofs.BitsLaws.{digit_is, shl_one}
use Rattle.basics.specs.Limits.{kind_limit}
use Rattle.lines.specs.declared.problem.Sizes.{Sizes}
use Rattle.lines.specs.Memory.{order_in}
use Rattle.search.proofs.ReachableSetsLaws.{same_set_says}
use Rattle.basics.specs.declared.order.Order.{Order}
use Rattle.play.specs.Limits.{belief_limit, pair_limit, side_limit}
use Rattle.play.specs.Rank.{Arena}
use Rattle.play.specs.Belief.{Belief}
use Rattle.play.specs.Table.{list_of}
use Rattle.play.specs.Answer.{moves, positions, verdict_of, cells_of as verdict_cells}
use Rattle.tables.specs.Outcome.{outcome_of}
use Rattle.game.specs.Solution.{Solution, too_many_beliefs, verdict, solution_of}
use Rattle.game.specs.SolvedAs.{solved_with, solved_of, cells_of}
use Rattle.beliefs.specs.BeliefMemory.{counted_beliefs, finals_of, moves_of}
use Rattle.game.specs.StateMemory.{memory_solution}
use Rattle.tables.specs.PositionMemory.{arena_in, Positions}
use Rattle.play.proofs.AnswerLaws.{start_counted, move_counted}
use Rattle.play.proofs.SameAnswer.{Renaming, verdict_image}
use Rattle.basics.proofs.ReachLaws.{closed_begins, index_right, index_one}
use Rattle.beliefs.proofs.ListedBeliefs.{counted_some, counted_over, beliefs_few, beliefs_some, beliefs_inside, beliefs_entry}
use Rattle.game.proofs.LetterNumbers.{pair_lt}
use Rattle.game.proofs.SameBeliefs.{beliefs_in, pair_move, counted_same}

-- choices and observations of at most four signals each
pub record Widths (choices observations : ℕ) : Type 0 where
  pub some_choice : 0 < choices
  pub few_choices : choices ≤ side_limit
  pub some_observation : 0 < observations
  pub few_observations : observations ≤ side_limit

widths_pairs : (choices observations : ℕ) → Widths choices observations → choices * observations ≤ pair_limit
widths_pairs choices observations w = mul-le-mul w.few_choices w.few_observations

module _ (s : Sizes) where
  -- how many there are, as the code shifts them
  abbrev pub shifted_choices : ℕ
  shifted_choices = 1 * 2 ^ s.outputs % 18446744073709551616

  abbrev pub shifted_observations : ℕ
  shifted_observations = 1 * 2 ^ s.observed % 18446744073709551616

  module _ (outputs_few : s.outputs ≤ kind_limit) (observed_few : s.observed ≤ kind_limit) where
    pub choices_are : shifted_choices ≡ 2 ^ s.outputs
    choices_are = shl_one s.outputs (omega arith)

    pub observations_are : shifted_observations ≡ 2 ^ s.observed
    observations_are = shl_one s.observed (omega arith)

    pub shifted_widths : Widths shifted_choices shifted_observations
    shifted_widths =
        rw (choices_are, observations_are)
        (record {
          some_choice = pow_pos s.outputs;
          few_choices = pow-le-pow_right (lit< tt) outputs_few;
          some_observation = pow_pos s.observed;
          few_observations = pow-le-pow_right (lit< tt) observed_few;
        })

    shifted_pairs : (pairs : ℕ) → pairs ≡ 2 ^ (s.outputs + s.observed) → pairs ≡ shifted_choices * shifted_observations
    shifted_pairs pairs e = rw (choices_are, observations_are) (e ∙ pow-add 2 s.outputs s.observed)

-- ---- the rows are positions, closed under moves

-- what `explore_beliefs` answers and leaves where there are k beliefs
module _ (sets successors : List ℕ) (n hiddens pairs : ℕ) where
  abbrev l : Listing Belief
  l = counted_beliefs sets successors n pairs hiddens belief_limit

  pub record Explored (k : ℕ) (rows finals room : List ℕ) : Type 0 where
    pub count : Some k ≡ explored_of l
    pub rows_are : rows ≡ padded (belief_limit * pair_limit) (moves_of sets successors n pairs hiddens l)
    pub marked : finals ≡ written (finals_of sets n (list_of l)) room

module _ (sets successors : List ℕ) (n choices observations hiddens : ℕ) (w : Widths choices observations) where
  pub counted_positions : (k : ℕ) (rows finals room : List ℕ) → Explored sets successors n hiddens (choices * observations) k rows finals room
      → length rows ≡ belief_limit * pair_limit → length finals ≡ belief_limit → Positions k choices observations rows finals
  counted_positions k rows finals room x rows_long finals_long =
      let (bs, counted, count) = counted_some (counted_beliefs sets successors n (choices * observations) hiddens belief_limit) k x.count in
      subst (λ m. Positions m choices observations rows finals) count (
      record {
        some = beliefs_some sets successors n (choices * observations) hiddens belief_limit bs counted;
        few = beliefs_few sets successors n (choices * observations) hiddens belief_limit bs counted;
        few_choices = w.few_choices;
        few_observations = w.few_observations;
        some_choice = w.some_choice;
        some_observation = w.some_observation;
        moves_long = rows_long;
        finals_long = finals_long;
        inside = λ i c s h cb sb.
            subst (λ x. x < length bs)
            (ap₂ (λ t j. get_or t j 0) (sym (x.rows_are ∙ ap (λ r. padded (belief_limit * pair_limit)
            (moves_of sets successors n (choices * observations) hiddens r)) counted))
            (sym (add_assoc (i * pair_limit) (s * choices) c)))
            (beliefs_inside sets successors n (choices * observations) hiddens belief_limit bs counted (widths_pairs choices observations w) _ i
            (s * choices + c) h
            (pair_lt choices observations c s cb sb));
      }
      )

-- ---- the verdict from them is that from the beliefs

module _ (sets successors : List ℕ) (n choices observations hiddens : ℕ) (few_pairs : choices * observations ≤ pair_limit)
    (limit : ℕ) (bs : List Belief) (tried : counted_beliefs sets successors n (choices * observations) hiddens limit ≡ closed bs) where
  abbrev A : Arena
  A = beliefs_in sets successors n choices observations hiddens

  abbrev pairs : ℕ
  pairs = choices * observations

  -- a belief's number, and a number's belief
  abbrev number : Belief → ℕ
  number b = index_in same_set b bs

  abbrev at : ℕ → Belief
  at i = get_or bs i A.start

  abbrev counted : positions A same_set choices observations limit ≡ closed bs
  counted = sym (counted_same sets successors n choices observations hiddens limit) ∙ tried

  start_zero : number A.start ≡ 0
  unfolding index_in
  start_zero =
      let (ys, e) = closed_begins same_set same_set_says (moves A same_set choices observations) A.start limit bs counted in
      ap (index_in same_set A.start) e ∙ ap (λ b. cond b 0 (suc (index_in same_set A.start ys))) ((same_set_says A.start A.start).1 refl)

  module _ (finals rest : List ℕ) (marked : finals ≡ finals_of sets n bs ++ rest)
      (size : ℕ) (rows : List ℕ) (rows_are : rows ≡ padded size (moves_of sets successors n pairs hiddens (closed bs))) where
    -- which are final
    final_at : (i : ℕ) → i < length bs → eqb (get_or finals i 0) 1 ≡ A.final (at i)
    unfolding finals_of
    final_at i h =
        ap (λ t. eqb (get_or t i 0) 1) marked
        ∙ ap (λ y. eqb y 1) (get_or-append (finals_of sets n bs) rest 0 i (subst (λ m. i < m) (sym (length-map bs _)) h) ∙ get_d_map_in _ bs i A.start 0 h)
        ∙ digit_is _

    -- where pairs lead from one that is not
    move_at : (i c s : ℕ) → i < length bs → A.final (at i) ≡ false → c < choices → s < observations
        → get_or rows (i * pair_limit + s * choices + c) 0 ≡ number (A.move (at i) c s)
    move_at i c s h f cb sb =
        ap₂ (λ t k. get_or t k 0) rows_are (add_assoc (i * pair_limit) (s * choices) c)
        ∙ beliefs_entry sets successors n pairs hiddens limit bs tried few_pairs size i (s * choices + c) A.start h f
        (pair_lt choices observations c s cb sb)
        ∙ ap number (sym (pair_move sets successors n choices observations hiddens (at i) c s))

    -- the beliefs by their numbers
    renaming : Renaming A (arena_in choices rows finals) same_set eqb choices observations number (λ b. b ∈ bs)
    renaming =
        record {
          met_start = start_counted A same_set same_set_says choices observations limit bs counted;
          met_next = move_counted A same_set same_set_says choices observations limit bs counted;
          named_start = start_zero;
          named_final = λ b m. let (h, e) = index_right same_set same_set_says b bs A.start m in final_at (number b) h ∙ ap A.final e;
          named_move = λ b m f c cb s sb.
              let (h, e) = index_right same_set same_set_says b bs A.start m in
              move_at (number b) c s h (ap A.final e ∙ f) cb sb ∙ ap (λ k. number (A.move k c s)) e;
          one = λ a b m k. index_one same_set same_set_says a b bs m k;
        }

    verdict_kept : (o : Order) → 0 < observations → verdict (verdict_of o (arena_in choices rows finals) eqb choices observations (length bs))
        ≡ solution_of o A same_set choices observations (positions A same_set choices observations limit)
    verdict_kept o some = ap verdict (sym (verdict_image renaming o some (length bs))) ∙ ap (solution_of o A same_set choices observations) (sym counted)

-- ---- what `solve_states` answers and writes

-- a solution is answered, for an order and so many observed signals, and written to the table
abbrev pub Answered : Order → ℕ → Solution → Result Table Refusal → List ℕ → List ℕ → Type 0
Answered o observed x r table table' = (r ≡ solved_of o observed x) × (table' ≡ written (cells_of x) table)

module _ (o : Order) (sets successors : List ℕ) (n choices observations hiddens observed : ℕ) where
  abbrev solution : Solution
  solution = memory_solution o sets successors n choices observations hiddens

  abbrev counts : Listing Belief
  counts = counted_beliefs sets successors n (choices * observations) hiddens belief_limit

  pub solved_verdict : Widths choices observations → (k : ℕ) (rows finals room : List ℕ)
      → Explored sets successors n hiddens (choices * observations) k rows finals room
      → (x : Option Outcome) (table table' : List ℕ) → x ≡ outcome_of (verdict_of o (arena_in choices rows finals) eqb choices observations k)
      → table' ≡ written (verdict_cells (verdict_of o (arena_in choices rows finals) eqb choices observations k)) table
      → Answered o observed solution (solved_with o observed x) table table'
  unfolding memory_solution
  solved_verdict w k rows finals room g x table table' e f =
      (ap (solved_with o observed) e ∙ ap (solved_of o observed) same, f ∙ ap (λ r. written (cells_of r) table) same)
    where
      same : verdict (verdict_of o (arena_in choices rows finals) eqb choices observations k) ≡ solution
      same =
          let (bs, tried, count) = counted_some counts k g.count in
          ap (λ m. verdict (verdict_of o (arena_in choices rows finals) eqb choices observations m)) (sym count)
          ∙ verdict_kept sets successors n choices observations hiddens (widths_pairs choices observations w) belief_limit bs tried finals _
          (g.marked ∙ ap (λ r. written (finals_of sets n (list_of r)) room) tried) (belief_limit * pair_limit) rows
          (g.rows_are ∙ ap (λ r. padded (belief_limit * pair_limit) (moves_of sets successors n (choices * observations) hiddens r)) tried) o
          w.some_observation

  pub solved_many : (k : ℕ) → k ≡ choices * observations
      → None ≡ explored_of (counted_beliefs sets successors n k hiddens belief_limit) → (table : List ℕ)
      → Answered o observed solution (Err refusal.TooManyBeliefs) table table
  unfolding memory_solution
  solved_many k e many table = (ap (solved_of o observed) same, ap (λ r. written (cells_of r) table) same)
    where
      is_over : counts ≡ over
      is_over = counted_over counts (subst (λ p. None ≡ explored_of (counted_beliefs sets successors n p hiddens belief_limit)) e many)

      same : too_many_beliefs ≡ solution
      same =
          sym (ap (solution_of o (beliefs_in sets successors n choices observations hiddens) same_set choices observations)
          (sym (counted_same sets successors n choices observations hiddens belief_limit) ∙ is_over))

-- said of the powers that the code shifts, and of the order that is kept
module _ (s : Sizes) (outputs_few : s.outputs ≤ kind_limit) (observed_few : s.observed ≤ kind_limit) (sets successors : List ℕ) (n hiddens : ℕ) where
  pub explored_shifted : (m : ℕ) → m ≡ 2 ^ (s.outputs + s.observed) → (k : ℕ) (rows finals room : List ℕ)
      → Explored sets successors n hiddens m k rows finals room
      → Explored sets successors n hiddens (shifted_choices s * shifted_observations s) k rows finals room
  explored_shifted m e k rows finals room =
      subst (λ p. Explored sets successors n hiddens p k rows finals room) (shifted_pairs s outputs_few observed_few m e)

  pub answered_shifted : (o : Order) → o ≡ order_in s → (r : Result Table Refusal) (table table' : List ℕ)
      → Answered o s.observed (memory_solution o sets successors n (shifted_choices s) (shifted_observations s) hiddens) r table table'
      → Answered (order_in s) s.observed (memory_solution (order_in s) sets successors n (2 ^ s.outputs) (2 ^ s.observed) hiddens) r table table'
  answered_shifted o is r table table' a =
      subst (λ q. Answered q s.observed (memory_solution q sets successors n (2 ^ s.outputs) (2 ^ s.observed) hiddens) r table table') is
      (subst (λ x. Answered o s.observed x r table table')
      (ap₂ (λ x y. memory_solution o sets successors n x y hiddens) (choices_are s outputs_few observed_few)
      (observations_are s outputs_few observed_few)) a)

-- The cases of demand 3, each by itself.
-- Assumes nothing.
use Prim.Native.Nat.{ℕ, ◌≤◌, ◌<◌}
use native.Mathlib.Omega.{arith}
use mathlib.Core.Path.{◌≡◌, refl, sym, ap, ◌∙◌, subst}
use mathlib.Core.Logic.{◌↔◌, ◌⊎◌, inl, inr}
use mathlib.Core.List.{List, [], ◌∷◌}
use Rattle.lines.specs.Refusal.{Told, values, refused}
use Rattle.rules.specs.Limits.{work_size}
use Rattle.rules.specs.Problem.{Problem}
use Rattle.rules.specs.Satisfies.{Satisfies}
use Rattle.rules.specs.Denotes.{Denotes}
use Rattle.rules.specs.Refuses.{Refuses}
use Rattle.lines.proofs.RefusalLaws.{told_apart, one_number, one_place}
use Rattle.rules.proofs.RefusesLaws.{refuses_number}
use Rattle.play.specs.Cells.{table_size, rank_cell}
use Rattle.basics.specs.declared.order.Order.{Order}
use Rattle.basics.specs.Order.{order_number}
use Rattle.basics.proofs.OrderLaws.{one_order}
use Rattle.play.specs.Game.{Play, Strategy, IsStrategy, Steps, run, Wins, Unrealizable}
use Rattle.play.specs.IsTable.{RankIs}
use Rattle.play.specs.Table.{table_strategy}
use Rattle.game.specs.Solution.{game_of, Solution, solution}
use Rattle.game.specs.Believed.{FinalBelief, ManyStates, ManyBeliefs}
use Rattle.game.specs.SolvedAs.{solved_of, told_solved, told_by, cells_of, cells_by, Controller, Short, SolvedAs}
use Rattle.game.specs.SolvedAs as due
use Rattle.game.proofs.SolutionCases.{Solving, states, beliefs, none, table}
use Rattle.game.proofs.SolvedAsLaws.{due_call, solution_answered, solving_read, answered_iff}

module _ (source : List ℕ) (work room : ℕ) where
  abbrev answer : Told
  answer = told_by work room source

  abbrev cells : List ℕ
  cells = cells_by work room source

  -- ---- 12

  when_short : (a : Told) (t : List ℕ) → SolvedAs work room source a t → a ≡ refused 12 0 → Short work room
  when_short a t (due.short_memory s) e = s
  when_short a t (due.bad_source f number place x) e = absurd (omega (arith, one_number e, refuses_number x))
  when_short a t (due.too_many_states_lem f p d m) e = absurd (omega (arith, one_number e))
  when_short a t (due.too_many_beliefs_lem f p d s m) e = absurd (omega (arith, one_number e))
  when_short a t (due.unrealizable f p d small u) e = absurd (omega (arith, one_number e))
  when_short a t (due.table f p d small n r c k) e = told_apart (sym e)

  pub short_memory : (answer ≡ refused 12 0) ↔ ((work < work_size) ⊎ (room < table_size))
  short_memory = (when_short answer cells (due_call source work room), λ s. ((answered_iff source work room _ _).1 (due.short_memory s)).0)

  module _ (enough : work_size ≤ work) (long : table_size ≤ room) where
    pub long_enough : ¬ Short work room
    long_enough (inl s) = absurd (omega arith)
    long_enough (inr s) = absurd (omega arith)

    -- ---- 1 to 8

    when_refused : (a : Told) (t : List ℕ) → SolvedAs work room source a t → (number place : ℕ) → number ≤ 8 → a ≡ refused number place
        → Refuses source number place
    when_refused a t (due.short_memory s) number place h e = absurd (omega (arith, one_number e))
    when_refused a t (due.bad_source f n m x) number place h e =
        subst (λ k. Refuses source k place) (one_number e) (subst (Refuses source n) (one_place e) x)
    when_refused a t (due.too_many_states_lem f p d m) number place h e = absurd (omega (arith, one_number e))
    when_refused a t (due.too_many_beliefs_lem f p d s m) number place h e = absurd (omega (arith, one_number e))
    when_refused a t (due.unrealizable f p d small u) number place h e = absurd (omega (arith, one_number e))
    when_refused a t (due.table f p d small n r c k) number place h e = told_apart (sym e)

    pub refused_text : (number place : ℕ) → number ≤ 8 → (answer ≡ refused number place) ↔ Refuses source number place
    refused_text number place h = (
      when_refused answer cells (due_call source work room) number place h,
      λ x. ((answered_iff source work room _ _).1 (due.bad_source long_enough number place x)).0,
    )

    -- ---- for a problem that the text denotes

    module _ (p : Problem) (denotes : Denotes source p) where
      abbrev told : Solution → Told
      told s = told_solved (solved_of p.order p.signals.observed s)

      is_told : answer ≡ told (solution p)
      is_told = (solution_answered source work room long_enough p denotes (solution p) refl).0

      are_cells : cells ≡ cells_of (solution p)
      are_cells = (solution_answered source work room long_enough p denotes (solution p) refl).1

      view : Solving p (solution p)
      view = solving_read source work room p denotes

      when_many_states : (s : Solution) → Solving p s → told s ≡ refused 9 0 → ManyStates p
      when_many_states s (states m) e = m
      when_many_states s (beliefs f m) e = absurd (omega (arith, one_number e))
      when_many_states s (none small u) e = absurd (omega (arith, one_number e))
      when_many_states s (table small n r t c one) e = told_apart (sym e)

      when_many_beliefs : (s : Solution) → Solving p s → told s ≡ refused 10 0 → (¬ ManyStates p) × ManyBeliefs p
      when_many_beliefs s (states m) e = absurd (omega (arith, one_number e))
      when_many_beliefs s (beliefs f m) e = (f, m)
      when_many_beliefs s (none small u) e = absurd (omega (arith, one_number e))
      when_many_beliefs s (table small n r t c one) e = told_apart (sym e)

      when_unrealizable : (s : Solution) → Solving p s → told s ≡ refused 11 0 → Unrealizable (game_of p) p.order
      when_unrealizable s (states m) e = absurd (omega (arith, one_number e))
      when_unrealizable s (beliefs f m) e = absurd (omega (arith, one_number e))
      when_unrealizable s (none small u) e = u
      when_unrealizable s (table small n r t c one) e = told_apart (sym e)

      when_solved : (s : Solution) → Solving p s → (n r : ℕ) (t : List ℕ)
          → told s ≡ values (n ∷ p.signals.observed ∷ order_number p.order ∷ r ∷ []) → cells_of s ≡ t
          → Controller p n r t
      when_solved s (states m) n r t e q = told_apart e
      when_solved s (beliefs f m) n r t e q = told_apart e
      when_solved s (none small u) n r t e q = told_apart e
      when_solved s (table small m k u c one) n r t e q =
          let is_n : m ≡ n = cc in
          let is_r : k ≡ r = cc in
          rw (← is_n, ← is_r, ← q) c

      pub too_many_states_lem : (answer ≡ refused 9 0) ↔ ManyStates p
      too_many_states_lem = (
        λ e. when_many_states (solution p) view (sym is_told ∙ e),
        λ m. ((answered_iff source work room _ _).1 (due.too_many_states_lem long_enough p denotes m)).0,
      )

      pub too_many_beliefs_lem : (answer ≡ refused 10 0) ↔ ((¬ ManyStates p) × ManyBeliefs p)
      too_many_beliefs_lem = (
        λ e. when_many_beliefs (solution p) view (sym is_told ∙ e),
        λ m. ((answered_iff source work room _ _).1 (due.too_many_beliefs_lem long_enough p denotes m.0 m.1)).0,
      )

      module _ (few_states : ¬ ManyStates p) (few_beliefs : ¬ ManyBeliefs p) where
        pub unrealizable : (answer ≡ refused 11 0) ↔ ((σ : Strategy p.order) → IsStrategy (game_of p) σ → ¬ Wins (game_of p) σ)
        unrealizable = (
          λ e. when_unrealizable (solution p) view (sym is_told ∙ e),
          λ u. ((answered_iff source work room _ _).1 (due.unrealizable long_enough p denotes (few_states, few_beliefs) u)).0,
        )

        pub controller : (n r : ℕ) (t : List ℕ)
            → ((answer ≡ values (n ∷ p.signals.observed ∷ order_number p.order ∷ r ∷ [])) × (cells ≡ t)) ↔ Controller p n r t
        controller n r t = (
          λ e. when_solved (solution p) view n r t (sym is_told ∙ e.0) (sym are_cells ∙ e.1),
          λ c. (answered_iff source work room _ _).1 (due.table long_enough p denotes (few_states, few_beliefs) n r t c),
        )

        pub otherwise : (¬ (answer ≡ refused 11 0))
            → (n : ℕ) × (r : ℕ) × (answer ≡ values (n ∷ p.signals.observed ∷ order_number p.order ∷ r ∷ [])) × Controller p n r cells
        otherwise f = at (solution p) view refl
          where
            at : (s : Solution) → Solving p s → solution p ≡ s
                → (n : ℕ) × (r : ℕ) × (answer ≡ values (n ∷ p.signals.observed ∷ order_number p.order ∷ r ∷ [])) × Controller p n r cells
            at s (states m) e = absurd (few_states m)
            at s (beliefs g m) e = absurd (few_beliefs m)
            at s (none small u) e = absurd (f (unrealizable.1 u))
            at s (table small n r t c one) e = (n, r, is_told ∙ ap told e, subst (Controller p n r) (sym (are_cells ∙ ap cells_of e)) c)

-- a table that is due is the controller of a problem that the text denotes
pub due_table : (work room : ℕ) (source : List ℕ) (n observed r : ℕ) (o : Order) (t : List ℕ)
    → SolvedAs work room source (values (n ∷ observed ∷ order_number o ∷ r ∷ [])) t
    → (p : Problem) × Denotes source p × (observed ≡ p.signals.observed) × (o ≡ p.order) × Controller p n r t
due_table work room source n observed r o t d = at (values (n ∷ observed ∷ order_number o ∷ r ∷ [])) t d refl
  where
    at : (a : Told) (t : List ℕ) → SolvedAs work room source a t → a ≡ values (n ∷ observed ∷ order_number o ∷ r ∷ [])
        → (p : Problem) × Denotes source p × (observed ≡ p.signals.observed) × (o ≡ p.order) × Controller p n r t
    at a t (due.short_memory s) e = told_apart e
    at a t (due.bad_source f number place x) e = told_apart e
    at a t (due.too_many_states_lem f p d m) e = told_apart e
    at a t (due.too_many_beliefs_lem f p d s m) e = told_apart e
    at a t (due.unrealizable f p d small u) e = told_apart e
    at a t (due.table f p d small m q cells c) e =
        let is_n : m ≡ n = cc in
        let is_r : q ≡ r = cc in
        let is-observed : observed ≡ p.signals.observed = cc in
        let is_o = one_order o p.order cc in
        (p, d, is-observed, is_o, rw (← is_n, ← is_r) c)

-- what a table is good for
pub plays : (p : Problem) (n r : ℕ) (t : List ℕ) → Controller p n r t
    → IsStrategy (game_of p) (table_strategy p.order t)
    × ((play : Play (game_of p)) → (m : ℕ) × (m ≤ r) × Steps (table_strategy p.order t) play m
    × Satisfies (run (game_of p) (table_strategy p.order t) play m) p)
    × ((play : Play (game_of p)) × Steps (table_strategy p.order t) play r)
    × ((σ : Strategy p.order) → IsStrategy (game_of p) σ → Wins (game_of p) σ → (play : Play (game_of p)) × (m : ℕ) × Steps σ play m × (r ≤ m))
plays p n r t c =
    let o = c.solves.optimal in (
      o.is_strategy,
      λ play. let (m, st, true_trace) = o.wins play in (m, o.worst.at_most play m st, st, true_trace),
      o.worst.reached,
      o.least,
    )

-- what its last cells say
pub ranks : (p : Problem) (n r : ℕ) (t : List ℕ) (c : Controller p n r t)
    → ((i : ℕ) → i < n
    → RankIs p.order (game_of p).choices (game_of p).observations (FinalBelief p) (c.is_table.history i) (rank_cell p.order t i))
    × (rank_cell p.order t 0 ≡ r)
ranks p n r t c = (c.is_table.rank, c.solves.first)

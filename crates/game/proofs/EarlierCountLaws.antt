-- What was answered while beliefs behind a final one counted too is answered still, but for number 10.
-- Assumes nothing.
use Prim.Native.Nat.{ℕ, suc}
use native.Mathlib.Omega.{arith}
use mathlib.Core.Path.{◌≡◌, refl, sym, ap, ◌∙◌}
use mathlib.Core.Logic.{◌↔◌, inl, inr}
use mathlib.Core.Bool.{Bool}
use mathlib.Core.List.{List}
use lib.Pow.{pow_pos}
use Rattle.basics.specs.Reach.{Listing, closed, over}
use Rattle.basics.proofs.Booleans.{test}
use Rattle.basics.proofs.ReachLaws.{over_iff}
use Rattle.lines.specs.Refusal.{Told, refused}
use Rattle.lines.proofs.RefusalLaws.{told_apart, one_number}
use Rattle.rules.specs.Within.{counts_in, Few}
use Rattle.rules.specs.Problem.{Problem, Outcome, accepted, problem_parts, read_problem}
use Rattle.rules.specs.Problem as reading
use Rattle.rules.specs.Denotes.{Denotes}
use Rattle.rules.proofs.DenotesLaws.{read_iff_denotes}
use Rattle.search.specs.PatternSet.{PatternSet}
use Rattle.search.specs.ReachableSets.{same_set}
use Rattle.search.proofs.ReachableSetsLaws.{same_set_says}
use Rattle.play.specs.Limits.{belief_limit}
use Rattle.play.specs.Rank.{Arena}
use Rattle.play.specs.Belief.{Belief}
use Rattle.play.specs.Answer.{all_moves, positions, solved, unrealizable}
use Rattle.play.specs.EarlierCount.{earlier_positions}
use Rattle.play.proofs.KeptAnswers.{answer_kept}
use Rattle.game.specs.Solution.{game_of, problem_states, beliefs_of, Solution, too_many_states, too_many_beliefs, verdict, solution_of, solution_from, solution}
use Rattle.game.specs.Believed.{ManyStates}
use Rattle.game.specs.SolvedAs.{solved_of, solved_from, solved_by, told_solved, told_by, is_short, cells_of, cells_from, cells_by, Short}
use Rattle.game.specs.EarlierCount.{EarlierManyBeliefs, earlier_from, earlier_solution, earlier_read, earlier_told, earlier_rows, earlier_cells}
use Rattle.game.proofs.SolutionCases.{few_choices, few_observations}
use Rattle.game.proofs.BelievedLaws.{many_states_lem, few_states, earlier_beliefs_iff}
use Rattle.game.proofs.SolvedAsLaws.{is_long, few_signals}

-- ---- a problem's solution

module _ (p : Problem) where
  abbrev choices : ℕ
  choices = (game_of p).choices

  abbrev observations : ℕ
  observations = (game_of p).observations

  module _ (few : Few p.signals) where
    from_beliefs : (xs : List PatternSet) (l : Listing Belief) → earlier_positions (beliefs_of p xs) same_set choices observations belief_limit ≡ l
        → (¬ (solution_of p.order (beliefs_of p xs) same_set choices observations l ≡ too_many_beliefs))
        → solution_of p.order (beliefs_of p xs) same_set choices observations (positions (beliefs_of p xs) same_set choices observations belief_limit)
        ≡ solution_of p.order (beliefs_of p xs) same_set choices observations l
    from_beliefs xs (closed all) e not_many =
        let (fewer, is, kept) = answer_kept (beliefs_of p xs) same_set same_set_says choices observations p.order (pow_pos p.signals.observed)
        (few_choices p few) (few_observations p few) belief_limit all e in
        ap (solution_of p.order (beliefs_of p xs) same_set choices observations) is ∙ ap verdict kept
    from_beliefs xs over e not_many = absurd (not_many refl)

    from_states : (l : Listing PatternSet) → (¬ (earlier_from p l ≡ too_many_beliefs))
        → solution_from p.order (problem_parts p) (counts_in p.signals) l ≡ earlier_from p l
    from_states (closed xs) not_many = from_beliefs xs (earlier_positions (beliefs_of p xs) same_set choices observations belief_limit) refl not_many
    from_states over not_many = refl

    pub solution_kept : (¬ (earlier_solution p ≡ too_many_beliefs)) → solution p ≡ earlier_solution p
    solution_kept = from_states (problem_states p)

  -- ---- its number 10

  beliefs_over : (A : Arena) (same : A.K → A.K → Bool) (l : Listing A.K) → solution_of p.order A same choices observations l ≡ too_many_beliefs → l ≡ over
  beliefs_over A same (closed all) q = let z : ◌≡◌ {A = ℕ} 0 1 = cc in absurd (omega arith)
  beliefs_over A same over q = refl

  many_earlier : (l : Listing PatternSet) → problem_states p ≡ l → (earlier_from p l ≡ too_many_beliefs) ↔ ((¬ ManyStates p) × EarlierManyBeliefs p)
  many_earlier (closed xs) e =
      let A = beliefs_of p xs in
      let law = over_iff same_set same_set_says (all_moves A same_set choices observations) A.start belief_limit in
      let counted = earlier_beliefs_iff p xs e (suc belief_limit) in (
        λ q. (few_states p xs e, counted.0 (law.0 (beliefs_over A same_set (earlier_positions A same_set choices observations belief_limit) q))),
        λ m. ap (solution_of p.order A same_set choices observations) (law.1 (counted.1 m.1)),
      )
  many_earlier over e = (
    λ q. let z : ◌≡◌ {A = ℕ} 0 1 = cc in absurd (omega arith),
    λ m. absurd (m.0 ((many_states_lem p).0 e)),
  )

-- ---- the whole call

module _ (source : List ℕ) (work room : ℕ) where
  -- the same answer is told, and the same cells are written
  abbrev Kept : Type 0
  Kept = (told_by work room source ≡ earlier_told work room source) × (cells_by work room source ≡ earlier_cells work room source)

  abbrev told : Problem → Solution → Told
  told p s = told_solved (solved_of p.order p.signals.observed s)

  -- number 10 is told of too many beliefs alone
  when_many : (p : Problem) (s : Solution) → told p s ≡ refused 10 0 → s ≡ too_many_beliefs
  when_many p too_many_states e = absurd (omega (arith, one_number e))
  when_many p too_many_beliefs e = refl
  when_many p (verdict (solved n r cells)) e = told_apart (sym e)
  when_many p (verdict unrealizable) e = absurd (omega (arith, one_number e))

  read_kept : (o : Outcome) → read_problem source ≡ o → (¬ (told_solved (earlier_read o) ≡ refused 10 0))
      → (told_solved (solved_from o) ≡ told_solved (earlier_read o)) × (cells_from o ≡ earlier_rows o)
  read_kept (accepted p) e not_many =
      let kept = solution_kept p (few_signals source p e) (λ q. not_many (ap (told p) q)) in
      (ap (told p) kept, ap cells_of kept)
  read_kept (reading.refused r) e not_many = (refl, refl)

  pub answers_kept : (¬ (earlier_told work room source ≡ refused 10 0)) → Kept
  unfolding solved_by cells_by earlier_told earlier_cells
  answers_kept not_many =
      elim (test (is_short work room)) [
        | inl t ↦ rw t (refl, refl)
        | inr f ↦ rw f (read_kept (read_problem source) refl (rw f at not_many))
      ]

  told_earlier : (¬ Short work room) → (p : Problem) → Denotes source p → earlier_told work room source ≡ told p (earlier_solution p)
  unfolding earlier_told
  told_earlier long p d = rw (is_long work room long) (ap (λ z. told_solved (earlier_read z)) ((read_iff_denotes source p).1 d))

  pub earlier_too_many : (¬ Short work room) → (p : Problem) → Denotes source p
      → (earlier_told work room source ≡ refused 10 0) ↔ ((¬ ManyStates p) × EarlierManyBeliefs p)
  earlier_too_many long p d =
      let law = many_earlier p (problem_states p) refl in
      let is_told = told_earlier long p d in
      (λ e. law.0 (when_many p (earlier_solution p) (sym is_told ∙ e)), λ m. is_told ∙ ap (told p) (law.1 m))

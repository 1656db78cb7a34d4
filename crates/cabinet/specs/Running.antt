-- A run of the cabinet: started once, then stepped with one observation after another.
-- Assumes nothing.
use Rattle.lines.specs.declared.refusal.Refusal.{Refusal}
use Rattle.std.specs.Prelude.{ℕ, suc, ◌≤◌, ◌<◌, ◌≡◌, List, [], ◌∷◌, ◌++◌, Result, Ok, Err}
use Rattle.basics.specs.Lists.{tabulate}
use Rattle.basics.specs.declared.order.Order.{Order}
use Rattle.basics.specs.declared.order.Order.TheVariants.{Set, Read}
use Rattle.lines.specs.declared.refusal.Refusal.TheVariants.{Stopped}
use Rattle.play.specs.Game.{Game, Play, seen, Answer as StrategyAnswer, chosen, Strategy, choose, stop}
use Rattle.tables.specs.declared.shape.Shape.{Shape}
use Rattle.stepping.specs.declared.position.Position.{Position}
use Rattle.stepping.specs.declared.position.Answer.{Answer}
use Rattle.stepping.specs.declared.position.Answer.TheVariants.{Choice, Stop, Ready}
use Rattle.stepping.specs.declared.position.Moved.{Moved}
use Rattle.stepping.specs.Position.{start_of, step_of}

module _ (t : List ℕ) (shape : Shape) where
  -- stepped with a list of observations, oldest first
  abbrev pub step_all : Moved → List ℕ → Moved
  step_all m [] = m
  step_all m (s ∷ h) = step_all (step_of t shape s m.position) h

  -- the answer to the last of them, or to the start where there is none
  abbrev pub answer_to : Position → List ℕ → Result Answer Refusal
  answer_to p h = (step_all (start_of t shape p) h).answer

-- how many observations the cabinet has been given when it tells the choice of step m: under `Read` that step's own too
abbrev pub told_after : Order → ℕ → ℕ
told_after Set m = m
told_after Read m = suc m

-- the answers that set nothing: under `Read` the first, to the start, is that it is ready; under `Set` the last is stop
abbrev pub Opens : Order → (List ℕ → Result Answer Refusal) → Type 0
Opens Set answers = Unit {0}
Opens Read answers = answers [] ≡ Ok Ready

abbrev pub Closes : Order → (List ℕ → Result Answer Refusal) → List ℕ → Type 0
Closes Set answers h = answers h ≡ Ok Stop
Closes Read answers h = Unit {0}

-- Started at any old position and stepped with the observations of a play, the cabinet answers with a choice step by step, the one
-- that the strategy makes; after r steps at most it stands on a stop row and takes no further observation; it refuses nothing on the way;
-- and the trace that it has made, of its choices and the play's values, is true.
pub record Runs (G : Game) {o : Order} (σ : Strategy o) (r : ℕ) (answers : List ℕ → Result Answer Refusal) (play : Play G) : Type 0 where
  pub steps : ℕ
  pub choices : ℕ → ℕ
  pub opens : Opens o answers
  pub goes : (m : ℕ) → m < steps → (answers (seen play (told_after o m)) ≡ Ok (Choice (choices m)))
      × ((a : StrategyAnswer o) × (σ (seen play m) ≡ choose a) × (chosen o a (play m).observation ≡ choices m))
  pub closes : Closes o answers (seen play steps)
  pub stops : σ (seen play steps) ≡ stop
  -- one more observation, whatever it is, is refused
  pub ends : (s : ℕ) → answers (seen play steps ++ (s ∷ [])) ≡ Err Stopped
  pub within : steps ≤ r
  pub holds : G.IsTrue (tabulate steps (λ i. G.letter (choices i) (play i).observation (play i).hidden))

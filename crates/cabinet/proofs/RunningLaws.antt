-- A cabinet that runs a table laid out as the solver lays it does what the table says, read as a strategy.
-- Assumes nothing.
use Rattle.lines.specs.declared.refusal.Refusal.{Refusal}
use Rattle.std.specs.Prelude.{Result, Ok, Err}
use Prim.Native.Nat.{ℕ, zero, suc, ◌*◌, ◌^◌, ◌≤◌, ◌<◌, zero-le, suc-le-suc}
use native.Mathlib.Omega.{arith}
use mathlib.Core.Path.{◌≡◌, refl, sym, ap, ◌∙◌, subst}
use mathlib.Core.Bool.{Bool, true, false}
use mathlib.Core.List.{List, [], ◌∷◌, ◌++◌}
use lib.ListN.{take}
use borrow.Author.Tests.{eq-eqb, eqb-false, lt-ltb}
use Rattle.basics.specs.Limits.{kind_limit}
use Rattle.basics.specs.declared.order.Order.{Order}
use Rattle.basics.specs.declared.order.Order.TheVariants.{Set, Read}
use Rattle.basics.proofs.Booleans.{and_true}
use Rattle.basics.proofs.ListsLaws.{tabulate_suc}
use Rattle.lines.specs.declared.refusal.Refusal.TheVariants.{Stopped}
use Rattle.play.specs.Limits.{belief_limit, side_limit}
use Rattle.play.specs.Cells.{row_size, stop_cell, first_cell, is_stop, choice_cell, next_cell}
use Rattle.play.proofs.CellsLaws.{choice_taken, next_taken, stop_taken}
use Rattle.tables.specs.declared.shape.Shape.{Shape}
use Rattle.play.specs.Game.{Game, Play, seen, Answer as StrategyAnswer, chosen, Strategy, Decision, choose, stop, GoesOn, choice_of, Optimal}
use Rattle.play.specs.Rank.{answer_of}
use Rattle.play.specs.Table.{read_from, table_strategy, Laid}
use Rattle.play.proofs.Plans.{rest}
use Rattle.wellformed.proofs.WellFormedLaws.{side_le}
use Rattle.stepping.specs.declared.position.Position.{Position}
use Rattle.stepping.specs.declared.position.Answer.{Answer}
use Rattle.stepping.specs.declared.position.Answer.TheVariants.{Choice}
use Rattle.stepping.specs.declared.position.Moved.{Moved}
use Rattle.stepping.specs.Position.{move_to, start_at, move_from, is_standing, is_held, is_holding, start_of, step_of, Standing}
use Rattle.cabinet.specs.Running.{step_all, answer_to, told_after, Opens, Closes, Runs}
use Rattle.stepping.proofs.PositionLaws.{standing_says}
use Rattle.cabinet.proofs.LaidRows.{standing}

-- one observation more
steps_more : (t : List ℕ) (shape : Shape) (h : List ℕ) (m : Moved) (s : ℕ)
    → step_all t shape m (h ++ (s ∷ [])) ≡ step_of t shape s (step_all t shape m h).position
steps_more t shape [] m s = refl
steps_more t shape (k ∷ h) m s = steps_more t shape h (step_of t shape k m.position) s

-- ---- a row, read as a decision

module _ (o : Order) (t : List ℕ) (row : ℕ) where
  pub row_goes : (a : StrategyAnswer o) → read_from o t row [] ≡ choose a → (is_stop o t row ≡ false) × (answer_of o (choice_cell o t row) ≡ a)
  row_goes a = at (is_stop o t row)
    where
      at : (b : Bool) → ◌≡◌ {A = Decision o} (elim b [ true ↦ stop | false ↦ choose (answer_of o (choice_cell o t row)) ]) (choose a)
          → (b ≡ false) × (answer_of o (choice_cell o t row) ≡ a)
      at true e = let z : ◌≡◌ {A = ℕ} 0 1 = cc in absurd (omega arith)
      at false e = (refl, cc)

  row_stops : read_from o t row [] ≡ stop → is_stop o t row ≡ true
  row_stops = at (is_stop o t row)
    where
      at : (b : Bool) → ◌≡◌ {A = Decision o} (elim b [ true ↦ stop | false ↦ choose (answer_of o (choice_cell o t row)) ]) stop → b ≡ true
      at true e = refl
      at false e = let z : ◌≡◌ {A = ℕ} 0 1 = cc in absurd (omega arith)

  -- one observation on
  row_next : is_stop o t row ≡ false → (s : ℕ) (h : List ℕ) → read_from o t row (s ∷ h) ≡ read_from o t (next_cell o t row s) h
  row_next f s h = rw (f, read_from)

-- the choice at an observation, of the choices of a row
chosen_at : (o : Order) (t : List ℕ) (row s : ℕ) → chosen o (answer_of o (choice_cell o t row)) s ≡ choice_cell o t row s
chosen_at Set t row s = refl
chosen_at Read t row s = refl

-- ---- on the way: on a row; under `Set` its choice stands, and is answered

abbrev At : Order → List ℕ → ℕ → Moved → Type 0
At Set t row m = m ≡ move_to t row
At Read t row m = m.position.row ≡ row

module _ (t : List ℕ) where
  at_start : (o : Order) → At o t 0 (start_at o t)
  at_start Set = refl
  at_start Read = refl

  at_next : (o : Order) (row s : ℕ) → At o t (next_cell o t row s) (move_from o t row s)
  at_next Set row s = refl
  at_next Read row s = refl

  at_row : (o : Order) (row : ℕ) (m : Moved) → At o t row m → m.position.row ≡ row
  at_row Set row m e = ap (λ (m : Moved). m.position.row) e
  at_row Read row m e = e

  at_held : (o : Order) (row : ℕ) (m : Moved) → At o t row m → is_held o t m.position ≡ true
  at_held Set row m e = rw e (eq-eqb (first_cell Set t row) (first_cell Set t row) refl)
  at_held Read row m e = refl

  -- what is answered where the row goes on: its choice, under `Read` for the observation, once that is read
  at_goes : (o : Order) (row s : ℕ) → is_stop o t row ≡ false → (after : ℕ → Moved) (k : ℕ) → At o t row (after k)
      → after (suc k) ≡ move_from o t row s → (after (told_after o k)).answer ≡ Ok (Choice (choice_cell o t row s))
  at_goes Set row s f after k a e = rw (a, f) refl
  at_goes Read row s f after k a e = ap (λ (m : Moved). m.answer) e

  -- where it stops
  at_stop : (o : Order) (row : ℕ) → is_stop o t row ≡ true → (answers : List ℕ → Result Answer Refusal) (h : List ℕ) (m : Moved) → answers h ≡ m.answer
      → At o t row m → Closes o answers h
  at_stop Set row e answers h m q a = q ∙ rw (a, e) refl
  at_stop Read row e answers h m q a = tt

  -- at the start, where row 0 goes on
  at_first : (o : Order) → is_stop o t 0 ≡ false → (answers : List ℕ → Result Answer Refusal) → answers [] ≡ (start_at o t).answer → Opens o answers
  at_first Set f answers q = tt
  at_first Read f answers q = q ∙ rw f refl

module _ (G : Game) (shape : Shape) (t : List ℕ) (few_choices : G.choices ≤ side_limit) (few_observed : shape.observed ≤ kind_limit)
    (declared : G.observations ≡ 2 ^ shape.observed) (some : 0 < shape.rows) (within : shape.rows ≤ belief_limit)
    (laid : Laid shape.order G.choices G.observations shape.rows (take (shape.rows * row_size shape.order) t)) where
  abbrev o : Order
  o = shape.order

  abbrev n : ℕ
  n = shape.rows

  -- the rows in use
  abbrev T : List ℕ
  T = take (n * row_size o) t

  stands : (i : ℕ) → i < n → Standing t shape i
  stands =
      standing G.choices shape t few_choices few_observed some within (subst (λ (k : ℕ). Laid o G.choices k n T) declared laid)

  seen_below : (play : Play G) (k : ℕ) → (play k).observation < 2 ^ shape.observed
  seen_below play k = subst (λ m. (play k).observation < m) declared (play k).observation_below

  few_seen : (play : Play G) (k : ℕ) → (play k).observation < side_limit
  few_seen play k = omega (arith, side_le shape.observed few_observed, seen_below play k)

  starts : (old : Position) → start_of t shape old ≡ start_at o t
  unfolding start_of
  starts old = rw ((standing_says t shape 0).1 (stands 0 some))

  module _ (i : ℕ) (h : i < n) (m : Moved) (a : At o t i m) where
    holding : is_holding t shape m.position ≡ true
    holding =
        and_true (subst (λ row. is_standing t shape row ≡ true) (sym (at_row t o i m a)) ((standing_says t shape i).1 (stands i h)))
        (at_held t o i m a)

    -- on to the next row, or stopped
    goes_on_lem : is_stop o t i ≡ false → (s : ℕ) → s < 2 ^ shape.observed → step_of t shape s m.position ≡ move_from o t i s
    unfolding step_of
    goes_on_lem f s b = rw (holding, at_row t o i m a, f, lt-ltb s (2 ^ shape.observed) b) refl

    stays : is_stop o t i ≡ true → (s : ℕ) → (step_of t shape s m.position).answer ≡ Err Stopped
    unfolding step_of
    stays e s = rw (holding, at_row t o i m a, e) refl

  -- the row that the observations lead to, as long as the strategy goes on: the cabinet is there, and there the strategy is read on
  leads : (m : ℕ) (play : Play G) (i : ℕ) → i < n → (d : Moved) → At o t i d → GoesOn (read_from o T i) play m
      → (j : ℕ) × (j < n) × At o t j (step_all t shape d (seen play m)) × (read_from o T i (seen play m) ≡ read_from o T j [])
  leads zero play i h d a g = (i, h, a, refl)
  leads (suc m) play i h d a g =
      let s = (play 0).observation in
      let (c, q) = g 0 (suc-le-suc zero-le) in
      let f = (row_goes o T i c q).0 in
      let goes = sym (stop_taken o n t i h) ∙ f in
      let next = ((stands i h).good.formed.goes s (eqb-false (first_cell o t i) stop_cell goes, seen_below play 0)).next in
      let on : (k : List ℕ) → read_from o T i (s ∷ k) ≡ read_from o T (next_cell o t i s) k = λ k.
      row_next o T i f s k ∙ ap (λ (row : ℕ). read_from o T row k) (next_taken o n t i h s (few_seen play 0)) in
      let there = subst (At o t (next_cell o t i s)) (sym (goes_on_lem i h d a goes s (seen_below play 0))) (at_next t o i s) in
      let (j, l, at, same) = leads m (rest play) (next_cell o t i s) next (step_of t shape s d.position) there
      (λ k b. let (c, q) = g (suc k) (suc-le-suc b) in (c, sym (on (seen (rest play) k)) ∙ q)) in
      (j, l, at, on (seen (rest play) m) ∙ same)

  -- the strategy that the rows are
  abbrev σ : Strategy o
  σ = table_strategy o T

  module _ (old : Position) (play : Play G) where
    abbrev observed : ℕ → ℕ
    observed k = (play k).observation

    -- after so many observations
    abbrev after : ℕ → Moved
    after k = step_all t shape (start_of t shape old) (seen play k)

    after_more : (k : ℕ) → after (suc k) ≡ step_of t shape (observed k) (after k).position
    after_more k =
        ap (step_all t shape (start_of t shape old)) (tabulate_suc k observed)
        ∙ steps_more t shape (seen play k) (start_of t shape old) (observed k)

    from_start : (m : ℕ) → GoesOn σ play m → (j : ℕ) × (j < n) × At o t j (after m) × (σ (seen play m) ≡ read_from o T j [])
    from_start m = leads m play 0 some (start_of t shape old) (subst (At o t 0) (sym (starts old)) (at_start t o))

    -- at a step that it takes, it tells the strategy's choice
    tells : (k : ℕ) → GoesOn σ play k → (a : StrategyAnswer o) → σ (seen play k) ≡ choose a
        → (after (told_after o k)).answer ≡ Ok (Choice (chosen o a (observed k)))
    tells k g a q =
        let s = observed k in
        let (j, l, at, same) = from_start k g in
        let (f, is) = row_goes o T j a (sym same ∙ q) in
        let goes = sym (stop_taken o n t j l) ∙ f in
        let cells : choice_cell o t j s ≡ chosen o a s =
        sym (choice_taken o n t j l s (few_seen play k)) ∙ sym (chosen_at o T j s) ∙ ap (λ (a : StrategyAnswer o). chosen o a s) is in
        at_goes t o j s goes after k at (after_more k ∙ goes_on_lem j l (after k) at goes s (seen_below play k)) ∙ ap (λ c. Ok (Choice c)) cells

  pub runs : (r : ℕ) → Optimal G σ r → (old : Position) (play : Play G) → Runs G σ r (answer_to t shape old) play
  runs r best old play =
      let (m, (e, g), true_trace) = best.wins play in
      let (a, first) = best.is_strategy.opens in
      let (j, l, at, same) = from_start old play m g in
      let last = sym (stop_taken o n t j l) ∙ row_stops o T j (sym same ∙ e) in
      record {
        steps = m;
        choices = λ k. choice_of (σ (seen play k)) (play k).observation;
        opens = at_first t o (sym (stop_taken o n t 0 some) ∙ (row_goes o T 0 a first).0) (answer_to t shape old)
            (ap (λ (d : Moved). d.answer) (starts old));
        goes = λ k b.
            let (a, q) = g k b in
            let is : chosen o a (play k).observation ≡ choice_of (σ (seen play k)) (play k).observation =
            sym (ap (λ (d : Decision o). choice_of d (play k).observation) q) in
            (tells old play k (λ i h. g i (omega arith)) a q ∙ ap (λ c. Ok (Choice c)) is, (a, q, is));
        closes = at_stop t o j last (answer_to t shape old) (seen play m) (after old play m) refl at;
        stops = e;
        ends = λ s.
            ap (λ (d : Moved). d.answer) (steps_more t shape (seen play m) (start_of t shape old) s)
            ∙ stays j l (after old play m) at last s;
        within = best.worst.at_most play m (e, g);
        holds = true_trace;
      }

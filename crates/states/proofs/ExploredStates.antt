-- The search over letters by number and map is the search for the states of the formula.
-- Assumes nothing.
use Rattle.std.specs.Prelude.{Option}
use Prim.Native.Nat.{ℕ, ◌+◌, ◌≤◌, ◌<◌}
use native.Mathlib.Nat.{le_refl}
use mathlib.Core.Path.{◌≡◌, refl, sym, ap, ◌∙◌}
use mathlib.Core.List.{List, [], ◌∷◌, map, flat_map}
use lib.Pow.{pow_mono}
use lib.ListN.{length, get_or}
use lib.Seq.{take-length}
use Rattle.basics.specs.Lists.{tabulate, below, padded}
use Rattle.formula.specs.declared.parts.Part.{Part}
use Rattle.basics.specs.Limits.{signal_limit}
use Rattle.formula.specs.Letter.{Counts}
use Rattle.search.specs.Limits.{state_limit, letter_limit}
use Rattle.search.specs.PatternSet.{PatternSet, member, set_of, start, next, next_all}
use Rattle.obligations.specs.Obligation.{operators_of, back}
use Rattle.basics.specs.Reach.{Listing, closed, over, index_in, reachable}
use Rattle.search.specs.ReachableSets.{same_set, next_sets, reachable_sets}
use Rattle.obligations.specs.Letters.{letter_count}
use Rattle.states.specs.States.{next_state, states_of}
use Rattle.search.specs.Maps.{map_at, map_in}
use Rattle.states.specs.Planes.{MapsOf}
use Rattle.basics.specs.Successors.{row_over}
use Rattle.search.specs.Slots.{explored_of}
use Rattle.search.specs.Memory.{row_of, sets_of, successors_of}
use Rattle.basics.proofs.ListsLaws.{tabulate_ext, table_take, map_table}
use Rattle.search.proofs.PatternSetLaws.{set_of_ext, next_all_one}

-- the same of all numbers below the length and of all entries
map_numbers : {B : Type 0} (f g : ℕ → B) (l : List ℕ) (n : ℕ) → n ≡ length l → ((i : ℕ) → i < n → f i ≡ g (get_or l i 0)) → map f (below n) ≡ map g l
map_numbers f g l n e h =
    map_table f n (λ i. i) ∙ tabulate_ext n f (λ i. g (get_or l i 0)) h ∙ ap (λ k. tabulate k (λ i. g (get_or l i 0))) e
    ∙ sym (ap (map g) (sym (table_take (length l) l (le_refl (length l)) ∙ take-length l)) ∙ map_table g (length l) (λ i. get_or l i 0))

module _ (ps : List Part) (letters : List ℕ) (d n : ℕ) (maps firsts : List ℕ) (is-d : d ≡ operators_of ps) (is_n : n ≡ length letters)
    (m : MapsOf ps letters d n maps firsts) where
  abbrev by_map : ℕ → ℕ → ℕ
  by_map = map_in maps firsts d

  next_same : (s : PatternSet) (a : ℕ) → a < n → next d by_map s a ≡ next d (back ps) s (get_or letters a 0)
  unfolding next
  next_same s a h = set_of_ext d _ _ (λ p l. ap (member s) (m.carries a p h))

  -- as one letter's set is made, by the map that is kept for it
  pub made_same : (s : PatternSet) (a : ℕ) → a < n → get_or firsts a 0 ≡ a → next_all d (map_at maps d) s (a ∷ []) ≡ next_state ps s (get_or letters a 0)
  unfolding map_in next next_state
  made_same s a h own =
      next_all_one d (map_at maps d) s a ∙ ap (λ k. set_of d (λ p. member s (map_at maps d k p))) (sym own) ∙ next_same s a h
      ∙ ap (λ k. next k (back ps) s (get_or letters a 0)) is-d

  steps_same : (s : PatternSet) → next_sets d by_map (below n) s ≡ next_sets d (back ps) letters s
  unfolding next_sets
  steps_same s = map_numbers (next d by_map s) (next d (back ps) s) letters n is_n (next_same s)

  states_same : (limit : ℕ) → reachable_sets d by_map (below n) limit ≡ states_of ps letters limit
  unfolding reachable_sets states_of
  states_same limit =
      ap (λ (f : PatternSet → List PatternSet). reachable same_set f (start d) limit) (λ i s. steps_same s i)
      ∙ ap (λ k. reachable_sets k (back ps) letters limit) is-d

  row_same : (xs : List PatternSet) (s : PatternSet) → row_of d by_map (below n) xs s ≡ row_of d (back ps) letters xs s
  unfolding row_over
  row_same xs s = map_numbers _ _ letters n is_n (λ a h. ap (λ t. index_in same_set t xs) (next_same s a h))

  successors_same : (l : Listing PatternSet) → successors_of d by_map (below n) l ≡ successors_of d (back ps) letters l
  successors_same (closed xs) = ap (λ (f : PatternSet → List ℕ). flat_map (λ s. padded letter_limit (f s)) xs) (λ i s. row_same xs s i)
  successors_same over = refl

  -- so what the search answers and leaves is that of the states
  pub explored : (r : Option ℕ) (x y : ℕ) (mem rows : List ℕ) → r ≡ explored_of (reachable_sets d by_map (below n) state_limit)
      → mem ≡ padded x (sets_of (reachable_sets d by_map (below n) state_limit))
      → rows ≡ padded y (successors_of d by_map (below n) (reachable_sets d by_map (below n) state_limit))
      → (r ≡ explored_of (states_of ps letters state_limit)) × ((mem ≡ padded x (sets_of (states_of ps letters state_limit)))
      × (rows ≡ padded y (successors_of d (back ps) letters (states_of ps letters state_limit))))
  explored r x y mem rows e f g =
      let s = states_same state_limit in
      let t = successors_same (reachable_sets d by_map (below n) state_limit) ∙ ap (successors_of d (back ps) letters) s in
      (e ∙ ap explored_of s, (f ∙ ap (λ l. padded x (sets_of l)) s, g ∙ ap (padded y) t))

-- nine signals have no more letters than there is room for
pub letters_few : (c : Counts) → c.outputs + c.observed + c.hidden ≤ signal_limit → letter_count c ≤ letter_limit
letters_few c h = pow_mono {i = c.outputs + c.observed + c.hidden} {j = signal_limit} h

-- The positions that count are those after the histories that can be and that pass through no final position, so they are counted by these.
-- Assumes nothing.
use Prim.Native.Nat.{ℕ, zero, suc, ◌<◌}
use native.Mathlib.Omega.{arith}
use mathlib.Core.Path.{◌≡◌, refl, sym, ap, ◌∙◌, subst}
use mathlib.Core.Logic.{◌↔◌, inl, inr}
use mathlib.Core.Bool.{Bool, false}
use mathlib.Core.List.Memᴰ
use mathlib.Core.List.{List, [], ◌∷◌}
use lib.ListN.{length, get_or}
use Rattle.basics.specs.Member.{◌∈◌}
use Rattle.basics.specs.Lists.{tabulate}
use Rattle.basics.specs.Reach.{Reached, reached_first, reached_step, AtLeast}
use Rattle.basics.proofs.Booleans.{test, clash}
use Rattle.basics.proofs.ListsLaws.{length_tabulate}
use Rattle.basics.proofs.MemberLaws.{in_tabulate, distinct_index, distinct_tabulate}
use Rattle.play.specs.Rank.{Arena}
use Rattle.play.specs.History.{History, Possible, onward, ProperPrefix, Unstopped, know, AtLeastBeliefs}
use Rattle.play.specs.Answer.{moves}
use Rattle.play.proofs.HistoryLaws.{possible_onward, know_onward, no_prefix, prefix_onward, prefix_later, possible_prefix, Tells}
use Rattle.play.proofs.AnswerLaws.{moves_iff, moves_cover}

module _ (A : Arena) (same : A.K → A.K → Bool) (choices observations : ℕ) where
  abbrev steps : A.K → List A.K
  steps = moves A same choices observations

  -- from k on the history passes through no final position
  abbrev Passes : A.K → History → Type 0
  Passes k h = (j : History) → ProperPrefix j h → A.final (know A k j) ≡ false

  abbrev Counts : History → Type 0
  Counts h = Possible choices observations h × Passes A.start h

  abbrev After : A.K → Type 0
  After x = (h : History) × Counts h × (know A A.start h ≡ x)

  -- a step leads from what comes after a history to what comes after a longer one
  after_step : (x y : A.K) → After x → y ∈ steps x → After y
  after_step x y (h, (v, p), e) m =
      let (f, (c, cb, s, sb, q)) = (moves_iff A same choices observations x y).0 m in (
        onward h c s,
        (
          possible_onward choices observations h c s v cb sb,
          λ j b. elim (prefix_onward j h c s b) [ inl i ↦ ap (λ t. A.final (know A A.start t)) i ∙ ap A.final e ∙ f | inr d ↦ p j d ],
        ),
        know_onward A A.start h c s ∙ ap (λ k. A.move k c s) e ∙ q,
      )

  reached_after : (x : A.K) → Reached steps A.start x → After x
  reached_after x reached_first = ([], (tt, λ j b. absurd (no_prefix j b)), refl)
  reached_after y (reached_step {x = x} r m) = after_step x y (reached_after x r) m

  after_reached : (h : History) → Possible choices observations h → (k : A.K) → Passes k h → Reached steps A.start k
      → Reached steps A.start (know A k h)
  after_reached [] v k p r = r
  after_reached (m ∷ h) v k p r =
      after_reached h v.2 (A.move k m.0 m.1) (λ j b. p (m ∷ j) (prefix_later m j h b))
      (reached_step r (moves_cover A same choices observations k (p [] (m, h, refl)) m.0 m.1 v.0 v.1))

  -- a history for each of the listed positions
  histories : (xs : List A.K) → ((x : A.K) → x ∈ xs → After x)
      → (hs : List History) × ((i : ℕ) → i < length xs → Counts (get_or hs i []) × (know A A.start (get_or hs i []) ≡ get_or xs i A.start))
  histories [] f = ([], λ i h. absurd (omega arith))
  histories (x ∷ xs) f =
      let (h, v, e) = f x (Memᴰ.head refl) in
      let (hs, rest) = histories xs (λ y m. f y (Memᴰ.tail m)) in
      (h ∷ hs, elim [ zero ↦ λ b. (v, e) | suc i ↦ λ b. rest i (omega arith) ])

  -- where `Same` and `Final` say of histories what is true of the positions after them
  module _ (Same : History → History → Type 0) (Final : History → Type 0) (tells : Tells A choices observations Same Final) where
    abbrev Counted : History → Type 0
    Counted h = Possible choices observations h × Unstopped Final h

    -- a history counts exactly if it passes through no final position
    to_counts : (h : History) → Counted h → Counts h
    to_counts h (v, u) = (
      v,
      λ j b.
          elim (test (A.final (know A A.start j))) [
            | inl t ↦ absurd (u j b ((tells.finals j (possible_prefix choices observations j h b v)).1 t))
            | inr f ↦ f
          ],
    )

    to_counted : (h : History) → Counts h → Counted h
    to_counted h (v, p) = (v, λ j b g. clash ((tells.finals j (possible_prefix choices observations j h b v)).0 g) (p j b))

    pub at_least_iff : (n : ℕ) → AtLeast steps A.start n ↔ AtLeastBeliefs Counted Same n
    at_least_iff n = (to, back)
      where
        to : AtLeast steps A.start n → AtLeastBeliefs Counted Same n
        to l =
            let (hs, f) = histories l.some (λ x m. reached_after x (l.sound x m)) in
            let at : (i : ℕ) → i < n → _ = λ i b. f i (subst (λ k. i < k) (sym l.count) b) in
            record {
              history = λ i. get_or hs i [];
              counted = λ i b. to_counted (get_or hs i []) (at i b).0;
              different = λ i j ib jb e.
                  distinct_index l.distinct i j A.start (subst (λ k. i < k) (sym l.count) ib) (subst (λ k. j < k) (sym l.count) jb)
                  (sym (at i ib).1 ∙ (tells.sames (get_or hs i []) (get_or hs j []) (at i ib).0.0 (at j jb).0.0).0 e ∙ (at j jb).1);
            }

        back : AtLeastBeliefs Counted Same n → AtLeast steps A.start n
        back l =
            let v : (i : ℕ) → i < n → Counts (l.history i) = λ i b. to_counts (l.history i) (l.counted i b) in
            let f : ℕ → A.K = λ i. know A A.start (l.history i) in
            record {
              some = tabulate n f;
              count = length_tabulate n f;
              distinct =
                  distinct_tabulate n f (λ i j ib jb e.
                  l.different i j ib jb ((tells.sames (l.history i) (l.history j) (v i ib).0 (v j jb).0).1 e));
              sound = λ x m.
                  let (i, b, e) = (in_tabulate n f x).0 m in
                  subst (Reached steps A.start) e (after_reached (l.history i) (v i b).0 A.start (v i b).1 reached_first);
            }

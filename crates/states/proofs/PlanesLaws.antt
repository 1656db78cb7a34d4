-- Planes of words, written one word, one block of letters and one plane at a time.
-- Assumes nothing.
use Prim.Native.Nat.{ℕ, zero, suc, ◌+◌, ◌-◌, ◌*◌, ◌/◌, ◌%◌, ◌≤◌, ◌<◌}
use native.Mathlib.Nat.{eq-or-lt_of_le, le_of_suc-le-suc}
use native.Mathlib.Numerals.{add-one}
use native.Mathlib.Omega.{arith}
use mathlib.Core.Path.{◌≡◌, refl, sym, ap, ap₂, ◌∙◌, subst}
use mathlib.Core.Logic.{◌⊎◌, inl, inr}
use mathlib.Core.List.{List, ◌++◌, append_assoc}
use lib.ListN.{length, get_or, take, drop, set}
use lib.Seq.{sets, length-sets, take_at, drop_at, drop-drop}
use borrow.Rule.Slice.PartMut.{put_mid}
use Rattle.formula.specs.declared.parts.Part.{Part}
use Rattle.basics.proofs.ListsLaws.{length_tabulate, get_d_tabulate, tabulate_append}
use Rattle.obligations.specs.Words.{back_lanes}
use Rattle.states.specs.Limits.{slot_size, plane_size}
use Rattle.states.specs.Planes.{slot_at, plane, planes_to}
use Rattle.basics.proofs.Stores.{get_d_sets_other, get_d_sets_same}
use Rattle.basics.proofs.Filling.{table_more}
use Rattle.basics.proofs.LentPart.{part_at, mid_sets}

module _ (ps : List Part) (letters : List ℕ) (w : ℕ) where
  -- one word of a plane
  abbrev word_at : ℕ → ℕ
  word_at y = back_lanes ps (get_or letters (y / slot_size) 0) w (y % slot_size)

  length_plane : (n : ℕ) → length (plane ps letters w n) ≡ n
  unfolding plane
  length_plane n = length_tabulate n word_at

  -- a plane written over some memory
  pub plane_none : (d : List ℕ) → d ≡ plane ps letters w 0 ++ drop 0 d
  unfolding plane
  plane_none d = refl

  pub plane_more : (y : ℕ) (d t : List ℕ) (r : ℕ) → y < length d → t ≡ plane ps letters w y ++ drop y d → r ≡ word_at y
      → set t y r ≡ plane ps letters w (y + 1) ++ drop (y + 1) d
  unfolding plane
  plane_more y d t r h e f = table_more y word_at d t r h e f

  -- a plane behind another, of letters that follow
  plane_append : (a n : ℕ) (more : List ℕ)
      → ((y : ℕ) → y < n → back_lanes ps (get_or more (y / slot_size) 0) w (y % slot_size) ≡ word_at (a + y))
      → plane ps letters w a ++ plane ps more w n ≡ plane ps letters w (a + n)
  unfolding plane
  plane_append a n more e = tabulate_append a n word_at (λ y. back_lanes ps (get_or more (y / slot_size) 0) w (y % slot_size)) e

  -- s letters from letter n on
  word_from : (n s y : ℕ) → y < s * slot_size
      → back_lanes ps (get_or (take (n + s - n) (drop n letters)) (y / slot_size) 0) w (y % slot_size) ≡ word_at (n * slot_size + y)
  word_from n s y h =
      let low : y / slot_size < s = omega arith in
      let place : n + y / slot_size ≡ (n * slot_size + y) / slot_size = omega arith in
      let slot : y % slot_size ≡ (n * slot_size + y) % slot_size = omega arith in
      ap₂ (λ a k. back_lanes ps a w k) (part_at n s letters (y / slot_size) low ∙ ap (λ i. get_or letters i 0) place) slot

  -- their words, lent as a part of the memory
  pub plane_block : (n s m : ℕ) (d t l : List ℕ) → n + s ≡ m → t ≡ plane ps letters w (n * slot_size) ++ drop (n * slot_size) d
      → l ≡ plane ps (take (n + s - n) (drop n letters)) w (s * slot_size)
      → put_mid (n * slot_size) (n * slot_size + s * slot_size - n * slot_size) t l ≡ plane ps letters w (m * slot_size) ++ drop (m * slot_size) d
  plane_block n s m d t l sum e f =
      ap (put_mid at size t) f
      ∙ ap₂ (λ x y. x ++ (new ++ drop size y)) (ap (take at) e ∙ take_at old (drop at d) at (length_plane at))
      (ap (drop at) e ∙ drop_at old (drop at d) at (length_plane at))
      ∙ sym (append_assoc old new (drop size (drop at d)))
      ∙ ap₂ (λ x y. x ++ y) (plane_append at (s * slot_size) more (word_from n s) ∙ ap (plane ps letters w) next)
      (drop-drop size at d ∙ ap (λ k. drop k d) (ap (λ k. at + k) exact ∙ next))
    where
      at : ℕ
      at = n * slot_size

      size : ℕ
      size = at + s * slot_size - at

      more : List ℕ
      more = take (n + s - n) (drop n letters)

      old : List ℕ
      old = plane ps letters w at

      new : List ℕ
      new = plane ps more w (s * slot_size)

      exact : size ≡ s * slot_size
      exact = omega arith

      next : at + s * slot_size ≡ m * slot_size
      next = omega arith

-- ---- planes, one behind another

-- the first m planes have the words of the first n letters
pub record Carried (ps : List Part) (letters : List ℕ) (m n : ℕ) (words : List ℕ) : Type 0 where
  pub word : (w a k : ℕ) → w < m → a < n → k < slot_size → get_or words (slot_at w a + k) 0 ≡ back_lanes ps (get_or letters a 0) w k

module _ (ps : List Part) (letters : List ℕ) (n : ℕ) (d : List ℕ) where
  pub planes_none : d ≡ planes_to ps letters n 0 d
  unfolding planes_to
  planes_none = refl

  -- one plane more, lent as a part of the memory
  pub planes_more : (w : ℕ) (t l : List ℕ) → t ≡ planes_to ps letters n w d → w * plane_size + plane_size ≤ length t → n * slot_size ≤ plane_size
      → l ≡ plane ps letters w (n * slot_size) ++ drop (n * slot_size) (take (w * plane_size + plane_size - w * plane_size) (drop (w * plane_size) t))
      → put_mid (w * plane_size) (w * plane_size + plane_size - w * plane_size) t l ≡ planes_to ps letters n (w + 1) d
  unfolding planes_to
  planes_more w t l e room few f =
      let new : List ℕ = plane ps letters w (n * slot_size) in
      let long = length_plane ps letters w (n * slot_size) in
      mid_sets t (w * plane_size) (w * plane_size + plane_size - w * plane_size) (n * slot_size) new l (omega arith) long (omega arith) f
      ∙ ap (λ u. sets u (w * plane_size) new) e ∙ sym (ap (λ k. planes_to ps letters n k d) (add-one w))

  length_planes : (m : ℕ) → length (planes_to ps letters n m d) ≡ length d
  unfolding planes_to
  length_planes zero = refl
  length_planes (suc w) = length-sets (planes_to ps letters n w d) (w * plane_size) (plane ps letters w (n * slot_size)) ∙ length_planes w

  carried_more : (w : ℕ) → suc w * plane_size ≤ length d → n * slot_size ≤ plane_size → Carried ps letters w n (planes_to ps letters n w d)
      → Carried ps letters (suc w) n (planes_to ps letters n (suc w) d)
  unfolding planes_to plane
  carried_more w room few c = record { word = λ v a k hv ha hk. at v a k ha hk (eq-or-lt_of_le (le_of_suc-le-suc hv)) }
    where
      old : List ℕ
      old = planes_to ps letters n w d

      new : List ℕ
      new = plane ps letters w (n * slot_size)

      here : (a k : ℕ) → a < n → k < slot_size → get_or (sets old (w * plane_size) new) (slot_at w a + k) 0 ≡ back_lanes ps (get_or letters a 0) w k
      here a k ha hk =
          let long : length new ≡ n * slot_size = length_plane ps letters w (n * slot_size) in
          let place : slot_at w a + k ≡ w * plane_size + (a * slot_size + k) = omega arith in
          let letter : (a * slot_size + k) / slot_size ≡ a = omega arith in
          let slot : (a * slot_size + k) % slot_size ≡ k = omega arith in
          ap (λ j. get_or (sets old (w * plane_size) new) j 0) place
          ∙ get_d_sets_same old (w * plane_size) new (a * slot_size + k) 0 (omega arith) (omega (arith, length_planes w))
          ∙ get_d_tabulate (n * slot_size) (word_at ps letters w) (a * slot_size + k) 0 (omega arith)
          ∙ ap₂ (λ i j. back_lanes ps (get_or letters i 0) w j) letter slot

      at : (v a k : ℕ) → a < n → k < slot_size → (v ≡ w) ⊎ (v < w)
          → get_or (sets old (w * plane_size) new) (slot_at v a + k) 0 ≡ back_lanes ps (get_or letters a 0) v k
      at v a k ha hk (inl q) = rw q (here a k ha hk)
      at v a k ha hk (inr h) =
          get_d_sets_other old (w * plane_size) new (slot_at v a + k) 0 (λ j b e. omega arith) ∙ c.word v a k h ha hk

  carried_to : (m : ℕ) → m * plane_size ≤ length d → n * slot_size ≤ plane_size → Carried ps letters m n (planes_to ps letters n m d)
  carried_to zero h few = record { word = λ v a k hv. absurd (omega arith) }
  carried_to (suc w) h few = carried_more w h few (carried_to w (omega arith) few)

  pub planes_carried : (m : ℕ) (t : List ℕ) → m * plane_size ≤ length d → n * slot_size ≤ plane_size → t ≡ planes_to ps letters n m d
      → Carried ps letters m n t
  planes_carried m t h few e = subst (Carried ps letters m n) (sym e) (carried_to m h few)

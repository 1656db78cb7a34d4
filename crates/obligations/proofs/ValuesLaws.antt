-- The words of all parts for a block of letters.
-- Assumes nothing.
use Prim.Native.Nat.{ℕ, zero, suc, ◌+◌, ◌-◌, ◌*◌, ◌≤◌, ◌<◌}
use native.Mathlib.Nat.{eq-or-lt_of_le, le_of_suc-le-suc}
use native.Mathlib.Numerals.{add-one}
use native.Mathlib.Omega.{arith}
use mathlib.Core.Path.{◌≡◌, refl, sym, ap, ap₂, ◌∙◌, subst}
use mathlib.Core.Logic.{◌⊎◌, inl, inr}
use mathlib.Core.Bool.{Bool}
use mathlib.Core.List.{List}
use lib.ListN.{length, get_or, set}
use lib.Seq.{sets, length-sets}
use Rattle.basics.specs.Bits.{bit}
use Rattle.formula.specs.Codes.{parts_in}
use Rattle.basics.specs.Limits.{word_size}
use Rattle.basics.specs.Lists.{tabulate}
use Rattle.basics.specs.Limits.{index_limit}
use Rattle.formula.specs.declared.parts.Part.{Part}
use Rattle.formula.specs.Parts.{part_at, reads, Ready, AllReady}
use Rattle.formula.specs.Values.{combine}
use Rattle.formula.proofs.ValuesLaws.{combine_reads}
use Rattle.formula.proofs.CodesLaws.{length_in}
use Rattle.basics.proofs.ListsLaws.{length_tabulate, get_d_tabulate, tabulate_suc}
use Rattle.obligations.specs.Obligation.{number_of, value_at}
use Rattle.obligations.specs.Words.{all_lanes, obligation_lanes, combine_lanes, value_lanes}
use Rattle.obligations.specs.Values.{Stored, block_size, part_lane, with_part, values_to}
use Rattle.obligations.proofs.WordsLaws.{bit_lanes, lanes_ext}
use Rattle.basics.proofs.Stores.{sets_snoc, get_d_sets_other, get_d_sets_same}
use Rattle.obligations.proofs.ObligationLaws.{value_at_step}

-- ---- one part's words, written while its operands' are read

-- the memory with the first x of them written
abbrev pub part_to : Part → ℕ → List ℕ → ℕ → List ℕ → ℕ → List ℕ
part_to q o letters i v x = sets v (i * block_size) (tabulate x (part_lane q o letters v))

module _ (q : Part) (o : ℕ) (letters : List ℕ) (i : ℕ) (v : List ℕ) where
  -- the operands' words for letter x are still as they were
  part_apart : (x n : ℕ) → x < block_size → get_or (part_to q o letters i v x) (n * block_size + x) 0 ≡ get_or v (n * block_size + x) 0
  part_apart x n h =
      get_d_sets_other v (i * block_size) (tabulate x (part_lane q o letters v)) (n * block_size + x) 0
      (λ y b e. omega (arith, length_tabulate x (part_lane q o letters v)))

  pub part_more : (x : ℕ) → x < block_size → (w : List ℕ) → w ≡ part_to q o letters i v x → (b : Bool) → b ≡ bit (get_or letters x 0) q.left
      → (s : ℕ) → s ≡ all_lanes b → (y : ℕ) → y ≡ combine_lanes q.kind s o (get_or w (q.left * block_size + x) 0) (get_or w (q.right * block_size + x) 0)
      → set w (i * block_size + x) y ≡ part_to q o letters i v (x + 1)
  unfolding part_lane
  part_more x h w e b eb s es y ey =
      rw (ey, es, eb, e, part_apart x q.left h, part_apart x q.right h, add-one, tabulate_suc, sets_snoc, length_tabulate)

  pub part_done : (x : ℕ) → x ≤ block_size → block_size ≤ x → (w : List ℕ) → w ≡ part_to q o letters i v x → w ≡ with_part q o letters i v
  unfolding with_part
  part_done x h n w e =
      let all : x ≡ block_size = omega arith in
      e ∙ ap (part_to q o letters i v) all

-- ---- the parts one after another

module _ (ps : List Part) (letters : List ℕ) (w : ℕ) (v : List ℕ) where
  pub values_none : (n : ℕ) → n ≡ 0 → v ≡ values_to ps letters w n v
  unfolding values_to
  values_none n e = rw e

  pub values_more : (n : ℕ) → ¬ (n ≡ 0) → (q : Part) (o m : ℕ) (u t : List ℕ) → q ≡ part_at ps (n - 1) → o ≡ obligation_lanes m w
      → m ≡ number_of ps (n - 1) → u ≡ values_to ps letters w (n - 1) v → t ≡ with_part q o letters (n - 1) u → t ≡ values_to ps letters w n v
  unfolding values_to
  values_more n some q o m u t eq eo em eu et =
      let i = n - 1 in
      let next : suc i ≡ n = omega arith in
      et ∙ rw (eq, eo, em, eu) refl ∙ ap (λ j. values_to ps letters w j v) next

  length_values : (n : ℕ) → length (values_to ps letters w n v) ≡ length v
  unfolding values_to with_part
  length_values zero = refl
  length_values (suc n) =
      let u = values_to ps letters w n v in
      length-sets u (n * block_size) (tabulate block_size (part_lane (part_at ps n) (obligation_lanes (number_of ps n) w) letters u)) ∙ length_values n

-- ---- what they are

-- the first n parts have their words, for block w of patterns
pub record Evaluated (ps : List Part) (letters : List ℕ) (w n : ℕ) (v : List ℕ) : Type 0 where
  pub value : (i x : ℕ) → i < n → x < block_size → get_or v (i * block_size + x) 0 ≡ value_lanes ps (get_or letters x 0) w i

-- a part's value, lane by lane, from those of its operands
combine_lanes_lem : (ps : List Part) (a w i x y : ℕ) → Ready ps i
    → (1 ≤ reads (part_at ps i).kind → x ≡ value_lanes ps a w (part_at ps i).left)
    → (2 ≤ reads (part_at ps i).kind → y ≡ value_lanes ps a w (part_at ps i).right)
    → combine_lanes (part_at ps i).kind (all_lanes (bit a (part_at ps i).left)) (obligation_lanes (number_of ps i) w) x y ≡ value_lanes ps a w i
unfolding combine_lanes all_lanes obligation_lanes value_lanes
combine_lanes_lem ps a w i x y e ex ey =
    let q : Part = part_at ps i in
    lanes_ext _ _ (λ j h.
    ap₂ (λ s o. combine q.kind s o (bit x j) (bit y j)) (bit_lanes _ j h) (bit_lanes _ j h)
    ∙ combine_reads q.kind (bit a q.left) (bit (w * word_size + j) (number_of ps i)) (bit x j) (value_at ps a (w * word_size + j) q.left) (bit y j)
    (value_at ps a (w * word_size + j) q.right)
    (λ b. ap (λ n. bit n j) (ex b) ∙ bit_lanes _ j h) (λ b. ap (λ n. bit n j) (ey b) ∙ bit_lanes _ j h)
    ∙ sym (value_at_step ps a (w * word_size + j) i e))

module _ (ps : List Part) (letters : List ℕ) (w : ℕ) where
  -- one more part
  evaluated_more : (i : ℕ) (v : List ℕ) → Ready ps i → i < index_limit → length v ≡ index_limit * block_size → Evaluated ps letters w i v
      → Evaluated ps letters w (suc i) (with_part (part_at ps i) (obligation_lanes (number_of ps i) w) letters i v)
  unfolding with_part part_lane
  evaluated_more i v f s e known = record { value = λ n x h l. at n x l (eq-or-lt_of_le (le_of_suc-le-suc h)) }
    where
      q : Part
      q = part_at ps i

      lane : ℕ → ℕ
      lane = part_lane q (obligation_lanes (number_of ps i) w) letters v

      at : (n x : ℕ) → x < block_size → (n ≡ i) ⊎ (n < i)
          → get_or (sets v (i * block_size) (tabulate block_size lane)) (n * block_size + x) 0 ≡ value_lanes ps (get_or letters x 0) w n
      at n x l (inl p) =
          let inside : i * block_size + length (tabulate block_size lane) ≤ length v = rw (length_tabulate block_size lane, e) (omega arith) in
          rw p
          (get_d_sets_same v (i * block_size) (tabulate block_size lane) x 0 (subst (λ m. x < m) (sym (length_tabulate block_size lane)) l) inside
          ∙ get_d_tabulate block_size lane x 0 l
          ∙ combine_lanes_lem ps (get_or letters x 0) w i _ _ f (λ b. known.value q.left x (f.left_ready b) l)
          (λ b. known.value q.right x (f.right_ready b) l))
      at n x l (inr p) =
          get_d_sets_other v (i * block_size) (tabulate block_size lane) (n * block_size + x) 0 (λ k b d. omega (arith, length_tabulate block_size lane))
          ∙ known.value n x p l

pub evaluated : (codes letters : List ℕ) (w n : ℕ) (v : List ℕ) → Stored codes → n ≤ length codes → length v ≡ index_limit * block_size
    → Evaluated (parts_in codes) letters w n (values_to (parts_in codes) letters w n v)
unfolding values_to AllReady
evaluated codes letters w zero v s h l = record { value = λ i x b. absurd (omega arith) }
evaluated codes letters w (suc n) v s h l =
    let ps = parts_in codes in
    evaluated_more ps letters w n (values_to ps letters w n v) (s.ready n (subst (λ m. n < m) (sym (length_in codes)) h)) (omega (arith, s.few))
    (length_values ps letters w v n ∙ l) (evaluated codes letters w n v s (omega arith) l)

-- A loop that writes how many temporal operators stand before each part, and where they stand.
-- Assumes nothing.
use Prim.Native.Nat.{ℕ, ◌+◌, ◌≤◌, ◌<◌}
use native.Mathlib.Nat.{add-zero}
use native.Mathlib.Numerals.{add-one}
use native.Mathlib.Omega.{arith}
use mathlib.Core.Path.{◌≡◌, refl, sym, ap, ap₂, ◌∙◌}
use mathlib.Core.Bool.{Bool, true, false}
use mathlib.Core.List.{List, ◌++◌, append-nil}
use lib.ListN.{length, take, drop, set}
use lib.Seq.{take_at}
use Rattle.basics.specs.Bits.{digit}
use Rattle.formula.specs.Codes.{parts_in}
use Rattle.basics.specs.Lists.{tabulate}
use Rattle.formula.specs.declared.parts.Part.{Part}
use Rattle.formula.proofs.CodesLaws.{length_in}
use Rattle.basics.proofs.ListsLaws.{length_tabulate}
use Rattle.obligations.specs.Obligation.{is_operator, number_of, operators_of, only_if, spots_to, spots}
use Rattle.obligations.specs.Values.{numbers_of}
use Rattle.basics.proofs.Filling.{put_next, table_more}
use Rattle.obligations.proofs.OperatorSpots.{number_lt, length_spots_to, length_spots}

-- ---- one part more

number_more : (ps : List Part) (i : ℕ) → number_of ps (i + 1) ≡ number_of ps i + digit (is_operator ps i)
unfolding number_of
number_more ps i = rw add-one

spots_more : (ps : List Part) (i : ℕ) → spots_to ps (i + 1) ≡ spots_to ps i ++ only_if (is_operator ps i) i
unfolding spots_to
spots_more ps i = rw add-one

-- ---- a loop that writes the numbers of all parts and the places of the operators

-- the first i parts are done, and k operators were found
pub record Numbered (ps : List Part) (numbers₀ spots₀ : List ℕ) (i k : ℕ) (numbers spots : List ℕ) : Type 0 where
  pub count : k ≡ number_of ps i
  pub numbers_are : numbers ≡ tabulate i (number_of ps) ++ drop i numbers₀
  pub spots_are : spots ≡ spots_to ps i ++ drop k spots₀

module _ (codes numbers₀ spots₀ : List ℕ) where
  abbrev ps : List Part
  ps = parts_in codes

  pub numbered_none : Numbered ps numbers₀ spots₀ 0 0 numbers₀ spots₀
  unfolding spots_to number_of
  numbered_none = record { count = refl; numbers_are = refl; spots_are = refl }

  module _ {i k : ℕ} {numbers found : List ℕ} (n : Numbered ps numbers₀ spots₀ i k numbers found)
      (room : length codes ≤ length numbers₀) (h : i < length codes) where
    numbers_more : set numbers i k ≡ tabulate (i + 1) (number_of ps) ++ drop (i + 1) numbers₀
    numbers_more = table_more i (number_of ps) numbers₀ numbers k (omega arith) n.numbers_are n.count

    -- the next part is no operator
    pub numbered_miss : (b : Bool) → b ≡ is_operator ps i → b ≡ false → Numbered ps numbers₀ spots₀ (i + 1) k (set numbers i k) found
    numbered_miss b e f =
        record {
          count = n.count ∙ sym (number_more ps i ∙ ap (λ c. number_of ps i + digit c) (sym e ∙ f) ∙ add-zero (number_of ps i));
          numbers_are = numbers_more;
          spots_are =
              n.spots_are
              ∙ ap (λ l. l ++ drop k spots₀) (sym (spots_more ps i ∙ ap (λ c. spots_to ps i ++ only_if c i) (sym e ∙ f) ∙ append-nil (spots_to ps i)));
        }

    -- it is one
    module _ (enough : operators_of ps ≤ length spots₀) (b : Bool) (e : b ≡ is_operator ps i) (t : b ≡ true) where
      pub numbered_room : k < length spots₀
      unfolding operators_of
      numbered_room = omega (arith, n.count, number_lt ps i (length ps) (omega (arith, length_in codes)) (sym e ∙ t))

      pub numbered_hit : Numbered ps numbers₀ spots₀ (i + 1) (k + 1) (set numbers i k) (set found k i)
      numbered_hit =
          record {
            count = ap (λ m. m + 1) n.count ∙ sym (number_more ps i ∙ ap (λ c. number_of ps i + digit c) (sym e ∙ t));
            numbers_are = numbers_more;
            spots_are =
                ap (λ w. set w k i) n.spots_are
                ∙ put_next (spots_to ps i) spots₀ k i (length_spots_to ps i ∙ sym n.count) numbered_room
                ∙ ap (λ l. l ++ drop (k + 1) spots₀) (sym (spots_more ps i ∙ ap (λ c. spots_to ps i ++ only_if c i) (sym e ∙ t)));
          }

  -- all parts are done
  module _ {i k : ℕ} {numbers found : List ℕ} (n : Numbered ps numbers₀ spots₀ i k numbers found) (e : i ≡ length codes) where
    pub numbers_all : numbers ≡ numbers_of ps ++ drop (length codes) numbers₀
    unfolding numbers_of
    numbers_all = n.numbers_are ∙ ap₂ (λ m j. tabulate m (number_of ps) ++ drop j numbers₀) (e ∙ sym (length_in codes)) e

    pub spots_all : found ≡ spots ps ++ drop (operators_of ps) spots₀
    unfolding spots operators_of
    spots_all =
        let all : i ≡ length ps = e ∙ sym (length_in codes) in
        n.spots_are ∙ ap₂ (λ m d. spots_to ps m ++ drop d spots₀) all (n.count ∙ ap (number_of ps) all)

-- ---- what the loop leaves begins with the two lists

pub numbers_front : (codes numbers rest : List ℕ) → numbers ≡ numbers_of (parts_in codes) ++ rest → take (length codes) numbers ≡ numbers_of (parts_in codes)
unfolding numbers_of
numbers_front codes numbers rest e =
    let ps = parts_in codes in
    ap (take (length codes)) e ∙ take_at (tabulate (length ps) (number_of ps)) rest (length codes) (length_tabulate (length ps) (number_of ps) ∙ length_in codes)

pub spots_front : (ps : List Part) (listed rest : List ℕ) (d : ℕ) → d ≡ operators_of ps → listed ≡ spots ps ++ rest → take d listed ≡ spots ps
spots_front ps listed rest d c e = ap (take d) e ∙ take_at (spots ps) rest d (length_spots ps ∙ sym c)

-- Sets of patterns: what a table holds, and what it holds after letters, for any number of obligations.
-- Assumes nothing.
use Prim.Native.Nat.{ℕ, suc, ◌^◌, ◌<◌}
use native.Mathlib.Omega.{arith}
use mathlib.Core.Path.{◌≡◌, refl, sym, ◌∙◌, subst}
use mathlib.Core.Bool.{Bool, true, false, and-true}
use mathlib.Core.List.{List, [], ◌∷◌, foldr}
use lib.Pow.{pow_pos}
use lib.ListN.{length}
use lib.Seq.{ext_get_or}
use Rattle.basics.specs.Bits.{bit}
use Rattle.basics.proofs.ListsLaws.{length_tabulate, get_d_tabulate}
use Rattle.basics.specs.Member.{◌∈◌}
use Rattle.basics.specs.Says.{Says}
use Rattle.basics.proofs.MemberLaws.{all_of_says}
use Rattle.search.specs.PatternSet.{PatternSet, member, set_of, start, accepts, next, next_all, after}
use Rattle.basics.proofs.BitsLaws.{bit_zero}

pub length_set_of : (d : ℕ) (f : ℕ → Bool) → length (set_of d f) ≡ 2 ^ suc d
unfolding set_of
length_set_of d f = length_tabulate (2 ^ suc d) f

pub member-set_of : (d : ℕ) (f : ℕ → Bool) (p : ℕ) → p < 2 ^ suc d → member (set_of d f) p ≡ f p
unfolding set_of member
member-set_of d f p h = get_d_tabulate (2 ^ suc d) f p false h

-- a table of 2 ^ suc d entries is the set of its members
pub set_ext : (d : ℕ) (s t : PatternSet) → length s ≡ 2 ^ suc d → length t ≡ 2 ^ suc d
    → ((p : ℕ) → p < 2 ^ suc d → member s p ≡ member t p) → s ≡ t
unfolding member
set_ext d s t ls lt e = ext_get_or false s t (ls ∙ sym lt) (λ p h. e p (omega arith))

pub set_of_ext : (d : ℕ) (f g : ℕ → Bool) → ((p : ℕ) → p < 2 ^ suc d → f p ≡ g p) → set_of d f ≡ set_of d g
set_of_ext d f g e =
    set_ext d (set_of d f) (set_of d g) (length_set_of d f) (length_set_of d g)
    (λ p h. member-set_of d f p h ∙ e p h ∙ sym (member-set_of d g p h))

pub length_start : (d : ℕ) → length (start d) ≡ 2 ^ suc d
unfolding start
length_start d = length_set_of d (λ p. bit p d)

-- the start does not accept
pub start_rejects : (d : ℕ) → accepts (start d) ≡ false
unfolding accepts start
start_rejects d = member-set_of d (λ p. bit p d) 0 (pow_pos (suc d)) ∙ bit_zero d

-- after one of several letters
module _ (d : ℕ) (back : ℕ → ℕ → ℕ) (s : PatternSet) where
  pub length_next_all : (letters : List ℕ) → length (next_all d back s letters) ≡ 2 ^ suc d
  unfolding next_all
  length_next_all letters = length_set_of d _

  -- a pattern is in the set exactly if each of them carries it back into the present one
  pub member-next_all : (letters : List ℕ) (p : ℕ) → p < 2 ^ suc d
      → Says (member (next_all d back s letters) p) ((a : ℕ) → a ∈ letters → member s (back a p) ≡ true)
  unfolding next_all
  member-next_all letters p h =
      subst (λ b. Says b ((a : ℕ) → a ∈ letters → member s (back a p) ≡ true)) (sym (member-set_of d _ p h))
      (all_of_says (λ a. member s (back a p)) letters)

  -- where it is the only one
  pub next_all_one : (a : ℕ) → next_all d back s (a ∷ []) ≡ next d back s a
  unfolding next_all next
  next_all_one a = set_of_ext d _ _ (λ p h. and-true (member s (back a p)))

module _ (d : ℕ) (back : ℕ → ℕ → ℕ) (fits : (a p : ℕ) → back a p < 2 ^ suc d) where
  pub foldr_fits : (π : List ℕ) (p : ℕ) → p < 2 ^ suc d → foldr back p π < 2 ^ suc d
  foldr_fits [] p h = h
  foldr_fits (a ∷ π) p h = fits a (foldr back p π)

  pub member_next : (s : PatternSet) (a p : ℕ) → p < 2 ^ suc d → member (next d back s a) p ≡ member s (back a p)
  unfolding next
  member_next s a p h = member-set_of d (λ q. member s (back a q)) p h

  -- after letters a set holds the patterns that the letters, last to first, carry back into it
  pub member_after : (π : List ℕ) (s : PatternSet) (p : ℕ) → p < 2 ^ suc d → member (after d back s π) p ≡ member s (foldr back p π)
  unfolding after
  member_after [] s p h = refl
  member_after (a ∷ π) s p h = member_after π (next d back s a) p h ∙ member_next s a (foldr back p π) (foldr_fits π p h)

  pub length_next : (s : PatternSet) (a : ℕ) → length (next d back s a) ≡ 2 ^ suc d
  unfolding next
  length_next s a = length_set_of d (λ p. member s (back a p))

  pub length_after : (π : List ℕ) (s : PatternSet) → length s ≡ 2 ^ suc d → length (after d back s π) ≡ 2 ^ suc d
  unfolding after
  length_after [] s e = e
  length_after (a ∷ π) s e = length_after π (next d back s a) (length_next s a)

  pub accepts_after : (π : List ℕ) → accepts (after d back (start d) π) ≡ bit (foldr back 0 π) d
  unfolding accepts start
  accepts_after π =
      member_after π (start d) 0 (pow_pos (suc d)) ∙ member-set_of d (λ p. bit p d) (foldr back 0 π) (foldr_fits π 0 (pow_pos (suc d)))

-- Looking a name up, one name after another. Assumes nothing.
use Rattle.std.proofs.Common.{◌≡◌, ℕ, suc, ◌+◌, ◌<◌, ◌≤◌, List, [], ◌∷◌, true, false, length, get_or, drop, refl, add-one, arith, Bor, Bool, cond, ltb, inl, inr}
use Rattle.std.specs.Prelude.{Some, None, unwrap_or}
use Rattle.std.proofs.lemmas.Bool.{lt-ltb, le-ltb, cases_lt}
use Rattle.std.proofs.Math.Seq.{drop-cons}
use Rattle.std.proofs.Math.ListN.{get_or-map, length-map}
use Rattle.basics.specs.Bytes.{same_bytes}
use Rattle.grammar.specs.Names.{Name, bits, index_of, bit_of, names_in}

pub length_names : (names : List (Bor (List ℕ))) → length names ≡ bits → length (names_in names) ≡ bits
length_names names l = rw length-map l

pub index_of_le : (name : Name) (xs : List Name) → index_of name xs ≤ length xs
unfolding index_of
index_of_le name [] = omega arith
index_of_le name (x ∷ xs) = go (same_bytes x name) (index_of_le name xs)
  where
    go : (b : Bool) → index_of name xs ≤ length xs → cond b 0 (suc (index_of name xs)) ≤ suc (length xs)
    go true h = omega arith
    go false h = omega arith

-- the number of a name, `bits` where no signal has it
pub or_bits : (name : Name) (names : List (Bor (List ℕ))) → length names ≡ bits
    → unwrap_or (bit_of name (names_in names)) bits ≡ index_of name (names_in names)
or_bits name names l = go (index_of name (names_in names)) (omega (arith, index_of_le name (names_in names), length_names names l))
  where
    go : (i : ℕ) → i ≤ bits → unwrap_or (cond (ltb i bits) (Some i) None) bits ≡ i
    go i h = elim (cases_lt i bits) [ inl l ↦ rw (lt-ltb i bits l) refl | inr g ↦ rw (le-ltb i bits g) (omega arith) ]

module _ (name : Name) (names : List (Bor (List ℕ))) (b : ℕ) where
  -- the place of the name, counted from bit b on
  abbrev pub from : ℕ
  from = b + index_of name (drop b (names_in names))

  -- the name of bit b
  abbrev here : Name
  here = (get_or names b (record { ref_ptr = (0, 0); now = [] })).now

  parted : b < length names → drop b (names_in names) ≡ here ∷ drop (b + 1) (names_in names)
  parted h =
      rw (drop-cons (names_in names) b [] (rw length-map h), get_or-map (λ (n : Bor (List ℕ)). n.now) names b (record { ref_ptr = (0, 0); now = [] }), add-one b)
      refl

  pub bit_here : b < length names → b < bits → same_bytes here name ≡ true → index_of name (names_in names) ≡ from → Some b ≡ bit_of name (names_in names)
  unfolding index_of
  bit_here h k e f =
      let i : from ≡ b = rw (parted h, e) (omega arith) in
      rw (f, i, lt-ltb b bits k) refl

  pub index_more : b < length names → same_bytes here name ≡ false → from ≡ b + 1 + index_of name (drop (b + 1) (names_in names))
  unfolding index_of
  index_more h e = rw (parted h, e) (omega arith)

  pub no_bit : bits ≤ b → index_of name (names_in names) ≡ from → None ≡ bit_of name (names_in names)
  no_bit h f = rw (le-ltb (index_of name (names_in names)) bits (omega (arith, f))) refl

-- What the code lists of a problem, and what it writes to the records.
-- Assumes nothing.
use Rattle.lines.specs.declared.refusal.Refusal.{Refusal}
use Rattle.lines.specs.declared.problem.Sizes.{Sizes}
use Rattle.std.specs.Prelude.{Err, Result}
use Prim.Native.Nat.{ℕ, ◌+◌, ◌-◌, ◌≤◌, ◌<◌}
use native.Mathlib.Numerals.{add-one}
use native.Mathlib.Omega.{arith}
use mathlib.Core.Path.{◌≡◌, refl, sym, ap, ◌∙◌}
use mathlib.Core.Logic.{inl, inr}
use mathlib.Core.Bool.{true}
use mathlib.Core.List.{List, [], ◌∷◌, ◌++◌}
use borrow.Author.Tests.{ltb-false, lt-ltb, le-ltb}
use lib.Dec.{ltb}
use lib.ListN.{length, get_or, set, take, drop, replicate, length-append, length-drop, length-replicate}
use lib.Seq.{take-suc, take-length, length-take-le, get_or-take}
use Rattle.basics.specs.Lists.{written}
use Rattle.basics.proofs.Booleans.{test}
use Rattle.basics.proofs.Filling.{put_next}
use Rattle.formula.specs.declared.parts.Part.{Part}
use Rattle.formula.specs.Limits.{part_limit}
use Rattle.formula.specs.Parts.{no_part, part_at}
use Rattle.formula.specs.Codes.{codes_of, part_of, parts_in}
use Rattle.formula.proofs.CodesLaws.{Held, part_in}
use Rattle.lines.specs.declared.refusal.Refusal.TheVariants.{ShortMemory}
use Rattle.lines.specs.Memory.{stored_from}
use Rattle.lines.proofs.MemoryLaws.{stored_front}
use Rattle.rules.specs.Problem.{Outcome, accepted, refused, read_problem}
use Rattle.rules.specs.Reading.{reading_of, parts_of_outcome}
use Rattle.rules.proofs.ProblemLaws.{parts_counted}
use Rattle.rules.proofs.WithinLimits.{read_within, read_held}
use Rattle.records.specs.declared.listing.Listing.{Listing}
use Rattle.records.specs.Reading.{read_into, parts_given, count_of, listing_of}

-- ---- the listing

listing_ext : {n m : ℕ} {a b : List ℕ} {r s : Result Sizes Refusal} → n ≡ m → a ≡ b → r ≡ s
    → ◌≡◌ {A = Listing} (record { count = n; codes = a; reading = r }) (record { count = m; codes = b; reading = s })
listing_ext e f g = rw (e, f, g) refl

-- as many parts as the reading says
counted : (o : Outcome) → count_of (reading_of o) ≡ length (parts_given o)
counted (accepted p) = sym (parts_counted p)
counted (refused r) = refl

-- a list that was all zero
stored : (o : Outcome) → parts_of_outcome o (replicate part_limit 0) ≡ stored_from (parts_given o) 0 (replicate part_limit 0)
stored (accepted p) = refl
stored (refused r) = ap (λ n. replicate n 0) (length-replicate {A = ℕ} part_limit 0)

module _ (room : ℕ) (source : List ℕ) (n : ℕ) (codes : List ℕ) (r : Result Sizes Refusal) where
  pub listed_short : room < part_limit → codes ≡ replicate part_limit 0 → r ≡ Err ShortMemory → n ≡ count_of r
      → record { count = n; codes = codes; reading = r } ≡ listing_of (read_into room source)
  unfolding read_into
  listed_short h e f g = rw (lt-ltb room part_limit h) (listing_ext (g ∙ ap count_of f) e f)

  pub listed_read : part_limit ≤ room → codes ≡ parts_of_outcome (read_problem source) (replicate part_limit 0)
      → r ≡ reading_of (read_problem source)
      → n ≡ count_of r → record { count = n; codes = codes; reading = r } ≡ listing_of (read_into room source)
  unfolding read_into
  listed_read h e f g =
      let o = read_problem source in
      rw (le-ltb room part_limit h) (listing_ext (g ∙ ap count_of f ∙ counted o) (e ∙ stored o) f)

-- ---- the parts that are given

module _ (room : ℕ) (source : List ℕ) where
  abbrev ps : List Part
  ps = parts_given (read_into room source)

  pub given_few : length ps ≤ part_limit
  unfolding read_into
  given_few =
      elim (test (ltb room part_limit)) [ inl e ↦ rw e (omega arith) | inr e ↦ rw e (go (read_problem source) refl) ]
    where
      go : (o : Outcome) → read_problem source ≡ o → length (parts_given o) ≤ part_limit
      go (accepted p) e = rw (parts_counted p) (read_within source p e).parts
      go (refused r) e = omega arith

  given_none : ltb room part_limit ≡ true → length ps ≤ room
  unfolding read_into
  given_none e = rw e (omega arith)

  pub given_room : length ps ≤ room
  given_room = elim (test (ltb room part_limit)) [ inl e ↦ given_none e | inr e ↦ omega (arith, ltb-false room part_limit e, given_few) ]

  given_held : Held ps
  unfolding read_into parts_in
  given_held = elim (test (ltb room part_limit)) [ inl e ↦ rw e refl | inr e ↦ rw e (go (read_problem source) refl) ]
    where
      go : (o : Outcome) → read_problem source ≡ o → Held (parts_given o)
      go (accepted p) e = read_held source p e
      go (refused r) e = refl

  -- part i of the listing
  pub listed_part : (i : ℕ) → i < length ps → part_of (get_or (listing_of (read_into room source)).codes i 0) ≡ part_at ps i
  listed_part i h =
      let zeros = replicate {A = ℕ} part_limit 0 in
      let few : length ps ≤ length zeros = rw (length-replicate {A = ℕ} part_limit 0) given_few in
      ap part_of (sym (get_or-take (length ps) (stored_from ps 0 zeros) i 0 h) ∙ ap (λ us. get_or us i 0)
      (stored_front ps (length ps) zeros refl few))
      ∙ sym (part_in (codes_of ps) i) ∙ ap (λ qs. part_at qs i) given_held

-- ---- records that are written from the front: the first i parts, and the old records behind them

abbrev pub up_to : ℕ → List Part → List Part → List Part
up_to i ps ys = take i ps ++ drop i ys

module _ (ps ys : List Part) (room : length ps ≤ length ys) where
  pub up_to_more : (i : ℕ) (p : Part) → i < length ps → p ≡ part_at ps i → set (up_to i ps ys) i p ≡ up_to (i + 1) ps ys
  unfolding part_at
  up_to_more i p h e =
      let more : take i ps ++ (p ∷ []) ≡ take (i + 1) ps
      = ap (λ q. take i ps ++ (q ∷ [])) e ∙ sym (take-suc ps i no_part h) ∙ ap (λ n. take n ps) (sym (add-one i)) in
      put_next (take i ps) ys i p (length-take-le i ps (omega arith)) (omega arith) ∙ ap (λ us. us ++ drop (i + 1) ys) more

  pub up_to_length : (i : ℕ) → i ≤ length ps → length (up_to i ps ys) ≡ length ys
  up_to_length i h =
      let n : length (take i ps) ≡ i = length-take-le i ps h in
      let m : length (drop i ys) ≡ length ys - i = length-drop i ys in
      length-append (take i ps) (drop i ys) ∙ rw (n, m) (omega arith)

  pub up_to_all : up_to (length ps) ps ys ≡ written ps ys
  up_to_all = ap (λ us. us ++ drop (length ps) ys) (take-length ps)

-- Pieces of a text: as code finds them, place by place, and in a text that is made of them.
-- Assumes nothing.
use Prim.Native.Nat.{ℕ, zero, suc, ◌+◌, ◌-◌, ◌/◌, ◌%◌, ◌≤◌, ◌<◌}
use native.Mathlib.Numerals.{add-one}
use native.Mathlib.Omega.{arith}
use native.Mathlib.Decide.{dec_lt}
use mathlib.Core.Path.{◌≡◌, refl, sym, ap, ◌∙◌}
use mathlib.Core.Bool.{Bool, true, false}
use mathlib.Core.List.{List, [], ◌∷◌, ◌++◌, flat_map, append-nil}
use lib.ListN.{length, take, drop, get_or, drop_of_length-le}
use lib.Seq.{drop-drop, take-length, take-append_seam, drop-append-add}
use borrow.Author.Tests.{lt-ltb, le-ltb}
use Rattle.basics.specs.Bytes.{run, past, not_tab}
use Rattle.basics.specs.Pieces.{piece, behind, behind_all, Unparted, field_at}
use Rattle.basics.specs.Lists.{tabulate}
use Rattle.basics.specs.Text.{digits, decimal, field}
use Rattle.basics.proofs.BytesLaws.{run_true, run_false}

module _ (p : ℕ → Bool) where
  -- ---- from a place on

  module _ (text : List ℕ) (at : ℕ) where
    pub piece_is : take (past p text at - at) (drop at text) ≡ piece p (drop at text)
    unfolding past piece
    piece_is = let e : at + run p (drop at text) - at ≡ run p (drop at text) = omega arith in rw e refl

    -- a byte that parts ends it
    pub behind_byte : drop (past p text at + 1) text ≡ behind p (drop at text)
    unfolding past behind
    behind_byte =
        let r = run p (drop at text) in
        let e : at + r + 1 ≡ at + (r + 1) = omega arith in
        ap (λ (k : ℕ). drop k text) e ∙ sym (drop-drop (r + 1) at text)

    -- the text's end does
    pub behind_end : length text ≤ past p text at → drop (past p text at) text ≡ behind p (drop at text)
    unfolding past behind
    behind_end h =
        let r = run p (drop at text) in
        let g : length text ≤ at + (r + 1) = omega (arith, h) in
        drop_of_length-le text h ∙ sym (drop-drop (r + 1) at text ∙ drop_of_length-le text g)

  -- one piece more
  pub behind_more : (k : ℕ) (s : List ℕ) → behind_all p (k + 1) s ≡ behind p (behind_all p k s)
  behind_more k s = ap (λ n. behind_all p n s) (add-one k) ∙ go k s
    where
      go : (k : ℕ) (s : List ℕ) → behind_all p (suc k) s ≡ behind p (behind_all p k s)
      go zero s = refl
      go (suc k) s = go k (behind p s)

  -- ---- in a text that is made of them

  pub unparted_append : (a b : List ℕ) → Unparted p a → Unparted p b → Unparted p (a ++ b)
  unparted_append [] b u v = v
  unparted_append (x ∷ a) b (e, u) v = (e, unparted_append a b u v)

  run_all : (b : List ℕ) → Unparted p b → run p b ≡ length b
  unfolding run
  run_all [] u = refl
  run_all (x ∷ b) (e, u) = run_true p x b e ∙ ap suc (run_all b u)

  module _ (x : ℕ) (parts : p x ≡ false) (rest : List ℕ) where
    run_to : (b : List ℕ) → Unparted p b → run p (b ++ (x ∷ rest)) ≡ length b
    run_to [] u = run_false p x rest parts
    run_to (y ∷ b) (e, u) = run_true p y (b ++ (x ∷ rest)) e ∙ ap suc (run_to b u)

    pub piece_first : (b : List ℕ) → Unparted p b → piece p (b ++ (x ∷ rest)) ≡ b
    unfolding piece
    piece_first b u = ap (λ n. take n (b ++ (x ∷ rest))) (run_to b u) ∙ take-append_seam b (x ∷ rest)

    pub behind_first : (b : List ℕ) → Unparted p b → behind p (b ++ (x ∷ rest)) ≡ rest
    unfolding behind
    behind_first b u = ap (λ n. drop (n + 1) (b ++ (x ∷ rest))) (run_to b u) ∙ drop-append-add b (x ∷ rest) 1

  -- the last piece is not ended
  pub piece_last : (b : List ℕ) → Unparted p b → piece p b ≡ b
  unfolding piece
  piece_last b u = ap (λ n. take n b) (run_all b u) ∙ take-length b

  pub behind_last : (b : List ℕ) → Unparted p b → behind p b ≡ []
  unfolding behind
  behind_last b u = drop_of_length-le b {i = run p b + 1} (omega (arith, run_all b u))

  pub behind_none : (k : ℕ) → behind_all p k [] ≡ []
  behind_none zero = refl
  behind_none (suc k) = ap (behind_all p k) (behind_last [] tt) ∙ behind_none k

  -- ---- numbers and fields

  -- where no digit parts, no number is parted
  module _ (digit : (b : ℕ) → 48 ≤ b → b < 58 → p b ≡ true) where
    unparted_digits : (k n : ℕ) → n ≤ k → Unparted p (digits k n)
    unfolding digits
    unparted_digits zero n h = (digit (48 + n) (omega arith) (omega arith), tt)
    unparted_digits (suc k) n h =
        elim (dec_lt n 10) [
          | yes l ↦ rw (lt-ltb n 10 l) (digit (48 + n) (omega arith) (omega arith), tt)
          | no m ↦
              rw (le-ltb n 10 (omega arith))
              (unparted_append (digits k (n / 10)) ((48 + n % 10) ∷ []) (unparted_digits k (n / 10) (omega arith))
              (digit (48 + n % 10) (omega arith) (omega arith), tt))
        ]

    pub unparted_decimal : (n : ℕ) → Unparted p (decimal n)
    unparted_decimal n = unparted_digits n n (omega arith)

  abbrev pub AllUnparted : List (List ℕ) → Type 0
  AllUnparted [] = Unit {0}
  AllUnparted (b ∷ bs) = Unparted p b × AllUnparted bs

  pub unparted_table : (n : ℕ) (f : ℕ → List ℕ) → ((i : ℕ) → Unparted p (f i)) → AllUnparted (tabulate n f)
  unparted_table zero f u = tt
  unparted_table (suc n) f u = (u 0, unparted_table n (λ i. f (suc i)) (λ i. u (suc i)))

  -- where no tab parts, fields together are not parted
  pub unparted_fields : p 9 ≡ true → (fs : List (List ℕ)) → AllUnparted fs → Unparted p (flat_map field fs)
  unfolding flat_map
  unparted_fields tab [] us = tt
  unparted_fields tab (f ∷ fs) (u, us) = unparted_append (field f) (flat_map field fs) (tab, u) (unparted_fields tab fs us)

-- ---- the fields of a line without its end

pub field_of : (word : List ℕ) (fs : List (List ℕ)) → Unparted not_tab word → AllUnparted not_tab fs → (k : ℕ)
    → field_at k (word ++ flat_map field fs) ≡ get_or (word ∷ fs) k []
unfolding flat_map
field_of word [] u us zero = ap (piece not_tab) (append-nil word) ∙ piece_last not_tab word u
field_of word [] u us (suc k) =
    ap (λ s. piece not_tab (behind_all not_tab k (behind not_tab s))) (append-nil word)
    ∙ ap (λ s. piece not_tab (behind_all not_tab k s)) (behind_last not_tab word u)
    ∙ ap (piece not_tab) (behind_none not_tab k)
    ∙ piece_last not_tab [] tt
field_of word (f ∷ fs) u (v, us) zero = piece_first not_tab 9 refl (f ++ flat_map field fs) word u
field_of word (f ∷ fs) u (v, us) (suc k) =
    ap (λ s. piece not_tab (behind_all not_tab k s)) (behind_first not_tab 9 refl (f ++ flat_map field fs) word u)
    ∙ field_of f fs v us k

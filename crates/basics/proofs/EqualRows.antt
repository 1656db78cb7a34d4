-- Lists of equally long rows one after another.
-- Assumes nothing.
use Prim.Native.Nat.{ℕ, zero, suc, ◌+◌, ◌*◌, ◌/◌, ◌%◌, ◌≤◌, ◌<◌}
use native.Mathlib.Nat.{zero-mul, zero-add, suc-mul, add_assoc, add_comm, not-suc-le-zero, le_of_suc-le-suc, mul-le-mul_right, mul-zero, zero-lt-suc, div-lt_iff_lt-mul, mod-lt}
use mathlib.Core.Path.{◌≡◌, sym, ap, ◌∙◌, subst}
use mathlib.Core.List.{List, [], ◌∷◌, ◌++◌, flat_map}
use lib.ListN.{length, get_or, length-append, get_or-append}
use lib.Seq.{get_or-append-add}

-- row j ends where the next begins, or before
pub row_ends : (w i j : ℕ) → j < i → j * w + w ≤ i * w
row_ends w i j h = subst (λ n. n ≤ i * w) (suc-mul j w) (mul-le-mul_right w h)

-- every entry stands in a row
pub row_at : (w n y : ℕ) → y < n * w → (y / w < n) × (y % w < w)
row_at zero n y h = absurd (not-suc-le-zero (subst (λ m. y < m) (mul-zero n) h))
row_at (suc w) n y h = ((div-lt_iff_lt-mul (zero-lt-suc w)).1 h, mod-lt y (zero-lt-suc w))

module _ {A : Type 0} (w : ℕ) (g : A → List ℕ) (wide : (x : A) → length (g x) ≡ w) where
  pub length_rows : (xs : List A) → length (flat_map g xs) ≡ length xs * w
  unfolding flat_map
  length_rows [] = sym (zero-mul w)
  length_rows (x ∷ xs) =
      length-append (g x) (flat_map g xs) ∙ ap (λ n. n + length (flat_map g xs)) (wide x) ∙ ap (λ n. w + n) (length_rows xs)
      ∙ sym (suc-mul (length xs) w ∙ add_comm (length xs * w) w)

  -- entry b of row j
  pub get_d_rows : (xs : List A) (d : A) (j b : ℕ) → j < length xs → b < w → get_or (flat_map g xs) (j * w + b) 0 ≡ get_or (g (get_or xs j d)) b 0
  unfolding flat_map
  get_d_rows [] d j b h l = absurd (not-suc-le-zero h)
  get_d_rows (x ∷ xs) d zero b h l =
      ap (λ n. get_or (g x ++ flat_map g xs) n 0) (ap (λ n. n + b) (zero-mul w) ∙ zero-add b)
      ∙ get_or-append (g x) (flat_map g xs) 0 b (subst (λ n. b < n) (sym (wide x)) l)
  get_d_rows (x ∷ xs) d (suc j) b h l =
      ap (λ n. get_or (g x ++ flat_map g xs) n 0)
      (ap (λ n. n + b) (suc-mul j w ∙ add_comm (j * w) w) ∙ add_assoc w (j * w) b ∙ ap (λ n. n + (j * w + b)) (sym (wide x)))
      ∙ get_or-append-add (g x) (flat_map g xs) (j * w + b) 0 ∙ get_d_rows xs d j b (le_of_suc-le-suc h) l

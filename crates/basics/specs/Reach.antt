-- What can be reached from a first thing by repeated steps, listed as it is first met: breadth first, and given up beyond
-- a limit. It serves for states, for beliefs and for the rows of a table alike. `proofs/ReachLaws.antt` shows that the list
-- is right, and that it is given up exactly where there is more than the limit.
-- Assumes nothing.
use Rattle.std.specs.Prelude.{ℕ, zero, suc, ◌≡◌, ◌↔◌, Bool, false, cond, ◌||◌, length, get_or, eqb, ltb}
use mathlib.Core.List.{List, [], ◌∷◌, ◌++◌, foldl}
use Rattle.basics.specs.Member.{◌∈◌, Distinct}

pub data Listing (A : Type 0) : Type 0 where
  closed : List A → Listing A
  over : Listing A

module _ {A : Type 0} (same : A → A → Bool) where
  unfoldable pub is_in : A → List A → Bool
  is_in x [] = false
  is_in x (y ∷ ys) = same x y || is_in x ys

  -- how many entries stand before the first that is the same as x
  unfoldable pub index_in : A → List A → ℕ
  index_in x [] = 0
  index_in x (y ∷ ys) = cond (same x y) 0 (suc (index_in x ys))

  -- a list with x put behind it, if it is not there yet
  unfoldable pub add_new : List A → A → List A
  add_new xs x = cond (is_in x xs) xs (xs ++ (x ∷ []))

  -- a list with each of ys put behind it that is not there yet
  unfoldable pub add_all : List A → List A → List A
  add_all xs ys = foldl add_new xs ys

  module _ (steps : A → List A) (first : A) (limit : ℕ) where
    -- `seen` holds what was met so far, and the entries before i have had their steps taken
    unfoldable pub explore : ℕ → List A → ℕ → Listing A
    explore zero seen i = over
    explore (suc fuel) seen i =
        let rest : Listing A = explore fuel (add_all seen (steps (get_or seen i first))) (suc i) in
        cond (ltb limit (length seen)) over (cond (eqb i (length seen)) (closed seen) rest)

    -- all that can be reached, or `over` if that is more than the limit
    unfoldable pub reachable : Listing A
    reachable = explore (suc limit) (first ∷ []) 0

-- ---- what it means

module _ {A : Type 0} (steps : A → List A) (first : A) where
  -- some steps lead from the first thing to this one
  pub data Reached : A → Type 0 where
    reached_first : Reached first
    reached_step : {x y : A} → Reached x → y ∈ steps x → Reached y

  -- the list holds, without repeats, exactly what can be reached
  pub record Enumerates (xs : List A) : Type 0 where
    pub distinct : Distinct xs
    pub exact : (x : A) → (x ∈ xs) ↔ Reached x

  -- n different things can be reached
  pub record AtLeast (n : ℕ) : Type 0 where
    pub some : List A
    pub count : length some ≡ n
    pub distinct : Distinct some
    pub sound : (x : A) → x ∈ some → Reached x

-- letters of an alphabet lead from the first thing to x
pub record Spelled {A L : Type 0} (move : A → L → A) (letters : List L) (first x : A) : Type 0 where
  pub word : List L
  pub spelled : (a : L) → a ∈ word → a ∈ letters
  pub leads : foldl move first word ≡ x

-- Histories: the choices and observations so far, the hidden values behind them, the letters they make, and what a position knows.
-- Assumes nothing.
use Rattle.std.specs.Prelude.{ℕ, suc, ◌<◌, ◌≡◌, ◌↔◌, true, false, List, [], ◌∷◌, ◌++◌}
use Rattle.play.specs.Game.{Game}
use Rattle.play.specs.Rank.{Arena}

-- the choice and the observation of each step so far, oldest first
abbrev pub History : Type 0
History = List (ℕ × ℕ)

-- and one step more: choice c, then observation s
abbrev pub onward : History → ℕ → ℕ → History
onward h c s = h ++ ((c, s) ∷ [])

-- its choices are choices and its observations observations
abbrev pub Possible : (choices observations : ℕ) → History → Type 0
Possible choices observations [] = Unit {0}
Possible choices observations (m ∷ h) = (m.0 < choices) × (m.1 < observations) × Possible choices observations h

-- k is a proper beginning of h: at least one step follows
abbrev pub ProperPrefix : History → History → Type 0
ProperPrefix k h = (m : ℕ × ℕ) × (l : History) × (k ++ (m ∷ l) ≡ h)

-- h passes through no history that is final, but it may be final itself
abbrev pub Unstopped : (Final : History → Type 0) → History → Type 0
Unstopped Final h = (k : History) → ProperPrefix k h → ¬ Final k

-- the position after a history
abbrev pub know : (A : Arena) → A.K → History → A.K
know A k [] = k
know A k (m ∷ h) = know A (A.move k m.0 m.1) h

-- there are at least n beliefs: n histories of those that count, no two of which lead to the same
pub record AtLeastBeliefs (Counted : History → Type 0) (Same : History → History → Type 0) (n : ℕ) : Type 0 where
  pub history : ℕ → History
  pub counted : (i : ℕ) → i < n → Counted (history i)
  pub different : (i j : ℕ) → i < n → j < n → Same (history i) (history j) → i ≡ j

module _ (G : Game) where
  -- hidden values, one a step
  abbrev pub Hidden : (ℕ → ℕ) → Type 0
  Hidden x = (i : ℕ) → x i < G.hiddens

  -- the letters that a history and hidden values make
  abbrev pub letters : History → (ℕ → ℕ) → List ℕ
  letters [] x = []
  letters (m ∷ h) x = G.letter m.0 m.1 (x 0) ∷ letters h (λ i. x (suc i))

  -- THE ONE LAW that positions must meet: after one step at least, a position is final exactly if the trace is true whatever was hidden
  pub record Knows (A : Arena) : Type 0 where
    pub starts : A.final A.start ≡ false
    pub law : (m : ℕ × ℕ) (h : History) → Possible G.choices G.observations (m ∷ h)
        → (A.final (know A A.start (m ∷ h)) ≡ true) ↔ ((x : ℕ → ℕ) → Hidden x → G.IsTrue (letters (m ∷ h) x))

-- Case analysis on what the reader gives, and the test for a kind of tokens. Assumes nothing.
use mathlib.Core.Path.{◌≡◌, refl}
use mathlib.Core.Bool.{Bool, true, false}
use Prim.Native.Nat.{ℕ}
use lib.Dec.{eqb}
use native.Mathlib.Omega.{arith}
use Rattle.syntax.specs.Tree.{Tree}
use Rattle.grammar.specs.Parse.{Res, none, some, bind, on}

abbrev pub is_kind : ℕ → ℕ → Bool
is_kind c k = eqb k c

pub none_some : {C : Type 0} (a : Tree) (m : ℕ) → none ≡ some a m → C
none_some a m e = let z : ◌≡◌ {A = ℕ} 0 1 = cc in absurd (omega arith)

pub false_true : {C : Type 0} → false ≡ true → C
false_true e = let z : ◌≡◌ {A = ℕ} 0 1 = cc in absurd (omega arith)

pub on_elim : {C : Type 0} (b : Bool) (f g : Unit {0} → Res) (r : Res) → on b f g ≡ r
    → (b ≡ true → f tt ≡ r → C) → (b ≡ false → g tt ≡ r → C) → C
unfolding on
on_elim true f g r e yes₁ no₁ = yes₁ refl e
on_elim false f g r e yes₁ no₁ = no₁ refl e

pub bind_elim : {C : Type 0} (x : Res) (f : Tree → ℕ → Res) (a : Tree) (next : ℕ) → bind x f ≡ some a next
    → ((b : Tree) (m : ℕ) → x ≡ some b m → f b m ≡ some a next → C) → C
unfolding bind
bind_elim none f a next e go = none_some a next e
bind_elim (some b m) f a next e go = go b m refl e

-- two readers that agree
pub bind_cong : (x y : Res) (f g : Tree → ℕ → Res) → x ≡ y → ((b : Tree) (m : ℕ) → x ≡ some b m → f b m ≡ g b m) → bind x f ≡ bind y g
unfolding bind
bind_cong none y f g e h = rw (← e)
bind_cong (some b m) y f g e h = rw (← e) (h b m refl)

pub on_cong : (b : Bool) (f g f' g' : Unit {0} → Res) → (b ≡ true → f tt ≡ f' tt) → (b ≡ false → g tt ≡ g' tt) → on b f g ≡ on b f' g'
unfolding on
on_cong true f g f' g' p q = p refl
on_cong false f g f' g' p q = q refl

pub on_true : (b : Bool) (f g : Unit {0} → Res) → b ≡ true → on b f g ≡ f tt
unfolding on
on_true b f g e = rw e

pub on_false : (b : Bool) (f g : Unit {0} → Res) → b ≡ false → on b f g ≡ g tt
unfolding on
on_false b f g e = rw e

pub bind_some : (x : Res) (f : Tree → ℕ → Res) (b : Tree) (m : ℕ) → x ≡ some b m → bind x f ≡ f b m
unfolding bind
bind_some x f b m e = rw e

pub bind_none : (x : Res) (f : Tree → ℕ → Res) → x ≡ none → bind x f ≡ none
unfolding bind
bind_none x f e = rw e

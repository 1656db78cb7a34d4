-- The reader of a grammar: it finds the tree of a text. `proofs/ReadIffDerived.antt` shows that it finds exactly what the grammar
-- derives.
-- Assumes nothing.
use Rattle.std.specs.Prelude.{ℕ, zero, suc, ◌+◌, ◌-◌, ◌*◌, List, Bool, true, false, length, eqb}
use Rattle.syntax.specs.Kinds.{open_kind, close_kind}
use Rattle.syntax.specs.Lex.{token_at}
use Rattle.syntax.specs.Tree.{Tree, leaf, pre, bin}
use Rattle.grammar.specs.Grammar.{Grammar}

-- what is read: nothing, or a tree and the place behind its text
pub data Res : Type 0 where
  none : Res
  some : Tree → ℕ → Res

unfoldable pub bind : Res → (Tree → ℕ → Res) → Res
bind none f = none
bind (some a next) f = f a next

unfoldable pub on : Bool → (Unit {0} → Res) → (Unit {0} → Res) → Res
on true f g = f tt
on false f g = g tt

-- after a formula in parentheses its `)`
unfoldable pub close : List ℕ → Tree → ℕ → Res
close text a at = on (eqb (token_at text at).kind close_kind) (λ _. some a (token_at text at).next) (λ _. none)

-- a grammar, and what reads its other atoms
pub record Reader : Type 1 where
  pub grammar : Grammar
  pub other : List ℕ → ℕ → Res

-- the reader, with a bound on how deep its calls go
module _ (R : Reader) where
  unfoldable mutual
    pub parse_f : ℕ → List ℕ → ℕ → ℕ → Res
    parse_f zero text l at = none
    parse_f (suc k) text zero at =
        on (R.grammar.is_pre (token_at text at).kind)
        (λ _. bind (parse_f k text zero (token_at text at).next) (λ a next. some (pre (token_at text at) a) next))
        (λ _. atom_f k text at)
    parse_f (suc k) text (suc r) at = bind (parse_f k text r at) (λ a next. grow_f k text r a next)

    pub grow_f : ℕ → List ℕ → ℕ → Tree → ℕ → Res
    grow_f zero text r a at = none
    grow_f (suc k) text r a at =
        on (R.grammar.is_op (suc r) (token_at text at).kind)
        (λ _. on (R.grammar.leftward (suc r))
        (λ _. bind (parse_f k text r (token_at text at).next) (λ b next. grow_f k text r (bin (token_at text at) a b) next))
        (λ _. bind (parse_f k text (suc r) (token_at text at).next) (λ b next. some (bin (token_at text at) a b) next)))
        (λ _. some a at)

    pub atom_f : ℕ → List ℕ → ℕ → Res
    atom_f zero text at = none
    atom_f (suc k) text at =
        on (R.grammar.is_leaf (token_at text at).kind)
        (λ _. some (leaf (token_at text at)) (token_at text at).next)
        (λ _. on (eqb (token_at text at).kind open_kind)
        (λ _. bind (parse_f k text R.grammar.top (token_at text at).next) (close text))
        (λ _. R.other text at))

-- enough for a phrase of level l with u bytes unread
abbrev pub need : ℕ → ℕ → ℕ
need l u = 8 * u + 2 + l

abbrev pub need₁ : ℕ → ℕ
need₁ u = 8 * u + 1

module _ (R : Reader) where
  unfoldable pub parse : List ℕ → ℕ → ℕ → Res
  parse text l at = parse_f R (need l (length text - at)) text l at

  unfoldable pub grow : List ℕ → ℕ → Tree → ℕ → Res
  grow text r a at = grow_f R (need₁ (length text - at)) text r a at

  unfoldable pub atom : List ℕ → ℕ → Res
  atom text at = atom_f R (need₁ (length text - at)) text at

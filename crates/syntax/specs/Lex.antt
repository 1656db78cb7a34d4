-- The tokens of a formula text. A token is looked for from a position: spaces are passed over, and a word is read as long as
-- possible.
-- Assumes nothing.
use Rattle.std.specs.Prelude.{ℕ, zero, suc, ◌+◌, ◌-◌, List, [], ◌∷◌, Bool, true, false, ◌&&◌, ◌||◌, cond, length, get_or, eqb, leb, ltb}
use Rattle.syntax.specs.declared.lex.Token.{Token}
use Rattle.syntax.specs.Kinds.{end_kind, no_kind, name_kind, true_kind, false_kind, implies_kind}
use Rattle.syntax.specs.Kinds.{once_kind, before_kind, after_kind, within_kind, during_kind}
use Rattle.basics.specs.Bytes.{lower, word_byte, is_space, past, between, bytes_of, same_bytes}

abbrev pub skip : List ℕ → ℕ → ℕ
skip = past is_space

abbrev pub word_end : List ℕ → ℕ → ℕ
word_end = past word_byte

-- the words that are no names: `true`, `false` and the plan words
abbrev pub is_reserved : List ℕ → Bool
is_reserved w =
    same_bytes w (bytes_of "true") || same_bytes w (bytes_of "false")
    || same_bytes w (bytes_of "once") || same_bytes w (bytes_of "before") || same_bytes w (bytes_of "after")
    || same_bytes w (bytes_of "within") || same_bytes w (bytes_of "during")

-- the kind of a word that is no constant
unfoldable pub plan_kind : List ℕ → ℕ
plan_kind w =
    cond (same_bytes w (bytes_of "once")) once_kind
    (cond (same_bytes w (bytes_of "before")) before_kind
    (cond (same_bytes w (bytes_of "after")) after_kind
    (cond (same_bytes w (bytes_of "within")) within_kind
    (cond (same_bytes w (bytes_of "during")) during_kind name_kind))))

-- the kind of a word
unfoldable pub word_kind : List ℕ → ℕ
word_kind w = cond (same_bytes w (bytes_of "true")) true_kind (cond (same_bytes w (bytes_of "false")) false_kind (plan_kind w))

-- the token that starts at place i; a `-` (45) with no `>` (62) behind it and the byte 0 are none
unfoldable pub token_from : List ℕ → ℕ → Token
token_from text i =
    cond (leb (length text) i) (record { kind = end_kind; from = i; next = i })
    (cond (lower (get_or text i 0)) (record { kind = word_kind (between text i (word_end text i)); from = i; next = word_end text i })
    (cond (eqb (get_or text i 0) 45) (cond (ltb (i + 1) (length text) && eqb (get_or text (i + 1) 0) 62)
    (record { kind = implies_kind; from = i; next = i + 2 })
    (record { kind = no_kind; from = i; next = i + 1 }))
    (cond (eqb (get_or text i 0) 0) (record { kind = no_kind; from = i; next = i + 1 })
    (record { kind = get_or text i 0; from = i; next = i + 1 }))))

-- the token at or after a position
unfoldable pub token_at : List ℕ → ℕ → Token
token_at text at = token_from text (skip text at)

unfoldable pub more : Bool → Token → (Unit {0} → List Token) → List Token
more true t f = []
more false t f = t ∷ f tt

-- the tokens of a text from a position on, up to its end
unfoldable pub tokens_f : ℕ → List ℕ → ℕ → List Token
tokens_f zero text at = []
tokens_f (suc k) text at = more (eqb (token_at text at).kind end_kind) (token_at text at) (λ _. tokens_f k text (token_at text at).next)

unfoldable pub tokens : List ℕ → ℕ → List Token
tokens text at = tokens_f (suc (length text - at)) text at

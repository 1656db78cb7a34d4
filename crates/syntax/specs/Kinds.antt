-- The kinds of tokens. A kind is a byte; that of a sign of one byte is the sign. No sign is a lowercase letter, so these are left for
-- words.
-- Assumes nothing.
use Rattle.std.specs.Prelude.{ℕ, ◌+◌}

-- the end of the text, and what is no token
abbrev pub end_kind : ℕ
end_kind = 0

abbrev pub no_kind : ℕ
no_kind = 1

-- a name, `true`, `false`
abbrev pub name_kind : ℕ
name_kind = 97

abbrev pub true_kind : ℕ
true_kind = 116

abbrev pub false_kind : ℕ
false_kind = 102

-- the plan words
abbrev pub once_kind : ℕ
once_kind = 111

abbrev pub before_kind : ℕ
before_kind = 98

abbrev pub after_kind : ℕ
after_kind = 101

abbrev pub within_kind : ℕ
within_kind = 119

abbrev pub during_kind : ℕ
during_kind = 100

-- `(`, `)`, `,`
abbrev pub open_kind : ℕ
open_kind = 40

abbrev pub close_kind : ℕ
close_kind = 41

abbrev pub comma_kind : ℕ
comma_kind = 44

-- the digit n
abbrev pub digit_kind : ℕ → ℕ
digit_kind n = 48 + n

-- the operators; that of `->` is its first byte
abbrev pub implies_kind : ℕ
implies_kind = 45

abbrev pub until_kind : ℕ
until_kind = 85

abbrev pub release_kind : ℕ
release_kind = 82

abbrev pub and_kind : ℕ
and_kind = 38

abbrev pub or_kind : ℕ
or_kind = 124

abbrev pub not_kind : ℕ
not_kind = 33

abbrev pub next_kind : ℕ
next_kind = 88

abbrev pub weak_next_kind : ℕ
weak_next_kind = 78

abbrev pub eventually_kind : ℕ
eventually_kind = 70

abbrev pub always_kind : ℕ
always_kind = 71

-- How a trace is judged: from its last step back to its first, an entry for each part has its value at the present step, in bit 0,
-- and its obligation about that step, in bit 1.
-- Assumes nothing.
use Rattle.std.specs.Prelude.{ℕ, ◌+◌, ◌*◌, Bool, false, List, ◌++◌, get_or, drop}
use Rattle.basics.specs.Bits.{bit, digit}
use Rattle.basics.specs.Lists.{tabulate}
use Rattle.formula.specs.Semantics.{Trace}
use Rattle.formula.specs.Parts.{Part}
use Rattle.formula.specs.Values.{value_with, owed_with, owed_on, value_on}

-- a part's value and obligation as one number
abbrev pub entry : Bool → Bool → ℕ
entry v o = digit v + 2 * digit o

-- w entries at the first step of a trace
unfoldable pub entries_on : List Part → ℕ → Trace → List ℕ
entries_on ps w π = tabulate w (λ i. entry (value_on ps π i) (owed_on ps π i))

-- ---- one step back, for the first n parts

abbrev pub value_in : List ℕ → ℕ → Bool
value_in entries i = bit (get_or entries i 0) 0

abbrev pub owed_in : List ℕ → ℕ → Bool
owed_in entries i = bit (get_or entries i 0) 1

-- their values at the step with letter a, from the entries for the next step
unfoldable pub with_values : List Part → ℕ → ℕ → List ℕ → List ℕ
with_values ps a n entries = tabulate n (λ i. entry (value_with ps a (owed_in entries) i) false) ++ drop n entries

-- then their obligations, from the values
unfoldable pub with_owed : List Part → ℕ → List ℕ → List ℕ
with_owed ps n entries = tabulate n (λ i. entry (value_in entries i) (owed_with ps (value_in entries) i)) ++ drop n entries

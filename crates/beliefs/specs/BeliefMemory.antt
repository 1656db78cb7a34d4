-- Beliefs in memory, one after another, bit s of a belief's bytes for state s. What a pair of a choice and an observation makes of a
-- belief, from the table of the states' successors: a state's row has an entry for each letter, and letter number q + h * pairs is
-- pair q with hidden value h.
-- Assumes nothing.
use Rattle.std.specs.Prelude.{ℕ, zero, suc, ◌+◌, ◌*◌, ◌/◌, ◌%◌, ◌^◌, ◌≤◌, ◌<◌, ◌≡◌, Bool, false, cond, List, [], ◌∷◌, ◌++◌, map, eqb, length, get_or, set, take, replicate}
use Rattle.std.specs.Int.Bits.{bit_or}
use Rattle.basics.specs.Bits.{bit, digit}
use Rattle.basics.specs.Bounded.{all, any}
use Rattle.basics.specs.Lists.{tabulate, below, padded, written}
use Rattle.basics.specs.Reach.{Listing, closed, over, reachable}
use Rattle.basics.specs.Successors.{own_steps, grown_over, row_over, rows_over}
use Rattle.search.specs.Limits.{state_limit, letter_limit, set_size}
use Rattle.search.specs.ReachableSets.{same_set}
use Rattle.search.specs.Slots.{bit_bytes, item_in, items_in, HoldsItems, ExpandedItems, same_slot}
use Rattle.play.specs.Limits.{belief_limit, pair_limit}
use Rattle.play.specs.Belief.{Belief, has, alone, reached, every}

-- bytes that a belief takes: a bit for each state
abbrev pub belief_size : ℕ
belief_size = state_limit / 8

-- bytes that hold the places found last
abbrev pub hint_size : ℕ
hint_size = 1024

-- a belief's bytes
unfoldable pub pack_belief : Belief → List ℕ
pack_belief b = bit_bytes belief_size (has b)

-- belief i over n states, and the first k
abbrev pub belief_in : ℕ → List ℕ → ℕ → Belief
belief_in = item_in belief_size

abbrev pub beliefs_in : ℕ → List ℕ → ℕ → List Belief
beliefs_in = items_in belief_size

-- the memory begins with k beliefs
abbrev pub HoldsBeliefs : ℕ → List ℕ → ℕ → Type 0
HoldsBeliefs n = HoldsItems belief_size n pack_belief

-- no two of the first m places hold the same bytes
pub record Apart (mem : List ℕ) (m : ℕ) : Type 0 where
  pub apart : (i j : ℕ) → i < j → j < m → same_slot belief_size mem j i ≡ false

-- ---- which beliefs are final

-- state s accepts: it holds the all-zero pattern, the lowest bit of its set
abbrev pub accepts_in : List ℕ → ℕ → Bool
accepts_in sets s = bit (get_or sets (s * set_size) 0) 0

-- every state of the belief accepts
abbrev pub is_final : List ℕ → ℕ → Belief → Bool
is_final sets n b = every n (accepts_in sets) b

-- 1 for a belief that is final, else 0
abbrev pub mark_of : List ℕ → ℕ → Belief → ℕ
mark_of sets n b = digit (is_final sets n b)

unfoldable pub finals_of : List ℕ → ℕ → List Belief → List ℕ
finals_of sets n bs = map (mark_of sets n) bs

-- ---- where pairs lead

-- the state that letter number a leads to from state s
abbrev pub successor_in : List ℕ → ℕ → ℕ → ℕ
successor_in successors s a = get_or successors (s * letter_limit + a) 0

-- the successors of n states are states
pub record Successors (successors : List ℕ) (n pairs hiddens : ℕ) : Type 0 where
  pub inside : (s a : ℕ) → s < n → a < hiddens * pairs → successor_in successors s a < n

-- of n states, those that some hidden value leads to by pair q from a state of the belief
unfoldable pub belief_after : List ℕ → ℕ → ℕ → ℕ → Belief → ℕ → Belief
belief_after successors n pairs hiddens b q = reached n hiddens (λ s h. successor_in successors s (q + h * pairs)) b

-- how many pairs are tried in a belief: a final one has no moves
abbrev pub pairs_from : List ℕ → ℕ → ℕ → Belief → ℕ
pairs_from sets n pairs b = cond (is_final sets n b) 0 pairs

-- the k beliefs in memory, and behind them those that the first c pairs lead to from b; and the numbers of these
abbrev pub tried_from : List ℕ → ℕ → ℕ → ℕ → ℕ → List ℕ → ℕ → Belief → List Belief
tried_from successors n pairs hiddens c mem k = grown_over same_set (belief_after successors n pairs hiddens) (below c) (beliefs_in n mem k)

abbrev pub tried_row : List ℕ → ℕ → ℕ → ℕ → ℕ → List ℕ → ℕ → Belief → List ℕ
tried_row successors n pairs hiddens c mem k b =
    row_over same_set (belief_after successors n pairs hiddens) (below c) (tried_from successors n pairs hiddens c mem k b) b

-- the memory holds these beliefs, and these numbers are written at the front of a row
abbrev pub Tried : List ℕ → ℕ → ℕ → ℕ → ℕ → List ℕ → ℕ → Belief → List ℕ → List ℕ → List ℕ → Type 0
Tried successors n pairs hiddens c mem k b row =
    ExpandedItems belief_size n pack_belief belief_limit (tried_from successors n pairs hiddens c mem k b)
    (written (tried_row successors n pairs hiddens c mem k b) row)

-- the beliefs that count: the first, and those that pairs lead to from one that counts and is not final; `over` if there are more than the
-- limit
unfoldable pub counted_beliefs : List ℕ → List ℕ → ℕ → ℕ → ℕ → ℕ → Listing Belief
counted_beliefs sets successors n pairs hiddens limit =
    reachable same_set (own_steps (belief_after successors n pairs hiddens) (λ b. below (pairs_from sets n pairs b))) (alone n 0) limit

-- for each belief the row of the numbers of those that pairs lead to, all zero for a final one; nothing if there are too many
abbrev pub moves_of : List ℕ → List ℕ → ℕ → ℕ → ℕ → Listing Belief → List ℕ
moves_of sets successors n pairs hiddens =
    rows_over same_set (belief_after successors n pairs hiddens) (λ b. below (pairs_from sets n pairs b)) pair_limit

-- what the search for all beliefs leaves: their rows, and in front their marks; after too many both are open, and a caller clears or
-- drops them
abbrev pub RanBeliefs : List ℕ → List ℕ → ℕ → ℕ → ℕ → Listing Belief → List ℕ → List ℕ → Type 0
RanBeliefs sets successors n pairs hiddens (closed bs) moves finals =
    (moves ≡ padded (length moves) (moves_of sets successors n pairs hiddens (closed bs))) × (take (length bs) finals ≡ finals_of sets n bs)
RanBeliefs sets successors n pairs hiddens over moves finals = Unit {0}

-- ---- as the code does it: the states of a belief are listed, in the first places of a list of members

-- the numbers below n that pass a test, upward
unfoldable pub passing : (ℕ → Bool) → ℕ → List ℕ
passing ok zero = []
passing ok (suc s) = passing ok s ++ cond (ok s) (s ∷ []) []

-- the states of a belief, of n
abbrev pub members_of : ℕ → Belief → List ℕ
members_of n b = passing (has b) n

-- the first `count` members are states, of n
pub record Members (n : ℕ) (members : List ℕ) (count : ℕ) : Type 0 where
  pub fits : count ≤ length members
  pub small : (i : ℕ) → i < count → get_or members i 0 < n

-- s is one of them
unfoldable pub is_member : List ℕ → ℕ → ℕ → Bool
is_member members count s = any count (λ i. eqb (get_or members i 0) s)

-- the belief, over n states, that has them
unfoldable pub belief_of : ℕ → List ℕ → ℕ → Belief
belief_of n members count = tabulate n (is_member members count)

-- each of them accepts
unfoldable pub all_accept : List ℕ → List ℕ → ℕ → Bool
all_accept sets members count = all count (λ i. accepts_in sets (get_or members i 0))

-- the bytes with bit t set
unfoldable pub with_state : List ℕ → ℕ → List ℕ
with_state bytes t = set bytes (t / 8) (bit_or (get_or bytes (t / 8) 0) (2 ^ (t % 8)))

-- with the states that the first h hidden values lead to
unfoldable pub with_hidden : List ℕ → ℕ → ℕ → ℕ → ℕ → List ℕ → List ℕ
with_hidden successors s q pairs zero bytes = bytes
with_hidden successors s q pairs (suc h) bytes = with_state (with_hidden successors s q pairs h bytes) (successor_in successors s (q + h * pairs))

-- the bytes of the belief after pair q, from the first c members
unfoldable pub after_members : List ℕ → List ℕ → ℕ → ℕ → ℕ → ℕ → List ℕ
after_members successors members q pairs hiddens zero = replicate belief_size 0
after_members successors members q pairs hiddens (suc c) =
    with_hidden successors (get_or members c 0) q pairs hiddens (after_members successors members q pairs hiddens c)

-- `states::maps::same_words` meets its contract. The invariant: the words passed agree.
-- Assumes nothing.
use mathlib.Core.Path.{◌≡◌}
use mathlib.Core.Bool.{true}
use Rattle.basics.specs.Bounded.{agree}
use Rattle.states.proofs.maps.MapLoops.{word_at}
use Rattle.states.proofs.maps.same_words.Given as goal

abbrev pub invariant-loop-y : goal.invariant-loop-y
invariant-loop-y l = agree (word_at l.words l.a) (word_at l.words l.b) l.y ≡ true

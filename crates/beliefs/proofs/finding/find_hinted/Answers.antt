-- `beliefs::finding::find_hinted` meets its contract: a hint that holds the bytes is the first place that does.
-- Assumes nothing.
use mathlib.Core.Path.{sym, ◌∙◌}
use Rattle.beliefs.proofs.ApartPlaces.{only_place}
use Rattle.beliefs.proofs.finding.find_hinted.Goals as goal

pub returns-then-same_slot : goal.returns-then-same_slot
returns-then-same_slot c =
    sym (only_place c.args.mem.now c.args.m _ c.requires.apart c.if-g-m.true
    (sym c.same_slot.ensures ∙ c.if-same_slot.true))

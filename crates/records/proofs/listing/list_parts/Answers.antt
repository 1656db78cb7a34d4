-- `records::listing::list_parts` meets its contract, by that of `read`.
-- Assumes nothing.
use mathlib.Core.Path.{◌∙◌}
use Rattle.records.proofs.ReadingLaws.{listed_short, listed_read}
use Rattle.records.proofs.listing.list_parts.Goals as goal
use Rattle.records.proofs.listing.list_parts.Goals.{else-room-ge-PART_LIMIT, then-room-ge-PART_LIMIT}

pub returns : goal.returns
returns c =
    elim c.if-room-ge-PART_LIMIT.branch [
      | then-room-ge-PART_LIMIT w ↦ listed_read c.args.room c.args.source.now _ _ _ w.if-room-ge-PART_LIMIT.true (w.codes-is ∙ w.read-reading.ensures.parts_after) (w.reading-is ∙ w.read-reading.ensures.value)
          c.count_of.ensures
      | else-room-ge-PART_LIMIT w ↦ listed_short c.args.room c.args.source.now _ _ _ w.if-room-ge-PART_LIMIT.false w.codes-is w.reading-is c.count_of.ensures
    ]

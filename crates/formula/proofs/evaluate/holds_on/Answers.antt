-- `formula::evaluate::holds_on` meets its contract, by that of `entries_at`.
-- Assumes nothing.
use mathlib.Core.Path.{◌∙◌}
use lib.ListN.{length}
use Rattle.formula.proofs.evaluate.EntryLoop.{last_value_lem}
use Rattle.formula.proofs.evaluate.holds_on.Goals as goal

pub returns : goal.returns
returns c =
    record { value = c.value_in.ensures ∙ last_value_lem c.args.parts.now (length c.args.entries.now) c.args.trace.now _ c.requires.parts_nonzero c.requires.parts_in_bounds.0 c.entries_at.ensures; entries_after = c.entries_at.ensures }

-- `records::lending::record_at` meets its contract. Inside, it does not matter what would stand past the end. Assumes nothing.
use Rattle.std.proofs.Common.{sym}
use Rattle.std.proofs.lemmas.List.{get_or_default}
use Rattle.std.proofs.Math.ListN.{get_or-eq_default}
use Rattle.formula.specs.Parts.{no_part, part_at}
use Rattle.records.proofs.lending.record_at.Goals as goal

pub returns-then-i-parts : goal.returns-then-i-parts
unfolding part_at
returns-then-i-parts c = get_or_default c.args.parts.now c.args.i _ no_part c.if-i-parts.true

pub returns-else-i-parts : goal.returns-else-i-parts
unfolding part_at
returns-else-i-parts c = sym (get_or-eq_default c.args.parts.now no_part c.if-i-parts.false)

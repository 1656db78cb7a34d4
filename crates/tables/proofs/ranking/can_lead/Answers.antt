-- `tables::ranking::can_lead` meets its contract.
-- Assumes nothing.
use mathlib.Core.Path.{sym, ap, ◌∙◌}
use Rattle.tables.specs.PositionMemory.{can_lead}
use Rattle.tables.proofs.ranking.ChoiceLoop.{lead_set}
use Rattle.tables.proofs.ranking.can_lead.Goals as goal

pub returns-in-Set : goal.returns-in-Set
returns-in-Set c =
    lead_set c.args.arena.now.moves.now c.args.ranks.now c.args.arena.now.choices c.args.arena.now.observations c.args.r c.args.k _ c.smallest_choice.ensures
    ∙ ap (λ o. can_lead o c.args.arena.now.moves.now c.args.ranks.now c.args.arena.now.choices c.args.arena.now.observations c.args.r c.args.k) (sym c.in-Set.is)

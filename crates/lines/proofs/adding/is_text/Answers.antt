-- `lines::adding::is_text` meets its contract.
-- Assumes nothing.
use Rattle.lines.proofs.adding.TextTest.{text_none, text_long, text_tab}
use Rattle.lines.proofs.adding.is_text.Goals as goal

pub returns-then-text-eq0 : goal.returns-then-text-eq0
returns-then-text-eq0 c =
    text_none _ c.if-text-eq0.true

pub returns-then-text-gt-TEXT_LIMIT : goal.returns-then-text-gt-TEXT_LIMIT
returns-then-text-gt-TEXT_LIMIT c =
    text_long _ c.if-text-eq0.false c.if-text-gt-TEXT_LIMIT.true

pub returns : goal.returns
returns c =
    text_tab _ c.if-text-eq0.false c.if-text-gt-TEXT_LIMIT.false _ c.past.ensures

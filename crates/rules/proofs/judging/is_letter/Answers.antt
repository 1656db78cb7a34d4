-- `rules::judging::is_letter` meets its contract, field by field.
-- Assumes nothing.
use Rattle.rules.proofs.TraceLaws.{letter_test}
use Rattle.rules.proofs.judging.is_letter.Goals as goal

pub returns : goal.returns
returns c =
    letter_test _ _ c.requires.0 c.requires.1 c.requires.2

-- `rules::reader::read` meets its contract, by that of `read_source`.
-- Assumes nothing.
use mathlib.Core.Path.{sym, ◌∙◌}
use Rattle.rules.specs.Problem.{read_problem}
use Rattle.rules.proofs.ReadIffDue.{read_told}
use Rattle.rules.proofs.ReadingLaws.{parts_accepted, parts_refused}
use Rattle.rules.proofs.reader.read.Goals as goal

pub returns-in-Ok : goal.returns-in-Ok
returns-in-Ok c =
    record { value = sym c.in-Ok.is ∙ c.read_source.ensures.value; parts_after = parts_accepted (read_problem c.args.source.now) _ c.read_source.ensures.value c.args.parts.now _ c.in-Ok.is _ c.read_source.ensures.parts_read; read_as = read_told c.args.source.now _ (sym c.in-Ok.is ∙ c.read_source.ensures.value) }

pub returns-in-Err : goal.returns-in-Err
returns-in-Err c =
    record { value = sym c.in-Err.is ∙ c.read_source.ensures.value; parts_after = c.fill.ensures.after (λ y e. e) ∙ parts_refused (read_problem c.args.source.now) _ c.read_source.ensures.value c.args.parts.now _ c.in-Err.is _ c.read_source.auto.parts; read_as = read_told c.args.source.now _ (sym c.in-Err.is ∙ c.read_source.ensures.value) }

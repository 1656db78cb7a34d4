-- `rules::reader::read_source` meets its contract, by that of `read_lines`.
-- Assumes nothing.
use native.Mathlib.Omega.{arith}
use mathlib.Core.Path.{ap, subst, ◌∙◌}
use Rattle.rules.specs.Reading.{reading_of, PartsRead}
use Rattle.rules.proofs.ReadingLaws.{long_source, short_source}
use Rattle.rules.proofs.reader.read_source.Goals as goal

pub returns-then-source-gt-SOURCE_LIMIT : goal.returns-then-source-gt-SOURCE_LIMIT
returns-then-source-gt-SOURCE_LIMIT c =
    let whole = long_source _ _ _ c.if-source-gt-SOURCE_LIMIT.true in
    record { value = whole.0; parts_read = whole.1 }

pub returns : goal.returns
returns c =
    let e = short_source c.args.source.now (omega arith) in
    record { value = c.read_lines.ensures.value ∙ ap reading_of e; parts_read = subst (λ o. PartsRead o c.args.parts.now c.read_lines.new.parts) e c.read_lines.ensures.parts_read }

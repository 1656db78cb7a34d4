use Rattle.std.proofs.Common.{ap, ◌∙◌}
use Rattle.lines.proofs.declaring.NameTest.{names_all, token_name}
use Rattle.lines.proofs.declaring.is_name.Goals as goal

pub returns : goal.returns
returns c =
    ap (λ t. names_all t c.args.name.now) c.token_at-t.ensures ∙ token_name c.args.name.now

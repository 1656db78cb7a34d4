-- `obligations::letters::letter_of` meets its contract: shifts and masks against division and remainder.
-- Assumes nothing.
use native.Mathlib.Omega.{arith}
use Rattle.obligations.specs.Letters.{counts}
use Rattle.obligations.proofs.LettersLaws.{shl_pos, letter_code, letter_fits}
use Rattle.obligations.proofs.letters.letter_of.Goals as goal

pub overflow_sub-out : goal.overflow_sub-out
overflow_sub-out c =
    shl_pos _ (omega (arith, c.requires.outputs_le_kind_limit))

pub overflow_sub-see : goal.overflow_sub-see
overflow_sub-see c =
    shl_pos _ (omega (arith, c.requires.observed_le_kind_limit))

pub overflow_cast-result : goal.overflow_cast-result
overflow_cast-result c =
    let k = counts c.args.outputs c.args.observed c.args.hidden in
    record { fits = letter_fits k c.requires.outputs_le_kind_limit c.requires.observed_le_kind_limit c.requires.hidden_le_kind_limit c.args.i c.requires.i_bound }

pub returns : goal.returns
returns c =
    letter_code (counts c.args.outputs c.args.observed c.args.hidden) c.requires.outputs_le_kind_limit c.requires.observed_le_kind_limit c.requires.hidden_le_kind_limit c.args.i
    c.requires.i_bound

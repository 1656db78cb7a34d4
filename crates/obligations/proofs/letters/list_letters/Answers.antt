use native.Mathlib.Omega.{arith}
use mathlib.Core.Path.{◌≡◌, ap, ◌∙◌}
use mathlib.Core.List.{◌++◌}
use lib.ListN.{drop}
use Rattle.basics.specs.Lists.{tabulate}
use Rattle.obligations.specs.Letters.{counts, letter_count, letter_of, letters_of}
use Rattle.basics.proofs.Filling.{table_more}
use Rattle.obligations.proofs.letters.list_letters.Goals as goal

pub loop-i-preserved : goal.loop-i-preserved
loop-i-preserved c =
    (c.loop-i.invariant.0, table_more c.loop-i.i _ c.args.letters.now _ _ (omega arith) c.loop-i.invariant.1 c.letter_of.ensures)

pub returns : goal.returns
unfolding letters_of
returns c =
    let k = counts c.args.outputs c.args.observed c.args.hidden in
    let e : c.loop-i.i ≡ letter_count k = omega arith in
    record {
      value = c.loop-i.invariant.0;
      letters_after = c.loop-i.invariant.1 ∙ ap (λ n. tabulate n (letter_of k) ++ drop n c.args.letters.now) e;
    }

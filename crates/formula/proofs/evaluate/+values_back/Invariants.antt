-- `formula::evaluate::values_back` meets its contract. The measure is the number of values that are left to write.
-- Assumes nothing.
use Rattle.formula.proofs.evaluate.+values_back.Given as goal

abbrev pub decreases-values_back : goal.decreases-values_back
decreases-values_back l = l.n

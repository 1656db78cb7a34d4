-- `obligations::values::put_values` meets its contract. The measure is the number of parts that are left to write.
-- Assumes nothing.
use Rattle.obligations.proofs.values.+put_values.Given as goal

abbrev pub decreases-put_values : goal.decreases-put_values
decreases-put_values l = l.n

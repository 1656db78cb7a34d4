-- `compare::draw_formula::Drawing::put_tree` and `put_two` are safe and end: from call to call the size falls, or stays where a tree becomes
-- two. Assumes nothing.
use Rattle.std.proofs.Common.{◌+◌, ◌*◌}
use Rattle.compare.proofs.draw_formula.Drawing.+put_tree_put_two.Given as goal

abbrev pub decreases-put_tree : goal.decreases-put_tree
decreases-put_tree l = 2 * l.size + 1

abbrev pub decreases-put_two : goal.decreases-put_two
decreases-put_two l = 2 * l.size

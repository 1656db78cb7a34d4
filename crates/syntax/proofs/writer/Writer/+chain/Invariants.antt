-- `syntax::writer::Writer::chain` meets its contract. The measure is the number of steps.
-- Assumes nothing.
use Rattle.syntax.proofs.writer.Writer.+chain.Given as goal

abbrev pub decreases-chain : goal.decreases-chain
decreases-chain l = l.k

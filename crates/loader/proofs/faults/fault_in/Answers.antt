-- `loader::faults::fault_in` meets its contract.
-- Assumes nothing.
use Rattle.printer.proofs.TextLaws.{text_fits}
use Rattle.loader.proofs.faults.fault_in.Goals as goal

pub compare_print-requires : goal.compare_print-requires
compare_print-requires c =
    text_fits c.args.cells.now c.args.shape c.args.worst c.requires

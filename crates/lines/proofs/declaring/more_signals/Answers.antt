use native.Mathlib.Omega.{arith}
use Rattle.lines.proofs.declaring.more_signals.Goals as goal

pub overflow_add-result : goal.overflow_add-result
overflow_add-result c =
    let h = rw c.in-Output.is at c.requires in
    omega arith

pub overflow_add-result-in-Observed : goal.overflow_add-result-in-Observed
overflow_add-result-in-Observed c =
    let h = rw c.in-Observed.is at c.requires in
    omega arith

pub overflow_add-result-in-Hidden : goal.overflow_add-result-in-Hidden
overflow_add-result-in-Hidden c =
    let h = rw c.in-Hidden.is at c.requires in
    omega arith

pub returns-in-Output : goal.returns-in-Output
returns-in-Output c =
    rw c.in-Output.is

pub returns-in-Observed : goal.returns-in-Observed
returns-in-Observed c =
    rw c.in-Observed.is

pub returns-in-Hidden : goal.returns-in-Hidden
returns-in-Hidden c =
    rw c.in-Hidden.is

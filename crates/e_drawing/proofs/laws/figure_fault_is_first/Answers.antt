use Rattle.e_drawing.proofs.FirstFault.{figure_fault_is_first}
use Rattle.e_drawing.proofs.laws.figure_fault_is_first.Goals as goal

pub returns : goal.returns
returns c = figure_fault_is_first

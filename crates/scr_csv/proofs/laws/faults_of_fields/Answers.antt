-- The field that a line is refused for.
use Rattle.scr_csv.proofs.RecordFaults.{line_fault}
use Rattle.scr_csv.proofs.laws.faults_of_fields.Goals as goal

pub returns : goal.returns
returns c = line_fault

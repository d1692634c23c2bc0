-- What is kept of a record.
use Rattle.scr_csv.proofs.Keeping.{kept_faults, kept_whole}
use Rattle.scr_csv.proofs.laws.kept_records.Goals as goal

pub returns-clause-faults : goal.returns-clause-faults
returns-clause-faults c = kept_faults

pub returns-clause-whole : goal.returns-clause-whole
returns-clause-whole c = kept_whole

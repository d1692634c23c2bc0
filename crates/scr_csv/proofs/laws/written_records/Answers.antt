-- Each record, read from its line.
use Rattle.scr_csv.proofs.Written.{record_read}
use Rattle.scr_csv.proofs.laws.written_records.Goals as goal

pub returns : goal.returns
returns c = record_read

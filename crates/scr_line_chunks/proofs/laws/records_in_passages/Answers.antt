-- Records of passages one after another.
use Rattle.scr_line_chunks.proofs.Marks.{behind-append}
use Rattle.scr_line_chunks.proofs.laws.records_in_passages.Goals as goal

pub returns-clause-passages : goal.returns-clause-passages
returns-clause-passages c = behind-append

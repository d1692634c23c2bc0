use Rattle.scr_profile.proofs.Words.{segment-count, segment-listed}
use Rattle.scr_profile.proofs.laws.segments_by_number.Goals as goal

pub returns-clause-listed : goal.returns-clause-listed
returns-clause-listed c = segment-listed

pub returns-clause-count : goal.returns-clause-count
returns-clause-count c = segment-count

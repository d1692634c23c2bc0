use Rattle.scr_counters.proofs.Seats.{count-zeros}
use Rattle.scr_counters.proofs.counts.Counts.new.Goals as goal

pub invariant_of-result : goal.invariant_of-result
invariant_of-result c place = count-zeros 438 place

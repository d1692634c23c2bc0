use Rattle.std.proofs.Common.{◌/◌, ◌%◌}
use Rattle.scr_counters.specs.Days.{days_to, count_of}
use Rattle.scr_counters.proofs.days.DayTally.new.Goals as goal

pub returns : goal.returns
unfolding count_of
returns c day = c.in_ok-blocks.ensures (days_to day / 438) (days_to day % 438)

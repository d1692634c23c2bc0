-- The blocks so far are plain.
use Rattle.std.proofs.Common.{◌≡◌, ◌+◌, ◌-◌, ◌<◌, true, take}
use Rattle.std.specs.List.{list_all}
use Rattle.scr_csv.specs.LineFields.{is_plain}
use Rattle.scr_csv.proofs.split.is_plain.Given as goal

abbrev pub invariant-walk : goal.invariant-walk
invariant-walk l = record {
  plain : list_all is_plain (take l.at l.text) ≡ true;
  within : l.at < l.last + 16;
}

abbrev pub decreases-walk : goal.decreases-walk
decreases-walk l = l.last - l.at

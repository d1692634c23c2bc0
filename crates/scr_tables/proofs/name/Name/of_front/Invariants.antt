-- The bytes so far stand in front of zeros.
use Rattle.std.proofs.Common.{◌≡◌, ◌-◌, ◌<◌, ◌≤◌, ℕ, true, length, take, get_or}
use Rattle.scr_tables.specs.Names.{is_name_byte, padded}
use Rattle.scr_tables.proofs.name.Name.of_front.Given as goal

abbrev pub invariant-bytes : goal.invariant-bytes
invariant-bytes l = record {
  within : l.count ≤ length l.text;
  cells : l.cells ≡ padded (take l.count l.text);
  passed : (k : ℕ) → k < l.count → is_name_byte (get_or l.text k 0) ≡ true;
}

abbrev pub decreases-bytes : goal.decreases-bytes
decreases-bytes l = length l.text - l.count

-- Property risk as it is worked out, in grains, thousandths of a cent (this project's own): exactly.
use Rattle.std.specs.Prelude.{ℕ, ◌*◌, pos}
use Rattle.scr_num.specs.Rounding.{Ends, exact_ends}

abbrev pub property_ends : ℕ → Ends
property_ends cents = exact_ends (pos (250 * cents))

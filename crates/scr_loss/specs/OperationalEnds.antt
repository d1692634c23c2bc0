-- Operational risk as it is worked out, in grains, thousandths of a cent (this project's own): of what stands in whole
-- cents or fifths of a cent only half a grain needs rounding.
use Rattle.std.specs.Prelude.{ℕ, ◌*◌, ℤ, pos, ◌-ℤ◌}
use Rattle.scr_num.specs.Rounding.{Ends, exact_ends, add_ends, max_ends, min_ends, scale_ends}
use Rattle.scr_profile.specs.declared.operational.OpInput.{OpInput}

-- what premiums are above 1.2 times those of the year before, in fifths of a cent
abbrev pub fifths_beyond : (now before : ℕ) → ℤ
fifths_beyond now before = pos (5 * now) -ℤ pos (6 * before)

-- so many units, of each of which so many grains count
abbrev pub counted_ends : ℤ → (grains : ℕ) → Ends
counted_ends units grains = scale_ends (exact_ends units) grains 1

abbrev pub or_nil_ends : Ends → Ends
or_nil_ends e = max_ends (exact_ends (pos 0)) e

abbrev pub level_ends : OpInput → Ends
level_ends op = add_ends (counted_ends (pos op.el -ℤ pos op.eul) 40) (counted_ends (pos op.en) 30)

abbrev pub growth_ends : OpInput → Ends
growth_ends op =
    add_ends (or_nil_ends (counted_ends (fifths_beyond op.el op.pel -ℤ fifths_beyond op.eul op.peul) 8))
    (or_nil_ends (counted_ends (fifths_beyond op.en op.pen) 6))

abbrev pub prem_ends : OpInput → Ends
prem_ends op = add_ends (level_ends op) (growth_ends op)

abbrev pub prov_ends : OpInput → Ends
prov_ends op =
    add_ends (scale_ends (or_nil_ends (exact_ends (op.tpl -ℤ op.tpul))) 9 2)
    (scale_ends (or_nil_ends (exact_ends op.tpn)) 30 1)

abbrev pub cap_ends : Ends → Ends
cap_ends bscr = scale_ends bscr 3 10

abbrev pub op_ends : (cap prem prov : Ends) → (expul : ℕ) → Ends
op_ends cap prem prov expul = add_ends (min_ends cap (max_ends prem prov)) (exact_ends (pos (250 * expul)))

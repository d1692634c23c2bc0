-- The mask of the first eight bytes.
use Rattle.std.proofs.Common.{◌==◌, ap, ◌∙◌}
use Rattle.scr_dates.proofs.Lanes.{front_digits}
use Rattle.scr_dates.proofs.day.begins_with_digits.Goals as goal

pub returns : goal.returns
returns c =
    ap (λ mask. mask == 111) c.digits.ensures
    ∙ front_digits c.args.text.now c.requires.long c.requires.first_dash c.requires.second_dash

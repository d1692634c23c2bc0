use Rattle.std.proofs.Common.{ℕ, ap, get_or, ◌∙◌, arith}
use Rattle.std.proofs.lemmas.List.{get_or_read}
use Rattle.scr_ids.specs.Ranges.{no_ranges}
use Rattle.scr_ids.proofs.places.roll_of.Goals as goal

pub returns : goal.returns
returns c =
    get_or_read c.args.rolls.now c.number.result c.index-rolls-number.result
    (omega (arith, c.number.ensures.number, c.number.ensures.few, c.requires)) c.index-rolls-number.is no_ranges
    ∙ ap (λ (n : ℕ). get_or c.args.rolls.now n no_ranges) c.number.ensures.number

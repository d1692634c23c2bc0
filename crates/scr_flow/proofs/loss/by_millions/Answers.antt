use Rattle.std.proofs.Common.{◌*◌, subst, sym}
use Rattle.scr_num.specs.Rounding.{ends}
use Rattle.scr_num.specs.Sizes.{IsWithin}
use Rattle.scr_flow.proofs.Millions.{millions_and_rest}
use Rattle.scr_flow.proofs.SizeLemmas.{scaled-within}
use Rattle.scr_flow.proofs.loss.by_millions.Goals as goal

pub returns-clause-ends : goal.returns-clause-ends
returns-clause-ends c =
    let both = millions_and_rest (ends c.args.unit) c.args.cents in
    let whole = c.scale-millions.ensures.ends in
    let rest = c.scale-rest.ensures.ends in
    let sum = c.add.ensures.ends in
    cc

pub returns-clause-size : goal.returns-clause-size
returns-clause-size c =
    subst (IsWithin (13_700_000_000_000_000_000 * c.args.cents)) (sym (returns-clause-ends c)) (scaled-within (ends c.args.unit) c.args.cents c.requires.unit_in)

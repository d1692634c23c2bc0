use Rattle.std.proofs.Common.{◌*◌, rules, subst, sym}
use Rattle.scr_num.specs.Rounding.{ends}
use Rattle.scr_num.specs.Sizes.{IsWithin}
use Rattle.scr_flow.proofs.SizeLemmas.{scaled-within}
use Rattle.scr_flow.proofs.loss.per_million.Goals as goal

pub returns-clause-ends : goal.returns-clause-ends
returns-clause-ends c = search rules

pub returns-clause-size : goal.returns-clause-size
returns-clause-size c =
    subst (IsWithin (13_700_000_000_000_000_000 * c.args.cents)) (sym (returns-clause-ends c)) (scaled-within (ends c.args.unit) c.args.cents c.requires.unit_in)

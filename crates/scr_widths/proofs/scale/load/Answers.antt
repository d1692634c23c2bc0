use Rattle.std.proofs.Common.{arith}
use Rattle.scr_widths.proofs.Loads.{seen-held}
use Rattle.scr_widths.proofs.scale.load.Goals as goal

pub returns-clause-value : goal.returns-clause-value
returns-clause-value c =
    omega (
      arith,
      seen-held c.args.sheet.now c.requires,
      c.securities_held.ensures,
      c.funds_held.ensures,
      c.greatest_flows.ensures.value,
    )

use Rattle.std.proofs.Common.{arith}
use Rattle.scr_rules.proofs.DefaultCode.{losses-split}
use Rattle.scr_rules.proofs.default_rules.group_losses.Goals as goal

pub bank_losses-requires-clause-small : goal.bank_losses-requires-clause-small
bank_losses-requires-clause-small c = omega (arith, losses-split c.args.sheet.now c.args.name.now, c.requires.fits.together)

pub reinsurer_losses-requires-clause-small : goal.reinsurer_losses-requires-clause-small
reinsurer_losses-requires-clause-small c = omega (arith, losses-split c.args.sheet.now c.args.name.now, c.requires.fits.together)

pub overflow_add-result : goal.overflow_add-result
overflow_add-result c = omega (arith, losses-split c.args.sheet.now c.args.name.now, c.requires.fits.together, c.bank_losses.ensures.value, c.reinsurer_losses.ensures.value)

pub returns : goal.returns
returns c = record { value = omega (arith, losses-split c.args.sheet.now c.args.name.now, c.bank_losses.ensures.value, c.reinsurer_losses.ensures.value) }

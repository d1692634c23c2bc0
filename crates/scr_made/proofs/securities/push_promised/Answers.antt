-- Nothing is drawn where nothing is promised.
use Rattle.std.proofs.Common.{sym, ◌∙◌}
use Rattle.scr_made.proofs.Steps.{promised_none}
use Rattle.scr_made.proofs.securities.push_promised.Goals as goal

pub returns-else-promises : goal.returns-else-promises
returns-else-promises c =
    promised_none c.args.k c.args.class c.args.draws.now.state c.args.out.now.items
    (sym c.promises.ensures ∙ c.if-promises.false)

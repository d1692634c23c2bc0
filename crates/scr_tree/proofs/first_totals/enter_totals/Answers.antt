use Rattle.std.proofs.Common.{length, ap, ◌∙◌}
use Rattle.scr_sheet.specs.declared.sheet.BalanceSheet.{BalanceSheet}
use Rattle.scr_look_through.proofs.SeenThrough.{front-totals, rest-totals}
use Rattle.scr_tree.proofs.first_totals.enter_totals.Goals as goal

pub put_funds-requires-clause-totals : goal.put_funds-requires-clause-totals
put_funds-requires-clause-totals g c =
    front-totals c.args.ground.inputs.book.now.sheet c.args.totals.now c.len-funds.result c.requires.totals
    (c.len-funds.ensures.count ∙ ap (λ (s : BalanceSheet). length s.funds) c.sheet.ensures.sheet)

pub put_securities-requires-clause-totals : goal.put_securities-requires-clause-totals
put_securities-requires-clause-totals g c =
    rest-totals c.args.ground.inputs.book.now.sheet c.args.totals.now c.len-funds.result c.requires.totals
    (c.len-funds.ensures.count ∙ ap (λ (s : BalanceSheet). length s.funds) c.sheet.ensures.sheet)

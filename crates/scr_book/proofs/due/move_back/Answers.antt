use Rattle.std.proofs.Common.{sym, subst}
use Rattle.scr_sheet.specs.Earlier.{with_earlier, FitsIn}
use Rattle.scr_sheet.specs.Validity.{Valid}
use Rattle.scr_sheet.specs.declared.earlier.Earlier.{Earlier}
use Rattle.scr_book.specs.Holders.{IsGraphOf}
use Rattle.scr_book.proofs.HoldersBack.{graph-fund_back, apart-back}
use Rattle.scr_book.proofs.due.move_back.Goals as goal

pub put_fund_back-requires : goal.put_fund_back-requires
put_fund_back-requires c =
    let fits = subst (λ (e : Earlier). FitsIn e c.args.sheet.now) c.in-Funds.is c.requires.place in
    let back = subst (λ (e : Earlier). Valid (with_earlier e c.args.sheet.now)) c.in-Funds.is c.requires.back in
    record { apart = apart-back c.args.sheet.now c.args.graph.now c.requires.graph c.in-Funds.past fits c.requires.valid back }

pub returns-in-Some-clause-back : goal.returns-in-Some-clause-back
returns-in-Some-clause-back c is =
    let fits = subst (λ (e : Earlier). FitsIn e c.args.sheet.now) c.in-Funds.is c.requires.place in
    subst (λ (e : Earlier). IsGraphOf (with_earlier e c.args.sheet.now) c.put_fund_back.new.graph) (sym c.in-Funds.is)
    (graph-fund_back c.args.sheet.now c.args.graph.now c.requires.graph c.in-Funds.past fits c.requires.valid c.put_fund_back.new.graph (c.put_fund_back.ensures.back is))

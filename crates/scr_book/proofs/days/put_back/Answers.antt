use Rattle.std.proofs.Common.{sym, ap, subst, ◌∙◌, arith}
use Rattle.std.specs.Prelude.{IfSome}
use Rattle.std.specs.Option.{option_map_or}
use Rattle.scr_tables.specs.Tables.{row_of}
use Rattle.scr_sheet.specs.BalanceSheet.{position_name, liability_name}
use Rattle.scr_sheet.specs.Earlier.{with_earlier, FitsIn}
use Rattle.scr_sheet.specs.Validity.{Valid, IsSecurity, IsLiability}
use Rattle.scr_sheet.specs.declared.earlier.Earlier.{Earlier}
use Rattle.scr_sheet.specs.declared.earlier.Earlier.TheVariants as earlier
use Rattle.scr_book.specs.LastDays.{security_ends, liability_ends, AreDaysOf}
use Rattle.scr_book.proofs.Restored.{came_back, stands}
use Rattle.scr_book.proofs.DaysBack.{now-counted, then-fits, days-back}
use Rattle.scr_book.proofs.days.put_back.Goals as goal

-- ---- securities

pub take_security-requires-clause-formed : goal.take_security-requires-clause-formed
take_security-requires-clause-formed c =
    subst (λ found. IfSome found IsSecurity) (sym c.get.ensures) (stands position_name IsSecurity c.name_in.result c.args.sheet.now.securities c.requires.valid.securities)

pub take_security-requires-clause-counted : goal.take_security-requires-clause-counted
take_security-requires-clause-counted c day in_day =
    let sheet = c.args.sheet.now in
    let what : Earlier = earlier.Securities c.in-Securities.past in
    let fits = subst (λ e. FitsIn e sheet) c.in-Securities.is c.requires.place in
    let part = now-counted what sheet fits c.args.days.now c.requires.days day in_day in
    let got = ap (λ o. option_map_or (security_ends day) o 0) (c.get.ensures ∙ ap (λ n. row_of position_name n sheet.securities) c.name_in.ensures) in
    omega (arith, part, got)

pub add_security-requires-clause-formed : goal.add_security-requires-clause-formed
add_security-requires-clause-formed c =
    let valid = subst (λ e. Valid (with_earlier e c.args.sheet.now)) c.in-Securities.is c.requires.back in
    subst (λ found. IfSome found IsSecurity) (sym c.row_in.ensures) (came_back position_name IsSecurity c.in-Securities.past c.args.sheet.now.securities valid.securities)

pub add_security-requires-clause-fits : goal.add_security-requires-clause-fits
add_security-requires-clause-fits c day in_day =
    let sheet = c.args.sheet.now in
    let what : Earlier = earlier.Securities c.in-Securities.past in
    let fits = subst (λ e. FitsIn e sheet) c.in-Securities.is c.requires.place in
    let valid = subst (λ e. Valid (with_earlier e sheet)) c.in-Securities.is c.requires.back in
    let room = then-fits what sheet fits c.args.days.now c.requires.days c.take_security.new.days (λ d i. let out = c.take_security.ensures d i in let got = ap (λ o. option_map_or (security_ends d) o 0) (c.get.ensures ∙ ap (λ n. row_of position_name n sheet.securities) c.name_in.ensures) in omega (arith, out, got)) valid day in_day in
    let got = ap (λ o. option_map_or (security_ends day) o 0) c.row_in.ensures in
    omega (arith, room, got)

pub returns-in-Securities : goal.returns-in-Securities
returns-in-Securities c =
    let sheet = c.args.sheet.now in
    let what : Earlier = earlier.Securities c.in-Securities.past in
    let fits = subst (λ e. FitsIn e sheet) c.in-Securities.is c.requires.place in
    subst (λ e. AreDaysOf (with_earlier e sheet) c.add_security.new.days) (sym c.in-Securities.is)
    (days-back what sheet fits c.args.days.now c.requires.days c.take_security.new.days (λ d i. let out = c.take_security.ensures d i in let got = ap (λ o. option_map_or (security_ends d) o 0) (c.get.ensures ∙ ap (λ n. row_of position_name n sheet.securities) c.name_in.ensures) in omega (arith, out, got)) c.add_security.new.days
    (λ day in_day. let come = c.add_security.ensures day in_day in let got = ap (λ o. option_map_or (security_ends day) o 0) c.row_in.ensures in omega (arith, come, got)))

-- ---- liabilities

pub take_liability-requires-clause-formed : goal.take_liability-requires-clause-formed
take_liability-requires-clause-formed c =
    subst (λ found. IfSome found IsLiability) (sym c.get-in-Liabilities.ensures) (stands liability_name IsLiability c.name_in-in-Liabilities.result c.args.sheet.now.liabilities c.requires.valid.liabilities)

pub take_liability-requires-clause-counted : goal.take_liability-requires-clause-counted
take_liability-requires-clause-counted c day in_day =
    let sheet = c.args.sheet.now in
    let what : Earlier = earlier.Liabilities c.in-Liabilities.past in
    let fits = subst (λ e. FitsIn e sheet) c.in-Liabilities.is c.requires.place in
    let part = now-counted what sheet fits c.args.days.now c.requires.days day in_day in
    let got = ap (λ o. option_map_or (liability_ends day) o 0) (c.get-in-Liabilities.ensures ∙ ap (λ n. row_of liability_name n sheet.liabilities) c.name_in-in-Liabilities.ensures) in
    omega (arith, part, got)

pub add_liability-requires-clause-formed : goal.add_liability-requires-clause-formed
add_liability-requires-clause-formed c =
    let valid = subst (λ e. Valid (with_earlier e c.args.sheet.now)) c.in-Liabilities.is c.requires.back in
    subst (λ found. IfSome found IsLiability) (sym c.row_in-in-Liabilities.ensures) (came_back liability_name IsLiability c.in-Liabilities.past c.args.sheet.now.liabilities valid.liabilities)

pub add_liability-requires-clause-fits : goal.add_liability-requires-clause-fits
add_liability-requires-clause-fits c day in_day =
    let sheet = c.args.sheet.now in
    let what : Earlier = earlier.Liabilities c.in-Liabilities.past in
    let fits = subst (λ e. FitsIn e sheet) c.in-Liabilities.is c.requires.place in
    let valid = subst (λ e. Valid (with_earlier e sheet)) c.in-Liabilities.is c.requires.back in
    let room = then-fits what sheet fits c.args.days.now c.requires.days c.take_liability.new.days (λ d i. let out = c.take_liability.ensures d i in let got = ap (λ o. option_map_or (liability_ends d) o 0) (c.get-in-Liabilities.ensures ∙ ap (λ n. row_of liability_name n sheet.liabilities) c.name_in-in-Liabilities.ensures) in omega (arith, out, got)) valid day in_day in
    let got = ap (λ o. option_map_or (liability_ends day) o 0) c.row_in-in-Liabilities.ensures in
    omega (arith, room, got)

pub returns-in-Liabilities : goal.returns-in-Liabilities
returns-in-Liabilities c =
    let sheet = c.args.sheet.now in
    let what : Earlier = earlier.Liabilities c.in-Liabilities.past in
    let fits = subst (λ e. FitsIn e sheet) c.in-Liabilities.is c.requires.place in
    subst (λ e. AreDaysOf (with_earlier e sheet) c.add_liability.new.days) (sym c.in-Liabilities.is)
    (days-back what sheet fits c.args.days.now c.requires.days c.take_liability.new.days (λ d i. let out = c.take_liability.ensures d i in let got = ap (λ o. option_map_or (liability_ends d) o 0) (c.get-in-Liabilities.ensures ∙ ap (λ n. row_of liability_name n sheet.liabilities) c.name_in-in-Liabilities.ensures) in omega (arith, out, got)) c.add_liability.new.days
    (λ day in_day. let come = c.add_liability.ensures day in_day in let got = ap (λ o. option_map_or (liability_ends day) o 0) c.row_in-in-Liabilities.ensures in omega (arith, come, got)))

use Rattle.std.proofs.Common.{length, ap, refl, arith}
use Rattle.scr_sheet.specs.BalanceSheet.{stake_name}
use Rattle.scr_sheet.specs.declared.sheet.BalanceSheet.{BalanceSheet}
use Rattle.scr_tree.specs.Turns.{turn}
use Rattle.scr_tree.proofs.Grounds.{as-long, fund-within, fund-written, reckoned-over}
use Rattle.std.proofs.lemmas.List.{length-map}
use Rattle.scr_ids.specs.declared.table.Table.TheVariants as tables
use Rattle.scr_tree.proofs.first_totals.put_funds.Goals as goal

pub first-number-requires : goal.first-number-requires
first-number-requires g c =
    let rows = ap (λ (s : BalanceSheet). length s.funds) c.sheet.ensures.sheet in
    let numbered = c.requires.ground.numbered.rows tables.Fund refl in
    let long = length-map c.args.ground.inputs.book.now.sheet.funds stake_name in
    omega (arith, rows, numbered, long, c.loop-k-test.true, c.loop-k.auto.k-end, c.len-k-end.ensures.count)

pub write_total-requires : goal.write_total-requires
write_total-requires g c =
    let rows = ap (λ (s : BalanceSheet). length s.funds) c.sheet.ensures.sheet in
    fund-within c.args.ground c.requires.ground c.loop-k.k c.first-number.result
    (omega (arith, rows, c.loop-k-test.true, c.loop-k.auto.k-end, c.len-k-end.ensures.count)) c.first-number.ensures.first
    c.loop-k.figures (turn 0 c.loop-k.k 0) c.loop-k.invariant

pub loop-k-preserved : goal.loop-k-preserved
loop-k-preserved g c =
    let rows = ap (λ (s : BalanceSheet). length s.funds) c.sheet.ensures.sheet in
    fund-written c.args.ground c.requires.ground c.loop-k.k c.first-number.result
    (omega (arith, rows, c.loop-k-test.true, c.loop-k.auto.k-end, c.len-k-end.ensures.count)) c.first-number.ensures.first
    c.args.totals.now c.requires.totals c.loop-k.figures c.write_total.new.figures
    c.loop-k.invariant c.write_total.ensures.count c.write_total.ensures.there c.write_total.ensures.others

pub returns : goal.returns
returns g c =
    let rows = ap (λ (s : BalanceSheet). length s.funds) c.sheet.ensures.sheet in
    reckoned-over c.args.ground c.requires.ground 0 c.loop-k.k
    (as-long stake_name c.args.ground.inputs.book.now.sheet.funds c.loop-k.k
    (omega (arith, rows, c.loop-k-test.false, c.loop-k.auto.k-end, c.len-k-end.ensures.count)))
    c.loop-k.figures c.loop-k.invariant

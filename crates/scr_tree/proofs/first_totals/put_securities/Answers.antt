use Rattle.std.proofs.Common.{length, ap, arith}
use Rattle.scr_sheet.specs.BalanceSheet.{position_name}
use Rattle.scr_sheet.specs.declared.sheet.BalanceSheet.{BalanceSheet}
use Rattle.scr_tree.specs.Turns.{turn}
use Rattle.scr_tree.proofs.Grounds.{as-long, security-within, security-written, reckoned-over}
use Rattle.scr_parallel.specs.declared.rows.Sort.TheVariants as sorts
use Rattle.scr_tree.proofs.Writing.{row-few}
use Rattle.scr_tree.proofs.first_totals.put_securities.Goals as goal

pub first-number-requires : goal.first-number-requires
first-number-requires g c =
    let rows = ap (λ (s : BalanceSheet). length s.securities) c.sheet.ensures.sheet in
    row-few c.args.ground c.requires.ground sorts.Security c.loop-k.k
    (omega (arith, rows, c.loop-k-test.true, c.loop-k.auto.k-end, c.len-k-end.ensures.count))

pub pass_alone-requires : goal.pass_alone-requires
pass_alone-requires g c =
    let rows = ap (λ (s : BalanceSheet). length s.securities) c.sheet.ensures.sheet in
    omega (arith, rows, c.loop-k-test.true, c.loop-k.auto.k-end, c.len-k-end.ensures.count)

pub write_total-requires : goal.write_total-requires
write_total-requires g c =
    let rows = ap (λ (s : BalanceSheet). length s.securities) c.sheet.ensures.sheet in
    security-within c.args.ground c.requires.ground c.loop-k.k c.first-number.result
    (omega (arith, rows, c.loop-k-test.true, c.loop-k.auto.k-end, c.len-k-end.ensures.count)) c.first-number.ensures.first
    c.loop-k.figures (turn 1 c.loop-k.k 0) c.loop-k.invariant

pub loop-k-preserved : goal.loop-k-preserved
loop-k-preserved g c =
    let rows = ap (λ (s : BalanceSheet). length s.securities) c.sheet.ensures.sheet in
    security-written c.args.ground c.requires.ground c.loop-k.k c.first-number.result
    (omega (arith, rows, c.loop-k-test.true, c.loop-k.auto.k-end, c.len-k-end.ensures.count)) c.first-number.ensures.first
    c.args.totals.now c.requires.totals c.loop-k.figures c.write_total.new.figures
    c.loop-k.invariant c.write_total.ensures.count c.write_total.ensures.there c.write_total.ensures.others

pub returns : goal.returns
returns g c =
    let rows = ap (λ (s : BalanceSheet). length s.securities) c.sheet.ensures.sheet in
    reckoned-over c.args.ground c.requires.ground 1 c.loop-k.k
    (as-long position_name c.args.ground.inputs.book.now.sheet.securities c.loop-k.k
    (omega (arith, rows, c.loop-k-test.false, c.loop-k.auto.k-end, c.len-k-end.ensures.count)))
    c.loop-k.figures c.loop-k.invariant

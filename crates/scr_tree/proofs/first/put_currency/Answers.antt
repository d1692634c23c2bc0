use Rattle.std.proofs.Common.{◌≡◌, ◌+◌, Some, slice_get, sym, ap, subst, arith}
use Rattle.scr_sheet.specs.BalanceSheet.{curve_name}
use Rattle.scr_sheet.specs.declared.sheet.BalanceSheet.{BalanceSheet}
use Rattle.scr_nodes.specs.declared.node.Node.TheVariants as nodes
use Rattle.scr_tree.specs.Turns.{next, turn, turn_of}
use Rattle.scr_tree.proofs.BlockTurns.{currency-read}
use Rattle.scr_tree.proofs.FirstRows.{got-map}
use Rattle.scr_tree.proofs.Grounds.{currency-done, currency-turn, turned}
use Rattle.scr_tree.proofs.first.put_currency.Goals as goal

pub put_live-requires-clause-row : goal.put_live-requires-clause-row
put_live-requires-clause-row g c =
    got-map curve_name c.args.linked.ground.inputs.book.now.sheet.curves c.args.k c.at.result.now
    (subst (λ (s : BalanceSheet). slice_get s.curves c.args.k ≡ Some c.at.result.now) c.sheet.ensures.sheet c.at.ensures)

pub put_live-requires-clause-read : goal.put_live-requires-clause-read
put_live-requires-clause-read g c = currency-read c.at.result.now.currency c.currency_at-what.result

pub put_live-requires-clause-done : goal.put_live-requires-clause-done
put_live-requires-clause-done g c =
    turned c.args.linked.ground c.requires.linked.ground c.loop-family.making.figures (turn 6 c.args.k c.loop-family.family)
    (turn_of (nodes.Currency c.at.result.now.currency c.currency_at-what.result) c.args.k)
    (sym (currency-turn c.at.result.now.currency c.currency_at-what.result c.args.k
    c.loop-family.family c.currency_at-what.ensures)) c.loop-family.invariant

pub loop-family-preserved : goal.loop-family-preserved
loop-family-preserved g c =
    turned c.args.linked.ground c.requires.linked.ground c.put_live.new.making.figures
    (next (turn_of (nodes.Currency c.at.result.now.currency c.currency_at-what.result) c.args.k))
    (turn 6 c.args.k (c.loop-family.family + 1))
    (ap next (currency-turn c.at.result.now.currency c.currency_at-what.result c.args.k
    c.loop-family.family c.currency_at-what.ensures)) c.in_ok-put_live.ensures

pub returns : goal.returns
returns g c =
    let e : c.loop-family.family ≡ 9 = omega (arith, c.loop-family-test.false, c.loop-family.auto.family-end) in
    currency-done c.args.linked.ground c.requires.linked.ground c.args.k c.loop-family.making.figures
    (turned c.args.linked.ground c.requires.linked.ground c.loop-family.making.figures (turn 6 c.args.k c.loop-family.family) (turn 6 c.args.k 9)
    (ap (turn 6 c.args.k) e) c.loop-family.invariant)

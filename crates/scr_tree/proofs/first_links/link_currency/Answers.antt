use Rattle.std.proofs.Common.{◌≡◌, ◌+◌, Some, slice_get, sym, ap, subst, arith}
use Rattle.scr_sheet.specs.BalanceSheet.{curve_name}
use Rattle.scr_sheet.specs.declared.sheet.BalanceSheet.{BalanceSheet}
use Rattle.scr_nodes.specs.declared.node.Node.TheVariants as nodes
use Rattle.scr_tree.specs.Turns.{next, turn, turn_of}
use Rattle.scr_tree.proofs.FirstRows.{got-map}
use Rattle.scr_tree.proofs.Grounds.{currency-turn}
use Rattle.scr_tree.proofs.Linking.{currency-linked, linked-turned}
use Rattle.scr_tree.proofs.first_links.link_currency.Goals as goal

pub link_if_there-requires-clause-row : goal.link_if_there-requires-clause-row
link_if_there-requires-clause-row c =
    got-map curve_name c.args.ground.book.now.sheet.curves c.args.k c.at.result.now
    (subst (λ (s : BalanceSheet). slice_get s.curves c.args.k ≡ Some c.at.result.now) c.sheet.ensures.sheet c.at.ensures)

pub link_if_there-requires-clause-linked : goal.link_if_there-requires-clause-linked
link_if_there-requires-clause-linked c =
    linked-turned c.args.ground c.requires.ground c.loop-family.links (turn 6 c.args.k c.loop-family.family)
    (turn_of (nodes.Currency c.at.result.now.currency c.currency_at-what.result) c.args.k)
    (sym (currency-turn c.at.result.now.currency c.currency_at-what.result c.args.k
    c.loop-family.family c.currency_at-what.ensures)) c.loop-family.invariant

pub loop-family-preserved : goal.loop-family-preserved
loop-family-preserved c =
    linked-turned c.args.ground c.requires.ground c.link_if_there.new.links
    (next (turn_of (nodes.Currency c.at.result.now.currency c.currency_at-what.result) c.args.k))
    (turn 6 c.args.k (c.loop-family.family + 1))
    (ap next (currency-turn c.at.result.now.currency c.currency_at-what.result c.args.k
    c.loop-family.family c.currency_at-what.ensures)) c.in_ok-link_if_there.ensures

pub returns : goal.returns
returns c =
    let e : c.loop-family.family ≡ 9 = omega (arith, c.loop-family-test.false, c.loop-family.auto.family-end) in
    currency-linked c.args.ground c.requires.ground c.args.k c.loop-family.links
    (linked-turned c.args.ground c.requires.ground c.loop-family.links (turn 6 c.args.k c.loop-family.family) (turn 6 c.args.k 9)
    (ap (turn 6 c.args.k) e) c.loop-family.invariant)

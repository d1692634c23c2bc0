use Rattle.std.proofs.Common.{◌≡◌, true, false, sym, ap, ◌∙◌}
use Rattle.scr_sheet.specs.declared.sheet.BalanceSheet.{BalanceSheet}
use Rattle.scr_nodes.specs.Live.{is_live}
use Rattle.scr_nodes.specs.declared.node.Node.TheVariants as nodes
use Rattle.scr_tree.proofs.WholesMade.{whole-dead, whole-members, whole-own, whole-under}
use Rattle.scr_tree.proofs.left.put_blocks_at.Goals as goal

pub put_under-requires-clause-live : goal.put_under-requires-clause-live
put_under-requires-clause-live g c =
    sym (ap (λ (s : BalanceSheet). is_live s (nodes.Whole c.whole_at.result)) c.sheet.ensures.sheet)
    ∙ (sym c.is_live.ensures ∙ c.if-not-is_live.false)

pub put_under-requires-clause-count : goal.put_under-requires-clause-count
put_under-requires-clause-count g c = c.requires.done.reckoned.count

pub put_under-requires-clause-members : goal.put_under-requires-clause-members
put_under-requires-clause-members g c =
    whole-members c.args.ground c.requires.ground c.whole_at.result c.args.number c.whole_at.ensures c.requires.number c.args.figures.now
    c.requires.done

pub put_under-requires-clause-there : goal.put_under-requires-clause-there
put_under-requires-clause-there g c =
    whole-own c.args.ground c.requires.ground c.whole_at.result c.args.number c.whole_at.ensures c.requires.number c.args.figures.now
    c.requires.done

pub returns-then-not-is_live : goal.returns-then-not-is_live
returns-then-not-is_live g c =
    whole-dead c.args.ground c.requires.ground c.whole_at.result c.args.number c.whole_at.ensures c.requires.number c.args.figures.now
    c.requires.done
    (λ live.
    let clash : true ≡ false =
    sym live ∙ (sym (ap (λ (s : BalanceSheet). is_live s (nodes.Whole c.whole_at.result)) c.sheet.ensures.sheet)
    ∙ (sym c.is_live.ensures ∙ c.if-not-is_live.true)) in
    absurd (cc))

pub returns : goal.returns
returns g c =
    whole-under c.args.ground c.requires.ground c.whole_at.result c.args.number c.whole_at.ensures c.requires.number c.args.figures.now
    c.requires.done
    (sym (ap (λ (s : BalanceSheet). is_live s (nodes.Whole c.whole_at.result)) c.sheet.ensures.sheet)
    ∙ (sym c.is_live.ensures ∙ c.if-not-is_live.false))
    c.put_under.new.figures c.put_under.ensures.others c.put_under.ensures.blocks

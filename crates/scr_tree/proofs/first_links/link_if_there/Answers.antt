use Rattle.std.proofs.Common.{◌≡◌, true, false, sym, ap, ◌∙◌}
use Rattle.scr_sheet.specs.declared.sheet.BalanceSheet.{BalanceSheet}
use Rattle.scr_nodes.specs.Live.{is_live}
use Rattle.scr_tree.proofs.Linking.{linked-dead, linked-plain}
use Rattle.scr_tree.proofs.first_links.link_if_there.Goals as goal
use Rattle.scr_tree.proofs.first_links.link_if_there.Goals.{then-not-is_linked-via-then-not-is_linked, then-not-is_linked-via-else-not-is_linked+then-not-is_live}

pub link_gathered-requires-clause-live : goal.link_gathered-requires-clause-live
link_gathered-requires-clause-live c =
    sym (ap (λ (s : BalanceSheet). is_live s c.args.node.now) c.sheet.ensures.sheet)
    ∙ (sym c.is_live.ensures ∙ c.if-not-is_live.false)

pub link_gathered-requires-clause-linked_node : goal.link_gathered-requires-clause-linked_node
link_gathered-requires-clause-linked_node c = sym c.is_linked.ensures ∙ c.if-not-is_linked.false

pub returns-then-not-is_linked : goal.returns-then-not-is_linked
returns-then-not-is_linked c =
    elim c.then-not-is_linked.branch [
      | then-not-is_linked-via-then-not-is_linked w ↦
          linked-plain c.args.ground c.requires.ground c.args.links.now c.args.node.now c.args.row c.requires.row
          (sym c.is_linked.ensures ∙ w.if-not-is_linked.true) c.requires.linked
      | then-not-is_linked-via-else-not-is_linked+then-not-is_live w ↦
          linked-dead c.args.ground c.requires.ground c.args.links.now c.args.node.now c.args.row c.requires.row
          (λ live.
          let clash : true ≡ false =
          sym live ∙ (sym (ap (λ (s : BalanceSheet). is_live s c.args.node.now) w.sheet.ensures.sheet)
          ∙ (sym w.is_live.ensures ∙ w.if-not-is_live.true)) in
          absurd (cc))
          c.requires.linked
    ]

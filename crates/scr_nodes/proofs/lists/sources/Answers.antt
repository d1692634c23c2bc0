use Rattle.scr_nodes.proofs.Selected.{sources-pushed}
use Rattle.scr_nodes.proofs.lists.sources.Goals as goal

pub returns : goal.returns
returns c =
    sources-pushed c.args.sheet.now c.args.node.now _ _ _ _ _ _ c.new-list.ensures.items c.first_of.ensures
    c.second_of.ensures c.in_ok-push_selected.ensures c.in_ok-push_selected-2.ensures c.in_ok-push_words.ensures

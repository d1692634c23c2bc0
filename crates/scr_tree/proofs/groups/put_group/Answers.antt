use Rattle.std.proofs.Common.{◌≡◌, true, IfSome, subst}
use Rattle.std.specs.Prelude.{IsNone}
use Rattle.scr_sum_slots.specs.Parts.{AreOwn}
use Rattle.scr_block_graph.specs.Books.{rolled_of}
use Rattle.scr_block_graph.specs.Graph.{is_live_in, reads}
use Rattle.scr_block_graph.specs.declared.point.Block.{Block}
use Rattle.scr_block_graph.specs.declared.point.Point.TheVariants as points
use Rattle.scr_tree.specs.First.{IsGroupAt}
use Rattle.scr_tree.specs.declared.graph.Numbers.{Numbers}
use Rattle.scr_tree.proofs.GroupsMade.{group-made, group-members}
use Rattle.scr_tree.proofs.groups.put_group.Goals as goal

pub put_found-requires-clause-reads : goal.put_found-requires-clause-reads
put_found-requires-clause-reads g c = λ sum e.
    subst (λ o. IfSome o (λ s. reads c.args.ground.inputs.book.now.sheet s ≡ true)) e
    (subst (λ (n : Numbers). IfSome c.group_at-found.result (λ s. reads n.book.now.sheet s ≡ true)) c.numbers.ensures c.group_at-found.ensures.read)

pub put_found-requires-clause-count : goal.put_found-requires-clause-count
put_found-requires-clause-count g c = c.requires.done.reckoned.count

pub put_found-requires-clause-members : goal.put_found-requires-clause-members
put_found-requires-clause-members g c =
    group-members c.args.ground c.requires.ground c.group_at-found.result c.args.slot
    (subst (λ (n : Numbers). IfSome c.group_at-found.result (IsGroupAt n.book.now n.lists.now.parts c.args.slot)) c.numbers.ensures
    c.group_at-found.ensures.there) c.args.figures.now c.requires.done

pub returns : goal.returns
returns g c =
    let found = c.group_at-found.result in
    group-made c.args.ground c.requires.ground (subst AreOwn c.parts.ensures c.len-slots.ensures.own) found c.args.slot
    (subst (λ (n : Numbers). IfSome found (IsGroupAt n.book.now n.lists.now.parts c.args.slot)) c.numbers.ensures c.group_at-found.ensures.there)
    (subst (λ (n : Numbers). IsNone found → (block : Block) → IsGroupAt n.book.now n.lists.now.parts c.args.slot block.sum
    → is_live_in (rolled_of n.book.now) (points.Block block) ≡ true → ⊥) c.numbers.ensures c.group_at-found.ensures.absent)
    c.args.figures.now c.put_found.new.figures c.requires.done c.put_found.ensures.others c.put_found.ensures.blocks

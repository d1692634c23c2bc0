use Rattle.std.proofs.Common.{◌≡◌, true, false, length, refl, sym, ap, ap₂, subst, ◌∙◌}
use Rattle.std.proofs.lemmas.Bool.{and_parts}
use Rattle.scr_sum_tree.specs.Blocks.{is_block}
use Rattle.scr_nodes.specs.Live.{is_live}
use Rattle.scr_sum_slots.specs.Parts.{AreOwn}
use Rattle.scr_sum_slots.proofs.Views.{no-some, one-some}
use Rattle.scr_sheet.specs.declared.roll.Roll.TheVariants as rolls
use Rattle.scr_block_graph.specs.Books.{rolled_of}
use Rattle.scr_block_graph.specs.Graph.{reads, roll_in}
use Rattle.scr_block_graph.specs.Sums.{reader_of}
use Rattle.scr_tree.specs.First.{group_sum}
use Rattle.scr_tree.specs.Reading.{IsRollOf}
use Rattle.scr_tree.proofs.GroupsMade.{its-roll, no-members, one-begun}
use Rattle.scr_tree.proofs.groups.group_at.Goals as goal

pub returns-in_err-roll-clause-absent : goal.returns-in_err-roll-clause-absent
returns-in_err-roll-clause-absent c = λ none block at live.
    let numbers = c.args.numbers in
    let same = one-begun numbers.book.now numbers.places.now numbers.lists.now c.requires.numbers
    (subst AreOwn c.parts.ensures c.len-slots.ensures.own) c.args.slot at.list c.in_ok-list.list at.begins c.in_ok-list.ensures.there in
    no-members numbers.book.now block live
    (ap (roll_in (rolled_of numbers.book.now)) at.is
    ∙ c.in_err-roll.ensures.absent refl (rolls.Group at.name) (subst (λ l. IsRollOf numbers.book.now.rolls l (rolls.Group at.name)) same at.of))

pub returns-in_err-sum-clause-absent : goal.returns-in_err-sum-clause-absent
returns-in_err-sum-clause-absent c = λ none block at live.
    let numbers = c.args.numbers in
    no-some
    (c.in_err-sum.ensures
    ∙ ap group_sum
    (its-roll numbers.book.now numbers.places.now numbers.lists.now c.requires.numbers (subst AreOwn c.parts.ensures c.len-slots.ensures.own)
    c.args.slot c.in_ok-list.list c.in_ok-roll.roll block.sum c.in_ok-list.ensures.there c.in_ok-roll.ensures.there at))

pub returns-else-is_live-clause-absent : goal.returns-else-is_live-clause-absent
returns-else-is_live-clause-absent c = λ none block at live.
    let numbers = c.args.numbers in
    let book = numbers.book.now in
    let roll = its-roll book numbers.places.now numbers.lists.now c.requires.numbers (subst AreOwn c.parts.ensures c.len-slots.ensures.own)
    c.args.slot c.in_ok-list.list c.in_ok-roll.roll block.sum c.in_ok-list.ensures.there c.in_ok-roll.ensures.there at in
    let sum : block.sum ≡ c.in_ok-sum.sum = at.is ∙ sym (one-some (c.in_ok-sum.ensures ∙ ap group_sum roll)) in
    let clash : true ≡ false =
    sym (and_parts (reads book.sheet block.sum) (is_block (length (roll_in (rolled_of book) block.sum)) block.level block.index) live).0
    ∙ ap₂ is_live (sym c.sheet.ensures.sheet) (ap reader_of sum ∙ sym c.reader.ensures) ∙ sym c.is_live.ensures ∙ c.if-is_live.false in
    absurd (cc)

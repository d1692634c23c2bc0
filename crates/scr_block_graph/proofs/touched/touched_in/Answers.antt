use Rattle.std.proofs.Common.{is_some, sym, ap, ◌∙◌}
use Rattle.scr_block_graph.proofs.Answered.{all-once, all-told, if-items, if-ok, no-fault, none-once, some-fault}
use Rattle.scr_block_graph.specs.Books.{rolled_of}
use Rattle.scr_block_graph.proofs.Plain.{plain-points, plain-rolls}
use Rattle.scr_block_graph.proofs.touched.touched_in.Goals as goal

pub returns-then-is_some-clause-touched : goal.returns-then-is_some-clause-touched
returns-then-is_some-clause-touched c = λ factors point none. some-fault c.args.edit.now c.args.book.now.sheet (ap is_some (sym c.fields_outside.ensures) ∙ sym c.is_some.ensures ∙ c.if-is_some.true) none

pub returns-then-is_some-clause-once : goal.returns-then-is_some-clause-once
returns-then-is_some-clause-once c = none-once c.new.result.items c.new.ensures.items

pub change_of-requires-clause-within : goal.change_of-requires-clause-within
change_of-requires-clause-within c = no-fault c.args.edit.now (ap is_some (sym c.fields_outside.ensures) ∙ sym c.is_some.ensures ∙ c.if-is_some.false)

pub returns-clause-touched : goal.returns-clause-touched
returns-clause-touched c =
    if-ok _ _ _
    (λ have list is. all-told c.args.book.now c.args.edit.now c.args.told.items c.as_slice-nodes.result.now c.as_slice-nodes.ensures.value c.sheet-sheet.ensures.valid c.requires.formed c.requires.told have list.items is)
    c.touched_by-list.result c.touched_by-list.ensures.list c.touched_by-list.ensures.rolls

pub returns-clause-once : goal.returns-clause-once
returns-clause-once c =
    if-ok _ _ _
    (λ have list is. all-once c.args.book.now c.args.edit.now c.args.told.items c.as_slice-nodes.result.now c.as_slice-nodes.ensures.value c.requires.once list.items is)
    c.touched_by-list.result c.touched_by-list.ensures.list c.touched_by-list.ensures.rolls

pub returns-then-not-have_sums-clause-touched : goal.returns-then-not-have_sums-clause-touched
returns-then-not-have_sums-clause-touched c =
    let plain = sym c.have_sums.ensures ∙ c.if-not-have_sums.true in
    let book = rolled_of c.args.book.now in
    if-items _ _
    (λ list is. all-told c.args.book.now c.args.edit.now c.args.told.items c.as_slice-nodes.result.now c.as_slice-nodes.ensures.value c.sheet-sheet.ensures.valid c.requires.formed c.requires.told
    (plain-rolls book c.as_slice-nodes.result.now plain) list.items (is ∙ plain-points c.args.edit.now book c.as_slice-nodes.result.now plain))
    c.figures.result c.figures.ensures

pub returns-then-not-have_sums-clause-once : goal.returns-then-not-have_sums-clause-once
returns-then-not-have_sums-clause-once c =
    let plain = sym c.have_sums.ensures ∙ c.if-not-have_sums.true in
    let book = rolled_of c.args.book.now in
    if-items _ _
    (λ list is. all-once c.args.book.now c.args.edit.now c.args.told.items c.as_slice-nodes.result.now c.as_slice-nodes.ensures.value c.requires.once list.items
    (is ∙ plain-points c.args.edit.now book c.as_slice-nodes.result.now plain))
    c.figures.result c.figures.ensures

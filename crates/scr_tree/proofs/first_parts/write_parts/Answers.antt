use Rattle.std.proofs.Common.{◌+◌, ◌++◌, Some, take, sym, ap, subst, ◌∙◌, arith}
use Rattle.std.proofs.lemmas.List.{take_all}
use Rattle.std.proofs.lemmas.Option.{slice_get-get_or}
use Rattle.scr_parallel.specs.Rows.{ArePiecesWithin, IsPart, rows_of}
use Rattle.scr_tree.specs.RowSpans.{IsRowOf, row_count}
use Rattle.scr_tree.specs.Written.{IsWrittenOf, rows_among}
use Rattle.scr_tree.proofs.FirstRows.{each-get}
use Rattle.scr_tree.proofs.Writing.{parts-next, written-and, written-as, written-none}
use Rattle.scr_tree.proofs.first_parts.write_parts.Goals as goal

pub loop-part-init : goal.loop-part-init
loop-part-init c = written-none c.args.ground c.requires.ground c.args.figures.now

pub write_part-requires-clause-count : goal.write_part-requires-clause-count
write_part-requires-clause-count c = c.loop-part.invariant.count ∙ c.requires.count

pub write_part-requires-clause-within : goal.write_part-requires-clause-within
write_part-requires-clause-within c =
    let parts = c.args.parts.now in
    let part = c.part-item.result in
    each-get (ArePiecesWithin (row_count c.args.ground.inputs.book.now.sheet)) parts c.loop-part.part-index part c.requires.rows.within
    (slice_get-get_or parts c.loop-part.part-index part c.loop-part-test.true ∙ ap Some (sym c.part-item.is))

pub write_part-requires-clause-rows : goal.write_part-requires-clause-rows
write_part-requires-clause-rows c =
    let parts = c.args.parts.now in
    let part = c.part-item.result in
    each-get (IsPart (IsRowOf c.args.ground.inputs.factors.now c.args.ground.inputs.book.now.sheet)) parts c.loop-part.part-index part
    c.requires.rows.each
    (slice_get-get_or parts c.loop-part.part-index part c.loop-part-test.true ∙ ap Some (sym c.part-item.is))

pub loop-part-preserved : goal.loop-part-preserved
loop-part-preserved c =
    let ground = c.args.ground in
    let parts = c.args.parts.now in
    let i = c.loop-part.part-index in
    let part = c.part-item.result in
    written-as ground c.requires.ground (rows_among (take i parts) ++ rows_of part.pieces.items) (rows_among (take (i + 1) parts))
    c.args.figures.now c.write_part.new.figures
    (parts-next parts i part (slice_get-get_or parts i part c.loop-part-test.true ∙ ap Some (sym c.part-item.is)))
    (written-and ground c.requires.ground (rows_among (take i parts)) (rows_of part.pieces.items) c.args.figures.now
    c.loop-part.figures c.write_part.new.figures c.loop-part.invariant c.write_part.ensures)

pub returns : goal.returns
returns c =
    let end = c.loop-part-test.false in
    subst (λ ps. IsWrittenOf c.args.ground (rows_among ps) c.args.figures.now c.loop-part.figures)
    (take_all c.loop-part.part-index c.args.parts.now (omega (arith, end))) c.loop-part.invariant

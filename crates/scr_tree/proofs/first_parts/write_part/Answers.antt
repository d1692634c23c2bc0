use Rattle.std.proofs.Common.{◌≡◌, ◌+◌, ◌++◌, Some, drop, take, length, get_or, slice_get, sym, ap, subst, ◌∙◌, arith}
use Rattle.std.proofs.lemmas.List.{take_all}
use Rattle.std.proofs.lemmas.Option.{slice_get-get_or}
use Rattle.scr_parallel.specs.Rows.{AreOfRows, IsWithin, rows_in, rows_of}
use Rattle.scr_parallel.specs.declared.rows.Piece.{Piece}
use Rattle.scr_parallel.specs.declared.rows.Sort.TheVariants as sorts
use Rattle.scr_tree.specs.RowSpans.{IsRowOf, row_count}
use Rattle.scr_tree.specs.Written.{IsWrittenOf}
use Rattle.scr_tree.proofs.FirstRows.{each-get}
use Rattle.scr_tree.proofs.Writing.{pieces-left, pieces-next, written-and, written-as, written-none}
use Rattle.scr_tree.proofs.first_parts.write_part.Goals as goal

pub loop-piece-init : goal.loop-piece-init
loop-piece-init c = record {
  rest = subst (AreOfRows (IsRowOf c.args.ground.inputs.factors.now c.args.ground.inputs.book.now.sheet) (rows_of c.args.part.now.pieces.items))
      (sym c.as_slice-rest.ensures.value) c.requires.rows;
  written = written-none c.args.ground c.requires.ground c.args.figures.now;
}

pub write_piece-rest-requires-clause-count : goal.write_piece-rest-requires-clause-count
write_piece-rest-requires-clause-count c = c.loop-piece.invariant.written.count ∙ c.requires.count

pub write_piece-rest-requires-clause-within : goal.write_piece-rest-requires-clause-within
write_piece-rest-requires-clause-within c =
    let items = c.as_slice-piece-items.result.now in
    let i = c.loop-piece.piece-index in
    let none : Piece = record { sort = sorts.Liability; from = 0; end = 0 } in
    each-get (IsWithin (row_count c.args.ground.inputs.book.now.sheet)) c.args.part.now.pieces.items i (get_or items i none) c.requires.within
    (subst (λ ps. slice_get ps i ≡ Some (get_or items i none)) c.as_slice-piece-items.ensures.value
    (slice_get-get_or items i none c.loop-piece-test.true))

pub write_piece-rest-requires-clause-rows : goal.write_piece-rest-requires-clause-rows
write_piece-rest-requires-clause-rows c =
    let items = c.as_slice-piece-items.result.now in
    let pieces = c.args.part.now.pieces.items in
    let i = c.loop-piece.piece-index in
    let none : Piece = record { sort = sorts.Liability; from = 0; end = 0 } in
    let got = subst (λ ps. slice_get ps i ≡ Some (get_or items i none)) c.as_slice-piece-items.ensures.value
    (slice_get-get_or items i none c.loop-piece-test.true) in (
      rows_of (drop (i + 1) pieces),
      subst (λ rs. AreOfRows (IsRowOf c.args.ground.inputs.factors.now c.args.ground.inputs.book.now.sheet) rs c.loop-piece.rest.now)
          (pieces-left pieces i (get_or items i none) got) c.loop-piece.invariant.rest,
    )

pub loop-piece-preserved : goal.loop-piece-preserved
loop-piece-preserved c =
    let ground = c.args.ground in
    let items = c.as_slice-piece-items.result.now in
    let pieces = c.args.part.now.pieces.items in
    let i = c.loop-piece.piece-index in
    let none : Piece = record { sort = sorts.Liability; from = 0; end = 0 } in
    let got = subst (λ ps. slice_get ps i ≡ Some (get_or items i none)) c.as_slice-piece-items.ensures.value
    (slice_get-get_or items i none c.loop-piece-test.true) in
    record {
      rest = c.write_piece-rest.ensures.rest (rows_of (drop (i + 1) pieces))
          (subst (λ rs. AreOfRows (IsRowOf ground.inputs.factors.now ground.inputs.book.now.sheet) rs c.loop-piece.rest.now)
          (pieces-left pieces i (get_or items i none) got) c.loop-piece.invariant.rest);
      written = written-as ground c.requires.ground (rows_of (take i pieces) ++ rows_in (get_or items i none))
          (rows_of (take (i + 1) pieces)) c.args.figures.now c.write_piece-rest.new.figures
          (pieces-next pieces i (get_or items i none) got)
          (written-and ground c.requires.ground (rows_of (take i pieces)) (rows_in (get_or items i none)) c.args.figures.now
          c.loop-piece.figures c.write_piece-rest.new.figures c.loop-piece.invariant.written c.write_piece-rest.ensures.written);
    }

pub returns : goal.returns
returns c =
    let end = c.loop-piece-test.false in
    let long = ap length c.as_slice-piece-items.ensures.value in
    subst (λ ps. IsWrittenOf c.args.ground (rows_of ps) c.args.figures.now c.loop-piece.figures)
    (take_all c.loop-piece.piece-index c.args.part.now.pieces.items (omega (arith, end, long))) c.loop-piece.invariant.written

use Rattle.std.proofs.Common.{◌≡◌, ◌+◌, ◌-◌, ◌++◌, [], ◌∷◌, sym, subst, arith}
use Rattle.scr_parallel.specs.Rows.{AreOfRows, row, rows_from}
use Rattle.scr_tree.specs.RowSpans.{IsRowOf}
use Rattle.scr_tree.specs.Written.{IsWrittenOf}
use Rattle.scr_tree.proofs.Writing.{piece-next, piece-on, written-and, written-as, written-none}
use Rattle.scr_tree.proofs.first_parts.write_piece.Goals as goal

pub loop-k-init : goal.loop-k-init
loop-k-init c =
    let piece = c.args.piece.now in
    let none : piece.from - piece.from ≡ 0 = omega arith in
    record {
      rest = λ more are. are;
      written = subst (λ n. IsWrittenOf c.args.ground (rows_from piece.sort piece.from n) c.args.figures.now c.args.figures.now) (sym none)
          (written-none c.args.ground c.requires.ground c.args.figures.now);
    }

pub write_row-rest-requires-clause-row : goal.write_row-rest-requires-clause-row
write_row-rest-requires-clause-row c =
    let low = c.loop-k-test.true in let end = c.requires.within.low in omega (arith, low, end)

pub write_row-rest-requires-clause-count : goal.write_row-rest-requires-clause-count
write_row-rest-requires-clause-count c =
    let long = c.loop-k.invariant.written.count in let count = c.requires.count in omega (arith, long, count)

pub write_row-rest-requires-clause-spans : goal.write_row-rest-requires-clause-spans
write_row-rest-requires-clause-spans c =
    let piece = c.args.piece.now in
    let is_row = IsRowOf c.args.ground.inputs.factors.now c.args.ground.inputs.book.now.sheet in
    let more = c.requires.rows.0 in
    let next = subst (λ rs. AreOfRows is_row (rs ++ more) c.loop-k.rest.now)
    (piece-next piece.sort c.loop-k.k piece.end c.loop-k-test.true) (c.loop-k.invariant.rest more c.requires.rows.1) in
    (next.0, next.1, next.2, next.3)

pub loop-k-preserved : goal.loop-k-preserved
loop-k-preserved c =
    let ground = c.args.ground in
    let piece = c.args.piece.now in
    let k = c.loop-k.k in
    let is_row = IsRowOf ground.inputs.factors.now ground.inputs.book.now.sheet in
    record {
      rest = λ more are.
          let next = subst (λ rs. AreOfRows is_row (rs ++ more) c.loop-k.rest.now) (piece-next piece.sort k piece.end c.loop-k-test.true)
          (c.loop-k.invariant.rest more are) in
          subst (AreOfRows is_row (rows_from piece.sort (k + 1) (piece.end - (k + 1)) ++ more))
          (sym (c.write_row-rest.ensures.rest next.0 next.1 next.2 next.3)) next.4;
      written = written-as ground c.requires.ground (rows_from piece.sort piece.from (k - piece.from) ++ row piece.sort k ∷ [])
          (rows_from piece.sort piece.from (k + 1 - piece.from)) c.args.figures.now c.write_row-rest.new.figures
          (piece-on piece.sort piece.from k c.loop-k.auto.k)
          (written-and ground c.requires.ground (rows_from piece.sort piece.from (k - piece.from)) (row piece.sort k ∷ [])
          c.args.figures.now c.loop-k.figures c.write_row-rest.new.figures c.loop-k.invariant.written c.write_row-rest.ensures.written);
    }

pub returns-clause-rest : goal.returns-clause-rest
returns-clause-rest c = λ more are.
    let piece = c.args.piece.now in
    let end = c.loop-k-test.false in
    let none : piece.end - c.loop-k.k ≡ 0 = omega (arith, end) in
    subst (λ n. AreOfRows (IsRowOf c.args.ground.inputs.factors.now c.args.ground.inputs.book.now.sheet) (rows_from piece.sort c.loop-k.k n ++ more)
    c.loop-k.rest.now) none (c.loop-k.invariant.rest more are)

pub returns-clause-written : goal.returns-clause-written
returns-clause-written c =
    let piece = c.args.piece.now in
    let end = c.loop-k-test.false in
    let ordered = c.requires.within.ordered in
    let all : c.loop-k.k - piece.from ≡ piece.end - piece.from = omega (arith, end, ordered, c.loop-k.auto.k, c.loop-k.auto.k-end) in
    subst (λ n. IsWrittenOf c.args.ground (rows_from piece.sort piece.from n) c.args.figures.now c.loop-k.figures) all
    c.loop-k.invariant.written

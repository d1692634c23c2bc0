use Rattle.std.proofs.Common.{◌≡◌, ◌+◌, ◌++◌, [], ◌∷◌, sym, ap, subst, ◌∙◌, arith}
use Rattle.std.proofs.lemmas.List.{append-nil}
use Rattle.scr_parallel.specs.Rows.{row, rows_from}
use Rattle.scr_tree.specs.RowSpans.{row_count}
use Rattle.scr_tree.specs.Written.{IsWrittenOf}
use Rattle.scr_tree.proofs.Writing.{rows-next, written-and, written-as, written-none}
use Rattle.scr_tree.proofs.first.put_sort.Goals as goal

pub loop-k-init : goal.loop-k-init
loop-k-init g c = written-none c.args.rows.now.ground c.requires.rows.ground c.args.figures.now

pub write_row-requires-clause-count : goal.write_row-requires-clause-count
write_row-requires-clause-count g c = c.loop-k.invariant.count ∙ c.requires.count

pub write_row-requires-clause-spans : goal.write_row-requires-clause-spans
write_row-requires-clause-spans g c =
    let pushed = c.in_ok-reckon.ensures in (
      pushed.own,
      [],
      c.as_slice.ensures.value ∙ (pushed.now_is ∙ (ap (λ ss. ss ++ pushed.own) c.clear.ensures.items ∙ sym (append-nil pushed.own))),
      pushed.right,
    )

pub loop-k-preserved : goal.loop-k-preserved
loop-k-preserved g c =
    let ground = c.args.rows.now.ground in
    let sort = c.args.sort in
    let k = c.loop-k.k in
    let at : 0 + k ≡ k = omega arith in
    written-as ground c.requires.rows.ground (rows_from sort 0 k ++ row sort k ∷ []) (rows_from sort 0 (k + 1)) c.args.figures.now
    c.write_row.new.figures (ap (λ n. rows_from sort 0 k ++ row sort n ∷ []) (sym at) ∙ sym (rows-next sort 0 k))
    (written-and ground c.requires.rows.ground (rows_from sort 0 k) (row sort k ∷ []) c.args.figures.now c.loop-k.figures
    c.write_row.new.figures c.loop-k.invariant c.write_row.ensures.written)

pub returns-clause-written : goal.returns-clause-written
returns-clause-written g c =
    let ground = c.args.rows.now.ground in
    let end : c.loop-k.k ≡ row_count ground.inputs.book.now.sheet c.args.sort =
    omega (arith, c.loop-k-test.false, c.loop-k.auto.k-end, c.rows-k-end.ensures) in
    subst (λ n. IsWrittenOf ground (rows_from c.args.sort 0 n) c.args.figures.now c.loop-k.figures) end c.loop-k.invariant

use Rattle.std.proofs.Common.{◌≡◌, ◌++◌, sym, ap, subst, ◌∙◌}
use Rattle.scr_parallel.specs.Rows.{all_rows, rows_from}
use Rattle.scr_parallel.specs.declared.rows.Sort.TheVariants as sorts
use Rattle.scr_tree.specs.First.{AreRowsDone}
use Rattle.scr_tree.specs.RowSpans.{row_count}
use Rattle.scr_tree.specs.Written.{IsWrittenOf}
use Rattle.scr_tree.specs.declared.making.Ground.{Ground}
use Rattle.scr_tree.proofs.FirstRows.{on-ok}
use Rattle.scr_tree.proofs.Writing.{all-sorts, rows-done, written-and}
use Rattle.scr_tree.proofs.first.put_rows.Goals as goal

pub row_ground-rows-requires-clause-done : goal.row_ground-rows-requires-clause-done
row_ground-rows-requires-clause-done g c = c.requires.done.reckoned

pub put_sort-requires-clause-count : goal.put_sort-requires-clause-count
put_sort-requires-clause-count g c =
    c.requires.done.reckoned.count ∙ ap (λ (b : Ground). b.places.now.size) (sym c.row_ground-rows.ensures.ground)

pub put_sort-requires-2-clause-count : goal.put_sort-requires-2-clause-count
put_sort-requires-2-clause-count g c =
    c.put_sort.ensures.count
    ∙ (c.requires.done.reckoned.count ∙ ap (λ (b : Ground). b.places.now.size) (sym c.row_ground-rows.ensures.ground))

pub put_sort-requires-3-clause-count : goal.put_sort-requires-3-clause-count
put_sort-requires-3-clause-count g c =
    c.put_sort-2.ensures.count
    ∙ (c.put_sort.ensures.count
    ∙ (c.requires.done.reckoned.count ∙ ap (λ (b : Ground). b.places.now.size) (sym c.row_ground-rows.ensures.ground)))

pub returns : goal.returns
returns g c =
    let ground = c.args.ground in
    let other = c.row_ground-rows.result.ground in
    let is : other ≡ ground = c.row_ground-rows.ensures.ground in
    let count = row_count ground.inputs.book.now.sheet in
    let begun = c.args.figures.now in
    let one = c.put_sort.new.figures in
    let two = c.put_sort-2.new.figures in
    let three = c.put_sort-3.new.figures in
    let debts = rows_from sorts.Liability 0 (count sorts.Liability) in
    let securities = rows_from sorts.Security 0 (count sorts.Security) in
    let groups = rows_from sorts.Group 0 (count sorts.Group) in
    let first : IsWrittenOf ground debts begun one =
    subst (λ (b : Ground). IsWrittenOf b (rows_from sorts.Liability 0 (row_count b.inputs.book.now.sheet sorts.Liability)) begun one) is
    c.in_ok-put_sort.ensures.written in
    let second : IsWrittenOf ground securities one two =
    subst (λ (b : Ground). IsWrittenOf b (rows_from sorts.Security 0 (row_count b.inputs.book.now.sheet sorts.Security)) one two) is
    c.in_ok-put_sort-2.ensures.written in
    on-ok (IsWrittenOf other (rows_from sorts.Group 0 (row_count other.inputs.book.now.sheet sorts.Group)) two three)
    (AreRowsDone ground three)
    c.put_sort-3.result
    (λ last.
    let third : IsWrittenOf ground groups two three =
    subst (λ (b : Ground). IsWrittenOf b (rows_from sorts.Group 0 (row_count b.inputs.book.now.sheet sorts.Group)) two three) is last in
    let all : IsWrittenOf ground (all_rows count) begun three =
    written-and ground c.requires.ground debts (securities ++ groups) begun one three first
    (written-and ground c.requires.ground securities groups one two three second third) in
    rows-done ground c.requires.ground (all_rows count) (all-sorts count) begun three c.requires.done all)
    c.put_sort-3.ensures.written

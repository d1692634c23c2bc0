use Rattle.std.proofs.Common.{◌≡◌, ◌+◌, ◌<◌, length, take, drop, sym, ap, subst, ◌∙◌, arith}
use Rattle.std.proofs.lemmas.List.{length-append}
use Rattle.scr_ids.specs.Ranges.{count, first, stride}
use Rattle.scr_tree.specs.RowSpans.{IsRowOf, sort_table}
use Rattle.scr_tree.proofs.Writing.{first-own, past-own, row-few, row-room, row-written}
use Rattle.scr_tree.proofs.first_parts.write_row.Goals as goal

pub first-first-requires : goal.first-first-requires
first-first-requires c =
    subst (λ t. c.args.k < count c.args.ground.places.now t) (sym c.table_of-table.ensures)
    (row-few c.args.ground c.requires.ground c.args.sort c.args.k c.requires.row)

pub split_at-requires : goal.split_at-requires
split_at-requires c =
    let s = c.requires.spans in
    let long : length s.0 ≡ stride (sort_table c.args.sort) = s.3.count in
    let n : c.stride.result ≡ stride (sort_table c.args.sort) = c.stride.ensures ∙ ap stride c.table_of-table.ensures in
    let all : length c.args.spans.now ≡ length s.0 + length s.1 = ap length s.2 ∙ length-append s.0 s.1 in
    omega (arith, long, n, all)

pub write_spans-requires : goal.write_spans-requires
write_spans-requires c =
    let front = c.split_at.ensures.front_len in
    let n : c.stride.result ≡ stride (sort_table c.args.sort) = c.stride.ensures ∙ ap stride c.table_of-table.ensures in
    let at : c.first-first.result ≡ first c.args.ground.places.now (sort_table c.args.sort) c.args.k =
    c.first-first.ensures.first ∙ ap (λ t. first c.args.ground.places.now t c.args.k) c.table_of-table.ensures in
    let room = row-room c.args.ground c.requires.ground c.len.ensures.within c.args.sort c.args.k c.requires.row in
    let count = c.requires.count in
    omega (arith, front, n, at, room, count)

pub returns-clause-rest : goal.returns-clause-rest
returns-clause-rest c = λ own rest e is.
    let n : c.stride.result ≡ stride (sort_table c.args.sort) = c.stride.ensures ∙ ap stride c.table_of-table.ensures in
    c.split_at.ensures.back ∙ (ap (drop c.stride.result) e ∙ past-own own rest c.stride.result (is.count ∙ sym n))

pub returns-clause-written : goal.returns-clause-written
returns-clause-written c =
    let ground = c.args.ground in
    let s = c.requires.spans in
    let n : c.stride.result ≡ stride (sort_table c.args.sort) = c.stride.ensures ∙ ap stride c.table_of-table.ensures in
    let front : c.split_at.result.0.now ≡ s.0 =
    c.split_at.ensures.front ∙ (ap (take c.stride.result) s.2 ∙ first-own s.0 s.1 c.stride.result (s.3.count ∙ sym n)) in
    row-written ground c.requires.ground c.args.sort c.args.k c.split_at.result.0.now
    (subst (IsRowOf ground.inputs.factors.now ground.inputs.book.now.sheet c.args.sort c.args.k) (sym front) s.3) c.first-first.result
    (c.first-first.ensures.first ∙ ap (λ t. first ground.places.now t c.args.k) c.table_of-table.ensures) c.args.figures.now
    c.write_spans.new.figures c.write_spans.ensures c.len.ensures.apart
    (row-few ground c.requires.ground c.args.sort c.args.k c.requires.row)

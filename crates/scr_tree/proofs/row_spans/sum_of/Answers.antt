use Rattle.std.proofs.Common.{◌≡◌, ◌*◌, ◌<◌, get_or, length, pos, slice_index_or, take, ap, ◌∙◌, arith}
use mir.Syntax.{w128}
use mir.Val.{to_z}
use Rattle.std.specs.Prelude.{◌≤ℤ◌, sum_by}
use Rattle.std.proofs.lemmas.Int.{ints}
use Rattle.std.proofs.lemmas.List.{take_all}
use Rattle.std.proofs.lemmas.List.Elements.{length_all_zip}
use Rattle.scr_figure_ids.proofs.SourceRows.{within-at}
use Rattle.scr_tree.specs.RowSpans.{BeginsAt}
use Rattle.scr_tree.proofs.GroupSums.{sum-next, zip-at}
use Rattle.scr_tree.proofs.row_spans.sum_of.Goals as goal

pub cents_of-requires : goal.cents_of-requires
cents_of-requires c =
    let i = c.loop-first.first-index in
    let firsts = c.args.firsts.now in
    let rows = c.requires.0 in
    let long = length_all_zip (BeginsAt c.args.places.now) firsts rows c.requires.1 in
    let low : i < length rows = omega (arith, long, c.loop-first-test.true) in (
      get_or rows i 0,
      zip-at (BeginsAt c.args.places.now) firsts rows i _ c.requires.1 c.loop-first-test.true,
      within-at (length c.args.cents.now) rows i 0 c.requires.2 low,
    )

pub loop-first-preserved : goal.loop-first-preserved
loop-first-preserved c =
    let i = c.loop-first.first-index in
    let firsts = c.args.firsts.now in
    let cents = c.args.cents.now in
    let before = c.loop-first.invariant in
    record {
      sum = λ rows begin.
          let at = zip-at (BeginsAt c.args.places.now) firsts rows i _ begin c.loop-first-test.true in
          let one : c.cents_of.result ≡ slice_index_or cents (get_or rows i 0) 0 = c.cents_of.ensures (get_or rows i 0) at in
          let long = length_all_zip (BeginsAt c.args.places.now) firsts rows begin in
          let next = sum-next (λ row. slice_index_or cents row 0) rows i (omega (arith, long, c.loop-first-test.true)) in
          let old : to_z w128 c.loop-first.sum-bits ≡ pos (sum_by (λ row. slice_index_or cents row 0) (take i rows)) = before.sum rows begin in
          omega (arith, ints, old, next, one, c.from-sum.ensures);
      low = let low : pos 0 ≤ℤ to_z w128 c.loop-first.sum-bits = before.low in omega (arith, ints, low, c.from-sum.ensures);
      high = let high : to_z w128 c.loop-first.sum-bits ≤ℤ pos (i * 18446744073709551615) = before.high in omega (arith, ints, high, c.from-sum.ensures);
    }

pub returns : goal.returns
returns c = λ rows begin.
    let long = length_all_zip (BeginsAt c.args.places.now) c.args.firsts.now rows begin in
    let all = take_all c.loop-first.first-index rows (omega (arith, long, c.loop-first-test.false)) in
    c.loop-first.invariant.sum rows begin ∙ ap (λ rs. pos (sum_by (λ row. slice_index_or c.args.cents.now row 0) rs)) all

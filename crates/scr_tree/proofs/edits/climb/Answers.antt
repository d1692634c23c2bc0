use Rattle.std.proofs.Common.{◌≡◌, ◌<◌, ◌≤◌, ℕ, List, Some, ap, arith, get_or, length, refl, slice_get, sym, ◌∙◌}
use Rattle.std.proofs.lemmas.Option.{slice_get-get_or}
use Rattle.scr_reachability.proofs.Placed.{get-contains}
use Rattle.scr_block_graph.specs.Books.{rolled_of}
use Rattle.scr_block_graph.proofs.Lives.{sources-live-in}
use Rattle.scr_tree.proofs.Climbed.{climbed-all, climbed-next, climbed-none}
use Rattle.scr_tree.proofs.Upright.{rolls-are}
use Rattle.scr_tree.proofs.edits.climb.Goals as goal

pub loop-place-init : goal.loop-place-init
loop-place-init c = record {
  climbed = climbed-none c.args.graph.numbers.book.now c.args.graph.numbers.places.now c.args.graph.numbers.lists.now c.args.touched.now
      c.args.marks.now.list c.requires.starts;
  size = refl;
}

pub mark_dependants-requires-clause-live : goal.mark_dependants-requires-clause-live
mark_dependants-requires-clause-live c =
    let number = get_or c.as_slice-in-loop-place.result.now c.loop-place.place 0 in
    let l : c.loop-place.place < length c.loop-place.marks.list = omega (arith, ap length c.as_slice.ensures.list, c.loop-place-test.true) in
    let at : slice_get c.loop-place.marks.list c.loop-place.place ≡ Some number =
    slice_get-get_or c.loop-place.marks.list c.loop-place.place 0 l
    ∙ ap (λ (keys : List ℕ). Some (get_or keys c.loop-place.place 0)) (sym c.as_slice-in-loop-place.ensures.list) in
    let n = c.loop-place.invariant.climbed.each number (get-contains c.loop-place.marks.list c.loop-place.place number at) in
    (n.0, n.1, (n.2).live)

pub loop-place-preserved : goal.loop-place-preserved
loop-place-preserved c =
    let number = get_or c.as_slice-in-loop-place.result.now c.loop-place.place 0 in
    let l : c.loop-place.place < length c.loop-place.marks.list = omega (arith, ap length c.as_slice.ensures.list, c.loop-place-test.true) in
    let at : slice_get c.loop-place.marks.list c.loop-place.place ≡ Some number =
    slice_get-get_or c.loop-place.marks.list c.loop-place.place 0 l
    ∙ ap (λ (keys : List ℕ). Some (get_or keys c.loop-place.place 0)) (sym c.as_slice-in-loop-place.ensures.list) in
    record {
      climbed = climbed-next c.args.graph.numbers.book.now c.args.graph.numbers.places.now c.args.graph.numbers.lists.now c.args.touched.now
          c.requires.graph.numbers_of.numbers.exact c.loop-place.marks.list c.mark_dependants.new.marks.list c.loop-place.place number
          c.loop-place.invariant.climbed l at c.in_ok-mark_dependants.ensures.marked;
      size = c.mark_dependants.ensures.size ∙ c.loop-place.invariant.size;
    }

pub returns-clause-marked : goal.returns-clause-marked
returns-clause-marked c =
    let book = c.args.graph.numbers.book.now in
    let past : length c.loop-place.marks.list ≤ c.loop-place.place = omega (arith, ap length c.as_slice.ensures.list, c.loop-place-test.false) in
    climbed-all book c.args.graph.numbers.places.now c.args.graph.numbers.lists.now c.args.touched.now c.requires.graph.numbers_of
    (λ point source live has. sources-live-in (rolled_of book) c.requires.valid (rolls-are book c.requires.graph.numbers_of.rolls) point source live has)
    c.loop-place.marks.list c.loop-place.place c.loop-place.invariant.climbed past c.as_slice.ensures.once

use Rattle.std.proofs.Common.{◌≡◌, ◌||◌, ◌<◌, Bool, true, All, List, length, refl, sym, ap, subst, ◌∙◌}
use Rattle.scr_num.specs.Rounding.{ends}
use Rattle.scr_num.specs.declared.span.Span.{Span}
use Rattle.scr_reachability.specs.Linked.{AreAt}
use Rattle.scr_reachability.specs.declared.ranks.Due.{Due}
use Rattle.scr_partial_sums.specs.declared.figure.Figure.{Figure}
use Rattle.scr_block_graph.specs.Books.{rolled_of}
use Rattle.scr_block_graph.specs.Graph.{is_live_in, sources_in}
use Rattle.scr_block_graph.specs.declared.point.Point.{Point}
use Rattle.scr_tree.specs.Figures.{worth_of}
use Rattle.scr_tree.specs.Opening.{opens_in}
use Rattle.scr_tree.specs.Ready.{IsBasis, IsReadyOn, StandsOn, reckoning_on}
use Rattle.scr_tree.specs.Together.{IsDueOn, IsSpanOn, any_close}
use Rattle.scr_tree.specs.declared.basis.Basis.{Basis}
use Rattle.scr_tree.proofs.Here.{found-here, have-here, numbers-here, stands-here, within-here}
use Rattle.scr_tree.proofs.Spanned.{close-all, due-is, ends-here, point-right}
use Rattle.scr_tree.proofs.together.figure_with.Goals as goal

-- a figure at the number of what is due, with the span that is due
module _ (b : Basis) (is : IsBasis b) (figures : List Figure) (due : Due) (ready : IsReadyOn b figures due.number) (on : IsDueOn b due)
    (span : Span) (has : IsSpanOn b due.number span) where
  right : (point : Point) → StandsOn b point due.number → (close : Bool)
      → close ≡ (opens_in point (ends span) || any_close figures due.sources.items)
      → worth_of (record { span = span; close = close }) ≡ (reckoning_on b).worth point
  right point at close rests =
      let of = due-is b due on in
      let numbers = is.graph.numbers_of.numbers in
      let there = subst (λ p. AreAt (StandsOn b) due.sources.items (sources_in (rolled_of b.inputs.book.now) p))
      (numbers.exact due.number of.node point of.at at) of.sources in
      let live = subst (λ p. is_live_in (rolled_of b.inputs.book.now) p ≡ true) (numbers.exact due.number of.node point of.at at) of.live in
      point-right b is point span close (any_close figures due.sources.items) (has ∙ ends-here b is point due.number at live)
      (close-all b is figures due.sources.items (sources_in (rolled_of b.inputs.book.now) point)
      (have-here b is figures due.number ready point at due.sources.items there))
      rests

pub point_at-requires : goal.point_at-requires
point_at-requires c = numbers-here c.args.basis c.requires.basis c.numbers.result c.numbers.ensures

pub unreachable-requires : goal.unreachable-requires
unreachable-requires c =
    let ready = c.requires.ready in
    found-here c.args.basis c.requires.basis c.numbers.result c.numbers.ensures c.args.due.now.number (ready.node, ready.at, ready.live)
    (c.in-None.ensures.absent refl)

pub rests_on_choice-close-requires : goal.rests_on_choice-close-requires
rests_on_choice-close-requires c =
    let b = c.args.basis in
    let due = due-is b c.args.due.now c.requires.due in
    subst (All (λ source. source < length c.args.figures.now)) (sym c.as_slice.ensures.value)
    (within-here b c.requires.basis c.args.figures.now c.args.due.now.number c.requires.ready due.node due.at c.args.due.now.sources.items due.sources)

pub returns-then-opens : goal.returns-then-opens
returns-then-opens c = λ point at.
    let b = c.args.basis in
    let here = c.in-Some.point in
    let own = stands-here b c.requires.basis c.numbers.result c.numbers.ensures here c.args.due.now.number c.in-Some.ensures.there in
    let same : here ≡ point = c.requires.basis.graph.numbers_of.numbers.exact c.args.due.now.number here point own at in
    let below = any_close c.args.figures.now c.args.due.now.sources.items in
    right b c.requires.basis c.args.figures.now c.args.due.now c.requires.ready c.requires.due c.args.span c.requires.span point at c.opens.result
    (c.if-opens.true
    ∙ sym (ap (λ t. t || below) (ap (λ p. opens_in p (ends c.args.span)) (sym same) ∙ sym c.opens.ensures ∙ c.if-opens.true)))

pub returns-else-opens : goal.returns-else-opens
returns-else-opens c = λ point at.
    let b = c.args.basis in
    let here = c.in-Some.point in
    let own = stands-here b c.requires.basis c.numbers.result c.numbers.ensures here c.args.due.now.number c.in-Some.ensures.there in
    let same : here ≡ point = c.requires.basis.graph.numbers_of.numbers.exact c.args.due.now.number here point own at in
    let below = any_close c.args.figures.now c.args.due.now.sources.items in
    right b c.requires.basis c.args.figures.now c.args.due.now c.requires.ready c.requires.due c.args.span c.requires.span point at
    c.rests_on_choice-close.result
    (c.rests_on_choice-close.ensures ∙ ap (any_close c.args.figures.now) c.as_slice.ensures.value
    ∙ sym (ap (λ t. t || below) (ap (λ p. opens_in p (ends c.args.span)) (sym same) ∙ sym c.opens.ensures ∙ c.if-opens.false)))

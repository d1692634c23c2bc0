use Rattle.std.proofs.Common.{◌≡◌, ℕ, List, refl, sym, ap, subst, ◌∙◌}
use Rattle.scr_num.specs.Rounding.{ends}
use Rattle.scr_num.specs.declared.span.Span.{Span}
use Rattle.scr_reachability.specs.LinkedDues.{numbers_of}
use Rattle.scr_reachability.specs.declared.ranks.Due.{Due}
use Rattle.scr_partial_sums.specs.declared.figure.Figure.{Figure}
use Rattle.scr_block_graph.specs.Books.{rolled_of}
use Rattle.scr_tree.specs.Points.{book_graph}
use Rattle.scr_tree.specs.Ready.{AreInTurnOn, AreKnownBut, IsOrderOn, StandsOn}
use Rattle.scr_tree.specs.Together.{AreDuesOn, AreSpansOn}
use Rattle.scr_tree.specs.declared.basis.Basis.{Basis}
use Rattle.scr_tree.proofs.Turning.{in-turn}
use Rattle.scr_tree.proofs.together.reckon_together.Goals as goal

turn-of : (b : Basis) (numbers ends given : List ℕ) → IsOrderOn b numbers ends → given ≡ numbers → AreInTurnOn b given
turn-of b numbers ends given order same =
    subst (AreInTurnOn b) (sym same) (in-turn (book_graph (rolled_of b.inputs.book.now)) (StandsOn b) order.0 numbers ends order.1)

dues-own : (b : Basis) (numbers : List ℕ) (dues given : List Due) → AreDuesOn b numbers dues → given ≡ dues → AreDuesOn b (numbers_of given) given
dues-own b numbers dues given are same =
    subst (λ (ds : List Due). AreDuesOn b (numbers_of ds) ds) (sym same) (record { numbers_are = refl; each = are.each })

known-of : (b : Basis) (figures : List Figure) (numbers given : List ℕ) → AreKnownBut b figures numbers → given ≡ numbers
    → AreKnownBut b figures given
known-of b figures numbers given known same = subst (AreKnownBut b figures) (sym same) known

pub dues_on-requires-clause-turn : goal.dues_on-requires-clause-turn
dues_on-requires-clause-turn g c =
    turn-of c.args.basis c.args.order.numbers.items c.args.order.ends.items c.as_slice-numbers.result.now c.requires.order c.as_slice-numbers.ensures.value

pub spans_of-requires-clause-turn : goal.spans_of-requires-clause-turn
spans_of-requires-clause-turn g c κs within =
    turn-of c.args.basis c.args.order.numbers.items c.args.order.ends.items (numbers_of c.as_slice.result.now) c.requires.order
    (ap numbers_of c.as_slice.ensures.value ∙ c.in_ok-dues.ensures.numbers_are ∙ c.as_slice-numbers.ensures.value)

pub spans_of-requires-clause-dues : goal.spans_of-requires-clause-dues
spans_of-requires-clause-dues g c κs within =
    dues-own c.args.basis c.as_slice-numbers.result.now c.in_ok-dues.dues.items c.as_slice.result.now c.in_ok-dues.ensures c.as_slice.ensures.value

pub spans_of-requires-clause-known : goal.spans_of-requires-clause-known
spans_of-requires-clause-known g c κs within =
    known-of c.args.basis c.args.figures.now c.args.order.numbers.items (numbers_of c.as_slice.result.now)
    c.requires.known
    (ap numbers_of c.as_slice.ensures.value ∙ c.in_ok-dues.ensures.numbers_are ∙ c.as_slice-numbers.ensures.value)

pub write_all-requires-clause-turn : goal.write_all-requires-clause-turn
write_all-requires-clause-turn g c =
    turn-of c.args.basis c.args.order.numbers.items c.args.order.ends.items (numbers_of c.as_slice-2.result.now) c.requires.order
    (ap numbers_of c.as_slice-2.ensures.value ∙ c.in_ok-dues.ensures.numbers_are ∙ c.as_slice-numbers.ensures.value)

pub write_all-requires-clause-dues : goal.write_all-requires-clause-dues
write_all-requires-clause-dues g c =
    dues-own c.args.basis c.as_slice-numbers.result.now c.in_ok-dues.dues.items c.as_slice-2.result.now c.in_ok-dues.ensures c.as_slice-2.ensures.value

pub write_all-requires-clause-known : goal.write_all-requires-clause-known
write_all-requires-clause-known g c =
    known-of c.args.basis c.args.figures.now c.args.order.numbers.items (numbers_of c.as_slice-2.result.now)
    c.requires.known
    (ap numbers_of c.as_slice-2.ensures.value ∙ c.in_ok-dues.ensures.numbers_are ∙ c.as_slice-numbers.ensures.value)

pub write_all-requires-clause-spans : goal.write_all-requires-clause-spans
write_all-requires-clause-spans g c =
    let b = c.args.basis in
    subst (λ (ds : List Due). AreSpansOn b (numbers_of ds) c.as_slice-3.result.now) (c.as_slice.ensures.value ∙ sym c.as_slice-2.ensures.value)
    (subst (λ (ss : List Span). AreSpansOn b (numbers_of c.as_slice.result.now) ss) (sym c.as_slice-3.ensures.value) c.in_ok-spans.ensures)

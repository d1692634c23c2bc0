use Rattle.std.proofs.Common.{◌≡◌, ◌+◌, Some, drop, length, set, slice_get, refl, sym, ap, subst, ◌∙◌, arith}
use Rattle.std.proofs.lemmas.Option.{slice_get_within}
use Rattle.scr_tree.specs.Order.{IsJournalKept, IsJournaled, undone}
use Rattle.scr_tree.specs.Ready.{AreInTurnOn, AreKnownBut, StandsOn, reckoning_on}
use Rattle.scr_tree.proofs.Ceiling.{ceiling-settled}
use Rattle.scr_tree.specs.Renewed.{AreSumsOn}
use Rattle.scr_tree.proofs.Journaled.{journaled-long, journaled-none}
use Rattle.scr_tree.proofs.SquareRun.{known-more, next-ready, next-within, none-left}
use Rattle.scr_tree.proofs.Upright.{book-up}
use Rattle.scr_tree.proofs.Turning.{settled-all}
use Rattle.scr_tree.proofs.reckoning.write_in_turn.Goals as goal

pub loop-number-init : goal.loop-number-init
loop-number-init g c = record {
  numbers = refl;
  known = subst (λ k. AreKnownBut c.args.basis c.args.figures.now (drop k c.args.journal.now.numbers.items)) (sym c.requires.first) c.requires.known;
  journaled = subst (λ former. IsJournaled former c.args.figures.now c.args.figures.now) (sym c.requires.none)
      (journaled-none c.args.figures.now);
  steps = let none = c.requires.first in omega (arith, none);
  kept = tt;
}

-- ---- the squares of all groups

pub write_square_sum-kept-requires-clause-turn : goal.write_square_sum-kept-requires-clause-turn
write_square_sum-kept-requires-clause-turn g c = subst (AreInTurnOn c.args.basis) (sym c.loop-number.invariant.numbers) c.requires.turn

pub write_square_sum-kept-requires-clause-first : goal.write_square_sum-kept-requires-clause-first
write_square_sum-kept-requires-clause-first g c =
    let first = c.is_first_square.ensures.yes c.if-is_first_square.true in
    (first.0, sym c.next_number.ensures ∙ c.in-Some.is ∙ ap Some (sym first.1))

pub write_square_sum-kept-requires-clause-known : goal.write_square_sum-kept-requires-clause-known
write_square_sum-kept-requires-clause-known g c =
    let k = c.loop-number.journal.next in
    subst (λ ns. AreKnownBut c.args.basis c.loop-number.figures (drop k ns)) (sym c.loop-number.invariant.numbers)
    c.loop-number.invariant.known

pub write_square_sum-kept-requires-clause-room : goal.write_square_sum-kept-requires-clause-room
write_square_sum-kept-requires-clause-room g c =
    let long = journaled-long c.loop-number.journal.former.items c.args.figures.now c.loop-number.figures c.loop-number.invariant.journaled in
    let room = c.requires.room in
    omega (arith, long, room)

pub write_square_sum-kept-requires-clause-ceiling : goal.write_square_sum-kept-requires-clause-ceiling
write_square_sum-kept-requires-clause-ceiling g c =
    record { before = c.args.figures.now; journaled = c.loop-number.invariant.journaled; ceiling = c.requires.ceiling }

pub loop-number-smaller-then-is_first_square : goal.loop-number-smaller-then-is_first_square
loop-number-smaller-then-is_first_square g c =
    let numbers = c.args.journal.now.numbers.items in
    let k = c.loop-number.journal.next in
    let low = slice_get_within numbers k c.in-Some.number
    (ap (λ ns. slice_get ns k) (sym c.loop-number.invariant.numbers) ∙ sym c.next_number.ensures ∙ c.in-Some.is) in
    let some = c.write_square_sum-kept.ensures.some in
    omega (arith, low, some)

pub loop-number-preserved-then-is_first_square : goal.loop-number-preserved-then-is_first_square
loop-number-preserved-then-is_first_square g c =
    let basis = c.args.basis in
    let numbers = c.args.journal.now.numbers.items in
    let before = c.args.figures.now in
    let former = c.loop-number.journal.former.items in
    let old = c.loop-number.figures in
    let k = c.write_square_sum-kept.new.journal.next in
    let next = c.write_square_sum-kept.new.journal.former.items in
    let now = c.write_square_sum-kept.new.figures in
    let kept : IsJournalKept former old next now = c.write_square_sum-kept.ensures.journaled in
    let journaled : IsJournaled next before now = kept before c.loop-number.invariant.journaled in
    let known : AreKnownBut basis now (drop k numbers) =
    subst (λ ns. AreKnownBut basis now (drop k ns)) c.loop-number.invariant.numbers c.write_square_sum-kept.ensures.known in
    record {
      numbers = c.write_square_sum-kept.ensures.numbers ∙ c.loop-number.invariant.numbers;
      known = known;
      journaled = journaled;
      steps = let step = c.write_square_sum-kept.ensures.steps in let so_far = c.loop-number.invariant.steps in omega (arith, step, so_far);
      kept = c.write_square_sum-kept.ensures.still;
    }

-- ---- any other figure

pub figure_at-requires-clause-ready : goal.figure_at-requires-clause-ready
figure_at-requires-clause-ready g c =
    let k = c.loop-number.journal.next in
    let number = c.in-Some.number in
    next-ready c.args.basis c.requires.basis c.args.journal.now.numbers.items c.requires.turn k c.loop-number.figures number
    (ap (λ ns. slice_get ns k) (sym c.loop-number.invariant.numbers) ∙ sym c.next_number.ensures ∙ c.in-Some.is)
    c.loop-number.invariant.known

pub figure_at-requires-clause-sums : goal.figure_at-requires-clause-sums
figure_at-requires-clause-sums g c = λ summed.
    subst (AreSumsOn c.args.basis)
    (sym (ap (λ former. undone former c.loop-number.figures) c.former.ensures ∙ c.loop-number.invariant.journaled.back)) (c.requires.sums summed)

pub write-requires-clause-next : goal.write-requires-clause-next
write-requires-clause-next g c = sym c.next_number.ensures ∙ c.in-Some.is

pub write-requires-clause-within : goal.write-requires-clause-within
write-requires-clause-within g c =
    let k = c.loop-number.journal.next in
    let number = c.in-Some.number in
    let long = journaled-long c.loop-number.journal.former.items c.args.figures.now c.loop-number.figures c.loop-number.invariant.journaled in
    let room = c.requires.room in
    let low = next-within c.args.basis c.requires.basis c.args.journal.now.numbers.items c.requires.turn k c.loop-number.figures number
    (ap (λ ns. slice_get ns k) (sym c.loop-number.invariant.numbers) ∙ sym c.next_number.ensures ∙ c.in-Some.is)
    (omega (arith, long, room)) in
    omega (arith, low)

pub loop-number-smaller : goal.loop-number-smaller
loop-number-smaller g c =
    let numbers = c.args.journal.now.numbers.items in
    let k = c.loop-number.journal.next in
    let low = slice_get_within numbers k c.in-Some.number
    (ap (λ ns. slice_get ns k) (sym c.loop-number.invariant.numbers) ∙ sym c.next_number.ensures ∙ c.in-Some.is) in
    let more = c.write.ensures.next in
    omega (arith, low, more)

pub loop-number-preserved : goal.loop-number-preserved
loop-number-preserved g c =
    let basis = c.args.basis in
    let numbers = c.args.journal.now.numbers.items in
    let before = c.args.figures.now in
    let number = c.in-Some.number in
    let figure = c.in_ok-figure.figure in
    let former = c.loop-number.journal.former.items in
    let k = c.loop-number.journal.next in
    let old = c.loop-number.figures in
    let next = c.write.new.self.former.items in
    let now = c.write.new.figures in
    let at : slice_get numbers k ≡ Some number =
    ap (λ ns. slice_get ns k) (sym c.loop-number.invariant.numbers) ∙ sym c.next_number.ensures ∙ c.in-Some.is in
    let long = journaled-long former before old c.loop-number.invariant.journaled in
    let room = c.requires.room in
    let written : now ≡ set old number figure = c.write.ensures.written in
    let journaled : IsJournaled next before now =
    c.write.ensures.journaled before c.loop-number.invariant.journaled in
    let known : AreKnownBut basis (set old number figure) (drop (k + 1) numbers) =
    known-more basis c.requires.basis numbers c.requires.turn k old number at figure c.in_ok-figure.ensures.figure (omega (arith, long, room))
    c.loop-number.invariant.known in
    record {
      numbers = c.write.ensures.numbers ∙ c.loop-number.invariant.numbers;
      known = subst (λ figures. AreKnownBut basis figures (drop c.write.new.self.next numbers)) (sym written)
          (subst (λ place. AreKnownBut basis (set old number figure) (drop place numbers)) (sym c.write.ensures.next) known);
      journaled = journaled;
      steps = let step = c.in_ok-figure.ensures.step in let so_far = c.loop-number.invariant.steps in
          let more = c.write.ensures.next in omega (arith, step, so_far, more);
      kept = c.loop-number.invariant.kept;
    }

-- ---- all of them

pub returns-clause-settled : goal.returns-clause-settled
returns-clause-settled g c =
    let basis = c.args.basis in
    let numbers = c.args.journal.now.numbers.items in
    let k = c.loop-number.journal.next in
    settled-all (reckoning_on basis) (StandsOn basis) basis.places.now.size (book-up basis c.requires.basis) c.loop-number.figures numbers k
    (none-left numbers k (ap (λ ns. slice_get ns k) (sym c.loop-number.invariant.numbers) ∙ sym c.next_number.ensures ∙ c.in_default.is))
    c.loop-number.invariant.known

pub returns-clause-ceiling : goal.returns-clause-ceiling
returns-clause-ceiling g c =
    let basis = c.args.basis in
    let numbers = c.args.journal.now.numbers.items in
    let k = c.loop-number.journal.next in
    ceiling-settled basis c.requires.basis c.loop-number.figures
    (settled-all (reckoning_on basis) (StandsOn basis) basis.places.now.size (book-up basis c.requires.basis) c.loop-number.figures numbers k
    (none-left numbers k (ap (λ ns. slice_get ns k) (sym c.loop-number.invariant.numbers) ∙ sym c.next_number.ensures ∙ c.in_default.is))
    c.loop-number.invariant.known)
    c.loop-number.kept c.loop-number.invariant.kept

pub returns-clause-steps : goal.returns-clause-steps
returns-clause-steps g c =
    let numbers = c.args.journal.now.numbers.items in
    let k = c.loop-number.journal.next in
    let past = none-left numbers k
    (ap (λ ns. slice_get ns k) (sym c.loop-number.invariant.numbers) ∙ sym c.next_number.ensures ∙ c.in_default.is) in
    let few = c.loop-number.journal.left in
    let same = ap length c.loop-number.invariant.numbers in
    let so_far = c.loop-number.invariant.steps in
    omega (arith, past, few, same, so_far)

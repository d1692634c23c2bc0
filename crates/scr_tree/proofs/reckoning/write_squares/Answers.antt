use Rattle.std.proofs.Common.{◌≡◌, ◌+◌, ◌-◌, ◌<◌, ◌^◌, ℕ, All, List, Some, drop, length, set, slice_get, take, refl, sym, ap, subst, ◌∙◌, arith}
use Rattle.std.specs.Prelude.{slice_index}
use Rattle.std.proofs.lemmas.List.{length-drop, length-set, take_rest}
use Rattle.scr_tree.specs.Order.{IsJournaled}
use Rattle.scr_tree.specs.Ready.{AreInTurnOn, square_number}
use Rattle.scr_tree.specs.SquareRun.{IsSquareAtOn}
use Rattle.scr_tree.specs.Still.{ArePassed, AreStillOn}
use Rattle.scr_tree.specs.declared.journal.Former.{Former}
use Rattle.scr_tree.specs.declared.reckoning.Stillness.{Stillness}
use Rattle.scr_tree.proofs.Ceiling.{ceiling-firsts, kept-still}
use Rattle.scr_tree.proofs.SquareRun.{next-ready, next-within}
use Rattle.scr_tree.proofs.SquaresEntered.{rows}
use Rattle.scr_tree.proofs.Still.{IsWalked, firsts-low, left-within, still-all, walked-more, walked-none, walked-on, walked-run}
use Rattle.scr_tree.proofs.reckoning.write_squares.Goals as goal

pub scale_on-assets-requires-clause-ready : goal.scale_on-assets-requires-clause-ready
scale_on-assets-requires-clause-ready g c =
    let b = c.args.basis in
    let number = square_number b 0 in (
      number,
      (c.requires.first.0, refl),
      next-ready b c.requires.basis c.args.journal.now.numbers.items c.requires.turn c.args.journal.now.next c.args.figures.now number c.requires.first.1
          c.requires.known,
    )

pub ceiling_now-ceiling-requires-clause-before : goal.ceiling_now-ceiling-requires-clause-before
ceiling_now-ceiling-requires-clause-before g c = c.requires.ceiling

pub still_from-still-requires-clause-low : goal.still_from-still-requires-clause-low
still_from-still-requires-clause-low g c =
    firsts-low c.firsts-firsts.result.now 0 (2 ^ 32)
    (λ k low.
    let firsts = c.firsts-firsts.ensures in
    let count = firsts.count in
    let far = firsts.low k (omega (arith, low, count)) in
    let is = firsts.each k (omega (arith, low, count)) in
    omega (arith, far, is))

pub still_from-still-requires-clause-within : goal.still_from-still-requires-clause-within
still_from-still-requires-clause-within g c =
    subst (All (λ number. number < length c.args.figures.now)) (sym c.left.ensures)
    (left-within c.args.basis c.requires.basis c.args.journal.now.numbers.items c.requires.turn c.args.journal.now.next (length c.args.figures.now) c.requires.room)

pub still_from-still-requires-clause-ceiling : goal.still_from-still-requires-clause-ceiling
still_from-still-requires-clause-ceiling g c =
    ceiling-firsts c.args.basis.places.now c.args.figures.now c.ceiling_now-ceiling.result c.firsts-firsts.result.now c.ceiling_now-ceiling.ensures
    c.firsts-firsts.ensures.count c.firsts-firsts.ensures.each

pub pass_next-requires : goal.pass_next-requires
pass_next-requires g c =
    let left = c.still_from-still.ensures.still.left in
    let long = length-drop c.args.journal.now.next c.args.journal.now.numbers.items in
    let is = ap length c.left.ensures in
    let within = c.args.journal.now.left in
    omega (arith, left, long, is, within)

pub loop-row-init : goal.loop-row-init
loop-row-init g c =
    let b = c.args.basis in
    let numbers = c.args.journal.now.numbers.items in
    let start = c.args.journal.now.next in
    let figures = c.args.figures.now in
    let firsts = c.firsts-firsts.result.now in
    let stood = c.still_from-still.result in
    let many = stood.many in
    let all : length firsts ≡ length b.inputs.book.now.sheet.groups = c.firsts-firsts.ensures.count ∙ rows b.inputs.book.now b.places.now b.lists.now c.requires.basis.graph.numbers_of in
    let passed : ArePassed c.scale_on-assets.result figures firsts (drop start numbers) stood =
    subst (λ (ns : List ℕ). ArePassed c.scale_on-assets.result figures firsts ns stood) c.left.ensures c.still_from-still.ensures in
    let moved : IsWalked b numbers start (0 + many) (start + many) figures =
    walked-on b c.requires.basis numbers c.requires.turn start 0 start figures c.requires.room (walked-none b numbers start figures c.requires.known)
    c.scale_on-assets.result c.scale_on-assets.ensures c.known.ensures firsts all
    (λ k low. c.firsts-firsts.ensures.each k (omega (arith, low, c.firsts-firsts.ensures.count))) stood passed in
    let none : 0 + many ≡ many = omega arith in
    record {
      numbers = c.pass_next.ensures.numbers;
      walked = subst (λ next. IsWalked b numbers start many next figures) (sym c.pass_next.ensures.next)
          (subst (λ row. IsWalked b numbers start row (start + many) figures) none moved);
      long = refl;
      kept = λ before is. subst (λ (former : List Former). IsJournaled former before figures) (sym c.pass_next.ensures.former) is;
      steps = c.pass_next.ensures.steps;
    }

pub square_at-figure-requires-clause-ready : goal.square_at-figure-requires-clause-ready
square_at-figure-requires-clause-ready g c =
    let k = c.loop-row.journal.next in
    let number = slice_index c.firsts-firsts.result.now c.loop-row.row + 1 in
    next-ready c.args.basis c.requires.basis c.args.journal.now.numbers.items c.requires.turn k c.loop-row.figures number
    (subst (λ ns. slice_get ns k ≡ Some number) c.loop-row.invariant.numbers (c.is_next.ensures.yes c.if-not-is_next.false))
    c.loop-row.invariant.walked.known

pub write-requires-clause-within : goal.write-requires-clause-within
write-requires-clause-within g c =
    let k = c.loop-row.journal.next in
    let number = slice_index c.firsts-firsts.result.now c.loop-row.row + 1 in
    let long = c.loop-row.invariant.long in
    let room = c.requires.room in
    next-within c.args.basis c.requires.basis c.args.journal.now.numbers.items c.requires.turn k c.loop-row.figures number
    (subst (λ ns. slice_get ns k ≡ Some number) c.loop-row.invariant.numbers (c.is_next.ensures.yes c.if-not-is_next.false))
    (omega (arith, long, room))

pub pass_still-row-requires-clause-low : goal.pass_still-row-requires-clause-low
pass_still-row-requires-clause-low g c =
    let firsts = c.firsts-firsts.result.now in
    subst (All (λ n. n + 1 < 2 ^ 32)) (sym (take_rest firsts (c.loop-row.row + 1)))
    (firsts-low firsts (c.loop-row.row + 1) (2 ^ 32)
    (λ k low.
    let told = c.firsts-firsts.ensures in
    let count = told.count in
    let far = told.low k (omega (arith, low, count)) in
    let is = told.each k (omega (arith, low, count)) in
    omega (arith, far, is)))

pub pass_still-row-requires-clause-within : goal.pass_still-row-requires-clause-within
pass_still-row-requires-clause-within g c =
    let written = ap length c.write.ensures.written ∙ length-set c.loop-row.figures (slice_index c.firsts-firsts.result.now c.loop-row.row + 1) c.square_at-figure.result in
    let long = c.loop-row.invariant.long in
    let room = c.requires.room in
    left-within c.args.basis c.requires.basis c.write.new.self.numbers.items
    (subst (AreInTurnOn c.args.basis) (sym (c.write.ensures.numbers ∙ c.loop-row.invariant.numbers)) c.requires.turn)
    c.write.new.self.next (length c.write.new.figures) (omega (arith, written, long, room))

pub loop-row-smaller : goal.loop-row-smaller
loop-row-smaller g c =
    let b = c.args.basis in
    let all : length c.firsts-firsts.result.now ≡ length b.inputs.book.now.sheet.groups = c.firsts-firsts.ensures.count ∙ rows b.inputs.book.now b.places.now b.lists.now c.requires.basis.graph.numbers_of in
    let low : c.loop-row.row < length c.firsts-firsts.result.now = c.loop-row-test.true in
    omega (arith, all, low)

pub loop-row-preserved : goal.loop-row-preserved
loop-row-preserved g c =
    let b = c.args.basis in
    let numbers = c.args.journal.now.numbers.items in
    let start = c.args.journal.now.next in
    let firsts = c.firsts-firsts.result.now in
    let row = c.loop-row.row in
    let number = slice_index firsts row + 1 in
    let figure = c.square_at-figure.result in
    let k = c.loop-row.journal.next in
    let old = c.loop-row.figures in
    let now = c.write.new.figures in
    let next = c.write.new.self.next in
    let on = c.pass_still-row.ensures in
    let many = c.pass_still-row.result in
    let low : row < length firsts = c.loop-row-test.true in
    let long = c.loop-row.invariant.long in
    let room = c.requires.room in
    let all : length firsts ≡ length b.inputs.book.now.sheet.groups = c.firsts-firsts.ensures.count ∙ rows b.inputs.book.now b.places.now b.lists.now c.requires.basis.graph.numbers_of in
    let at : slice_get numbers k ≡ Some number =
    subst (λ ns. slice_get ns k ≡ Some number) c.loop-row.invariant.numbers (c.is_next.ensures.yes c.if-not-is_next.false) in
    let own : IsSquareAtOn b row numbers k = (
      omega (arith, low, all),
      at ∙ ap Some (ap (λ n. n + 1) (c.firsts-firsts.ensures.each row (omega (arith, low, c.firsts-firsts.ensures.count)))),
    ) in
    let written : now ≡ set old number figure = c.write.ensures.written in
    let as_long : length now ≡ length old = ap length written ∙ length-set old number figure in
    let more : IsWalked b numbers start (row + 1) next now =
    subst (λ place. IsWalked b numbers start (row + 1) place now) (sym c.write.ensures.next)
    (subst (IsWalked b numbers start (row + 1) (k + 1)) (sym written)
    (walked-more b c.requires.basis numbers c.requires.turn start row k old (omega (arith, long, room)) c.loop-row.invariant.walked number figure own at
    c.square_at-figure.ensures)) in
    let stood : Stillness = record { many = many; most = on.passed.0 } in
    let passed : ArePassed c.scale_on-assets.result now (drop (row + 1) firsts) (drop next numbers) stood =
    subst (λ (fs : List ℕ). ArePassed c.scale_on-assets.result now fs (drop next numbers) stood) (take_rest firsts (row + 1))
    (subst (λ (ns : List ℕ). ArePassed c.scale_on-assets.result now (take (length firsts - (row + 1)) (drop (row + 1) firsts)) (drop next ns) stood)
    (c.write.ensures.numbers ∙ c.loop-row.invariant.numbers) on.passed.1) in
    record {
      numbers = on.numbers ∙ c.write.ensures.numbers ∙ c.loop-row.invariant.numbers;
      walked = subst (λ place. IsWalked b numbers start (row + 1 + many) place now) (sym on.next)
          (walked-on b c.requires.basis numbers c.requires.turn start (row + 1) next now (omega (arith, as_long, long, room)) more
          c.scale_on-assets.result c.scale_on-assets.ensures c.known.ensures firsts all
          (λ i less. c.firsts-firsts.ensures.each i (omega (arith, less, c.firsts-firsts.ensures.count))) stood passed);
      long = as_long ∙ long;
      kept = λ before is. subst (λ (former : List Former). IsJournaled former before now) (sym on.former)
          (c.write.ensures.journaled before (c.loop-row.invariant.kept before is));
      steps = let step = c.tick.ensures in let so_far = c.loop-row.invariant.steps in let took = on.steps in omega (arith, step, so_far, took);
    }

pub returns-then-not-is_next-clause-run : goal.returns-then-not-is_next-clause-run
returns-then-not-is_next-clause-run g c =
    let b = c.args.basis in
    let k = c.loop-row.journal.next in
    let row = c.loop-row.row in
    let low : row < length c.firsts-firsts.result.now = c.loop-row-test.true in
    walked-run b c.args.journal.now.numbers.items c.args.journal.now.next row k c.loop-row.figures c.loop-row.invariant.walked c.requires.first
    (λ on. c.is_next.ensures.not c.if-not-is_next.true
    (ap (λ ns. slice_get ns k) c.loop-row.invariant.numbers ∙ on.1
    ∙ ap Some (sym (ap (λ n. n + 1) (c.firsts-firsts.ensures.each row (omega (arith, low, c.firsts-firsts.ensures.count)))))))

pub returns-clause-run : goal.returns-clause-run
returns-clause-run g c =
    let b = c.args.basis in
    let count = c.firsts-firsts.ensures.count ∙ rows b.inputs.book.now b.places.now b.lists.now c.requires.basis.graph.numbers_of in
    walked-run b c.args.journal.now.numbers.items c.args.journal.now.next c.loop-row.row c.loop-row.journal.next c.loop-row.figures
    c.loop-row.invariant.walked c.requires.first
    (λ on. let low : c.loop-row.row < length b.inputs.book.now.sheet.groups = on.0 in omega (arith, low, count, c.loop-row-test.false))

pub returns-clause-still : goal.returns-clause-still
returns-clause-still g c =
    let b = c.args.basis in
    let numbers = c.args.journal.now.numbers.items in
    let start = c.args.journal.now.next in
    let figures = c.args.figures.now in
    let firsts = c.firsts-firsts.result.now in
    let stood = c.still_from-still.result in
    let all : length firsts ≡ length b.inputs.book.now.sheet.groups = c.firsts-firsts.ensures.count ∙ rows b.inputs.book.now b.places.now b.lists.now c.requires.basis.graph.numbers_of in
    let passed : ArePassed c.scale_on-assets.result figures firsts (drop start numbers) stood =
    subst (λ (ns : List ℕ). ArePassed c.scale_on-assets.result figures firsts ns stood) c.left.ensures c.still_from-still.ensures in
    kept-still c.ceiling-kept.result (AreStillOn b) stood.many (length firsts) stood.most c.ceiling-kept.ensures.all
    (still-all b c.requires.basis c.scale_on-assets.result c.scale_on-assets.ensures c.known.ensures numbers c.requires.turn start figures c.requires.room
    c.requires.known firsts all (λ k low. c.firsts-firsts.ensures.each k (omega (arith, low, c.firsts-firsts.ensures.count))) stood passed)

use Rattle.std.proofs.Common.{◌≡◌, ◌+◌, ◌<◌, ◌≤◌, ℕ, List, Some, drop, get_or, set, slice_get, length, sym, ap, subst, ◌∙◌, arith}
use Rattle.std.proofs.lemmas.List.{length-map, length-set}
use Rattle.std.proofs.lemmas.Option.{slice_get-get_or, slice_get-map}
use Rattle.std.specs.Option.{option_map}
use Rattle.scr_funds.proofs.Members.{at_member}
use Rattle.scr_num.specs.declared.span.Span.{Span}
use Rattle.scr_reachability.specs.LinkedDues.{numbers_of}
use Rattle.scr_reachability.proofs.Placed.{get-contains, get-member}
use Rattle.scr_reachability.specs.declared.ranks.Due.{Due}
use Rattle.scr_partial_sums.specs.declared.figure.Figure.{Figure}
use Rattle.scr_tree.specs.Ready.{AreInTurnOn, AreKnownBut, IsBasis, IsRightOn, StandsOn, reckoning_on}
use Rattle.scr_tree.specs.Together.{AreSpansOn, IsDueOn}
use Rattle.scr_tree.specs.declared.basis.Basis.{Basis}
use Rattle.scr_tree.proofs.Journaled.{set-here, set-other}
use Rattle.scr_tree.proofs.Spanned.{as-many, span-there}
use Rattle.scr_tree.proofs.Turning.{known-next, ready-next, settled-all}
use Rattle.scr_tree.proofs.Upright.{book-up}
use Rattle.scr_tree.proofs.together.write_all.Goals as goal

module _ (b : Basis) (dues : List Due) (spans : List Span) (are : AreSpansOn b (numbers_of dues) spans) (k : ℕ) (low : k < length spans) where
  due-low : k < length dues
  due-low =
      let many = as-many b (numbers_of dues) spans are in
      let same = length-map dues (λ (d : Due). d.number) in
      omega (arith, many, same, low)

  due-there : (due : Due) → due ≡ get_or dues k due → slice_get dues k ≡ Some due
  due-there due is = slice_get-get_or dues k due due-low ∙ ap Some (sym is)

  number-there : (due : Due) → due ≡ get_or dues k due → slice_get (numbers_of dues) k ≡ Some due.number
  number-there due is = slice_get-map (λ (d : Due). d.number) dues k ∙ ap (option_map (λ (d : Due). d.number)) (due-there due is)

  got-there : (d : Due) → slice_get (numbers_of dues) k ≡ Some (get_or dues k d).number
  got-there d = slice_get-map (λ (e : Due). e.number) dues k ∙ ap (option_map (λ (e : Due). e.number)) (slice_get-get_or dues k d due-low)

-- a number in turn is that of a figure
within : (b : Basis) → IsBasis b → (dues : List Due) → AreInTurnOn b (numbers_of dues) → (k number : ℕ) → slice_get (numbers_of dues) k ≡ Some number
    → (old now : List Figure) → b.places.now.size ≤ length old → length now ≡ length old → number < length now
within b is dues turn k number there old now room long =
    let live = turn.each number (get-contains (numbers_of dues) k number there) in
    let low = is.graph.numbers_of.numbers.within live.0 number live.1 in
    omega (arith, low, room, long)

pub bounds-dues-k : goal.bounds-dues-k
bounds-dues-k c = due-low c.args.basis c.args.dues.now c.args.spans.now c.requires.spans c.loop-k.k c.loop-k-test.true

pub figure_with-figure-requires-clause-ready : goal.figure_with-figure-requires-clause-ready
figure_with-figure-requires-clause-ready c =
    let b = c.args.basis in
    let dues = c.args.dues.now in
    let k = c.loop-k.k in
    let due = c.index-dues-k.result in
    ready-next (reckoning_on b) (StandsOn b) b.places.now.size (book-up b c.requires.basis) c.loop-k.figures (numbers_of dues) k due.number
    c.requires.turn (number-there b dues c.args.spans.now c.requires.spans k c.loop-k-test.true due c.index-dues-k.is) c.loop-k.invariant.known

pub figure_with-figure-requires-clause-due : goal.figure_with-figure-requires-clause-due
figure_with-figure-requires-clause-due c =
    let b = c.args.basis in
    let dues = c.args.dues.now in
    let due = c.index-dues-k.result in
    at_member (IsDueOn b) dues due c.requires.dues.each
    (get-member dues c.loop-k.k due (due-there b dues c.args.spans.now c.requires.spans c.loop-k.k c.loop-k-test.true due c.index-dues-k.is))

pub figure_with-figure-requires-clause-span : goal.figure_with-figure-requires-clause-span
figure_with-figure-requires-clause-span c =
    let b = c.args.basis in
    let dues = c.args.dues.now in
    let spans = c.args.spans.now in
    let k = c.loop-k.k in
    let due = c.index-dues-k.result in
    let span = c.index-spans-k.result in
    span-there b (numbers_of dues) spans k due.number span c.requires.spans
    (number-there b dues spans c.requires.spans k c.loop-k-test.true due c.index-dues-k.is)
    (slice_get-get_or spans k span c.loop-k-test.true ∙ ap Some (sym c.index-spans-k.is))

pub set-requires : goal.set-requires
set-requires c =
    let b = c.args.basis in
    let dues = c.args.dues.now in
    let k = c.loop-k.k in
    let number = (get_or dues k c.index-dues-k-in-loop-k.result).number in
    within b c.requires.basis dues c.requires.turn k number
    (got-there b dues c.args.spans.now c.requires.spans k c.loop-k-test.true c.index-dues-k-in-loop-k.result) c.args.figures.now c.loop-k.figures
    c.requires.room c.loop-k.invariant.long

pub loop-k-preserved : goal.loop-k-preserved
loop-k-preserved c =
    let b = c.args.basis in
    let dues = c.args.dues.now in
    let k = c.loop-k.k in
    let figures = c.loop-k.figures in
    let figure = c.figure_with-figure.result in
    let due = c.index-dues-k.result in
    let number = (get_or dues k c.index-dues-k-in-loop-k.result).number in
    let there : slice_get (numbers_of dues) k ≡ Some number =
    got-there b dues c.args.spans.now c.requires.spans k c.loop-k-test.true c.index-dues-k-in-loop-k.result in
    let same : due.number ≡ number =
    (let both : Some due.number ≡ Some number =
    sym (number-there b dues c.args.spans.now c.requires.spans k c.loop-k-test.true due c.index-dues-k.is) ∙ there in cc) in
    let right : IsRightOn b number figure = subst (λ n. IsRightOn b n figure) same c.figure_with-figure.ensures in
    let low : number < length figures =
    within b c.requires.basis dues c.requires.turn k number there c.args.figures.now figures c.requires.room c.loop-k.invariant.long in
    record {
      known = subst (λ (now : List Figure). AreKnownBut b now (drop (k + 1) (numbers_of dues))) (sym c.set.ensures)
          (known-next (reckoning_on b) (StandsOn b) b.places.now.size (book-up b c.requires.basis) (numbers_of dues) k number figure
          figures (set figures number figure) c.requires.turn there right (set-here figures number figure low)
          (λ other apart. set-other figures number other figure apart) c.loop-k.invariant.known);
      long = ap length c.set.ensures ∙ length-set figures number figure ∙ c.loop-k.invariant.long;
    }

pub returns-clause-settled : goal.returns-clause-settled
returns-clause-settled c =
    let b = c.args.basis in
    let dues = c.args.dues.now in
    let many = as-many b (numbers_of dues) c.args.spans.now c.requires.spans in
    let end = c.loop-k-test.false in
    settled-all (reckoning_on b) (StandsOn b) b.places.now.size (book-up b c.requires.basis) c.loop-k.figures (numbers_of dues) c.loop-k.k
    (omega (arith, many, end)) c.loop-k.invariant.known

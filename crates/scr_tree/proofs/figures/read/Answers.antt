use Rattle.std.proofs.Common.{[], ◌∙◌, get_or, sym, subst, take}
use Rattle.std.proofs.lemmas.Option.{slice_get-get_or}
use Rattle.scr_tree.specs.Figures.{AreReadAt}
use Rattle.scr_tree.proofs.Known.{read-next, take-next}
use Rattle.scr_tree.proofs.figures.read.Goals as goal

pub loop-number-init : goal.loop-number-init
loop-number-init c = record {
  read = [];
  at = tt;
  spans = c.in_ok-reserve.ensures.spans ∙ c.clear.ensures.spans;
  close = c.in_ok-reserve.ensures.close ∙ c.clear.ensures.close;
}

pub loop-number-preserved : goal.loop-number-preserved
loop-number-preserved c =
    let figures = c.args.figures.now in
    let numbers = c.args.numbers.now in
    let k = c.loop-number.number-index in
    let figure = c.figure.result in
    let got = c.figure.ensures in
    subst (λ ns. AreReadAt figures ns c.push.new.self)
    (sym (take-next numbers k (get_or numbers k 0) (slice_get-get_or numbers k 0 c.loop-number-test.true)))
    (read-next figures (take k numbers) (get_or numbers k 0) figure c.loop-number.below c.push.new.self
    c.loop-number.invariant got c.in_ok-push.ensures.spans c.in_ok-push.ensures.close)

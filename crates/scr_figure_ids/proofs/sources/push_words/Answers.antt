use Rattle.std.proofs.Common.{◌≡◌, true, [], subst, sym, ◌∙◌, arith, append-nil}
use Rattle.std.proofs.lemmas.List.{take_all}
use Rattle.scr_nodes.specs.Live.{is_live}
use Rattle.scr_nodes.specs.Nth.{IsNth}
use Rattle.scr_nodes.specs.Sources.{words_of}
use Rattle.scr_nodes.proofs.Selected.{few-words}
use Rattle.scr_figure_ids.proofs.GatheredRows.{at-place}
use Rattle.scr_figure_ids.specs.SourceNumbers.{AreAllPushed}
use Rattle.scr_figure_ids.proofs.Zipped.{next-pushed, no-words}
use Rattle.scr_figure_ids.proofs.sources.push_words.Goals as goal

pub returns-then-is_total : goal.returns-then-is_total
returns-then-is_total c =
    subst (λ nodes. AreAllPushed c.args.view.sheet.now c.args.view.places.now nodes c.args.list.now.items c.args.list.now.items)
    (sym (no-words c.args.node.now (sym c.is_total.ensures ∙ c.if-is_total.true)))
    (record { more = []; list = sym (append-nil c.args.list.now.items); at = tt })

pub loop-place-init : goal.loop-place-init
loop-place-init c = record { more = []; list = sym (append-nil c.args.list.now.items); at = tt }

pub number_of-requires-clause-live : goal.number_of-requires-clause-live
number_of-requires-clause-live c =
    let words = words_of c.args.node.now in
    at-place (λ node. is_live c.args.view.sheet.now node ≡ true) words c.loop-place.place c.in-There.word c.requires.live
    (subst (IsNth words c.loop-place.place) c.in-There.is c.nth_word.ensures)

pub loop-place-preserved : goal.loop-place-preserved
loop-place-preserved c =
    let words = words_of c.args.node.now in
    next-pushed c.args.view.sheet.now c.args.view.places.now words c.loop-place.place c.in-There.word c.number_of.result
    c.loop-place.list.items c.args.list.now.items c.push.new.self.items
    (subst (IsNth words c.loop-place.place) c.in-There.is c.nth_word.ensures) c.number_of.ensures c.loop-place.invariant
    c.in_ok-push-in-There.ensures.items

pub returns-in-Past : goal.returns-in-Past
returns-in-Past c =
    let words = words_of c.args.node.now in
    let past = subst (IsNth words c.loop-place.place) c.in-Past.is c.nth_word.ensures in
    subst (λ nodes. AreAllPushed c.args.view.sheet.now c.args.view.places.now nodes c.args.list.now.items c.loop-place.list.items)
    (take_all c.loop-place.place words (omega (arith, past))) c.loop-place.invariant

pub returns : goal.returns
returns c =
    let words = words_of c.args.node.now in
    let few = few-words c.args.node.now in
    let last = c.loop-place-test.false in
    subst (λ nodes. AreAllPushed c.args.view.sheet.now c.args.view.places.now nodes c.args.list.now.items c.loop-place.list.items)
    (take_all c.loop-place.place words (omega (arith, few, last))) c.loop-place.invariant

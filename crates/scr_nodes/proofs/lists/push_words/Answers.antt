use Rattle.std.proofs.Common.{◌++◌, ap, subst, ◌∙◌, arith}
use Rattle.std.proofs.lemmas.List.{take_all}
use Rattle.scr_nodes.specs.Nth.{IsNth}
use Rattle.scr_nodes.specs.Sources.{words_of}
use Rattle.scr_nodes.proofs.Selected.{few-words}
use Rattle.scr_nodes.proofs.Walks.{pushed_next}
use Rattle.scr_nodes.proofs.lists.push_words.Goals as goal

pub returns-in-Past : goal.returns-in-Past
returns-in-Past c =
    let words = words_of c.args.node.now in
    let past = subst (IsNth words c.loop-place.place) c.in-Past.is c.nth_word.ensures in
    c.loop-place.invariant ∙ ap (λ xs. c.args.list.now.items ++ xs)
    (take_all c.loop-place.place words (omega (arith, past)))

pub loop-place-preserved : goal.loop-place-preserved
loop-place-preserved c =
    let words = words_of c.args.node.now in
    pushed_next c.loop-place.list.items c.args.list.now.items c.push.new.self.items words c.loop-place.place
    c.in-There.word (subst (IsNth words c.loop-place.place) c.in-There.is c.nth_word.ensures) c.loop-place.invariant
    c.in_ok-push-in-There.ensures.items

pub returns : goal.returns
returns c =
    let words = words_of c.args.node.now in
    let few = few-words c.args.node.now in
    let last = c.loop-place-test.false in
    c.loop-place.invariant ∙ ap (λ xs. c.args.list.now.items ++ xs)
    (take_all c.loop-place.place words (omega (arith, few, last)))

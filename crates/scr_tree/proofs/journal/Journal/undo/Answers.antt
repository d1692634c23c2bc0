use Rattle.std.proofs.Common.{◌≡◌, ◌++◌, [], ◌∷◌, length, sym, ap, subst, ◌∙◌}
use Rattle.std.specs.Option.{option_to_list}
use Rattle.std.proofs.lemmas.List.{length-set}
use Rattle.scr_tree.specs.Order.{AreWithin, undone}
use Rattle.scr_tree.proofs.Journaled.{none-kept, popped-none, undone-last, within-front}
use Rattle.scr_tree.proofs.journal.Journal.undo.Goals as goal

pub loop-was-preserved : goal.loop-was-preserved
loop-was-preserved c =
    let figures = c.loop-was.figures in
    let left = c.pop.new.self.items in
    let was = c.in-Some.was in
    let items : c.loop-was.former.items ≡ left ++ was ∷ [] = c.pop.ensures.items ∙ ap (λ o. left ++ option_to_list o) c.in-Some.is in
    let all : AreWithin (length figures) (left ++ was ∷ []) = subst (AreWithin (length figures)) items c.loop-was.invariant.within in
    record {
      within = subst (λ many. AreWithin many left) (sym (ap length c.set.ensures ∙ length-set figures was.number was.figure)) (within-front left was (length figures) all);
      back = ap (undone left) c.set.ensures ∙ sym (undone-last left was figures)
          ∙ ap (λ former. undone former figures) (sym items) ∙ c.loop-was.invariant.back;
    }

pub returns : goal.returns
returns c =
    let figures = c.loop-was.figures in
    let long = popped-none c.pop.result _ _ c.in_default.is c.pop.ensures.cases in
    let none : c.loop-was.former.items ≡ [] = none-kept c.loop-was.former.items (sym c.loop-was.former.ok.0 ∙ long) in
    sym (ap (λ former. undone former figures) none) ∙ c.loop-was.invariant.back

use Rattle.std.proofs.Common.{◌≡◌, filter, subst, ◌∙◌, IfOk}
use Rattle.scr_touched.specs.Candidates.{touches}
use Rattle.scr_touched.proofs.candidates.touched_with.Goals as goal

pub returns : goal.returns
returns c =
    subst (λ all. IfOk c.chosen.result (λ list. list.items ≡ filter (touches c.args.sheet.now c.args.change.now) all))
    (c.deref.ensures.value ∙ c.in_ok-all.ensures) c.chosen.ensures

use Rattle.std.proofs.Common.{◌∙◌, codes}
use Rattle.scr_args.specs.Forms.{form}
use Rattle.scr_args.proofs.Steps.{value_is}
use Rattle.scr_args.proofs.words.said_by.Goals as goal

pub returns : goal.returns
returns c =
    let options = c.args.options.now in
    let factors = c.value_of.ensures ∙ value_is options (codes "factors") in
    let book = c.value_of-2.ensures ∙ value_is options (codes "book") in
    let edits = c.value_of-3.ensures ∙ value_is options (codes "edits") in
    let make = c.value_of-4.ensures ∙ value_is options (codes "make") in
    let workers = c.value_of-5.ensures ∙ value_is options (codes "workers") in
    c.form_with.ensures ∙ (λ i. form (factors i) (book i) (edits i) (make i) (workers i))

use Rattle.std.proofs.Common.{◌≡◌, true, false, sym, ◌∙◌}
use Rattle.scr_discounts.specs.Kept.{rows_of}
use Rattle.scr_tree.proofs.RowParts.{losses-right, total-small}
use Rattle.scr_tree.proofs.RowsMade.{discounts-are, rows-are}
use Rattle.scr_tree.proofs.row_spans.losses_of.Goals as goal

pub returns-then-not-is_paying : goal.returns-then-not-is_paying
returns-then-not-is_paying g c = λ pays.
    let none = sym c.is_paying.ensures ∙ c.if-not-is_paying.true in
    let clash : true ≡ false = sym pays ∙ none in
    absurd (cc)

pub security_losses-requires-clause-rows : goal.security_losses-requires-clause-rows
security_losses-requires-clause-rows g c = discounts-are c.args.ground c.requires.ground

pub security_losses-requires-clause-total : goal.security_losses-requires-clause-total
security_losses-requires-clause-total g c =
    let ground = c.args.ground in
    total-small ground.inputs.factors.now c.requires.ground.form ground.inputs.book.now.sheet c.requires.ground.valid c.args.position.now c.requires.row
    (sym c.is_paying.ensures ∙ c.if-not-is_paying.false) c.args.total c.requires.total

pub returns : goal.returns
returns g c = λ pays.
    let ground = c.args.ground in
    let factors = ground.inputs.factors.now in
    losses-right factors c.requires.ground.form ground.inputs.book.now.sheet c.requires.ground.valid c.args.position.now c.requires.row pays
    (rows_of ground.inputs.rates.now.curves) (rows-are ground c.requires.ground) c.args.total c.security_losses.result
    c.requires.total (c.security_losses.ensures.unit_up factors) (c.security_losses.ensures.unit_down factors)
    (c.security_losses.ensures.rate_up factors) (c.security_losses.ensures.rate_down factors)

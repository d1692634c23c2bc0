use Rattle.std.proofs.Common.{ℕ, pos, [], ◌∷◌, sym, ap, ap₂, ◌∙◌, arith}
use Rattle.scr_num.specs.Rounding.{ends, exact_ends}
use Rattle.scr_conc.specs.ConcentrationEnds.{exposure_square_units}
use Rattle.scr_rules.proofs.GroupRows.{square-by-rule, square-fits}
use Rattle.scr_rules.proofs.market_rules.concentration_square.Goals as goal

pub amount-requires : goal.amount-requires
amount-requires c =
    (square-fits c.args.book.now.sheet c.args.group.now c.requires.row c.args.factors.now (c.requires.fits.0 ∷ ends c.args.exposure ∷ []) c.requires.fits.2).exposure

pub square-requires-clause-step : goal.square-requires-clause-step
square-requires-clause-step c =
    (square-fits c.args.book.now.sheet c.args.group.now c.requires.row c.args.factors.now (c.requires.fits.0 ∷ ends c.args.exposure ∷ []) c.requires.fits.2).at_most_6

pub square-requires-clause-part : goal.square-requires-clause-part
square-requires-clause-part c =
    let part = (square-fits c.args.book.now.sheet c.args.group.now c.requires.row c.args.factors.now (c.requires.fits.0 ∷ ends c.args.exposure ∷ []) c.requires.fits.2).part in
    let cents = c.amount.ensures.value in
    let same = c.requires.fits.1 in
    omega (arith, part, cents, same)

pub returns : goal.returns
returns c = λ assets same.
    square-by-rule c.args.book.now.sheet c.args.group.now c.requires.row c.args.factors.now assets (ends c.args.exposure) (ends c.whole.result)
    (c.whole.ensures
    ∙ ap (λ (n : ℕ). exact_ends (pos n))
    (c.square.ensures.value
    ∙ ap₂ (λ (base cents : ℕ). exposure_square_units base (record { cents = cents; kind = c.args.group.now.kind; step = c.args.group.now.step }))
    (sym same) c.amount.ensures.value))

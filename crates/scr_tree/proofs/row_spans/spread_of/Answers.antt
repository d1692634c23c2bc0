use Rattle.std.proofs.Common.{◌≡◌, true, false, sym, ◌∙◌}
use Rattle.scr_tree.proofs.RowParts.{spread-fits, spread-right}
use Rattle.scr_tree.proofs.row_spans.spread_of.Goals as goal

pub returns-then-not-has_class : goal.returns-then-not-has_class
returns-then-not-has_class g c = λ bond.
    let none = sym c.has_class.ensures ∙ c.if-not-has_class.true in
    let clash : true ≡ false = sym bond ∙ none in
    absurd (cc)

pub bond_spread-requires-clause-fits : goal.bond_spread-requires-clause-fits
bond_spread-requires-clause-fits g c =
    let ground = c.args.ground in
    spread-fits ground.inputs.factors.now c.requires.ground.form ground.inputs.book.now.sheet c.requires.ground.valid c.args.position.now c.requires.row
    (sym c.has_class.ensures ∙ c.if-not-has_class.false) c.args.total c.requires.total

pub returns : goal.returns
returns g c = λ bond.
    let ground = c.args.ground in
    spread-right ground.inputs.factors.now c.requires.ground.form ground.inputs.book.now.sheet c.requires.ground.valid c.args.position.now c.requires.row
    bond c.args.total c.bond_spread.result c.requires.total c.bond_spread.ensures

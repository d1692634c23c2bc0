use Rattle.std.proofs.Common.{◌^◌, sym, ◌∙◌}
use Rattle.std.proofs.lemmas.Bool.{eqb-false, eqb-true}
use Rattle.scr_partial_sums.proofs.Cells.{nothing-bits, nothing-of}
use Rattle.scr_partial_sums.proofs.cell.Cell.is_nothing.Goals as goal

pub returns-clause-yes : goal.returns-clause-yes
returns-clause-yes c = λ yes.
    let bits = c.self.inside.bits in
    sym c.self.view_is ∙ nothing-of bits c.self.inside.ordered (eqb-true bits (2 ^ 89) yes)

pub returns-clause-not : goal.returns-clause-not
returns-clause-not c = λ no is.
    let bits = c.self.inside.bits in
    eqb-false bits (2 ^ 89) no (nothing-bits bits c.self.inside.ordered (c.self.view_is ∙ is))

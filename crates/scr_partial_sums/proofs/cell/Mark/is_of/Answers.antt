use Rattle.std.proofs.Common.{sym, ◌∙◌}
use Rattle.std.proofs.lemmas.Bool.{eqb-false, eqb-true}
use Rattle.scr_partial_sums.specs.Marks.{figure_of}
use Rattle.scr_partial_sums.proofs.Marks.{here-few, here-own, own-bits, same-bits}
use Rattle.scr_partial_sums.proofs.cell.Mark.is_of.Goals as goal

pub returns-clause-yes : goal.returns-clause-yes
returns-clause-yes c = λ yes.
    let bits = c.cell.inside.bits in
    let mark = c.args.self.now in
    sym c.cell.view_is ∙ same-bits bits mark.bits c.cell.inside.ordered mark.ordered (eqb-true bits mark.bits yes) mark.few

pub returns-clause-not : goal.returns-clause-not
returns-clause-not c = λ no is.
    let bits = c.cell.inside.bits in
    let ordered = c.cell.inside.ordered in
    let mark = c.args.self.now in
    let here = c.cell.view_is ∙ is in
    eqb-false bits mark.bits no (own-bits bits mark.bits ordered mark.ordered (here-few bits ordered (figure_of mark) here) mark.few
    (here-own bits ordered (figure_of mark) here))

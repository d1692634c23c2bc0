use Rattle.std.proofs.Common.{get_or, ap, ◌∙◌}
use Rattle.std.proofs.lemmas.Option.{slice_get-get_or}
use Rattle.scr_num.specs.Rounding.{ends}
use Rattle.scr_partial_sums.specs.Tables.{nothing}
use Rattle.scr_tree.proofs.Spanned.{known-ends, known-within}
use Rattle.scr_tree.proofs.together.KnownPlan.known.Goals as goal

pub span-requires : goal.span-requires
span-requires c = known-within c.args.self.now.basis c.args.self.now.figures.now c.args.number c.requires

pub returns : goal.returns
returns c =
    let b = c.args.self.now.basis in
    let figures = c.args.self.now.figures.now in
    let figure = get_or figures c.args.number nothing in
    let got = slice_get-get_or figures c.args.number nothing (known-within b figures c.args.number c.requires) in
    ap ends (c.span.ensures figure got) ∙ known-ends b figures c.args.number figure c.requires got

use Rattle.std.proofs.Common.{◌≡◌, map, pos, sym, ap, ◌∙◌}
use Rattle.scr_num.specs.Rounding.{ends, exact_ends}
use Rattle.scr_nodes.specs.declared.node.Node.TheVariants as nodes
use Rattle.scr_nodes.specs.OwnOf.{own_of}
use Rattle.scr_rules.specs.GroupLosses.{loss_of}
use Rattle.scr_discounts.specs.Kept.{rows_of}
use Rattle.scr_rules.specs.Discounts.{discounts_in}
use Rattle.scr_rules.specs.Rules.{rule}
use Rattle.scr_rules.proofs.GroupSums.{loss-is, loss-there}
use Rattle.scr_rules.proofs.evaluation.figure_with.Goals as goal

pub at-requires : goal.at-requires
at-requires c =
    loss-there c.args.sheet.now c.args.losses.now c.in-Some.place c.in-Group.name c.requires.losses
    c.in-Some.ensures.place

pub returns-in-Some : goal.returns-in-Some
returns-in-Some c =
    let loss : c.at.result ≡ loss_of c.args.sheet.now c.in-Group.name =
    loss-is c.args.sheet.now c.args.losses.now c.in-Some.place c.at.result c.in-Group.name c.requires.losses
    c.in-Some.ensures.place c.at.ensures in
    c.grains.ensures ∙ ap (λ n. exact_ends (pos n)) loss
    ∙ sym (ap (λ node. rule (own_of c.args.factors.now c.args.sheet.now node)
    (discounts_in c.args.sheet.now (rows_of c.args.rates.now.curves) node) (map ends c.args.spans.now)) (c.in-Group.is ∙ ap (nodes.Group c.in-Group.name) c.in-Loss.is))

use Rattle.std.proofs.Common.{◌+◌, ◌∙◌, refl, sym, ap}
use Rattle.scr_figure_ids.specs.Families.{family_of, table_of}
use Rattle.scr_nodes.specs.Live.{is_live}
use Rattle.scr_ids.specs.Ranges.{first}
use Rattle.scr_sheet.specs.declared.sheet.BalanceSheet.{BalanceSheet}
use Rattle.scr_tree.specs.First.{link_ground}
use Rattle.scr_tree.proofs.Grounds.{family-few, for-links, row-few}
use Rattle.scr_tree.proofs.passes.pass_live.Goals as goal

pub number_at-requires-clause-row : goal.number_at-requires-clause-row
number_at-requires-clause-row g c =
    row-few (link_ground c.args.ground) (for-links c.args.ground c.requires.ground) c.args.node.now c.args.row
    (first c.args.ground.places.now (table_of c.args.node.now) c.args.row + family_of c.args.node.now) c.requires.row refl
    (sym (ap (λ (s : BalanceSheet). is_live s c.args.node.now) c.sheet.ensures.sheet) ∙ (sym c.is_live.ensures ∙ c.if-is_live.true))

pub number_at-requires-clause-family : goal.number_at-requires-clause-family
number_at-requires-clause-family g c =
    family-few (link_ground c.args.ground) (for-links c.args.ground c.requires.ground) c.args.node.now c.args.row
    (first c.args.ground.places.now (table_of c.args.node.now) c.args.row + family_of c.args.node.now) c.requires.row refl
    (sym (ap (λ (s : BalanceSheet). is_live s c.args.node.now) c.sheet.ensures.sheet) ∙ (sym c.is_live.ensures ∙ c.if-is_live.true))

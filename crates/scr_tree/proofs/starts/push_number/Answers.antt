use Rattle.std.proofs.Common.{◌≡◌, true, false, inr, refl, sym, ◌∙◌}
use Rattle.scr_figure_ids.specs.Numbers.{StandsAt}
use Rattle.scr_tree.specs.Points.{is_linked}
use Rattle.scr_tree.specs.Starts.{keeps_links}
use Rattle.scr_tree.proofs.StartRows.{links-change, push-some}
use Rattle.scr_tree.proofs.starts.push_number.Goals as goal

pub returns-in_default : goal.returns-in_default
returns-in_default c =
    let linked : is_linked c.args.node.now ≡ true = sym c.is_linked.ensures ∙ c.if-not-is_linked.false in
    let changes : keeps_links c.args.edit.now c.args.node.now ≡ false = sym c.keeps_links.ensures ∙ c.if-keeps_links.false in
    push-some (StandsAt c.args.view.sheet.now c.args.view.places.now) c.args.edit.now c.args.node.now c.args.numbers.now.items
    c.args.numbers.now.items (links-change c.args.edit.now c.args.node.now linked changes) (inr (c.in_default.ensures.absent refl, refl))

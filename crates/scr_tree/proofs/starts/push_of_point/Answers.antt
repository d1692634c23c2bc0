use Rattle.std.proofs.Common.{sym, subst}
use Rattle.std.specs.Prelude.{OnOk}
use Rattle.scr_figure_ids.specs.Numbers.{StandsAt}
use Rattle.scr_tree.specs.Starts.{IsPointPushed}
use Rattle.scr_tree.proofs.starts.push_of_point.Goals as goal

pub returns-in-Figure : goal.returns-in-Figure
returns-in-Figure c =
    let At = StandsAt c.args.view.sheet.now c.args.view.places.now in
    subst (λ point. OnOk c.push_number.result (IsPointPushed At c.args.edit.now point c.args.numbers.now.items c.push_number.new.numbers.items))
    (sym c.in-Figure.is) c.push_number.ensures

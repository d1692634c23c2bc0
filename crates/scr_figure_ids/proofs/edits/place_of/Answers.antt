use Rattle.scr_figure_ids.proofs.RowNames.{placed-is}
use Rattle.scr_figure_ids.proofs.edits.place_of.Goals as goal

pub returns : goal.returns
returns g c =
    placed-is g.R.Row.name_of c.args.name.now c.args.rows.now c.place.result c.len-len.ensures.apart c.place.ensures.there
    c.place.ensures.place

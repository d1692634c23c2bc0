use Rattle.std.proofs.Common.{sym, ap, ◌∙◌}
use Rattle.std.specs.Option.{option_copied}
use Rattle.scr_tables.proofs.PastRows.{missing}
use Rattle.scr_tables.specs.Tables.{row_of}
use Rattle.scr_book.proofs.RollPrepared.{found-place}
use Rattle.scr_book.proofs.recent.recent_row.Goals as goal

pub returns-in_err-place : goal.returns-in_err-place
returns-in_err-place g c = ap option_copied c.from_residual.ensures ∙ sym (missing (row_of g.R.Row.name_of c.args.name.now c.args.rows.now) (sym c.in_err-place.ensures.there))

pub returns : goal.returns
returns g c =
    let f = found-place g.R.Row.name_of c.args.rows.now c.in_ok-place.place c.args.name.now c.len-count.ensures.apart c.in_ok-place.ensures.place in
    sym c.at.ensures ∙ f.1 ∙ sym f.4

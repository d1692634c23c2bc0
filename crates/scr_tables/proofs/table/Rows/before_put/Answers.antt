use Rattle.std.proofs.Common.{Some, sym, ap, ◌∙◌}
use Rattle.scr_tables.proofs.PastRows.{back-new, back-replaced}
use Rattle.scr_tables.proofs.table.Rows.before_put.Goals as goal

pub returns-in_ok-copied-in-Some : goal.returns-in_ok-copied-in-Some
returns-in_ok-copied-in-Some g c =
    back-replaced g.R.Row.name_of c.args.name.now c.in_ok-copied-in-Some.field-0 c.args.self.now (sym c.in-Some.ensures ∙ ap Some (sym c.in_ok-copied-in-Some.ensures))

pub returns-in-None : goal.returns-in-None
returns-in-None g c = back-new g.R.Row.name_of c.args.name.now c.args.self.now (sym c.in-None.ensures)

use Rattle.std.proofs.Common.{is_some, ap, ◌∙◌}
use Rattle.scr_tables.proofs.Entries.{lookup-kept, place-kept}
use Rattle.scr_tables.proofs.table.Rows.place.Goals as goal

pub returns-clause-there : goal.returns-clause-there
returns-clause-there g c = c.get_index_of.ensures.found
    ∙ ap is_some
    (lookup-kept g.R.Row.name_of c.self.inside.map.entries c.args.self.now c.self.view_is c.self.invariant
    c.args.name.now)

pub returns-clause-place : goal.returns-clause-place
returns-clause-place g c = place-kept g.R.Row.name_of c.self.inside.map.entries c.args.self.now c.self.view_is
    c.self.invariant c.args.name.now c.get_index_of.result c.get_index_of.ensures.found c.get_index_of.ensures.value

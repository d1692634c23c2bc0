use Rattle.scr_tables.proofs.Entries.{remove-kept}
use Rattle.scr_tables.proofs.table.Rows.remove.Goals as goal

pub invariant_of-self : goal.invariant_of-self
invariant_of-self g c =
    (remove-kept g.R.Row.name_of c.self.inside.map.entries c.args.self.now c.self.view_is c.self.invariant
    c.args.name.now c.shift_remove.new.self.entries c.shift_remove.ensures.entries).0

pub returns : goal.returns
returns g c =
    (remove-kept g.R.Row.name_of c.self.inside.map.entries c.args.self.now c.self.view_is c.self.invariant
    c.args.name.now c.shift_remove.new.self.entries c.shift_remove.ensures.entries).1

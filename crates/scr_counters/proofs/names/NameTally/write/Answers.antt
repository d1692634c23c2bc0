use Rattle.std.proofs.Common.{sym, ap, ◌∙◌}
use Rattle.scr_tables.specs.Tables.{with_row}
use Rattle.scr_counters.specs.declared.names.Used.{Used}
use Rattle.scr_counters.specs.Users.{Tallied, used_name}
use Rattle.scr_counters.proofs.Uses.{written-users}
use Rattle.scr_counters.proofs.names.NameTally.write.Goals as goal

pub returns-in-Ok : goal.returns-in-Ok
returns-in-Ok c =
    let new : Used = record { name = c.args.name; users = c.args.users } in
    written-users c.args.name c.args.users c.args.self.now _ (ap (λ (t : Tallied). t.is_lost) (sym c.self.view_is)) (c.in-Ok.ensures.ok ∙ ap (λ (t : Tallied). with_row used_name new t.used) c.self.view_is)

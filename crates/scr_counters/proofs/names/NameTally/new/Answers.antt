use Rattle.std.proofs.Common.{List, refl, ap}
use Rattle.std.specs.Option.{option_map_or}
use Rattle.scr_tables.specs.Tables.{row_of}
use Rattle.scr_counters.specs.declared.names.Used.{Used}
use Rattle.scr_counters.specs.Users.{used_name, users_under}
use Rattle.scr_counters.proofs.names.NameTally.new.Goals as goal

pub returns : goal.returns
unfolding users_under
returns c = record { kept = refl; none = λ name. ap (λ (rows : List Used). option_map_or (λ u. u.users) (row_of used_name name rows) 0) c.new.ensures }

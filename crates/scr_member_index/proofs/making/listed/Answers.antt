use Rattle.std.proofs.Common.{subst}
use Rattle.std.specs.List.{position_or_len}
use Rattle.scr_tables.specs.Names.{same_name}
use Rattle.scr_ids.specs.Ranges.{first}
use Rattle.scr_ids.specs.declared.table.Table.{Table as Ranged}
use Rattle.scr_sum_slots.specs.Filling.{AreFirsts}
use Rattle.scr_member_index.proofs.making.listed.Goals as goal

pub returns-clause-firsts : goal.returns-clause-firsts
returns-clause-firsts g c = λ names seated once.
    subst (λ (table : Ranged). AreFirsts (λ name. first c.args.places.now table (position_or_len (same_name name) names)) c.args.seating.now.rolls c.in_ok-firsts.firsts)
    c.ranges_of.ensures (c.in_ok-firsts.ensures names seated once)

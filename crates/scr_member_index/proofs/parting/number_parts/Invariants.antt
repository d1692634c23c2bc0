-- So many rows came.
use Rattle.std.proofs.Common.{◌≡◌, ◌+◌}
use Rattle.scr_ids.specs.Ranges.{count}
use Rattle.scr_ids.specs.declared.table.Table.TheVariants as ranged
use Rattle.scr_member_index.specs.Parting.{HasMoreParts}
use Rattle.scr_member_index.proofs.parting.number_parts.Given as goal

abbrev pub invariant-loop : goal.invariant-loop
invariant-loop l = record {
  more : HasMoreParts l.fn.places l.places;
  count : count l.places ranged.Part ≡ count l.fn.places ranged.Part + l.counter;
}

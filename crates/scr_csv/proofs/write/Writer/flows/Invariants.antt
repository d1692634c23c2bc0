-- What is appended, and what is still to come, is all that is due.
use Rattle.std.proofs.Common.{◌≡◌, ◌++◌, drop}
use Rattle.std.specs.Prelude.{flat_map}
use Rattle.scr_csv.specs.RecordTexts.{next_field, flow_fields}
use Rattle.scr_csv.proofs.write.Writer.flows.Given as goal

abbrev pub invariant-loop-day : goal.invariant-loop-day
invariant-loop-day l = l.self.text.items ++ flat_map next_field (flow_fields (drop l.day-index l.flows))
    ≡ l.fn.self.text.items ++ flat_map next_field (flow_fields l.flows)

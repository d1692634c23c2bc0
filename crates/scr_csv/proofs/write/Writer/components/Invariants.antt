-- What is appended, and what is still to come, is all that is due.
use Rattle.std.proofs.Common.{◌≡◌, ◌++◌, drop}
use Rattle.std.specs.Prelude.{flat_map}
use Rattle.scr_csv.specs.RecordTexts.{next_field, component_fields}
use Rattle.scr_csv.proofs.write.Writer.components.Given as goal

abbrev pub invariant-loop-name : goal.invariant-loop-name
invariant-loop-name l = l.self.text.items ++ flat_map next_field (component_fields (drop l.name-index l.components))
    ≡ l.fn.self.text.items ++ flat_map next_field (component_fields l.components)

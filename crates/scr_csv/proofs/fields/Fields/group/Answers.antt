-- The group is that of the next field.
use Rattle.std.proofs.Common.{Some, rules}
use Rattle.scr_fields.specs.FieldForms.{group_of}
use Rattle.scr_csv.specs.Sources.{fields_in}
use Rattle.scr_csv.proofs.Fronts.{next_first}
use Rattle.scr_csv.proofs.fields.Fields.group.Goals as goal

pub returns-in-Some-clause-value : goal.returns-in-Some-clause-value
returns-in-Some-clause-value c =
    let told = next_first group_of (record { number = c.self.inside.number; fields = fields_in c.self.inside.source })
    (Some c.in-Some.name) (fields_in c.in-Some.rest) c.in-Some.ensures.group in
    rw (← c.self.view_is) (search (rules, told))

-- The day is that of the next field.
use Rattle.std.proofs.Common.{sym}
use Rattle.scr_dates.specs.Text.{day_of_text}
use Rattle.scr_csv.specs.Sources.{fields_in}
use Rattle.scr_csv.proofs.Fronts.{next_first}
use Rattle.scr_csv.proofs.fields.Fields.date.Goals as goal

pub returns-in-Some-clause-value : goal.returns-in-Some-clause-value
returns-in-Some-clause-value c =
    rw (← c.self.view_is)
    (sym (next_first day_of_text (record { number = c.self.inside.number; fields = fields_in c.self.inside.source })
    c.in-Some.day (fields_in c.in-Some.rest) c.in-Some.ensures.value))

-- The text of a field that is to be written (this project's own).
use Rattle.std.specs.Prelude.{ℕ, List}
use Rattle.scr_csv.specs.declared.write.Field.{Field}
use Rattle.scr_csv.specs.declared.write.Field.TheVariants as fields
use Rattle.scr_fields.specs.KeyWords.{absorb_text}
use Rattle.scr_fields.specs.Texts.{number_text, day_text}

abbrev pub field_text : Field → List ℕ
field_text (fields.Word word) = word.now
field_text (fields.Name name) = name
field_text (fields.Number z) = number_text z
field_text (fields.Day day) = day_text day
field_text (fields.Key key) = absorb_text key

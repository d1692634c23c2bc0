-- What is appended, and what is still to come, is all that is due.
use Rattle.std.proofs.Common.{◌≡◌, ◌++◌, drop, map}
use Rattle.std.specs.Prelude.{flat_map}
use Rattle.scr_csv.specs.FieldTexts.{field_text}
use Rattle.scr_csv.specs.RecordTexts.{next_field}
use Rattle.scr_csv.specs.Verbs.{verb_word}
use Rattle.scr_csv.proofs.write.Writer.line.Given as goal

abbrev pub invariant-loop-field : goal.invariant-loop-field
invariant-loop-field l = l.self.text.items ++ flat_map next_field (map field_text (drop l.field-index l.fields))
    ≡ (l.fn.self.text.items ++ verb_word l.fn.verb) ++ flat_map next_field (map field_text l.fields)

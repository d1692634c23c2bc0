-- What is appended, and what is still to come, is all that is due.
use Rattle.std.proofs.Common.{◌≡◌, ◌++◌, drop, map}
use Rattle.std.specs.Prelude.{flat_map}
use Rattle.scr_csv.specs.RecordTexts.{next_field}
use Rattle.scr_fields.specs.Texts.{number_text}
use Rattle.scr_csv.proofs.write.Writer.numbers.Given as goal

abbrev pub invariant-loop-number : goal.invariant-loop-number
invariant-loop-number l = l.self.text.items ++ flat_map next_field (map number_text (drop l.number-index l.numbers))
    ≡ l.fn.self.text.items ++ flat_map next_field (map number_text l.numbers)

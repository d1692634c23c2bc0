-- The record of a line, or its first fault.
use Rattle.std.proofs.Common.{◌≡◌, true, refl, sym, ap, ◌∙◌, rules, arith}
use Rattle.std.specs.List.{list_all}
use Rattle.scr_csv.specs.LineFields.{is_printed}
use Rattle.scr_csv.specs.Parts.{parts}
use Rattle.scr_csv.proofs.LineSplit.{few_fields, plain_printed, plain_unquoted, other_filled}
use Rattle.scr_csv.proofs.Keeping.{line_kept}
use Rattle.scr_csv.proofs.read.read_line.Goals as goal

pub of_text-requires-clause-printed : goal.of_text-requires-clause-printed
of_text-requires-clause-printed c = plain_printed c.args.text.now (sym c.is_plain.ensures ∙ c.if-is_plain.true)

pub of_text-requires-clause-unquoted : goal.of_text-requires-clause-unquoted
of_text-requires-clause-unquoted c = plain_unquoted c.args.text.now (sym c.is_plain.ensures ∙ c.if-is_plain.true)

pub returns-then-is_plain-clause-answer : goal.returns-then-is_plain-clause-answer
returns-then-is_plain-clause-answer c =
    let printed = plain_printed c.args.text.now (sym c.is_plain.ensures ∙ c.if-is_plain.true) in
    line_kept c.args.text.now _ _ printed refl (rw c.of_text.ensures at c.read_record.ensures.answer)

pub unquoted-requires-clause-filled : goal.unquoted-requires-clause-filled
unquoted-requires-clause-filled c = other_filled c.args.text.now (sym c.is_plain.ensures ∙ c.if-is_plain.false)

pub of_copy-requires : goal.of_copy-requires
of_copy-requires c = rw (c.deref.ensures.value, c.in_ok-copy.ensures.fields)
    (omega (arith, few_fields c.args.text.now, c.requires))

pub returns-clause-answer : goal.returns-clause-answer
returns-clause-answer c =
    let printed : list_all is_printed c.args.text.now ≡ true = search rules in
    line_kept c.args.text.now _ _ printed (ap (parts 10) c.deref.ensures.value ∙ c.in_ok-copy.ensures.fields)
    (rw c.of_copy.ensures at c.read_record-2.ensures.answer)

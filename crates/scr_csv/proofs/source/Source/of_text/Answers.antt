-- The fields of a line.
use Rattle.std.proofs.Common.{sym, ◌∙◌}
use Rattle.scr_csv.proofs.LineSplit.{line_fields-empty, line_fields-not_empty}
use Rattle.scr_csv.proofs.source.Source.of_text.Goals as goal

pub returns-then-is_empty : goal.returns-then-is_empty
returns-then-is_empty c = sym (line_fields-empty c.args.text.now (sym c.is_empty.ensures ∙ c.if-is_empty.true))

pub returns : goal.returns
returns c = sym (line_fields-not_empty c.args.text.now
    (sym c.is_empty.ensures ∙ c.if-is_empty.false) c.requires.printed c.requires.unquoted)

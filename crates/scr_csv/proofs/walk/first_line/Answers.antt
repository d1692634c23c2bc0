-- The first line of a text, and what follows it.
use Rattle.std.proofs.Common.{◌∷◌, ◌+◌, ◌∙◌, ap, sym, drop}
use Rattle.std.specs.Str.Lines.{lines}
use Rattle.scr_fields.proofs.FormLemmas.{all_left}
use Rattle.scr_csv.proofs.TextLines.{lines_at, lines_none}
use Rattle.scr_csv.proofs.walk.first_line.Goals as goal

pub returns-in-None-clause-lines : goal.returns-in-None-clause-lines
returns-in-None-clause-lines c = lines_none c.args.bytes.now c.requires (sym c.newline_at.ensures.place ∙ c.in-None.is)

pub returns-in-Some-clause-lines : goal.returns-in-Some-clause-lines
returns-in-Some-clause-lines c =
    lines_at c.args.bytes.now c.in-Some.end (sym c.newline_at.ensures.place ∙ c.in-Some.is)
    ∙ ap (λ line. line ∷ lines (drop (c.in-Some.end + 1) c.args.bytes.now)) (sym c.without_return.ensures.value)
    ∙ ap (λ rest. c.without_return.result.now ∷ lines rest) (sym (all_left (c.in-Some.end + 1) c.args.bytes.now))

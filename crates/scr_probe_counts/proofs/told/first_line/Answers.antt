use Rattle.std.proofs.Common.{ap, sym, ◌∙◌}
use Rattle.scr_probe_counts.specs.FirstLine.{up_to}
use Rattle.scr_probe_counts.proofs.told.first_line.Goals as goal

pub returns-in-Some : goal.returns-in-Some
returns-in-Some c = ap (λ o. up_to o c.args.bytes.now) (sym c.in-Some.is ∙ c.newline_at.ensures.place)

pub returns-in-None : goal.returns-in-None
returns-in-None c = ap (λ o. up_to o c.args.bytes.now) (sym c.in-None.is ∙ c.newline_at.ensures.place)

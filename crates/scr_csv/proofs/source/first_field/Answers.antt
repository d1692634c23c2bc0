-- The first field of a text, and what follows it.
use Rattle.std.proofs.Common.{◌∷◌, ◌+◌, ◌∙◌, ap, sym, take}
use Rattle.scr_csv.specs.Parts.{parts}
use Rattle.scr_csv.proofs.Cuts.{cut_at, cut_nowhere}
use Rattle.scr_fields.proofs.FormLemmas.{all_left}
use Rattle.scr_csv.proofs.source.first_field.Goals as goal

pub returns-in-None : goal.returns-in-None
returns-in-None c = cut_nowhere _ c.args.text.now (sym c.first_end.ensures.place ∙ c.in-None.is)

pub returns-in-Some : goal.returns-in-Some
returns-in-Some c =
    cut_at _ c.args.text.now c.in-Some.at (sym c.first_end.ensures.place ∙ c.in-Some.is)
    ∙ ap (λ rest. take c.in-Some.at c.args.text.now ∷ parts c.args.end rest)
    (sym (all_left (c.in-Some.at + 1) c.args.text.now))

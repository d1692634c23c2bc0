-- What follows the first field.
use Rattle.std.proofs.Common.{◌≡◌, ◌∷◌, ◌+◌, ◌<◌, ◌==◌, ◌∙◌, true, length, take, get_or, ap, sym, arith}
use Rattle.scr_fields.proofs.FormLemmas.{all_left}
use Rattle.scr_csv.specs.Parts.{parts}
use Rattle.scr_csv.proofs.Fronts.{first_all, first_before}
use Rattle.scr_csv.proofs.source.behind_first.Goals as goal

pub returns-then-count-text : goal.returns-then-count-text
returns-then-count-text c = first_all c.args.end c.args.text.now c.args.count c.if-count-text.true c.requires.inside

pub returns-then-text-count : goal.returns-then-text-count
returns-then-text-count c =
    let within : c.args.count < length c.args.text.now = grind (arith, c.requires.within, c.if-count-text.false) in
    let ends : (get_or c.args.text.now c.args.count 0 == c.args.end) ≡ true = grind (arith, c.if-text-count.true) in
    first_before c.args.end c.args.text.now c.args.count within c.requires.inside ends
    ∙ ap (λ rest. take c.args.count c.args.text.now ∷ parts c.args.end rest)
    (sym (all_left (c.args.count + 1) c.args.text.now))

use Rattle.std.proofs.Common.{◌∙◌, rules, true, ◌≡◌}
use Rattle.scr_args.specs.Numbers.{is_number}
use Rattle.scr_args.proofs.Steps.{number_read}
use Rattle.scr_args.proofs.numbers.read_number.Goals as goal

pub returns : goal.returns
returns c =
    let is : is_number c.args.most c.args.text.now ≡ true = search rules in
    record { value = c.ok.ensures.value ∙ number_read c.args.most c.args.text.now c.parse.result c.requires.few is c.parse.ensures.value.0 }

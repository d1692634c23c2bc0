use Rattle.std.proofs.Common.{◌≡◌, rules, true}
use Rattle.scr_args.specs.Options.{is_option}
use Rattle.scr_args.proofs.Steps.{begins_is}
use Rattle.scr_args.proofs.options.Reader.can_begin.Goals as goal

pub returns-then-is_option : goal.returns-then-is_option
returns-then-is_option c =
    let known : is_option c.args.name.now ≡ true = search rules in
    begins_is _ _ _ _ c.as_slice.ensures.value known c.is_given.ensures

use Rattle.std.proofs.Common.{◌∙◌, ap, sym, option_map}
use Rattle.scr_args.specs.Texts.{options_of}
use Rattle.scr_args.proofs.Steps.{written_none, written_some}
use Rattle.scr_args.proofs.words.is_written.Goals as goal

pub returns-in-Some : goal.returns-in-Some
returns-in-Some c =
    c.is_some.ensures ∙ written_some c.args.words.now c.in-Some.options _ _ c.as_slice.ensures.value
    (sym (ap (option_map options_of) c.in-Some.is) ∙ c.in_ok-options.ensures) c.said_by.ensures

pub returns-in-None : goal.returns-in-None
returns-in-None c =
    written_none c.args.words.now (sym (ap (option_map options_of) c.in-None.is) ∙ c.in_ok-options.ensures)

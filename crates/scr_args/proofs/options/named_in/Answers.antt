use Rattle.std.proofs.Common.{◌∙◌, ap, arith, None, Some, option_map}
use Rattle.std.proofs.lemmas.Str.Pattern.{split_once_first, strip_prefix_char}
use Rattle.scr_args.specs.Texts.{named_of}
use Rattle.scr_args.proofs.Steps.{cut_none, cut_some, dash_none, dash_some, no_dash, one_dash, two_dashes}
use Rattle.scr_args.proofs.options.named_in.Goals as goal

pub returns-in_err-strip_prefix : goal.returns-in_err-strip_prefix
returns-in_err-strip_prefix c = ap (option_map named_of) c.from_residual.ensures ∙ no_dash c.args.word.now (dash_none c.args.word.now
    (strip_prefix_char 45 c.args.word.now None c.in_err-strip_prefix.ensures.cases (omega arith)))

pub returns-in_err-text : goal.returns-in_err-text
returns-in_err-text c = ap (option_map named_of) c.from_residual-in_err-text.ensures ∙ one_dash c.args.word.now c.in_ok-strip_prefix.field-0.now
    (dash_some c.args.word.now _ (strip_prefix_char 45 c.args.word.now (Some c.in_ok-strip_prefix.field-0) c.in_ok-strip_prefix.ensures.cases (omega arith)))
    (dash_none _ (strip_prefix_char 45 _ None c.in_err-text.ensures.cases (omega arith)))

pub returns-in-Some : goal.returns-in-Some
returns-in-Some c =
    let word = c.args.word.now in
    let rest = c.in_ok-strip_prefix.field-0.now in
    let text = c.in_ok-text.text.now in
    let first = strip_prefix_char 45 word (Some c.in_ok-strip_prefix.field-0) c.in_ok-strip_prefix.ensures.cases (omega arith) in
    let second = strip_prefix_char 45 rest (Some c.in_ok-text.text) c.in_ok-text.ensures.cases (omega arith) in
    let split = split_once_first 61 text (Some (c.in-Some.name, c.in-Some.value)) c.in-Some.ensures.cases (omega arith) in
    cut_some word text (two_dashes word rest text (dash_some word rest first) (dash_some rest text second))
    c.in-Some.name.now c.in-Some.value.now split.0 split.1 split.2

pub returns-in-None : goal.returns-in-None
returns-in-None c =
    let word = c.args.word.now in
    let rest = c.in_ok-strip_prefix.field-0.now in
    let text = c.in_ok-text.text.now in
    let first = strip_prefix_char 45 word (Some c.in_ok-strip_prefix.field-0) c.in_ok-strip_prefix.ensures.cases (omega arith) in
    let second = strip_prefix_char 45 rest (Some c.in_ok-text.text) c.in_ok-text.ensures.cases (omega arith) in
    cut_none word text (two_dashes word rest text (dash_some word rest first) (dash_some rest text second))
    (split_once_first 61 text None c.in-None.ensures.cases (omega arith))

use Rattle.std.proofs.Common.{rules, ◌∙◌, sym}
use Rattle.std.proofs.lemmas.Option.{none-some}
use Rattle.clap.specs.Matches.{found_of}
use Rattle.scr_explain.proofs.Asking.{absent, is_given, no_account, not_given, same_presence, too_long}
use Rattle.scr_explain.proofs.question.asked_by.Goals as goal

pub returns-then-is_some-clause-asked : goal.returns-then-is_some-clause-asked
returns-then-is_some-clause-asked c = same_presence _ _ c.get_str.ensures ∙ sym c.is_some.ensures ∙ c.if-is_some.true

pub returns-then-record-gt-MAX_RECORD-clause-none : goal.returns-then-record-gt-MAX_RECORD-clause-none
returns-then-record-gt-MAX_RECORD-clause-none c =
    let undrawn = absent _ (same_presence _ _ c.get_str.ensures ∙ sym c.is_some.ensures ∙ c.if-is_some.false) in
    λ none. too_long (found_of c.args.matches.now) undrawn _ (is_given _ _ c.get_str-2.ensures _ c.in-Some.is) c.if-record-gt-MAX_RECORD.true

pub returns-in-Some-clause-asked : goal.returns-in-Some-clause-asked
returns-in-Some-clause-asked c =
    let undrawn = absent _ (same_presence _ _ c.get_str.ensures ∙ sym c.is_some.ensures ∙ c.if-is_some.false) in
    (undrawn, is_given _ _ c.get_str-2.ensures _ c.in-Some.is)

pub returns-in_err-extent-clause-none : goal.returns-in_err-extent-clause-none
returns-in_err-extent-clause-none c =
    let undrawn = absent _ (same_presence _ _ c.get_str.ensures ∙ sym c.is_some.ensures ∙ c.if-is_some.false) in
    λ none. no_account (found_of c.args.matches.now) undrawn (not_given _ _ c.get_str-2.ensures c.in_default.is)
    (λ cell extent known named is. c.in_err-extent.ensures.none (search rules) extent is)

pub returns-in_err-get_str-clause-none : goal.returns-in_err-get_str-clause-none
returns-in_err-get_str-clause-none c =
    let undrawn = absent _ (same_presence _ _ c.get_str.ensures ∙ sym c.is_some.ensures ∙ c.if-is_some.false) in
    λ none. no_account (found_of c.args.matches.now) undrawn (not_given _ _ c.get_str-2.ensures c.in_default.is)
    (λ cell extent known named is. none-some named.name
    (sym (not_given _ _ c.get_str-3.ensures (search rules)) ∙ named.given))

pub returns-in_err-cell_named-clause-none : goal.returns-in_err-cell_named-clause-none
returns-in_err-cell_named-clause-none c =
    let undrawn = absent _ (same_presence _ _ c.get_str.ensures ∙ sym c.is_some.ensures ∙ c.if-is_some.false) in
    λ none. no_account (found_of c.args.matches.now) undrawn (not_given _ _ c.get_str-2.ensures c.in_default.is)
    (λ cell extent known named is. c.in_err-cell_named.ensures.none (search rules) cell known
    (named.shown ∙ sym named.given ∙ is_given _ _ c.get_str-3.ensures _ c.in_ok-get_str.was))

pub returns-clause-asked : goal.returns-clause-asked
returns-clause-asked c =
    let undrawn = absent _ (same_presence _ _ c.get_str.ensures ∙ sym c.is_some.ensures ∙ c.if-is_some.false) in (
      undrawn,
      not_given _ _ c.get_str-2.ensures c.in_default.is,
      record {
        name = c.in_ok-get_str.field-0.now;
        given = is_given _ _ c.get_str-3.ensures _ c.in_ok-get_str.was;
        shown = c.in_ok-cell_named.ensures.named;
      },
      c.in_ok-extent.ensures.given,
    )

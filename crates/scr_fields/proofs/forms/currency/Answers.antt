-- A currency is a name.
use Rattle.std.proofs.Common.{◌≡◌, true, sym, ◌∙◌}
use Rattle.scr_tables.specs.Names.{is_currency}
use Rattle.scr_fields.specs.FieldForms.{currency_of}
use Rattle.scr_fields.proofs.FormLemmas.{is_name-from_currency}
use Rattle.scr_fields.proofs.forms.currency.Goals as goal

pub returns-then-is_currency-clause-value : goal.returns-then-is_currency-clause-value
unfolding currency_of
returns-then-is_currency-clause-value c =
    let text = c.args.text.now in
    let code : is_currency text ≡ true = sym c.is_currency.ensures ∙ c.if-is_currency.true in
    rw (c.parse.ensures.cases, is_name-from_currency text code, code)

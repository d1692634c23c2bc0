-- What a currency rises or falls to.
use Rattle.std.proofs.Common.{◌≡◌, ℕ, List, Some, take, drop, true, codes, refl, ap, sym, ◌∙◌}
use Rattle.scr_fields.specs.FieldForms.{currency_key_of, currency_of, turn_of}
use Rattle.scr_fields.specs.Words.{is_text}
use Rattle.scr_fields.proofs.FormLemmas.{all_left}
use Rattle.scr_fields.proofs.forms.currency_key.Goals as goal

key_at : (field rest currency : List ℕ) → is_text (take 9 field) (codes "currency.") ≡ true → rest ≡ drop 9 field
    → currency_of (take 3 rest) ≡ Some currency
    → currency_key_of field ≡ turn_of currency (drop 3 rest)
unfolding currency_key_of
key_at field rest currency front e code = rw (front, ← e, code) refl

pub returns-clause-value : goal.returns-clause-value
returns-clause-value c =
    let rest = c.in_ok-rest.rest.now in
    c.turn.ensures.value
    ∙ ap (turn_of c.in_ok-currency.currency) (all_left 3 rest)
    ∙ sym (key_at c.args.text.now rest c.in_ok-currency.currency c.in_ok-rest.ensures.cases.0
    c.in_ok-rest.ensures.cases.1 (sym c.in_ok-currency.ensures.value))

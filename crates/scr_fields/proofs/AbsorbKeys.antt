-- Each absorption key is read back from its text.
use Rattle.std.proofs.Common.{◌≡◌, ℕ, ◌==◌, IsTrue, List, [], ◌∷◌, length, Some, None, codes, refl, ap, ◌∙◌, arith, rules}
use Rattle.std.specs.Prelude.{option_and_then}
use Rattle.std.specs.List.{list_all}
use Rattle.std.specs.Char.{is_ascii_uppercase}
use Rattle.std.proofs.lemmas.Bool.{eqb-true, and_parts}
use Rattle.scr_tables.specs.Names.{is_currency}
use Rattle.scr_sheet.specs.Forms.{IsAbsorbKey}
use Rattle.scr_sheet.specs.declared.keys.AbsorbKey.{AbsorbKey}
use Rattle.scr_sheet.specs.declared.keys.AbsorbKey.TheVariants as absorb
use Rattle.scr_fields.specs.FieldForms.{currency_of, turn_of, currency_key_of, absorb_key_of}
use Rattle.scr_fields.specs.KeyWords.{currency_text, absorb_text}
use Rattle.scr_fields.specs.Words.{value_of, scenario_word, all_scenarios}

pub currency_found : (code : List ℕ) → IsTrue (is_currency code) → currency_of code ≡ Some code
unfolding currency_of
currency_found code h = rw h refl

-- a currency's text stands for what the currency does
currency_read : (a b c : ℕ) (turn : List ℕ) → currency_of (a ∷ b ∷ c ∷ []) ≡ Some (a ∷ b ∷ c ∷ [])
    → currency_key_of (currency_text (a ∷ b ∷ c ∷ []) turn) ≡ turn_of (a ∷ b ∷ c ∷ []) turn
unfolding currency_key_of currency_text
currency_read a b c turn h = ap (λ o. option_and_then (λ currency. turn_of currency turn) o) h

-- and is no word of the list
currency_alone : (a b c : ℕ) (turn : List ℕ) → value_of scenario_word all_scenarios (currency_text (a ∷ b ∷ c ∷ []) turn) ≡ None
unfolding value_of currency_text
currency_alone a b c turn = refl

three : (code : List ℕ) → IsTrue (is_currency code) → length code ≡ 3
three code h = eqb-true _ _ (and_parts (length code == 3) (list_all is_ascii_uppercase code) h).0

read_turn : (code turn : List ℕ) (key : AbsorbKey) → IsTrue (is_currency code) → turn_of code turn ≡ Some key
    → absorb_key_of (currency_text code turn) ≡ Some key
unfolding absorb_key_of
read_turn [] turn key h is = absurd (omega (arith, three [] h))
read_turn (a ∷ []) turn key h is = absurd (omega (arith, three (a ∷ []) h))
read_turn (a ∷ b ∷ []) turn key h is = absurd (omega (arith, three (a ∷ b ∷ []) h))
read_turn (a ∷ b ∷ c ∷ []) turn key h is =
    rw (currency_alone a b c turn) (currency_read a b c turn (currency_found (a ∷ b ∷ c ∷ []) h) ∙ is)
read_turn (a ∷ b ∷ c ∷ d ∷ more) turn key h is = absurd (omega (arith, three (a ∷ b ∷ c ∷ d ∷ more) h))

read_up : (code : List ℕ) → IsTrue (is_currency code)
    → absorb_key_of (currency_text code (codes ".up")) ≡ Some (absorb.CurrencyUp code)
read_up code h = read_turn code (codes ".up") (absorb.CurrencyUp code) h refl

read_down : (code : List ℕ) → IsTrue (is_currency code)
    → absorb_key_of (currency_text code (codes ".down")) ≡ Some (absorb.CurrencyDown code)
read_down code h = read_turn code (codes ".down") (absorb.CurrencyDown code) h refl

pub key_read : (key : AbsorbKey) → IsAbsorbKey key → absorb_key_of (absorb_text key) ≡ Some key
unfolding absorb_key_of value_of
key_read = search (rules, read_up, read_down)

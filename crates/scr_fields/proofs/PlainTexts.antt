-- Digits, names and the texts of absorption keys have neither commas nor double quotes.
use Rattle.std.proofs.Common.{◌≡◌, ℕ, ◌==◌, ◌&&◌, Bool, true, false, not, IsTrue, List, [], ◌∷◌, ◌++◌, codes, refl, ◌∙◌, arith, rules}
use Rattle.std.specs.Prelude.{nat_le}
use Rattle.std.specs.List.{list_all}
use Rattle.std.specs.Char.{is_ascii_alphanumeric, is_ascii_digit}
use Rattle.std.proofs.lemmas.Bool.{and_parts, and_from}
use Rattle.std.proofs.lemmas.List.Folds.{list_all-append}
use Rattle.scr_tables.specs.Names.{is_name, is_name_byte, is_currency}
use Rattle.scr_sheet.specs.Forms.{IsAbsorbKey}
use Rattle.scr_fields.specs.KeyWords.{absorb_text, currency_text}
use Rattle.scr_fields.proofs.FormLemmas.{list_all-weaker, is_name-from_currency}
use Rattle.scr_sheet.specs.declared.keys.AbsorbKey.{AbsorbKey}

-- a byte from a blank to `~` that is no comma and no double quote
abbrev pub is_plain : ℕ → Bool
is_plain b = (nat_le 0x20 b && nat_le b 0x7E) && (not (b == 44) && not (b == 34))

abbrev pub Plain : List ℕ → Type 0
Plain text = list_all is_plain text ≡ true

plain_of : (b : ℕ) → nat_le 0x20 b ≡ true → nat_le b 0x7E ≡ true → (b == 44) ≡ false → (b == 34) ≡ false
    → is_plain b ≡ true
plain_of b low high comma quote = rw (low, high, comma, quote) refl

pub digit_plain : (b : ℕ) → is_ascii_digit b ≡ true → is_plain b ≡ true
digit_plain b h = plain_of b (grind (arith, h)) (grind (arith, h)) (grind (arith, h)) (grind (arith, h))

alphanumeric_plain : (b : ℕ) → is_ascii_alphanumeric b ≡ true → is_plain b ≡ true
alphanumeric_plain b h = plain_of b (grind (arith, h)) (grind (arith, h)) (grind (arith, h)) (grind (arith, h))

name_byte_plain : (b : ℕ) → is_name_byte b ≡ true → is_plain b ≡ true
name_byte_plain b h = plain_of b (grind (arith, h)) (grind (arith, h)) (grind (arith, h)) (grind (arith, h))

pub plain-append : (xs ys : List ℕ) → Plain xs → Plain ys → Plain (xs ++ ys)
plain-append xs ys h k = list_all-append is_plain xs ys ∙ and_from _ _ h k

pub name_plain : (name : List ℕ) → IsTrue (is_name name) → Plain name
name_plain [] h = refl
name_plain (b ∷ bs) h =
    let parts = and_parts (is_ascii_alphanumeric b && list_all is_name_byte bs) _ h in
    let bytes = and_parts (is_ascii_alphanumeric b) (list_all is_name_byte bs) parts.0 in
    and_from (is_plain b) (list_all is_plain bs) (alphanumeric_plain b bytes.0)
    (list_all-weaker is_name_byte is_plain name_byte_plain bs bytes.1)

pub currency_plain : (code : List ℕ) → IsTrue (is_currency code) → Plain code
currency_plain code h = name_plain code (is_name-from_currency code h)

currency_text_plain : (currency turn : List ℕ) → IsTrue (is_currency currency) → Plain turn
    → Plain (currency_text currency turn)
unfolding currency_text
currency_text_plain currency turn h k =
    plain-append (codes "currency." ++ currency) turn
    (plain-append (codes "currency.") currency refl (currency_plain currency h)) k

pub absorb_key_plain : (key : AbsorbKey) → IsAbsorbKey key → Plain (absorb_text key)
absorb_key_plain = search (rules, currency_text_plain)

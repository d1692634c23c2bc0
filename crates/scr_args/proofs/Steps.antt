-- Steps of the reader: one word, all words, and numbers.
use Rattle.std.proofs.Common.{◌≡◌, ◌∙◌, ◌<◌, ◌≤◌, ◌+◌, ◌^◌, ◌&&◌, ◌||◌, ◌==◌, not, ℕ, suc, Bool, cond, true, false, refl, sym, ap, ap₂, subst, arith, List, [], ◌∷◌, drop, get_or, map, length, Option, Some, None, Result, option_map, nat_le, take, take_all, eqb-true, leb-true, rules, is_some, drop_of_length-le, drop-cons, string_bytes, String}
use Rattle.std.specs.Prelude.{option_and_then, find}
use Rattle.std.specs.Char.{is_ascii_digit}
use Rattle.std.specs.List.{after_first, before_first, list_all, list_any, position_or_len}
use Rattle.std.specs.Result.{result_ok}
use Rattle.std.specs.Str.{bytes_eq}
use Rattle.std.specs.Str.Parse.{ParsesUnsigned, digits_value}
use Rattle.std.proofs.lemmas.Str.Parse.{IsNumeralModel, digits_value_short, numerals_by_value, parse_gives}
use Rattle.std.specs.declared.alloc.Global.{Global}
use Rattle.std.specs.Global.{Vec}
use Rattle.clap.proofs.WalkLemmas.{both, find-map, list_any-map}
use Rattle.scr_args.specs.Forms.{said, said_by}
use Rattle.scr_args.specs.Numbers.{is_number, number_in}
use Rattle.scr_args.specs.Options.{Given, after_word, behind_dash, can_begin, cut, is_given, is_option, named_in, options_in, read_from, value_of, whole}
use Rattle.scr_args.specs.Texts.{Follows, form_of, given_of, options_of, read_of}
use Rattle.scr_args.specs.declared.forms.Form.{Form}
use Rattle.scr_args.specs.declared.options.GivenOption.{GivenOption}
use Rattle.scr_args.specs.declared.options.Reader.{Reader}

-- ---- the value of an option

pub value_is : (options : List GivenOption) (name : List ℕ)
    → option_map (λ (o : GivenOption). o.value.now) (find (λ (o : GivenOption). bytes_eq o.name.now name) options)
    ≡ value_of (map given_of options) name
value_is options name =
    go (find (λ (o : GivenOption). bytes_eq o.name.now name) options)
    ∙ ap (option_map (λ (o : List ℕ × List ℕ). o.1)) (find-map (λ (o : List ℕ × List ℕ). bytes_eq o.0 name) given_of options)
  where
    go : (o : Option GivenOption)
        → option_map (λ (o : GivenOption). o.value.now) o ≡ option_map (λ (o : List ℕ × List ℕ). o.1) (option_map given_of o)
    go None = refl
    go (Some o) = refl

-- whether an option can begin
pub begins_is : (options items : List GivenOption) (name : List ℕ) (given : Bool) → items ≡ options → is_option name ≡ true
    → given ≡ list_any (λ (o : GivenOption). bytes_eq o.name.now name) items
    → not given ≡ can_begin name (map given_of options)
begins_is options items name given same known is =
    ap not (is ∙ ap (list_any (λ (o : GivenOption). bytes_eq o.name.now name)) same
    ∙ list_any-map (λ (o : Given). bytes_eq o.0 name) given_of options)
    ∙ ap (λ b. b && not (is_given name (map given_of options))) (sym known)

-- ---- all words

module _ (words : List (String Global)) (i : ℕ) (word : String Global) (bytes : List ℕ) (inside : i < length words)
    (at : word ≡ get_or words i word) (is_bytes : bytes ≡ string_bytes word) where
  left_is : map string_bytes (drop i words) ≡ bytes ∷ map string_bytes (drop (i + 1) words)
  left_is =
      let one : suc i ≡ i + 1 = omega arith in
      ap (map string_bytes) (drop-cons words i word inside)
      ∙ ap₂ (λ b k. b ∷ map string_bytes (drop k words)) (sym (is_bytes ∙ ap string_bytes at)) one

  module _ (before now : Reader) (all : Option (List Given))
      (told : read_from (read_of before) (map string_bytes (drop i words)) ≡ all) where
    next_told : option_and_then (λ next. read_from next (map string_bytes (drop (i + 1) words)))
        (after_word (read_of before) bytes) ≡ all
    unfolding read_from
    next_told = sym (ap (read_from (read_of before)) left_is) ∙ told

    pub word_refused : (placed : Bool) → placed ≡ false → Follows (after_word (read_of before) bytes) now placed → None ≡ all
    word_refused placed is h =
        let none : after_word (read_of before) bytes ≡ None = subst (Follows (after_word (read_of before) bytes) now) is h in
        sym (ap (option_and_then (λ next. read_from next (map string_bytes (drop (i + 1) words)))) none) ∙ next_told

    pub word_read : (placed : Bool) → placed ≡ true → Follows (after_word (read_of before) bytes) now placed
        → read_from (read_of now) (map string_bytes (drop (i + 1) words)) ≡ all
    word_read placed is h =
        let some : after_word (read_of before) bytes ≡ Some (read_of now) = subst (Follows (after_word (read_of before) bytes) now) is h in
        sym (ap (option_and_then (λ next. read_from next (map string_bytes (drop (i + 1) words)))) some) ∙ next_told

pub all_read : (words : List (String Global)) (i : ℕ) (reader : Reader) (all : Option (List Given)) → length words ≤ i
    → read_from (read_of reader) (map string_bytes (drop i words)) ≡ all → whole (read_of reader) ≡ all
unfolding read_from
all_read words i reader all past told =
    sym (ap (λ (ws : List (String Global)). read_from (read_of reader) (map string_bytes ws)) (drop_of_length-le words past)) ∙ told

some_form : (found : Option Form) → is_some found ≡ is_some (option_map form_of found)
some_form None = refl
some_form (Some form) = refl

pub written_some : (words : List (String Global)) (options : Vec GivenOption) (slice : List GivenOption) (found : Option Form)
    → slice ≡ options.items → Some (options_of options) ≡ options_in (map string_bytes words)
    → option_map form_of found ≡ said_by (value_of (map given_of slice)) → is_some found ≡ is_some (said words)
unfolding said
written_some words options slice found same e is =
    some_form found ∙ ap is_some (is ∙ ap (λ (s : List GivenOption). said_by (value_of (map given_of s))) same)
    ∙ ap (λ o. is_some (option_and_then (λ os. said_by (value_of os)) o)) e

pub written_none : (words : List (String Global)) → None ≡ options_in (map string_bytes words) → false ≡ is_some (said words)
unfolding said
written_none words e = ap (λ o. is_some (option_and_then (λ os. said_by (value_of os)) o)) e

-- ---- one word

-- a first `-` taken off
pub dash_none : (word : List ℕ) → ((rest : List ℕ) → word ≡ 45 ∷ rest → ⊥) → behind_dash word ≡ None
dash_none [] other = refl
dash_none (b ∷ bytes) other = go (b == 45) refl
  where
    go : (c : Bool) → (b == 45) ≡ c → cond c (Some bytes) None ≡ None
    go true e = absurd (other bytes (ap (λ x. x ∷ bytes) (eqb-true b 45 e)))
    go false e = refl

pub dash_some : (word rest : List ℕ) → word ≡ 45 ∷ rest → behind_dash word ≡ Some rest
dash_some word rest e = ap behind_dash e

pub any_within : (p : ℕ → Bool) (xs : List ℕ) → position_or_len p xs < length xs → list_any p xs ≡ true
any_within p [] lt = absurd (omega (arith, lt))
any_within p (x ∷ xs) lt = go (p x) lt (any_within p xs)
  where
    go : (b : Bool) → cond (not b) (1 + position_or_len p xs) 0 < suc (length xs)
        → (position_or_len p xs < length xs → list_any p xs ≡ true) → (b || list_any p xs) ≡ true
    go true k later = refl
    go false k later = later (omega (arith, k))

pub any_past : (p : ℕ → Bool) (xs : List ℕ) → position_or_len p xs ≡ length xs → list_any p xs ≡ false
any_past p [] e = refl
any_past p (x ∷ xs) e = go (p x) e (any_past p xs)
  where
    go : (b : Bool) → cond (not b) (1 + position_or_len p xs) 0 ≡ suc (length xs)
        → (position_or_len p xs ≡ length xs → list_any p xs ≡ false) → (b || list_any p xs) ≡ false
    go true k later = absurd (omega (arith, k))
    go false k later = later (omega (arith, k))

before_all : (p : ℕ → Bool) (xs : List ℕ) → position_or_len p xs ≡ length xs → before_first p xs ≡ xs
before_all p xs e = ap (λ n. take n xs) e ∙ take_all (length xs) xs (omega arith)

module _ (word text : List ℕ) (stripped : option_and_then behind_dash (behind_dash word) ≡ Some text) where
  -- the text has a `=`
  pub cut_some : (name value : List ℕ) → position_or_len (λ b. b == 61) text < length text
      → name ≡ before_first (λ b. b == 61) text → value ≡ after_first (λ b. b == 61) text
      → Some (name, Some value) ≡ named_in word
  cut_some name value inside is_name is_value =
      ap₂ (λ n v. Some (n, Some v)) is_name is_value
      ∙ ap (λ b. Some (before_first (λ b. b == 61) text, cond b (Some (after_first (λ b. b == 61) text)) None)) (sym (any_within _ text inside))
      ∙ ap (option_map cut) (sym stripped)

  -- it has none
  pub cut_none : position_or_len (λ b. b == 61) text ≡ length text → Some (text, None) ≡ named_in word
  cut_none past =
      ap (λ t. Some (t, None)) (sym (before_all _ text past))
      ∙ ap (λ b. Some (before_first (λ b. b == 61) text, cond b (Some (after_first (λ b. b == 61) text)) None)) (sym (any_past _ text past))
      ∙ ap (option_map cut) (sym stripped)

pub no_dash : (word : List ℕ) → behind_dash word ≡ None → None ≡ named_in word
no_dash word e = ap (λ o. option_map cut (option_and_then behind_dash o)) (sym e)

pub one_dash : (word rest : List ℕ) → behind_dash word ≡ Some rest → behind_dash rest ≡ None → None ≡ named_in word
one_dash word rest e none = ap (option_map cut) (sym (ap (option_and_then behind_dash) e ∙ none))

pub two_dashes : (word rest text : List ℕ) → behind_dash word ≡ Some rest → behind_dash rest ≡ Some text
    → option_and_then behind_dash (behind_dash word) ≡ Some text
two_dashes word rest text e again = ap (option_and_then behind_dash) e ∙ again

-- ---- numbers

digits : IsNumeralModel (λ ds. list_all is_ascii_digit ds ≡ true) (digits_value 10)
digits = numerals_by_value _ (search rules)

pub number_read : {E : Type 0} (most : ℕ) (text : List ℕ) (r : Result ℕ E) → most ≤ 19 → is_number most text ≡ true
    → ParsesUnsigned 64 10 text r → result_ok r ≡ number_in most text
number_read most text r few is parses =
    let parts = both _ _ is in
    let lengths = both (nat_le 1 (length text)) _ parts.0 in
    let short : digits_value 10 text < 10 ^ 19 = digits_value_short digits text 19 parts.1 (omega (arith, few, leb-true _ _ lengths.1)) in
    ap result_ok (parse_gives digits 64 text r parses parts.1 (omega (arith, leb-true _ _ lengths.0)) (omega (arith, short)))
    ∙ ap (λ b. cond b (Some (digits_value 10 text)) None) (sym is)

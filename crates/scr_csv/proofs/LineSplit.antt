-- How a line is split into fields: csv's way is a cut at the commas where there is no double quote.
use Rattle.std.proofs.Common.{◌≡◌, ℕ, ◌+◌, ◌≤◌, ◌<◌, ◌==◌, Bool, true, false, cond, List, [], ◌∷◌, ◌++◌, length, Option, Some, None, refl, ap, ◌∙◌, append_assoc, arith, length-append, inl, inr}
use Rattle.std.specs.Prelude.{nat_le, not}
use Rattle.std.specs.List.{list_all, list_any, onto_first}
use Rattle.std.proofs.lemmas.Bool.{cases_Bool, and_parts, or_parts}
use Rattle.std.proofs.lemmas.List.{append-nil}
use Rattle.csv.specs.Machine.{Read, next_record, step, is_end, ends_at_end, fields_after, field_after}
use Rattle.csv.specs.Reading.{default_config}
use Rattle.csv.specs.declared.parser.State.{State}
use Rattle.csv.specs.declared.parser.State.TheVariants as state
use Rattle.csv.specs.declared.parser.Action.{Action}
use Rattle.csv.specs.declared.parser.Action.TheVariants as action
use Rattle.scr_fields.proofs.FormLemmas.{list_all-weaker}
use Rattle.scr_csv.specs.LineFields.{fields_read, line_fields, is_printed, is_quote, is_plain}
use Rattle.scr_csv.specs.Parts.{pieces}
use Rattle.scr_csv.specs.Splits.{joined}

printed_other : (b n : ℕ) → is_printed b ≡ true → nat_le 0x20 n ≡ false → (b == n) ≡ false
printed_other b n h small = grind (arith, h, small)

-- ---- a cut at the commas

pub joined-onto : (field : List ℕ) (c : ℕ) (cut : List (List ℕ))
    → joined (field ++ (c ∷ [])) cut ≡ joined field (onto_first c cut)
joined-onto field c [] = refl
joined-onto field c (piece ∷ more) = ap (λ (p : List ℕ). p ∷ more) (append_assoc field (c ∷ []) piece)

joined-one : (c : ℕ) (cut : List (List ℕ)) → joined (c ∷ []) cut ≡ onto_first c cut
joined-one c [] = refl
joined-one c (piece ∷ more) = refl

pub printed_at : (c : ℕ) (rest : List ℕ) → list_all is_printed (c ∷ rest) ≡ true
    → ((c == 13) ≡ false) × ((c == 10) ≡ false) × (list_all is_printed rest ≡ true)
printed_at c rest h =
    let parts = and_parts (is_printed c) (list_all is_printed rest) h in
    (printed_other c 13 parts.0 refl, printed_other c 10 parts.0 refl, parts.1)

mutual
  unfolding next_record

  in_field : (fields : List (List ℕ)) (field text : List ℕ) → list_all is_printed text ≡ true
      → list_any is_quote text ≡ false
      → next_record default_config state.InField fields field text ≡ Some
      (fields ++ joined field (pieces text), state.StartRecord, [])
  in_field fields field [] printed unquoted = rw (append-nil field) refl
  in_field fields field (c ∷ rest) printed unquoted =
      let p = printed_at c rest printed in
      let q = or_parts (c == 34) (list_any is_quote rest) unquoted in
      elim (cases_Bool (c == 44)) [
        | inl comma ↦ rw (comma, append-nil field)
            (at_start (fields ++ (field ∷ [])) rest p.2 q.1
            ∙ ap (λ (f : List (List ℕ)). Some (f, state.StartRecord, []))
            (append_assoc fields (field ∷ []) (pieces rest)))
        | inr other ↦ rw (other, p.0, p.1)
            (in_field fields (field ++ (c ∷ [])) rest p.2 q.1
            ∙ ap (λ (f : List (List ℕ)). Some (fields ++ f, state.StartRecord, [])) (joined-onto field c (pieces rest)))
      ]

  at_start : (fields : List (List ℕ)) (text : List ℕ) → list_all is_printed text ≡ true → list_any is_quote text ≡ false
      → next_record default_config state.StartField fields [] text ≡ Some (fields ++ pieces text, state.StartRecord, [])
  at_start fields [] printed unquoted = refl
  at_start fields (c ∷ rest) printed unquoted =
      let p = printed_at c rest printed in
      let q = or_parts (c == 34) (list_any is_quote rest) unquoted in
      elim (cases_Bool (c == 44)) [
        | inl comma ↦ rw (q.0, comma)
            (at_start (fields ++ ([] ∷ [])) rest p.2 q.1
            ∙ ap (λ (f : List (List ℕ)). Some (f, state.StartRecord, [])) (append_assoc fields ([] ∷ []) (pieces rest)))
        | inr other ↦ rw (q.0, other, p.0, p.1)
            (in_field fields (c ∷ []) rest p.2 q.1
            ∙ ap (λ (f : List (List ℕ)). Some (fields ++ f, state.StartRecord, [])) (joined-one c (pieces rest)))
      ]

-- A line that is not empty and has no double quote is cut at its commas.
line_fields-cut : (c : ℕ) (rest : List ℕ) → list_all is_printed (c ∷ rest) ≡ true → list_any is_quote (c ∷ rest) ≡ false
    → line_fields (c ∷ rest) ≡ pieces (c ∷ rest)
unfolding line_fields next_record
line_fields-cut c rest printed unquoted =
    let p = printed_at c rest printed in
    let q = or_parts (c == 34) (list_any is_quote rest) unquoted in
    elim (cases_Bool (c == 44)) [
      | inl comma ↦ rw (p.0, p.1, q.0, comma) (ap fields_read (at_start ([] ∷ []) rest p.2 q.1))
      | inr other ↦ rw (p.0, p.1, q.0, other)
          (ap fields_read (in_field [] (c ∷ []) rest p.2 q.1) ∙ joined-one c (pieces rest))
    ]

-- An empty line has no field.
pub line_fields-empty : (text : List ℕ) → (length text == 0) ≡ true → line_fields text ≡ []
unfolding line_fields next_record
line_fields-empty [] h = refl
line_fields-empty (c ∷ rest) h = absurd (grind (arith, h))

pub line_fields-not_empty : (text : List ℕ) → (length text == 0) ≡ false → list_all is_printed text ≡ true
    → list_any is_quote text ≡ false → line_fields text ≡ pieces text
line_fields-not_empty [] h = absurd (cc)
line_fields-not_empty (c ∷ rest) h = line_fields-cut c rest

-- ---- how many fields a line has

ended : (a : Action) (fields : List (List ℕ)) (field : List ℕ)
    → length (fields_after a fields field) ≤ length fields + 1
ended action.Skip fields field = omega arith
ended action.Copy fields field = omega arith
ended action.EndField fields field = omega (arith, length-append fields (field ∷ []))
ended action.EndRecord fields field = omega (arith, length-append fields (field ∷ []))

few_end : (b : Bool) (fields : List (List ℕ)) (field : List ℕ)
    → length (fields_read (cond b (Some (fields ++ (field ∷ []), state.StartRecord, [])) None)) ≤ length fields + 1
few_end true fields field = omega (arith, length-append fields (field ∷ []))
few_end false fields field = omega arith

few_step : (b : Bool) (a : Action) (fields : List (List ℕ)) (field : List ℕ) (s : State) (rest : List ℕ)
    (more : Option Read)
    → length (fields_read more) ≤ (length (fields_after a fields field) + length rest) + 1
    → length (fields_read (cond b (Some (fields_after a fields field, s, rest)) more))
    ≤ (length fields + (length rest + 1)) + 1
few_step true a fields field s rest more h = omega (arith, ended a fields field)
few_step false a fields field s rest more h = omega (arith, ended a fields field, h)

few_read : (s : State) (fields : List (List ℕ)) (field text : List ℕ)
    → length (fields_read (next_record default_config s fields field text)) ≤ (length fields + length text) + 1
unfolding next_record
few_read s fields field [] = omega (arith, few_end (ends_at_end s) fields field)
few_read s fields field (c ∷ rest) =
    let act = (step default_config s c).1 in
    let h = few_step (is_end act) act fields field (step default_config s c).0 rest
    (next_record default_config (step default_config s c).0 (fields_after act fields field)
    (field_after act c field) rest)
    (few_read (step default_config s c).0 (fields_after act fields field) (field_after act c field) rest) in
    omega (arith, h)

pub few_fields : (text : List ℕ) → length (line_fields text) ≤ length text + 1
unfolding line_fields
few_fields text = omega (arith, few_read state.StartRecord [] [] text)

-- ---- plain lines

plain_parts : (b : ℕ) → is_plain b ≡ true → (is_printed b ≡ true) × (is_quote b ≡ false)
plain_parts b h =
    let parts = and_parts (is_printed b) (not (is_quote b)) h in
    (parts.0, grind (arith, parts.1))

pub plain_printed : (text : List ℕ) → list_all is_plain text ≡ true → list_all is_printed text ≡ true
plain_printed text plain = list_all-weaker is_plain is_printed (λ b h. (plain_parts b h).0) text plain

pub plain_unquoted : (text : List ℕ) → list_all is_plain text ≡ true → list_any is_quote text ≡ false
plain_unquoted [] plain = refl
plain_unquoted (b ∷ text) plain =
    let parts = and_parts (is_plain b) (list_all is_plain text) plain in
    rw (plain_parts b parts.0).1 (plain_unquoted text parts.1)

-- another is not empty
pub other_filled : (text : List ℕ) → list_all is_plain text ≡ false → 0 < length text
other_filled [] h = absurd (cc)
other_filled (c ∷ rest) h = omega arith

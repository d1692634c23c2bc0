-- The text of records that have their form is read as those records.
use Rattle.std.proofs.Common.{◌≡◌, ℕ, zero, suc, ◌+◌, ◌-◌, ◌<◌, ◌==◌, ◌&&◌, ◌++◌, Bool, true, false, cond}
use Rattle.std.proofs.Common.{List, [], ◌∷◌, length, get_or, map, codes, refl, ap, ◌∙◌, arith, rules, Result, Ok, Err}
use Rattle.std.specs.Prelude.{nat_le, filter}
use Rattle.std.specs.List.{AllByRecursion, list_all, enumerate_from, slice_split}
use Rattle.std.specs.Str.Lines.{lines, lines_of_parts, strip_carriage_return}
use Rattle.std.proofs.lemmas.List.Splits.{slice_split_at}
use Rattle.std.proofs.lemmas.Bool.{and_parts}
use mathlib.Core.List.{append_assoc}
use Rattle.scr_sheet.specs.declared.edit.Edit.{Edit}
use Rattle.scr_sheet.specs.Forms.{Formed}
use Rattle.scr_csv.specs.LineFields.{is_printed}
use Rattle.scr_csv.specs.Lines.{records, without_mark, is_record}
use Rattle.scr_csv.specs.Records.{edit_of_line}
use Rattle.scr_csv.specs.RecordTexts.{edit_text, edit_verb, record_text}
use Rattle.scr_csv.specs.Verbs.{verb_word}
use Rattle.scr_csv.specs.declared.fault.LineFault.{LineFault}
use Rattle.scr_csv.specs.declared.verb.Verb.{Verb}
use Rattle.scr_csv.proofs.Cuts.{pieces_left}
use Rattle.scr_csv.proofs.Written.{record_read}
use Rattle.scr_made.specs.ReadBack.{edits_read}
use Rattle.scr_made.specs.Records.{record_line, records_text}

-- ---- the bytes of a line

answered : (b : Bool) (read : Result Edit LineFault) (fault : LineFault) (edit : Edit)
    → cond b read (Err fault) ≡ Ok edit → b ≡ true
answered true read fault edit h = refl
answered false read fault edit h = absurd (cc)

printed : (edit : Edit) → Formed edit → list_all is_printed (edit_text edit) ≡ true
printed edit h = answered (list_all is_printed (edit_text edit)) _ _ edit (record_read edit h)

-- the first byte is a small letter
abbrev starts_small : List ℕ → Bool
starts_small [] = false
starts_small (b ∷ bytes) = nat_le 97 b && nat_le b 122

start-append : (xs ys : List ℕ) → starts_small xs ≡ true → starts_small (xs ++ ys) ≡ true
start-append [] ys h = absurd (cc)
start-append (x ∷ xs) ys h = h

verb_start : (verb : Verb) → starts_small (verb_word verb) ≡ true
verb_start = search rules

edit_start : (edit : Edit) → starts_small (edit_text edit) ≡ true
unfolding edit_text record_text
edit_start edit = start-append (verb_word (edit_verb edit)) _ (verb_start (edit_verb edit))

small_apart : (b : ℕ) → (nat_le 97 b && nat_le b 122) ≡ true → (b == 35) ≡ false
small_apart b h = grind (arith, h)

small_no_mark : (b : ℕ) → (nat_le 97 b && nat_le b 122) ≡ true → (b == 0xEF) ≡ false
small_no_mark b h = grind (arith, h)

record_start : (text : List ℕ) → starts_small text ≡ true → is_record text ≡ true
record_start [] h = absurd (cc)
record_start (b ∷ bytes) h = rw (small_apart b h) refl

no_mark : (text : List ℕ) → starts_small text ≡ true → without_mark text ≡ text
no_mark [] h = refl
no_mark (a ∷ []) h = refl
no_mark (a ∷ b ∷ []) h = refl
no_mark (a ∷ b ∷ c ∷ bytes) h = rw (small_no_mark a h) refl

-- ---- lines

newline_apart : (b : ℕ) → is_printed b ≡ true → (b == 10) ≡ false
newline_apart b h = grind (arith, h)

return_apart : (b : ℕ) → is_printed b ≡ true → (b == 13) ≡ false
return_apart b h = grind (arith, h)

apart_at : (byte : ℕ) → ((b : ℕ) → is_printed b ≡ true → (b == byte) ≡ false) → (text : List ℕ)
    → list_all is_printed text ≡ true → (k d : ℕ) → k < length text → (get_or text k d == byte) ≡ false
apart_at byte apart [] all k d h = absurd (omega (arith, h))
apart_at byte apart (b ∷ bytes) all zero d h =
    apart b (and_parts (is_printed b) (list_all is_printed bytes) all).0
apart_at byte apart (b ∷ bytes) all (suc k) d h =
    apart_at byte apart bytes (and_parts (is_printed b) (list_all is_printed bytes) all).1 k d (omega (arith, h))

filled : (text : List ℕ) → starts_small text ≡ true → 0 < length text
filled [] h = absurd (cc)
filled (b ∷ bytes) h = omega arith

no_return : (text : List ℕ) → list_all is_printed text ≡ true → starts_small text ≡ true
    → strip_carriage_return text ≡ text
no_return text all start =
    let some = filled text start in
    rw (apart_at 13 return_apart text all (length text - 1) 0 (omega (arith, some))) refl

part_before : (part : List ℕ) (parts : List (List ℕ)) → 0 < length parts
    → lines_of_parts (part ∷ parts) ≡ strip_carriage_return part ∷ lines_of_parts parts
part_before part [] more = absurd (omega (arith, more))
part_before part (next ∷ parts) more = refl

abbrev newline : ℕ → Bool
newline b = b == 10

line_first : (text rest : List ℕ) → list_all is_printed text ≡ true → starts_small text ≡ true
    → lines (text ++ (10 ∷ rest)) ≡ text ∷ lines rest
line_first text rest all start =
    ap lines_of_parts (slice_split_at newline text 10 rest (apart_at 10 newline_apart text all) refl)
    ∙ part_before text (slice_split newline rest) (pieces_left newline rest)
    ∙ ap (λ line. line ∷ lines rest) (no_return text all start)

lines_written : (edits : List Edit) → AllByRecursion Formed edits → lines (records_text edits) ≡ map edit_text edits
unfolding records_text record_line
lines_written [] h = refl
lines_written (edit ∷ edits) h =
    ap lines (append_assoc (edit_text edit) (codes "\n") (records_text edits))
    ∙ line_first (edit_text edit) (records_text edits) (printed edit h.0) (edit_start edit)
    ∙ ap (λ more. edit_text edit ∷ more) (lines_written edits h.1)

-- ---- records

none_skipped : (number : ℕ) (edits : List Edit)
    → filter (λ line. is_record line.1) (enumerate_from number (map edit_text edits))
    ≡ enumerate_from number (map edit_text edits)
none_skipped number [] = refl
none_skipped number (edit ∷ edits) =
    rw (record_start (edit_text edit) (edit_start edit), none_skipped (number + 1) edits) refl

text_unmarked : (edits : List Edit) → without_mark (records_text edits) ≡ records_text edits
unfolding records_text record_line
text_unmarked [] = refl
text_unmarked (edit ∷ edits) =
    no_mark _ (start-append (edit_text edit ++ codes "\n") _ (start-append (edit_text edit) _ (edit_start edit)))

pub records_written : (edits : List Edit) → AllByRecursion Formed edits
    → records (records_text edits) ≡ enumerate_from 1 (map edit_text edits)
records_written edits h =
    rw (text_unmarked edits, lines_written edits h) (none_skipped 1 edits)

each_read : (number : ℕ) (edits : List Edit) → AllByRecursion Formed edits
    → map (λ line. edit_of_line line.1) (enumerate_from number (map edit_text edits)) ≡ map Ok edits
each_read number [] h = refl
each_read number (edit ∷ edits) h = rw (record_read edit h.0, each_read (number + 1) edits h.1) refl

pub edits_read_back : (edits : List Edit) → AllByRecursion Formed edits
    → edits_read (records_text edits) ≡ map Ok edits
edits_read_back edits h = rw (records_written edits h) (each_read 1 edits h)

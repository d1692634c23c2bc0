-- A field of each form is read back from its text.
use Rattle.std.proofs.Common.{◌≡◌, ℕ, pos, ◌<◌, ◌≤◌, ◌^◌, ◌&&◌, true, false, List, [], ◌∷◌, Option, Some, None, refl, codes, arith}
use Rattle.std.specs.Prelude.{nat_le, nat_eq}
use Rattle.std.specs.Char.{is_ascii_alphanumeric}
use Rattle.std.specs.List.{list_all}
use Rattle.std.proofs.lemmas.Bool.{and_parts}
use Rattle.scr_tables.specs.Names.{is_name_byte}
use Rattle.scr_profile.specs.Segments.{segments}
use Rattle.scr_profile.specs.declared.set.Set.{Set}
use Rattle.scr_profile.specs.declared.set.Set.TheVariants as sets
use Rattle.scr_sheet.specs.Forms.{IsName, IsNameOrNone, IsStepOrNone}
use Rattle.scr_fields.specs.FieldForms.{name_of, group_of, step_of, small_number, segment_of, region_of}
use Rattle.scr_fields.specs.Texts.{number_text, or_dash, step_text}
use Rattle.scr_fields.specs.Words.{is_text}
use Rattle.scr_fields.proofs.PlainTexts.{Plain, name_plain}
use Rattle.scr_fields.proofs.WrittenNumbers.{number_read, number_plain, number_no_dash}

pub name_read : (name : List ℕ) → IsName name → name_of name ≡ Some name
unfolding name_of
name_read name h = rw h refl

dash_first : (b : ℕ) → is_ascii_alphanumeric b ≡ true → nat_eq 45 b ≡ false
dash_first b h = grind (arith, h)

name_no_dash : (name : List ℕ) → IsName name → is_text (codes "-") name ≡ false
name_no_dash [] h = absurd (cc)
name_no_dash (b ∷ bs) h =
    let parts = and_parts (is_ascii_alphanumeric b && list_all is_name_byte bs) _ h in
    rw (dash_first b (and_parts (is_ascii_alphanumeric b) (list_all is_name_byte bs) parts.0).0) refl

pub group_read : (group : Option (List ℕ)) → IsNameOrNone group → group_of (or_dash group) ≡ Some group
unfolding group_of
group_read None h = refl
group_read (Some name) h = rw (name_no_dash name h, name_read name h) refl

pub group_plain : (group : Option (List ℕ)) → IsNameOrNone group → Plain (or_dash group)
group_plain None h = refl
group_plain (Some name) h = name_plain name h

small_read : (low high n : ℕ) → low ≤ n → n ≤ high → n < 10 ^ 18 → small_number low high (number_text (pos n)) ≡ Some n
unfolding small_number
small_read low high n least most fits =
    let a : nat_le low n ≡ true = grind (arith, least) in
    let b : nat_le n high ≡ true = grind (arith, most) in
    rw (number_read (pos n) fits, a, b) refl

pub step_read : (step : Option ℕ) → IsStepOrNone step → step_of (step_text step) ≡ Some step
unfolding step_of
step_read None h = refl
step_read (Some n) h = rw
    (number_no_dash n (omega (arith, h)), small_read 0 6 n (omega arith) h (omega (arith, h))) refl

pub step_plain : (step : Option ℕ) → IsStepOrNone step → Plain (step_text step)
step_plain None h = refl
step_plain (Some n) h = number_plain (pos n) (omega (arith, h))

few_segments : (set : Set) → segments set ≤ 12
few_segments sets.Nl = omega arith
few_segments sets.Nslt = omega arith

pub segment_fits : (set : Set) (n : ℕ) → n ≤ segments set → n < 10 ^ 18
segment_fits set n h = omega (arith, h, few_segments set)

pub segment_read : (set : Set) (n : ℕ) → 1 ≤ n → n ≤ segments set → segment_of set (number_text (pos n)) ≡ Some n
unfolding segment_of
segment_read set n least most = small_read 1 (segments set) n least most (segment_fits set n most)

pub region_read : (n : ℕ) → 1 ≤ n → n ≤ 18 → region_of (number_text (pos n)) ≡ Some n
unfolding region_of
region_read n least most = small_read 1 18 n least most (omega (arith, most))

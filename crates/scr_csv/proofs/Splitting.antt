-- The split of a line, byte by byte, goes as csv does.
use Rattle.std.proofs.Common.{◌≡◌, ℕ, ◌++◌, ◌<◌, ◌==◌, true, false, List, [], ◌∷◌, length, Option, Some, refl, sym, subst, ap, ◌∙◌, append_assoc, arith}
use Rattle.std.specs.Prelude.{if◌then◌else◌}
use Rattle.std.specs.List.{list_all}
use Rattle.std.proofs.lemmas.Bool.{and_from}
use Rattle.std.proofs.lemmas.List.{append-nil}
use Rattle.csv.specs.Machine.{Read, next_record, step, is_end, fields_after, field_after}
use Rattle.csv.specs.Reading.{default_config}
use Rattle.csv.specs.declared.parser.State.{State}
use Rattle.csv.specs.declared.parser.Action as of_csv
use Rattle.scr_csv.specs.declared.{split.Place.Place, split.Action.Action}
use Rattle.scr_csv.specs.declared.split.Place.TheVariants as places
use Rattle.scr_csv.specs.declared.split.Action.TheVariants as actions
use Rattle.scr_csv.specs.LineFields.{fields_read, line_fields, is_printed}
use Rattle.scr_csv.specs.Parts.{parts}
use Rattle.scr_csv.specs.Splits.{state_of, action_of, reads, joined, Copied}
use Rattle.scr_csv.proofs.Cuts.{pieces_left}
use Rattle.scr_csv.proofs.LineSplit.{printed_at, joined-onto}

-- csv's next step, whatever it is
abbrev onward : (p : State × of_csv.Action) → List (List ℕ) → List ℕ → ℕ → List ℕ → Option Read
onward p fields field byte rest =
    if is_end p.1 then Some (fields_after p.1 fields field, p.0, rest)
    else next_record default_config p.0 (fields_after p.1 fields field) (field_after p.1 byte field) rest

onward-action : (new : Place) (action : Action) (p : State × of_csv.Action) (fields : List (List ℕ)) (field : List ℕ)
    (byte : ℕ) (rest : List ℕ)
    → (state_of new, action_of action) ≡ p
    → onward p fields field byte rest ≡ reads new (fields_after (action_of action) fields field)
    (field_after (action_of action) byte field) rest
unfolding reads next_record
onward-action new actions.Skip p fields field byte rest e = subst
    (λ q. onward q fields field byte rest ≡ reads new fields field rest) e refl
onward-action new actions.Copy p fields field byte rest e =
    subst (λ q. onward q fields field byte rest ≡ reads new fields (field ++ (byte ∷ [])) rest) e refl
onward-action new actions.End p fields field byte rest e =
    subst (λ q. onward q fields field byte rest ≡ reads new (fields ++ (field ∷ [])) [] rest) e refl

-- a byte after which the split stands so reads on from there
pub reads-step : (old new : Place) (action : Action) (fields : List (List ℕ)) (field : List ℕ) (byte : ℕ)
    (rest : List ℕ)
    → (state_of new, action_of action) ≡ step default_config (state_of old) byte
    → reads new (fields_after (action_of action) fields field) (field_after (action_of action) byte field) rest
    ≡ reads old fields field (byte ∷ rest)
unfolding reads next_record
reads-step old new action fields field byte rest e = sym
    (onward-action new action (step default_config (state_of old) byte) fields field byte rest e)

-- at the line's end the field at hand is the last
pub reads-end : (place : Place) (fields : List (List ℕ)) (field : List ℕ)
    → fields_read (reads place fields field []) ≡ fields ++ (field ∷ [])
unfolding reads next_record
reads-end places.Start fields field = refl
reads-end place fields field = refl

-- a line that is not empty begins with a field
pub reads-start : (c : ℕ) (rest : List ℕ) → list_all is_printed (c ∷ rest) ≡ true
    → line_fields (c ∷ rest) ≡ fields_read (reads places.Start [] [] (c ∷ rest))
unfolding line_fields reads next_record
reads-start c rest printed = let p = printed_at c rest printed in rw (p.0, p.1) refl

-- where nothing is left of a line, the fields so far with the one at hand are its fields
pub reads-whole : (text : List ℕ) (place : Place) (fields : List (List ℕ)) (field rest : List ℕ) → rest ≡ []
    → list_all is_printed text ≡ true → 0 < length text
    → reads place fields field rest ≡ reads places.Start [] [] text → fields ++ (field ∷ []) ≡ line_fields text
reads-whole [] place fields field rest none printed filled kept = absurd (omega (arith, filled))
reads-whole (c ∷ more) place fields field rest none printed filled kept =
    sym (reads-end place fields field) ∙ ap fields_read (rw none at kept) ∙ sym (reads-start c more printed)

-- ---- the copy

joined_none : (pieces : List (List ℕ)) → 0 < length pieces → joined [] pieces ≡ pieces
joined_none [] some = absurd (omega (arith, some))
joined_none (piece ∷ more) some = refl

at_hand : (end : ℕ) (more : List ℕ) → joined [] (parts end more) ≡ parts end more
at_hand end more = joined_none (parts end more) (pieces_left (λ b. b == end) more)

-- the copy after a byte
abbrev pub copied : Action → ℕ → List ℕ → List ℕ
copied actions.Skip byte copy = copy
copied actions.Copy byte copy = copy ++ (byte ∷ [])
copied actions.End byte copy = copy ++ (10 ∷ [])

pub copied-start : (line : List ℕ) → Copied places.Start [] line line
copied-start line = record {
  fields = [];
  field = [];
  cut = λ more. sym (at_hand 10 more);
  on_the_way = refl;
}

cut-copy : (copy : List ℕ) (fields : List (List ℕ)) (field : List ℕ) (byte : ℕ) → (byte == 10) ≡ false
    → ((more : List ℕ) → parts 10 (copy ++ more) ≡ fields ++ joined field (parts 10 more))
    → (more : List ℕ) → parts 10 ((copy ++ (byte ∷ [])) ++ more) ≡ fields ++ joined (field ++ (byte ∷ [])) (parts 10 more)
cut-copy copy fields field byte other cut more =
    ap (parts 10) (append_assoc copy (byte ∷ []) more) ∙ cut (byte ∷ more)
    ∙ rw other (ap (λ (f : List (List ℕ)). fields ++ f) (sym (joined-onto field byte (parts 10 more))))

cut-end : (copy : List ℕ) (fields : List (List ℕ)) (field : List ℕ)
    → ((more : List ℕ) → parts 10 (copy ++ more) ≡ fields ++ joined field (parts 10 more))
    → (more : List ℕ) → parts 10 ((copy ++ (10 ∷ [])) ++ more) ≡ (fields ++ (field ∷ [])) ++ joined [] (parts 10 more)
cut-end copy fields field cut more =
    ap (parts 10) (append_assoc copy (10 ∷ []) more) ∙ cut (10 ∷ more)
    ∙ ap (λ (f : List ℕ). fields ++ (f ∷ parts 10 more)) (append-nil field)
    ∙ sym (append_assoc fields (field ∷ []) (parts 10 more))
    ∙ ap (λ (f : List (List ℕ)). (fields ++ (field ∷ [])) ++ f) (sym (at_hand 10 more))

-- a byte that csv's step takes goes into the copy
pub copied-step : (old new : Place) (action : Action) (copy : List ℕ) (byte : ℕ) (rest line : List ℕ)
    → is_printed byte ≡ true
    → (state_of new, action_of action) ≡ step default_config (state_of old) byte
    → Copied old copy (byte ∷ rest) line → Copied new (copied action byte copy) rest line
copied-step old new actions.Skip copy byte rest line printed e before = record {
  fields = before.fields;
  field = before.field;
  cut = before.cut;
  on_the_way = reads-step old new actions.Skip before.fields before.field byte rest e ∙ before.on_the_way;
}
copied-step old new actions.Copy copy byte rest line printed e before = record {
  fields = before.fields;
  field = before.field ++ (byte ∷ []);
  cut = cut-copy copy before.fields before.field byte (printed_at byte [] (and_from _ _ printed refl)).1 before.cut;
  on_the_way = reads-step old new actions.Copy before.fields before.field byte rest e ∙ before.on_the_way;
}
copied-step old new actions.End copy byte rest line printed e before = record {
  fields = before.fields ++ (before.field ∷ []);
  field = [];
  cut = cut-end copy before.fields before.field before.cut;
  on_the_way = reads-step old new actions.End before.fields before.field byte rest e ∙ before.on_the_way;
}

-- at the line's end the parts of the copy are its fields
pub copied-whole : (place : Place) (copy rest line : List ℕ) → rest ≡ [] → list_all is_printed line ≡ true
    → 0 < length line → Copied place copy rest line → parts 10 copy ≡ line_fields line
copied-whole place copy rest line none printed filled c =
    ap (parts 10) (sym (append-nil copy)) ∙ c.cut [] ∙ ap (λ (f : List ℕ). c.fields ++ (f ∷ [])) (append-nil c.field)
    ∙ reads-whole line place c.fields c.field rest none printed filled c.on_the_way

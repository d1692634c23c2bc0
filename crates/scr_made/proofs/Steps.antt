-- What draws add, one after another.
use Rattle.std.proofs.Common.{◌≡◌, ℕ, ◌+◌, ◌++◌, List, [], ◌∷◌, sym, ap, ◌∙◌, refl, add-one, false}
use mathlib.Core.List.{append_assoc, append-nil}
use Rattle.std.proofs.lemmas.List.Concat.{flat_map-append}
use Rattle.scr_sheet.specs.declared.rows.Class.{Class}
use Rattle.scr_sheet.specs.declared.edit.Edit.{Edit}
use Rattle.scr_made.specs.Draws.{Drawn, ◌>>◌, given, each}
use Rattle.scr_made.specs.Made.{for_years, promised, promises}
use Rattle.scr_made.specs.Records.{Adds, Appends, record_line, records_text}

pub records-append : (xs ys : List Edit) → records_text (xs ++ ys) ≡ records_text xs ++ records_text ys
unfolding records_text
records-append xs ys = flat_map-append record_line xs ys

pub no_records : records_text [] ≡ []
unfolding records_text
no_records = refl

pub years_more : {A : Type 0} (n : ℕ) (value : ℕ → A)
    → for_years (n + 1) value ≡ for_years n value ++ (value (n + 1) ∷ [])
unfolding for_years
years_more n value = rw add-one refl

pub appends_none : (make : ℕ → Drawn (List Edit)) (state : ℕ) (text : List ℕ)
    → Appends (each 0 make) state text state text
unfolding each records_text
appends_none make state text = record { state_is = refl; text_is = sym (append-nil text) }

pub appends_given : (edits : List Edit) (state : ℕ) (text after : List ℕ) → after ≡ text ++ records_text edits
    → Appends (given edits) state text state after
appends_given edits state text after is = record { state_is = refl; text_is = is }

pub nothing : (text : List ℕ) → text ≡ text ++ records_text []
nothing text = rw no_records (sym (append-nil text))

-- nothing is drawn where nothing is promised
pub promised_none : (k : ℕ) (class : Class) (state : ℕ) (text : List ℕ) → promises class ≡ false
    → Appends (promised k class) state text state text
promised_none k class state text e = rw e (appends_given [] state text text (nothing text))

pub appends_then : (first second : Drawn (List Edit)) (s s₁ s₂ : ℕ) (t t₁ t₂ : List ℕ) → Appends first s t s₁ t₁
    → Appends second s₁ t₁ s₂ t₂ → Appends (first >> second) s t s₂ t₂
appends_then first second s s₁ s₂ t t₁ t₂ a b = record {
  state_is = b.state_is ∙ ap (λ x. (second x).1) a.state_is;
  text_is = b.text_is ∙ ap (λ x. t₁ ++ records_text (second x).0) a.state_is
      ∙ ap (λ x. x ++ records_text (second (first s).1).0) a.text_is
      ∙ append_assoc t (records_text (first s).0) (records_text (second (first s).1).0)
      ∙ ap (λ x. t ++ x) (sym (records-append (first s).0 (second (first s).1).0));
}

pub appends_more : (k : ℕ) (make : ℕ → Drawn (List Edit)) (s s₁ s₂ : ℕ) (t t₁ t₂ : List ℕ)
    → Appends (each k make) s t s₁ t₁ → Appends (make k) s₁ t₁ s₂ t₂ → Appends (each (k + 1) make) s t s₂ t₂
unfolding each
appends_more k make s s₁ s₂ t t₁ t₂ a b = rw add-one (appends_then (each k make) (make k) s s₁ s₂ t t₁ t₂ a b)

pub adds_none : {A : Type 0} (make : ℕ → Drawn (List A)) (state : ℕ) (list : List A)
    → Adds (each 0 make) state list state list
unfolding each
adds_none make state list = record { state_is = refl; list_is = sym (append-nil list) }

pub adds_then : {A : Type 0} (first second : Drawn (List A)) (s s₁ s₂ : ℕ) (t t₁ t₂ : List A) → Adds first s t s₁ t₁
    → Adds second s₁ t₁ s₂ t₂ → Adds (first >> second) s t s₂ t₂
adds_then first second s s₁ s₂ t t₁ t₂ a b = record {
  state_is = b.state_is ∙ ap (λ x. (second x).1) a.state_is;
  list_is = b.list_is ∙ ap (λ x. t₁ ++ (second x).0) a.state_is
      ∙ ap (λ x. x ++ (second (first s).1).0) a.list_is
      ∙ append_assoc t (first s).0 (second (first s).1).0;
}

pub adds_more : {A : Type 0} (k : ℕ) (make : ℕ → Drawn (List A)) (s s₁ s₂ : ℕ) (t t₁ t₂ : List A)
    → Adds (each k make) s t s₁ t₁ → Adds (make k) s₁ t₁ s₂ t₂ → Adds (each (k + 1) make) s t s₂ t₂
unfolding each
adds_more k make s s₁ s₂ t t₁ t₂ a b = rw add-one (adds_then (each k make) (make k) s s₁ s₂ t t₁ t₂ a b)

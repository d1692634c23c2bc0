-- Each value of a closed list is read from its word, which has neither commas nor double quotes.
use Rattle.std.proofs.Common.{◌≡◌, List, ℕ, [], Some, rules}
use Rattle.scr_fields.specs.Words.{value_of, table_word, all_tables, group_kind_word, all_group_kinds, class_word, all_classes, liability_kind_word, all_liability_kinds, projection_word, all_projections, set_word, all_sets, cat_key_word, all_cat_keys}
use Rattle.scr_fields.proofs.PlainTexts.{Plain}
use Rattle.scr_sheet.specs.declared.{keys.Table.Table, rows.Class.Class, rows.LiabilityKind.LiabilityKind, keys.Projection.Projection, keys.CatKey.CatKey}
use Rattle.scr_profile.specs.declared.{group_kind.GroupKind.GroupKind, set.Set.Set}

pub record Spelled {A : Type 0} (word : A → List ℕ) (all : List A) (value : A) : Type 0 where
  pub read : value_of word all (word value) ≡ Some value
  pub plain : Plain (word value)

pub spelled_table : (table : Table) → Spelled table_word all_tables table
unfolding value_of
spelled_table = search rules

pub spelled_group_kind : (group_kind : GroupKind) → Spelled group_kind_word all_group_kinds group_kind
unfolding value_of
spelled_group_kind = search rules

pub spelled_class : (class : Class) → Spelled class_word all_classes class
unfolding value_of
spelled_class = search rules

pub spelled_liability_kind : (liability_kind : LiabilityKind) → Spelled liability_kind_word all_liability_kinds liability_kind
unfolding value_of
spelled_liability_kind = search rules

pub spelled_projection : (projection : Projection) → Spelled projection_word all_projections projection
unfolding value_of
spelled_projection = search rules

pub spelled_set : (set : Set) → Spelled set_word all_sets set
unfolding value_of
spelled_set = search rules

pub spelled_cat_key : (cat_key : CatKey) → Spelled cat_key_word all_cat_keys cat_key
unfolding value_of
spelled_cat_key = search rules

-- What a record without a fault makes of a book: the sheet as the record leaves it, valid, with the sums of its rows.
use Rattle.std.proofs.Common.{◌≡◌, ℕ, ◌||◌, Bool, true, false, List, Option, Some, None, MatchOption, refl, sym, ap, subst, ◌∙◌}
use Rattle.std.specs.Option.{option_map_or}
use Rattle.scr_sheet.specs.declared.sheet.BalanceSheet.{BalanceSheet}
use Rattle.scr_sheet.specs.Faults.{fault_of}
use Rattle.scr_sheet.specs.Forms.{Formed}
use Rattle.scr_sheet.specs.declared.rows.Curve.{Curve}
use Rattle.scr_sheet.specs.Records.{applied, with_absorb}
use Rattle.scr_tables.specs.Tables.{row_of, has_row, with_row, changed}
use Rattle.scr_sheet.specs.Validity.{Valid}
use Rattle.scr_sheet.specs.declared.edit.Edit.{Edit}
use Rattle.scr_sheet.specs.declared.edit.Edit.TheVariants as edits
use Rattle.scr_sheet.specs.declared.keys.AbsorbKey.{AbsorbKey}
use Rattle.scr_sheet.specs.declared.keys.AbsorbKey.TheVariants as absorb
use Rattle.scr_book.specs.Verbs.{is_of_numbers}
use Rattle.scr_sheet.specs.declared.numbers.Numbers.{Numbers}
use Rattle.scr_sheet.proofs.Preserved.{Valid-applied, passes}
use Rattle.scr_sheet.proofs.Projections.{or_false}
use Rattle.scr_tables.proofs.TableRows.{same_name-is, name_of-row_of}
use Rattle.scr_book.proofs.Moved.{row_there, moves_a_sum, sums-same}
use Rattle.scr_book.specs.Kept.{IsKept}
use Rattle.scr_book.specs.Holders.{IsGraphOf}
use Rattle.scr_book.specs.LastDays.{AreDaysOf}
use Rattle.scr_book.proofs.LastDays.{moves_days, days-same}
use Rattle.scr_fund_graph.specs.Graph.{Graph}
use Rattle.scr_book.proofs.Holders.{is_of_graph, graph-same}
use Rattle.scr_book.specs.Sums.{AreSumsOf}
use Rattle.scr_book.specs.declared.ledger.Ledger.TheInside.{Inside}

-- a row written in its place is the row changed
pub changed-from : {Row : Type 0} (name_of : Row → List ℕ) (change : Row → Row) (Q : Row → Row → Type 0) (name : List ℕ) (rows after : List Row) → ((old new : Row) → Q old new → new ≡ change old)
    → MatchOption (row_of name_of name rows) (after ≡ rows) (λ old. (new : Row) × Q old new × (after ≡ with_row name_of new rows)) → after ≡ changed name_of change name rows
changed-from {Row} name_of change Q name rows after is done = by (row_of name_of name rows) done
  where
    by : (found : Option Row) → MatchOption found (after ≡ rows) (λ old. (new : Row) × Q old new × (after ≡ with_row name_of new rows)) → after ≡ option_map_or (λ row. with_row name_of (change row) rows) found rows
    by None done = done
    by (Some old) done = done.2 ∙ ap (λ row. with_row name_of row rows) (is old done.0 done.1)

-- a row changed into one that keeps its name is that one in its place
pub replaced : {Row : Type 0} (name_of : Row → List ℕ) (change : Row → Row) (new : Row) (name : List ℕ) (rows : List Row) → has_row name_of name rows ≡ true
    → ((row : Row) → row_of name_of name rows ≡ Some row → name ≡ name_of row → change row ≡ new) → changed name_of change name rows ≡ with_row name_of new rows
replaced name_of change new name rows has is =
    let row = row_there name_of name rows has in
    let named = same_name-is name (name_of row.0) (name_of-row_of name_of name rows row.0 row.1) in
    ap (λ o. option_map_or (λ other. with_row name_of (change other) rows) o rows) row.1 ∙ ap (λ other. with_row name_of other rows) (is row.0 row.1 named)

-- the sums of the book are those of its sheet
pub sums_now : (book : Inside) (now : BalanceSheet) → book.sheet ≡ now → IsKept book → AreSumsOf now book.sums
sums_now book now view kept = subst (λ sheet. AreSumsOf sheet book.sums) view kept.sums

-- and so are the counts of its last days
pub days_now : (book : Inside) (now : BalanceSheet) → book.sheet ≡ now → IsKept book → AreDaysOf now book.days
days_now book now view kept = subst (λ sheet. AreDaysOf sheet book.days) view kept.days

-- and so is its graph, where it is not due
pub graph_now : (book : Inside) (now : BalanceSheet) → book.sheet ≡ now → IsKept book → book.is_graph_due ≡ false → IsGraphOf now book.graph
graph_now book now view kept fresh = subst (λ sheet. IsGraphOf sheet book.graph) view (kept.graph fresh)

-- a book whose sheet has another graph
pub kept-graph : (book : Inside) (now : BalanceSheet) → book.sheet ≡ now → IsKept book → (graph : Graph) → (book.is_graph_due ≡ false → IsGraphOf now graph) → IsKept (record book { graph = graph })
kept-graph book now view kept graph is = record { valid = kept.valid; sums = kept.sums; days = kept.days; graph = λ fresh. subst (λ sheet. IsGraphOf sheet graph) (sym view) (is fresh) }

-- the records that move neither a sum nor the graph nor the counts of last days
abbrev pub moves_beside : Edit → Bool
moves_beside edit = moves_a_sum edit || (is_of_graph edit || moves_days edit)

module _ (old new : Inside) (now : BalanceSheet) (view : old.sheet ≡ now) (kept : IsKept old) (edit : Edit) (formed : Formed edit) (none : fault_of edit now ≡ None) where
  -- the tables and numbers are as the record leaves them, and so are each sum, the counts of last days and the graph
  pub kept-whole : new.sheet ≡ applied edit old.sheet → AreSumsOf (applied edit now) new.sums → AreDaysOf (applied edit now) new.days → (new.is_graph_due ≡ false → IsGraphOf (applied edit now) new.graph) → IsKept new × (new.sheet ≡ applied edit now)
  kept-whole rows sums days graph =
      let is : new.sheet ≡ applied edit now = rows ∙ ap (applied edit) view in (
        record {
          valid = subst Valid (sym is) (Valid-applied edit now formed (subst Valid view kept.valid) none);
          sums = subst (λ sheet. AreSumsOf sheet new.sums) (sym is) sums;
          days = subst (λ sheet. AreDaysOf sheet new.days) (sym is) days;
          graph = λ fresh. subst (λ sheet. IsGraphOf sheet new.graph) (sym is) (graph fresh);
        },
        is,
      )

  -- the sums are as they were
  pub sums_kept : moves_a_sum edit ≡ false → new.sums ≡ old.sums → AreSumsOf (applied edit now) new.sums
  sums_kept still sums =
      subst (AreSumsOf (applied edit now)) (sym sums) (sums-same edit now old.sums (sums_now old now view kept) still (passes edit now none).free)

  -- the counts of last days are as they were
  pub days_kept : moves_days edit ≡ false → AreDaysOf (applied edit now) old.days
  days_kept still = days-same edit now old.days still (days_now old now view kept)

  -- where the record leaves the graph
  pub kept-days : is_of_graph edit ≡ false → new.sheet ≡ applied edit old.sheet → AreSumsOf (applied edit now) new.sums → AreDaysOf (applied edit now) new.days
      → let same : Inside = record new { graph = old.graph; is_graph_due = old.is_graph_due } in IsKept same × (same.sheet ≡ applied edit now)
  kept-days apart rows sums days =
      let is : new.sheet ≡ applied edit now = rows ∙ ap (applied edit) view in (
        record {
          valid = subst Valid (sym is) (Valid-applied edit now formed (subst Valid view kept.valid) none);
          sums = subst (λ sheet. AreSumsOf sheet new.sums) (sym is) sums;
          days = subst (λ sheet. AreDaysOf sheet new.days) (sym is) days;
          graph = λ fresh. subst (λ sheet. IsGraphOf sheet old.graph) (sym is) (graph-same edit now old.graph (graph_now old now view kept fresh) apart);
        },
        is,
      )

-- where the record leaves the graph and the counts of last days
module _ (old new : Inside) (now : BalanceSheet) (view : old.sheet ≡ now) (kept : IsKept old) (edit : Edit) (formed : Formed edit) (none : fault_of edit now ≡ None) where
  pub kept-applied : (is_of_graph edit || moves_days edit) ≡ false → new.sheet ≡ applied edit old.sheet → AreSumsOf (applied edit now) new.sums
      → let same : Inside = record new { days = old.days; graph = old.graph; is_graph_due = old.is_graph_due } in IsKept same × (same.sheet ≡ applied edit now)
  kept-applied apart rows sums =
      let both = or_false (is_of_graph edit) (moves_days edit) apart in
      kept-days old (record new { days = old.days }) now view kept edit formed none both.0 rows sums (days_kept old new now view kept edit formed none both.1)

  -- where the record moves no sum either
  pub kept-still : moves_beside edit ≡ false → new.sheet ≡ applied edit old.sheet → new.sums ≡ old.sums
      → let same : Inside = record new { days = old.days; graph = old.graph; is_graph_due = old.is_graph_due } in IsKept same × (same.sheet ≡ applied edit now)
  kept-still still rows sums =
      let apart = or_false (moves_a_sum edit) (is_of_graph edit || moves_days edit) still in
      kept-applied apart.1 rows (sums_kept old new now view kept edit formed none apart.0 sums)

-- ---- records of the single numbers

only_numbers : (edit : Edit) (sheet : BalanceSheet) → is_of_numbers edit ≡ true → applied edit sheet ≡ record sheet { numbers = (applied edit sheet).numbers }
only_numbers (edits.Asof date currency) sheet only = refl
only_numbers (edits.Cat key cents) sheet only = refl
only_numbers (edits.Lapse set cents) sheet only = refl
only_numbers (edits.Due overdue other) sheet only = refl
only_numbers (edits.Op tpl tpul tpn el eul pel peul en pen expul) sheet only = refl
only_numbers (edits.Sym millionths) sheet only = refl
only_numbers (edits.Tax millionths most) sheet only = refl
only_numbers (edits.Fdb cents) sheet only = refl
only_numbers (edits.Intangible cents) sheet only = refl
only_numbers edit sheet only = absurd (cc)

still_numbers : (edit : Edit) → is_of_numbers edit ≡ true → moves_beside edit ≡ false
still_numbers (edits.Asof date currency) only = refl
still_numbers (edits.Cat key cents) only = refl
still_numbers (edits.Lapse set cents) only = refl
still_numbers (edits.Due overdue other) only = refl
still_numbers (edits.Op tpl tpul tpn el eul pel peul en pen expul) only = refl
still_numbers (edits.Sym millionths) only = refl
still_numbers (edits.Tax millionths most) only = refl
still_numbers (edits.Fdb cents) only = refl
still_numbers (edits.Intangible cents) only = refl
still_numbers edit only = absurd (cc)

pub kept-numbers : (old : Inside) (now : BalanceSheet) (view : old.sheet ≡ now) (kept : IsKept old) (edit : Edit) (formed : Formed edit) (none : fault_of edit now ≡ None) → is_of_numbers edit ≡ true
    → (numbers : Numbers) → (applied edit old.sheet).numbers ≡ numbers → let new : Inside = record old { sheet = record old.sheet { numbers = numbers } } in IsKept new × (new.sheet ≡ applied edit now)
kept-numbers old now view kept edit formed none only numbers is =
    let new : Inside = record old { sheet = record old.sheet { numbers = numbers } } in
    kept-still old new now view kept edit formed none (still_numbers edit only)
    (sym (only_numbers edit old.sheet only ∙ ap (λ n. record old.sheet { numbers = n }) is)) refl

-- an absorption that is none of a currency leaves the curves
pub with_absorb-other : (key : AbsorbKey) (cents : ℕ) (curves : List Curve) → ((currency : List ℕ) → key ≡ absorb.CurrencyUp currency → ⊥) → ((currency : List ℕ) → key ≡ absorb.CurrencyDown currency → ⊥) → with_absorb key cents curves ≡ curves
with_absorb-other (absorb.CurrencyUp currency) cents curves up down = absurd (up currency refl)
with_absorb-other (absorb.CurrencyDown currency) cents curves up down = absurd (down currency refl)
with_absorb-other key cents curves up down = refl

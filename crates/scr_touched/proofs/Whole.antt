-- What a record touches is what passes the tests of what it exchanges.
use Rattle.std.proofs.Common.{IfOk, Result, Ok, Err, ◌≡◌, ◌↔◌, ◌||◌, IsTrue, true, false, List, [], Contains, filter, Option, Some, None, is_some, refl, sym, ap, subst, ◌∙◌, ◌++◌}
use Rattle.std.specs.Option.{option_or}
use Rattle.scr_factors.specs.Values.{FactorValues}
use Rattle.scr_funds.proofs.Members.{IsMember, IsMember-left, IsMember-from_Contains, Contains-from_IsMember}
use Rattle.scr_tables.specs.Tables.{row_of}
use Rattle.scr_tables.proofs.TableRows.{passes_or_fails}
use Rattle.scr_sheet.specs.BalanceSheet.{curve_name}
use Rattle.scr_sheet.specs.Faults.{fault_of, fields_outside, list_fault, unknown_name, wrong_kind, in_use, cycle, sheet_outside}
use Rattle.scr_sheet.specs.Records.{applied}
use Rattle.scr_sheet.specs.Validity.{Valid}
use Rattle.scr_sheet.specs.declared.edit.Edit.{Edit}
use Rattle.scr_sheet.specs.declared.fault.Fault.{Fault}
use Rattle.scr_sheet.specs.declared.sheet.BalanceSheet.{BalanceSheet}
use Rattle.scr_nodes.specs.Live.{is_live}
use Rattle.scr_nodes.specs.LiveNodes.{HasNoRepeats}
use Rattle.scr_nodes.specs.declared.node.Node.{Node}
use Rattle.scr_touched.specs.Candidates.{touches, candidates, first_candidates, later_candidates, is_of_row}
use Rattle.scr_row_change.specs.Changes.{after, change_of, IsNamed}
use Rattle.scr_touched.specs.Touched.{IsChanged, IsSame, IsTold, AreTouched}
use Rattle.scr_touched.specs.SingleNumbers.{number_nodes}
use Rattle.scr_touched.proofs.Decided.{Tells}
use Rattle.scr_touched.proofs.Once.{AreSplit, apart-kept, kept-member, member-kept, split-apart, split-member, split-none}
use Rattle.scr_touched.proofs.OnceRows.{debt-split, group-split, liability-split, security-split}
use Rattle.scr_touched.proofs.OnceTables.{HasDistinct, curve-split, date-split, distinct-change, fund-split, none-twice}
use Rattle.scr_nodes.proofs.Apart.{one-place}
use Rattle.scr_nodes.proofs.Parts.{apart-by_parts}
use Rattle.scr_row_change.specs.declared.change.Change.{Change}
use Rattle.scr_row_change.specs.declared.change.Change.TheVariants as changes
use Rattle.scr_row_change.proofs.AsExchanged.{as-change, named-change}
use Rattle.scr_touched.proofs.ToldSecurities as securities
use Rattle.scr_touched.proofs.ToldFunds as funds
use Rattle.scr_touched.proofs.ToldGroups as groups
use Rattle.scr_touched.proofs.ToldDebts as debts
use Rattle.scr_touched.proofs.ToldLiabilities as liabilities
use Rattle.scr_touched.proofs.ToldCurves as curves
use Rattle.scr_touched.proofs.ToldReferenceDates as dates
use Rattle.scr_touched.proofs.ToldSingleNumbers as numbers

module _ (sheet : BalanceSheet) (valid : Valid sheet) where
  -- what the test tells of the row before stands in the first list
  all-there : (change : Change) → (x : Node) → is_of_row sheet change x ≡ true
      → IsMember x (first_candidates sheet change)
  all-there (changes.Security name new) x e = (security-split name _ None).there x e
  all-there (changes.Fund name new) x e =
      (fund-split sheet valid name None none-twice).there x e
  all-there (changes.Group name new) x e = (group-split sheet valid name _ None).there x e
  all-there (changes.Bank name new) x e = (debt-split _ None).there x e
  all-there (changes.Rein name new) x e = (debt-split _ None).there x e
  all-there (changes.Liability name new) x e = (liability-split name _ None).there x e
  all-there (changes.Curve name new) x e = absurd (cc)
  all-there (changes.Asof date currency) x e = (date-split sheet valid date currency).there x e
  all-there (changes.Numbers new) x e = absurd (cc)

  all-split : (change : Change) → HasDistinct change
      → AreSplit (is_of_row sheet change) (first_candidates sheet change) (later_candidates sheet change)
  all-split (changes.Security name new) distinct = security-split name _ new
  all-split (changes.Fund name new) distinct = fund-split sheet valid name new distinct
  all-split (changes.Group name new) distinct = group-split sheet valid name _ new
  all-split (changes.Bank name new) distinct = debt-split _ _
  all-split (changes.Rein name new) distinct = debt-split _ _
  all-split (changes.Liability name new) distinct = liability-split name _ new
  all-split (changes.Curve name new) distinct =
      curve-split sheet valid name (row_of curve_name name sheet.curves) new
  all-split (changes.Asof date currency) distinct = date-split sheet valid date currency
  all-split (changes.Numbers new) distinct = split-none number_nodes (apart-by_parts number_nodes refl)

module _ (factors : FactorValues) (sheet : BalanceSheet) (valid : Valid sheet) where
  all-told : (change : Change) → IsNamed change → (node : Node)
      → Tells factors sheet (after change sheet) node (touches sheet change node)
  all-told (changes.Security name new) named node = securities.told factors sheet name new valid named node
  all-told (changes.Fund name new) named node = funds.told factors sheet name new valid named node
  all-told (changes.Group name new) named node = groups.told factors sheet name new valid named node
  all-told (changes.Bank name new) named node = debts.told-bank factors sheet name new named node
  all-told (changes.Rein name new) named node = debts.told-rein factors sheet name new named node
  all-told (changes.Liability name new) named node = liabilities.told factors sheet name new valid named node
  all-told (changes.Curve name new) named node = curves.told factors sheet name new valid named node
  all-told (changes.Asof date currency) named node = dates.told factors sheet date currency valid node
  all-told (changes.Numbers new) named node = numbers.told factors sheet new node

  all-listed : (change : Change) → IsNamed change → (node : Node) → touches sheet change node ≡ true
      → IsMember node (first_candidates sheet change ++ later_candidates sheet change)
  all-listed (changes.Security name new) named node e = securities.covers factors sheet name new valid named node e
  all-listed (changes.Fund name new) named node e = funds.covers factors sheet name new valid named node e
  all-listed (changes.Group name new) named node e = groups.covers factors sheet name new valid named node e
  all-listed (changes.Bank name new) named node e = debts.covers sheet _ _ node e
  all-listed (changes.Rein name new) named node e = debts.covers sheet _ _ node e
  all-listed (changes.Liability name new) named node e = liabilities.covers factors sheet name new valid named node e
  all-listed (changes.Curve name new) named node e =
      IsMember-left (first_candidates sheet (changes.Curve name new)) [] node
      (curves.covers factors sheet name new valid named node e)
  all-listed (changes.Asof date currency) named node e = dates.covers factors sheet date currency valid node e
  all-listed (changes.Numbers new) named node e =
      IsMember-left number_nodes [] node (numbers.covers factors sheet new node e)

  all-covered : (change : Change) → IsNamed change → (node : Node) → touches sheet change node ≡ true
      → IsMember node (candidates sheet change)
  all-covered change named node e =
      split-member (is_of_row sheet change) (first_candidates sheet change) (later_candidates sheet change)
      (all-there sheet valid change) node (all-listed change named node e)

  -- what the list of those that pass the test says of a figure
  Both : Change → BalanceSheet → Node → Type 0
  Both change later node =
      (Contains (filter (touches sheet change) (candidates sheet change)) node ↔ IsChanged factors sheet later node)
      × ((Contains (filter (touches sheet change) (candidates sheet change)) node → ⊥)
      → IsTrue (is_live sheet node || is_live later node) → IsSame factors sheet later node)

  chosen : (change : Change) → IsNamed change → (node : Node) → Both change (after change sheet) node
  unfolding Both
  chosen change named node = (
    (
      (λ c. (all-told change named node).0
          (kept-member (touches sheet change) (candidates sheet change) node
          (IsMember-from_Contains (filter (touches sheet change) (candidates sheet change)) node c)).1),
      (λ t. listed ((all-told change named node).1 t)),
    ),
    (λ absent live.
        passes_or_fails (touches sheet change node) (λ e. absurd (absent (listed e)))
        (λ e. (all-told change named node).2 e live)),
  )
    where
      listed : touches sheet change node ≡ true
          → Contains (filter (touches sheet change) (candidates sheet change)) node
      listed e =
          Contains-from_IsMember (filter (touches sheet change) (candidates sheet change)) node
          (member-kept (touches sheet change) (candidates sheet change) node (all-covered change named node e) e)

  told-of : (edit : Edit) (node : Node) → IsTold factors sheet edit
      (filter (touches sheet (change_of edit sheet)) (candidates sheet (change_of edit sheet))) node
  unfolding Both
  told-of edit node =
      let change : Change = change_of edit sheet in
      let both : Both change (applied edit sheet) node =
      subst (λ later. Both change later node) (sym (as-change edit sheet valid))
      (chosen change (named-change edit sheet) node) in
      record { listed = both.0; rest = both.1 }

pub all-touched : (sheet : BalanceSheet) (edit : Edit) → Valid sheet
    → AreTouched sheet edit (filter (touches sheet (change_of edit sheet)) (candidates sheet (change_of edit sheet)))
unfolding AreTouched
all-touched sheet edit valid = λ factors node fault. told-of factors sheet valid edit node

all-once : (sheet : BalanceSheet) (edit : Edit) → Valid sheet → list_fault edit ≡ None
    → HasNoRepeats (filter (touches sheet (change_of edit sheet)) (candidates sheet (change_of edit sheet)))
all-once sheet edit valid none =
    let change : Change = change_of edit sheet in
    let split = all-split sheet valid change (distinct-change sheet valid edit none) in
    λ j k x first second.
    one-place (filter (touches sheet change) (candidates sheet change))
    (apart-kept (touches sheet change) (candidates sheet change)
    (split-apart (is_of_row sheet change) (first_candidates sheet change) (later_candidates sheet change) split))
    j k x first second

pub all-once-by : (sheet : BalanceSheet) (edit : Edit) (change : Change) (items : List Node) → Valid sheet
    → list_fault edit ≡ None → change ≡ change_of edit sheet
    → items ≡ filter (touches sheet change) (candidates sheet change) → HasNoRepeats items
all-once-by sheet edit change items valid none is e =
    subst HasNoRepeats (sym (e ∙ ap (λ it. filter (touches sheet it) (candidates sheet it)) is))
    (all-once sheet edit valid none)

-- ---- records with a fault

none-first : {A : Type 0} (a b : Option A) → option_or a b ≡ None → a ≡ None
none-first None b e = refl
none-first (Some x) b e = absurd (cc)

none-second : {A : Type 0} (a b : Option A) → option_or a b ≡ None → b ≡ None
none-second None b e = e
none-second (Some x) b e = absurd (cc)

-- without a fault the record has none in its list, and its quantities lie within their limits
listed-fault : (edit : Edit) (sheet : BalanceSheet) → fault_of edit sheet ≡ None → list_fault edit ≡ None
listed-fault edit sheet e = none-first (list_fault edit) _ e

within-fault : (edit : Edit) (sheet : BalanceSheet) → fault_of edit sheet ≡ None → fields_outside edit ≡ None
within-fault edit sheet e =
    none-first (fields_outside edit) (sheet_outside edit (applied edit sheet))
    (none-second (cycle edit sheet) _ (none-second (in_use edit sheet) _ (none-second (wrong_kind edit sheet) _
    (none-second (unknown_name edit sheet) _ (none-second (list_fault edit) _ e)))))

-- of a record that is refused nothing is asked
pub refused : (sheet : BalanceSheet) (edit : Edit) (list : List Node)
    → (is_some (fields_outside edit) || is_some (list_fault edit)) ≡ true → AreTouched sheet edit list
unfolding AreTouched
refused sheet edit list faulty = λ factors node fault.
    let never : false ≡ true =
    sym (λ i. is_some (within-fault edit sheet fault i) || is_some (listed-fault edit sheet fault i)) ∙ faulty in
    absurd (cc)

pub neither-fault : (fields list : Option Fault) → (is_some fields || is_some list) ≡ false
    → (fields ≡ None) × (list ≡ None)
neither-fault None None e = (refl, refl)
neither-fault None (Some f) e = absurd (cc)
neither-fault (Some f) list e = absurd (cc)

pub none-repeated : (list : List Node) → list ≡ [] → HasNoRepeats list
none-repeated list e = subst HasNoRepeats (sym e) (λ j k x first second. absurd (cc))

pub all-touched-by : (sheet : BalanceSheet) (edit : Edit) (change : Change) (items : List Node) → Valid sheet
    → change ≡ change_of edit sheet → items ≡ filter (touches sheet change) (candidates sheet change)
    → AreTouched sheet edit items
all-touched-by sheet edit change items valid is e =
    subst (AreTouched sheet edit)
    (sym (e ∙ ap (λ it. filter (touches sheet it) (candidates sheet it)) is))
    (all-touched sheet edit valid)

pub if-ok : {A E : Type 0} (P Q : A → Type 0) → ((a : A) → P a → Q a) → (result : Result A E) → IfOk result P
    → IfOk result Q
if-ok P Q f (Ok a) p = f a p
if-ok P Q f (Err e) p = tt

-- What the calls that tell of turns and of what a record touches rest on.
use Rattle.std.proofs.Common.{IfOk, OnOk, Result, Ok, Err, ◌≡◌, ◌↔◌, ℕ, Bool, true, false, cond, ltb, Contains, List, [], Option, Some, None, is_some, length, position, refl, sym, ap, ap₂, subst, ◌∙◌, arith}
use Rattle.std.specs.List.{position_or_len}
use Rattle.std.specs.Option.{option_or}
use Rattle.std.proofs.lemmas.Bool.Decides.{nat_tests}
use Rattle.std.proofs.lemmas.Option.{same_Some}
use Rattle.scr_factors.specs.Values.{FactorValues}
use Rattle.scr_tables.specs.Names.{same_name}
use Rattle.scr_member_lists.specs.Members.{has}
use Rattle.scr_sum_tree.specs.Blocks.{HasEachOnce}
use Rattle.scr_book.specs.RolledSheets.{RolledSheet}
use Rattle.scr_book.specs.Rolls.{roll_of as names_in}
use Rattle.scr_row_change.specs.Changes.{after}
use Rattle.scr_row_change.specs.declared.change.Change.{Change}
use Rattle.scr_sheet.specs.Faults.{cycle, fault_of, fields_outside, in_use, list_fault, sheet_outside, unknown_name, wrong_kind}
use Rattle.scr_sheet.specs.Forms.{Formed}
use Rattle.scr_sheet.specs.Members.{edit_name, is_member}
use Rattle.scr_sheet.specs.Records.{applied}
use Rattle.scr_sheet.specs.Validity.{Valid}
use Rattle.scr_sheet.specs.declared.{edit.Edit.Edit, roll.Roll.Roll, sheet.BalanceSheet.BalanceSheet}
use Rattle.scr_sheet.proofs.Preserved.{Valid-applied}
use Rattle.scr_nodes.specs.Changed.{IsChanged}
use Rattle.scr_nodes.specs.LiveNodes.{HasNoRepeats}
use Rattle.scr_nodes.specs.declared.node.Node.{Node}
use Rattle.scr_block_graph.specs.Books.{rolled_of}
use Rattle.scr_block_graph.specs.Graph.{IsRoll, Rolled, reads, roll_in}
use Rattle.scr_block_graph.specs.Sums.{roll_of}
use Rattle.scr_block_graph.specs.Told.{HaveRolls, touched_points}
use Rattle.scr_block_graph.specs.Touched.{IsTouchedIn}
use Rattle.scr_block_graph.specs.Turns.{IsWithin, step_of, turn_of}
use Rattle.scr_block_graph.specs.declared.point.Point.{Point}
use Rattle.scr_block_graph.specs.declared.sum.Sum.{Sum}
use Rattle.scr_block_graph.specs.declared.turns.Step.{Step}
use Rattle.scr_block_graph.proofs.Listing.{points-once, points-told}
use Rattle.scr_block_graph.proofs.Steps.{place-within}

-- ---- places

pub position-is : {X : Type 0} (p : X → Bool) (xs : List X) (k : ℕ) → position p xs ≡ Some k → k ≡ position_or_len p xs
position-is p xs k found = by (ltb (position_or_len p xs) (length xs)) refl
  where
    at : (t : Bool) → ltb (position_or_len p xs) (length xs) ≡ t → cond t (Some (position_or_len p xs)) None ≡ Some k
    at t e = ap (λ s. cond s (Some (position_or_len p xs)) None) (sym e) ∙ found

    by : (t : Bool) → ltb (position_or_len p xs) (length xs) ≡ t → k ≡ position_or_len p xs
    by true e = sym (same_Some (position_or_len p xs) k (at true e))
    by false e = let never : None ≡ Some k = at false e in absurd (cc)

-- ---- turns

pub named-step : (edit : Edit) (sheet : BalanceSheet) (change : Change) (sum : Sum) (names : List (List ℕ)) (name : List ℕ) → edit_name edit ≡ name
    → after change sheet ≡ applied edit sheet
    → step_of (is_member (roll_of sum) name sheet) (is_member (roll_of sum) name (after change sheet)) (position_or_len (same_name name) names)
    ≡ step_of (is_member (roll_of sum) (edit_name edit) sheet) (is_member (roll_of sum) (edit_name edit) (applied edit sheet))
    (position_or_len (same_name (edit_name edit)) names)
named-step edit sheet change sum names name own later =
    ap₂ (λ (n : List ℕ) (s : BalanceSheet). step_of (is_member (roll_of sum) n sheet) (is_member (roll_of sum) n s) (position_or_len (same_name n) names))
    (sym own) later

pub turn-is : (edit : Edit) (book : Rolled) (sum : Sum) (was is : Bool) (count : ℕ) (step : Step) → was ≡ reads book.sheet sum
    → is ≡ reads (applied edit book.sheet) sum → count ≡ length (roll_in book sum)
    → step ≡ step_of (is_member (roll_of sum) (edit_name edit) book.sheet) (is_member (roll_of sum) (edit_name edit) (applied edit book.sheet))
    (position_or_len (same_name (edit_name edit)) (roll_in book sum))
    → record { sum = sum; was_read = was; is_read = is; count = count; step = step } ≡ turn_of edit book sum
turn-is edit book sum was is count step e d c s = λ i. record { sum = sum; was_read = e i; is_read = d i; count = c i; step = s i }

-- one that leaves has a place
pub step-within : (edit : Edit) (book : Rolled) (sum : Sum) → IsRoll book (roll_of sum)
    → IsWithin (length (roll_in book sum)) (step_of (is_member (roll_of sum) (edit_name edit) book.sheet)
    (is_member (roll_of sum) (edit_name edit) (applied edit book.sheet)) (position_or_len (same_name (edit_name edit)) (roll_in book sum)))
step-within edit book sum own =
    by (is_member (roll_of sum) (edit_name edit) book.sheet) (is_member (roll_of sum) (edit_name edit) (applied edit book.sheet)) (own.members (edit_name edit))
  where
    by : (was is : Bool) → has (edit_name edit) (roll_in book sum) ≡ was
        → IsWithin (length (roll_in book sum)) (step_of was is (position_or_len (same_name (edit_name edit)) (roll_in book sum)))
    by true false known =
        let is = place-within (same_name (edit_name edit)) (roll_in book sum) ∙ known in grind (arith, nat_tests, is)
    by true true known = tt
    by false true known = tt
    by false false known = tt

-- what a book tells of the row's place tells of the list
module _ (book : RolledSheet) (sum : Sum) (name : List ℕ) (later : BalanceSheet) (roll : Roll) (own : roll ≡ roll_of sum) (found : Option ℕ)
    (placed : found ≡ position (same_name name) (names_in roll book.rolls)) (member : is_some found ≡ is_member roll name book.sheet) (is : Bool)
    (told : is ≡ is_member (roll_of sum) name later) where
  was-told : (was : Bool) → is_some found ≡ was → was ≡ is_member (roll_of sum) name book.sheet
  was-told was e = sym e ∙ member ∙ ap (λ r. is_member r name book.sheet) own

  pub step-left : (place : ℕ) → found ≡ Some place
      → step_of true is place ≡ step_of (is_member (roll_of sum) name book.sheet) (is_member (roll_of sum) name later)
      (position_or_len (same_name name) (roll_in (rolled_of book) sum))
  step-left place e =
      ap (λ was. step_of was is place) (was-told true (ap is_some e))
      ∙ ap₂ (λ (i : Bool) (p : ℕ). step_of (is_member (roll_of sum) name book.sheet) i p) told
      (position-is (same_name name) (roll_in (rolled_of book) sum) place (ap (λ r. position (same_name name) (names_in r book.rolls)) (sym own) ∙ sym placed ∙ e))

  pub step-joined : found ≡ None → (place : ℕ)
      → step_of false is place ≡ step_of (is_member (roll_of sum) name book.sheet) (is_member (roll_of sum) name later) place
  step-joined e place =
      ap₂ (λ (was i : Bool). step_of was i place) (was-told false (ap is_some e)) told

-- ---- records with a fault

none-first : {A : Type 0} (a b : Option A) → option_or a b ≡ None → a ≡ None
none-first None b e = refl
none-first (Some x) b e = absurd (cc)

none-second : {A : Type 0} (a b : Option A) → option_or a b ≡ None → b ≡ None
none-second None b e = e
none-second (Some x) b e = absurd (cc)

within-fault : (edit : Edit) (sheet : BalanceSheet) → fault_of edit sheet ≡ None → fields_outside edit ≡ None
within-fault edit sheet e =
    none-first (fields_outside edit) (sheet_outside edit (applied edit sheet))
    (none-second (cycle edit sheet) _ (none-second (in_use edit sheet) _ (none-second (wrong_kind edit sheet) _
    (none-second (unknown_name edit sheet) _ (none-second (list_fault edit) _ e)))))

pub some-fault : {P : Type 0} (edit : Edit) (sheet : BalanceSheet) → is_some (fields_outside edit) ≡ true → fault_of edit sheet ≡ None → P
some-fault edit sheet faulty none =
    let never : false ≡ true = sym (ap is_some (within-fault edit sheet none)) ∙ faulty in
    absurd (cc)

pub no-fault : (edit : Edit) → is_some (fields_outside edit) ≡ false → fields_outside edit ≡ None
no-fault edit e = by (fields_outside edit) e
  where
    by : {A : Type 0} (o : Option A) → is_some o ≡ false → o ≡ None
    by None e = refl
    by (Some x) e = absurd (cc)

pub none-once : {X : Type 0} (list : List X) → list ≡ [] → HasEachOnce list
none-once list e = subst HasEachOnce (sym e) (λ j k before inside same. omega (arith, inside))

-- ---- what is listed

pub all-told : (book : RolledSheet) (edit : Edit) (told items : List Node) → items ≡ told → Valid book.sheet → Formed edit
    → ((factors : FactorValues) (node : Node) → fault_of edit book.sheet ≡ None → Contains told node ↔ IsChanged factors book.sheet (applied edit book.sheet) node)
    → HaveRolls (rolled_of book) items → (list : List Point) → list ≡ touched_points edit (rolled_of book) items
    → (factors : FactorValues) (point : Point) → fault_of edit book.sheet ≡ None → Contains list point ↔ IsTouchedIn factors (rolled_of book) edit point
all-told book edit told items same valid formed listed have list is factors point none =
    subst (λ all. Contains all point ↔ IsTouchedIn factors (rolled_of book) edit point) (sym (is ∙ ap (touched_points edit (rolled_of book)) same))
    (points-told edit (rolled_of book) factors valid (Valid-applied edit book.sheet formed valid none) told (subst (HaveRolls (rolled_of book)) same have) (λ node. listed factors node none) point)

pub all-once : (book : RolledSheet) (edit : Edit) (told items : List Node) → items ≡ told → HasNoRepeats told → (list : List Point)
    → list ≡ touched_points edit (rolled_of book) items
    → HasEachOnce list
all-once book edit told items same apart list is = subst HasEachOnce (sym (is ∙ ap (touched_points edit (rolled_of book)) same)) (points-once edit (rolled_of book) told apart)

-- what is known of a result, and what holds where there is one
pub if-ok : {A E : Type 0} (P : A → Type 0) (Q : Type 0) (R : A → Type 0) → (Q → (a : A) → P a → R a) → (result : Result A E) → IfOk result P → OnOk result Q
    → IfOk result R
if-ok P Q R f (Ok a) p q = f q a p
if-ok P Q R f (Err e) p q = tt

pub on-ok : {A E : Type 0} (P Q : Type 0) → (P → Q) → (result : Result A E) → OnOk result P → OnOk result Q
on-ok P Q f (Ok a) p = f p
on-ok P Q f (Err e) p = tt

pub if-items : {A E : Type 0} (P R : A → Type 0) → ((a : A) → P a → R a) → (result : Result A E) → IfOk result P → IfOk result R
if-items P R f (Ok a) p = f a p
if-items P R f (Err e) p = tt

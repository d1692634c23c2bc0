-- How the lists of dependants are filled, slot by slot and due by due.
use Rattle.std.proofs.Common.{◌≡◌, ◌⊎◌, ℕ, ◌+◌, ◌<◌, ◌≤◌, suc, zero, Bool, true, false, cond, nat_eq, nat_lt, List, [], ◌∷◌, ◌++◌, drop, get_or, length, map, replicate, set, Option, Some, None, IfSome, position, slice_get, slice_index_or, if◌then◌else◌, refl, sym, ap, subst, ◌∙◌, inl, inr, arith}
use Rattle.std.specs.List.{AllByRecursion, position_or_len}
use Rattle.std.proofs.Math.ListN.{drop_of_length-le}
use Rattle.std.proofs.lemmas.Bool.{eqb-true, true≢false}
use Rattle.std.proofs.lemmas.Bool.Decides.{eqb_tells, nat_tests}
use Rattle.std.proofs.lemmas.List.{append-nil, append_assoc, drop_more, get_or-set_other, get_or-set_same, length-append, length-replicate, length-set}
use Rattle.std.proofs.lemmas.List.Quantifiers.{position-Some}
use Rattle.std.proofs.lemmas.List.Sums.{fails_before_first}
use Rattle.std.proofs.lemmas.Option.{get_or_from_slice_get, slice_get-get_or, slice_get_within}
use Rattle.scr_board.specs.Counts.{one_if, times, total}
use Rattle.scr_reachability.specs.declared.ranks.Due.{Due}
use Rattle.scr_reachability.specs.Levels.{numbers_of}
use Rattle.scr_reachability.specs.Ranks.{rank_at}
use Rattle.scr_reachability.proofs.Members.{same_number}
use Rattle.scr_reachability.proofs.Ranking.{place_within}
use Rattle.scr_jagged.specs.Parts.{AreEmpty, Binned}
use Rattle.scr_subgraph.specs.declared.round.Slot.{Slot}
use Rattle.scr_subgraph.specs.declared.round.Slot.TheVariants as slots
use Rattle.scr_subgraph.specs.Naming.{AreBelow, AreCounted, AreNamed, HaveRoom, IsCounted, IsEntered, IsPushed, begun, dues_in, is_start, named, named_in}
use Rattle.scr_subgraph.specs.Slots.{slot_of, slot_or, slots_with}

-- ---- a place more in one list

set_same : (lists : List (List ℕ)) (source : ℕ) (list : List ℕ) → source < length lists → rank_at (set lists source list) source ≡ list
set_same [] source list l = absurd (omega arith)
set_same (x ∷ xs) zero list l = refl
set_same (x ∷ xs) (suc source) list l = set_same xs source list (omega arith)

set_other : (lists : List (List ℕ)) (source m : ℕ) (list : List ℕ) → (source ≡ m → ⊥) → rank_at (set lists source list) m ≡ rank_at lists m
set_other [] source m list apart = refl
set_other (x ∷ xs) zero zero list apart = absurd (apart refl)
set_other (x ∷ xs) zero (suc m) list apart = refl
set_other (x ∷ xs) (suc source) zero list apart = refl
set_other (x ∷ xs) (suc source) (suc m) list apart = set_other xs source m list (λ e. apart (ap suc e))

pub pushed : (lists later : List (List ℕ)) (source place : ℕ) → source < length lists → later ≡ set lists source (rank_at lists source ++ place ∷ [])
    → IsPushed source place lists later
pushed lists later source place l is = record {
  long = ap length is ∙ length-set lists source (rank_at lists source ++ place ∷ []);
  each = λ m. ap (λ ls. rank_at ls m) is ∙ by m (eqb_tells source m);
}
  where
    by : (m : ℕ) → ((nat_eq source m ≡ true) × (source ≡ m)) ⊎ ((nat_eq source m ≡ false) × (source ≡ m → ⊥))
        → rank_at (set lists source (rank_at lists source ++ place ∷ [])) m ≡ rank_at lists m ++ (if nat_eq source m then place ∷ [] else [])
    by m (inl t) =
        subst (λ b. rank_at (set lists source (rank_at lists source ++ place ∷ [])) m ≡ rank_at lists m ++ (if b then place ∷ [] else [])) (sym t.0)
        (subst (λ j. rank_at (set lists source (rank_at lists source ++ place ∷ [])) j ≡ rank_at lists j ++ place ∷ []) t.1
        (set_same lists source (rank_at lists source ++ place ∷ []) l))
    by m (inr f) =
        subst (λ b. rank_at (set lists source (rank_at lists source ++ place ∷ [])) m ≡ rank_at lists m ++ (if b then place ∷ [] else [])) (sym f.0)
        (set_other lists source m (rank_at lists source ++ place ∷ []) f.1 ∙ sym (append-nil (rank_at lists m)))

-- ---- slot by slot

-- what is entered so far, and what is to come, is all that the row names
pub record IsEntering (place : ℕ) (row rest : List Slot) (before now : List (List ℕ)) : Type 0 where
  pub long : length now ≡ length before
  pub below : AreBelow (length before) rest
  pub each : (m : ℕ) → rank_at now m ++ named_in place m rest ≡ rank_at before m ++ named_in place m row

pub entering_kept : (place number : ℕ) (row rest : List Slot) (before now : List (List ℕ))
    → IsEntering place row (slots.Kept number ∷ rest) before now → IsEntering place row rest before now
entering_kept place number row rest before now h = record { long = h.long; below = h.below; each = h.each }

pub entering_due : (place source : ℕ) (row rest : List Slot) (before now later : List (List ℕ))
    → IsEntering place row (slots.Due source ∷ rest) before now → IsPushed source place now later
    → IsEntering place row rest before later
entering_due place source row rest before now later h p = record {
  long = p.long ∙ h.long;
  below = h.below.1;
  each = λ m. ap (λ list. list ++ named_in place m rest) (p.each m)
      ∙ append_assoc (rank_at now m) (if nat_eq source m then place ∷ [] else []) (named_in place m rest) ∙ h.each m;
}

-- the due that comes next has room for its dependant
pub entering_room : (place source : ℕ) (row rest : List Slot) (before now : Binned) → IsEntering place row (slots.Due source ∷ rest) before.rows now.rows
    → now.rooms ≡ before.rooms → HaveRoom place row before → length (rank_at now.rows source) < slice_index_or now.rooms source 0
entering_room place source row rest before now h rooms have =
    let room = have source h.below.0 in
    let same = ap length (h.each source) in
    let a = length-append (rank_at now.rows source) (named_in place source (slots.Due source ∷ rest)) in
    let b = length-append (rank_at before.rows source) (named_in place source row) in
    let one : named_in place source (slots.Due source ∷ rest) ≡ place ∷ named_in place source rest =
    ap (λ t. (if t then place ∷ [] else []) ++ named_in place source rest) (same_number source) in
    let long = ap length one in
    let it = ap (λ rs. slice_index_or rs source 0) rooms in
    omega (arith, room, same, a, b, long, it)

pub entering_done : (place : ℕ) (row : List Slot) (before now : List (List ℕ)) → IsEntering place row [] before now
    → IsEntered place row before now
entering_done place row before now h = record { long = h.long; each = λ m. sym (append-nil (rank_at now m)) ∙ h.each m }

-- ---- due by due

-- so are the lists of all dues before this place
pub record IsNaming (rows : List (List Slot)) (lists : List (List ℕ)) (place : ℕ) : Type 0 where
  pub long : length lists ≡ length rows
  pub each : (m : ℕ) → rank_at lists m ++ named m (drop place rows) place ≡ named m rows 0

all-empty : (lists : List (List ℕ)) (m : ℕ) → AreEmpty lists → rank_at lists m ≡ []
all-empty [] m all = refl
all-empty (list ∷ lists) zero all = all.0
all-empty (list ∷ lists) (suc m) all = all-empty lists m all.1

pub naming_none : (rows : List (List Slot)) (lists : List (List ℕ)) → length lists ≡ length rows → AreEmpty lists → IsNaming rows lists 0
naming_none rows lists long h = record { long = long; each = λ m. ap (λ list. list ++ named m rows 0) (all-empty lists m h) }

pub naming_next : (rows : List (List Slot)) (lists later : List (List ℕ)) (place : ℕ) (row : List Slot)
    → IsNaming rows lists place → drop place rows ≡ row ∷ drop (place + 1) rows → IsEntered place row lists later
    → IsNaming rows later (place + 1)
naming_next rows lists later place row h e entered = record {
  long = entered.long ∙ h.long;
  each = λ m.
      let one : place + 1 ≡ suc place = omega arith in
      ap (λ list. list ++ named m (drop (place + 1) rows) (place + 1)) (entered.each m)
      ∙ append_assoc (rank_at lists m) (named_in place m row) (named m (drop (place + 1) rows) (place + 1))
      ∙ ap (λ k. rank_at lists m ++ (named_in place m row ++ named m (drop (place + 1) rows) k)) one
      ∙ ap (λ rs. rank_at lists m ++ named m rs place) (sym e) ∙ h.each m;
}

pub naming_done : (rows : List (List Slot)) (lists : List (List ℕ)) (place : ℕ) → length rows ≤ place → IsNaming rows lists place
    → AreNamed rows lists
naming_done rows lists place l h = record {
  long = h.long;
  each = λ m. sym (append-nil (rank_at lists m)) ∙ ap (λ rs. rank_at lists m ++ named m rs place) (sym (drop_of_length-le rows l)) ∙ h.each m;
}

-- ---- how many are named

turned : (a b : ℕ) → nat_eq a b ≡ nat_eq b a
turned a b = pick (eqb_tells a b) (eqb_tells b a)
  where
    pick : ((nat_eq a b ≡ true) × (a ≡ b)) ⊎ ((nat_eq a b ≡ false) × (a ≡ b → ⊥))
        → ((nat_eq b a ≡ true) × (b ≡ a)) ⊎ ((nat_eq b a ≡ false) × (b ≡ a → ⊥)) → nat_eq a b ≡ nat_eq b a
    pick (inl t) (inl u) = t.0 ∙ sym u.0
    pick (inl t) (inr g) = absurd (g.1 (sym t.1))
    pick (inr f) (inl u) = absurd (f.1 (sym u.1))
    pick (inr f) (inr g) = f.0 ∙ sym g.0

length-named_in : (place m : ℕ) (row : List Slot) → length (named_in place m row) ≡ times m (dues_in row)
length-named_in place m [] = refl
length-named_in place m (slots.Kept number ∷ row) = length-named_in place m row
length-named_in place m (slots.Due source ∷ row) =
    length-append (if nat_eq source m then place ∷ [] else []) (named_in place m row)
    ∙ ap (λ n. length (if nat_eq source m then place ∷ [] else []) + n) (length-named_in place m row)
    ∙ ap (λ n. n + times m (dues_in row)) (one (nat_eq source m) ∙ ap one_if (turned source m))
  where
    one : (b : Bool) → length (if b then place ∷ [] else []) ≡ one_if b
    one true = refl
    one false = refl

length-named : (m : ℕ) (rows : List (List Slot)) (k : ℕ) → length (named m rows k) ≡ total (λ row. times m (dues_in row)) rows
length-named m [] k = refl
length-named m (row ∷ rows) k =
    length-append (named_in k m row) (named m rows (suc k)) ∙ ap (λ n. n + length (named m rows (suc k))) (length-named_in k m row)
    ∙ ap (λ n. times m (dues_in row) + n) (length-named m rows (suc k))

-- the dues at a place have room, where each list has room for all that will be named
pub naming_room : (rows : List (List Slot)) (lists : Binned) (counts : List ℕ) (place : ℕ) (row : List Slot) → IsNaming rows lists.rows place
    → lists.rooms ≡ counts → AreCounted rows counts → drop place rows ≡ row ∷ drop (place + 1) rows → HaveRoom place row lists
naming_room rows lists counts place row h rooms counted e = λ m low.
    let all = ap length (h.each m) in
    let a = length-append (rank_at lists.rows m) (named m (drop place rows) place) in
    let whole = length-named m rows 0 in
    let here = ap (λ rs. length (named m rs place)) e in
    let b = length-append (named_in place m row) (named m (drop (place + 1) rows) (suc place)) in
    let room = ap (λ rs. slice_index_or rs m 0) rooms in
    let count = counted.each m in
    omega (arith, all, a, whole, here, b, room, count)

-- ---- counts

-- what is counted so far, and what is to come, is all of the row
pub record IsCounting (row rest : List Slot) (before now : List ℕ) : Type 0 where
  pub long : length now ≡ length before
  pub below : AreBelow (length before) rest
  pub each : (m : ℕ) → slice_index_or now m 0 + times m (dues_in rest) ≡ slice_index_or before m 0 + times m (dues_in row)

pub counting_kept : (number : ℕ) (row rest : List Slot) (before now : List ℕ) → IsCounting row (slots.Kept number ∷ rest) before now
    → IsCounting row rest before now
counting_kept number row rest before now h = record { long = h.long; below = h.below; each = h.each }

pub counting_due : (source : ℕ) (row rest : List Slot) (before now later : List ℕ) → IsCounting row (slots.Due source ∷ rest) before now
    → later ≡ set now source (slice_index_or now source 0 + 1) → IsCounting row rest before later
counting_due source row rest before now later h is = record {
  long = ap length is ∙ length-set now source (slice_index_or now source 0 + 1) ∙ h.long;
  below = h.below.1;
  each = λ m. ap (λ xs. slice_index_or xs m 0 + times m (dues_in rest)) is ∙ by m (eqb_tells m source) ∙ h.each m;
}
  where
    by : (m : ℕ) → ((nat_eq m source ≡ true) × (m ≡ source)) ⊎ ((nat_eq m source ≡ false) × (m ≡ source → ⊥))
        → slice_index_or (set now source (slice_index_or now source 0 + 1)) m 0 + times m (dues_in rest)
        ≡ slice_index_or now m 0 + (one_if (nat_eq m source) + times m (dues_in rest))
    by m (inl t) =
        let long = h.long in
        let low = h.below.0 in
        let same = ap (λ j. slice_index_or (set now source (slice_index_or now source 0 + 1)) j 0) t.1
        ∙ get_or-set_same now source (slice_index_or now source 0 + 1) 0 (omega (arith, long, low)) in
        let old = ap (λ j. slice_index_or now j 0) t.1 in
        let one = ap one_if t.0 in
        omega (arith, same, old, one)
    by m (inr f) =
        let same = get_or-set_other now source m (slice_index_or now source 0 + 1) 0 f.1 in
        let none = ap one_if f.0 in
        omega (arith, same, none)

pub counting_done : (row : List Slot) (before now : List ℕ) → IsCounting row [] before now → IsCounted row before now
counting_done row before now h = record { long = h.long; each = λ m. let all = h.each m in omega (arith, all) }

-- and of the rows before a place
pub record IsAdding (rows : List (List Slot)) (counts : List ℕ) (place : ℕ) : Type 0 where
  pub long : length counts ≡ length rows
  pub each : (m : ℕ) → slice_index_or counts m 0 + total (λ row. times m (dues_in row)) (drop place rows) ≡ total (λ row. times m (dues_in row)) rows

pub adding_none : (rows : List (List Slot)) (counts : List ℕ) → counts ≡ replicate (length rows) 0 → IsAdding rows counts 0
adding_none rows counts is = record {
  long = ap length is ∙ length-replicate (length rows) 0;
  each = λ m. ap (λ n. n + total (λ row. times m (dues_in row)) rows) (ap (λ xs. slice_index_or xs m 0) is ∙ zero-at (length rows) m)
      ∙ past-zero (total (λ row. times m (dues_in row)) rows);
}
  where
    zero-at : (n m : ℕ) → ◌≡◌ {A = ℕ} (slice_index_or (replicate n 0) m 0) 0
    zero-at zero m = refl
    zero-at (suc n) zero = refl
    zero-at (suc n) (suc m) = zero-at n m

    past-zero : (n : ℕ) → 0 + n ≡ n
    past-zero n = omega arith

pub adding_next : (rows : List (List Slot)) (counts later : List ℕ) (place : ℕ) (row : List Slot) → IsAdding rows counts place
    → drop place rows ≡ row ∷ drop (place + 1) rows → IsCounted row counts later → IsAdding rows later (place + 1)
adding_next rows counts later place row h e counted = record {
  long = counted.long ∙ h.long;
  each = λ m.
      let all = h.each m in
      let here = ap (total (λ row. times m (dues_in row))) e in
      let more = counted.each m in
      omega (arith, all, here, more);
}

pub adding_done : (rows : List (List Slot)) (counts : List ℕ) (place : ℕ) → length rows ≤ place → IsAdding rows counts place → AreCounted rows counts
adding_done rows counts place l h = record {
  long = h.long;
  each = λ m.
      let all = h.each m in
      let none = ap (total (λ row. times m (dues_in row))) (drop_of_length-le rows l) in
      omega (arith, all, none);
}

-- ---- rows

-- the row at a place, and those after it
pub rows-from : (rows : List (List Slot)) (k : ℕ) (row : List Slot) → k < length rows → row ≡ slice_index_or rows k []
    → drop k rows ≡ row ∷ drop (k + 1) rows
rows-from rows k row l e = drop_more rows k [] l ∙ ap (λ r. r ∷ drop (k + 1) rows) (sym e)

pub below-at : (count : ℕ) (rows : List (List Slot)) (k : ℕ) (row : List Slot) → k < length rows → row ≡ slice_index_or rows k []
    → AllByRecursion (AreBelow count) rows → AreBelow count row
below-at count [] k row l e all = absurd (omega arith)
below-at count (r ∷ rs) zero row l e all = subst (AreBelow count) (sym e) all.0
below-at count (r ∷ rs) (suc k) row l e all = below-at count rs k row (omega arith) e all.1

-- the places of what is due are below their number
below_row : (dues : List Due) (sources : List ℕ) → AreBelow (length dues) (map (slot_of (numbers_of dues)) sources)
below_row dues [] = tt
below_row dues (s ∷ ss) = by (position (nat_eq s) (numbers_of dues)) (place_within dues s) (below_row dues ss)
  where
    by : (found : Option ℕ) → ((place : ℕ) → found ≡ Some place → place < length dues)
        → AreBelow (length dues) (map (slot_of (numbers_of dues)) ss)
        → AreBelow (length dues) (slot_or s found ∷ map (slot_of (numbers_of dues)) ss)
    by None within rest = rest
    by (Some place) within rest = (within place refl, rest)

pub below-slots : (all dues : List Due) → AllByRecursion (AreBelow (length all)) (slots_with (numbers_of all) dues)
below-slots all [] = tt
below-slots all (d ∷ ds) = (below_row all d.sources.items, below-slots all ds)

pub length-slots : (all dues : List Due) → length (slots_with (numbers_of all) dues) ≡ length dues
length-slots all [] = refl
length-slots all (d ∷ ds) = ap suc (length-slots all ds)

-- ---- starts

-- those so far, and those to come, are all
abbrev pub AreBegun : List (List Slot) → List ℕ → ℕ → Type 0
AreBegun rows found place = found ++ begun (drop place rows) place ≡ begun rows 0

pub begun_next : (rows : List (List Slot)) (found : List ℕ) (place : ℕ) (row : List Slot) → AreBegun rows found place
    → drop place rows ≡ row ∷ drop (place + 1) rows → is_start row ≡ true → AreBegun rows (found ++ place ∷ []) (place + 1)
begun_next rows found place row h e start =
    let one : place + 1 ≡ suc place = omega arith in
    append_assoc found (place ∷ []) (begun (drop (place + 1) rows) (place + 1))
    ∙ ap (λ k. found ++ place ∷ begun (drop (place + 1) rows) k) one
    ∙ ap (λ b. found ++ (if b then place ∷ begun (drop (place + 1) rows) (suc place) else begun (drop (place + 1) rows) (suc place))) (sym start)
    ∙ ap (λ rs. found ++ begun rs place) (sym e) ∙ h

pub begun_past : (rows : List (List Slot)) (found : List ℕ) (place : ℕ) (row : List Slot) → AreBegun rows found place
    → drop place rows ≡ row ∷ drop (place + 1) rows → is_start row ≡ false → AreBegun rows found (place + 1)
begun_past rows found place row h e start =
    let one : place + 1 ≡ suc place = omega arith in
    ap (λ k. found ++ begun (drop (place + 1) rows) k) one
    ∙ ap (λ b. found ++ (if b then place ∷ begun (drop (place + 1) rows) (suc place) else begun (drop (place + 1) rows) (suc place))) (sym start)
    ∙ ap (λ rs. found ++ begun rs place) (sym e) ∙ h

pub begun_done : (rows : List (List Slot)) (found : List ℕ) (place : ℕ) → length rows ≤ place → AreBegun rows found place
    → found ≡ begun rows 0
begun_done rows found place l h =
    sym (append-nil found) ∙ ap (λ rs. found ++ begun rs place) (sym (drop_of_length-le rows l)) ∙ h

-- ---- what is to come, one by one

pub from-here : {A : Type 0} (xs : List A) (k : ℕ) (x : A) → k < length xs → x ≡ get_or xs k x → drop k xs ≡ x ∷ drop (k + 1) xs
from-here [] k x l e = absurd (omega arith)
from-here (y ∷ ys) zero x l e = ap (λ z. z ∷ ys) (sym e)
from-here (y ∷ ys) (suc k) x l e =
    let one : suc (k + 1) ≡ suc k + 1 = omega arith in
    from-here ys k x (omega arith) e ∙ ap (λ i. x ∷ drop i (y ∷ ys)) one

-- what was pushed so far, and what is to come, is all
abbrev pub AreMapped : {A B : Type 0} → (A → B) → List A → List B → ℕ → Type 0
AreMapped f xs ys k = ys ++ map f (drop k xs) ≡ map f xs

pub mapped_next : {A B : Type 0} (f : A → B) (xs : List A) (old new : List B) (k : ℕ) (x : A) → AreMapped f xs old k
    → drop k xs ≡ x ∷ drop (k + 1) xs → new ≡ old ++ f x ∷ [] → AreMapped f xs new (k + 1)
mapped_next f xs old new k x h e is =
    ap (λ ys. ys ++ map f (drop (k + 1) xs)) is ∙ append_assoc old (f x ∷ []) (map f (drop (k + 1) xs))
    ∙ ap (λ zs. old ++ map f zs) (sym e) ∙ h

pub mapped_done : {A B : Type 0} (f : A → B) (xs : List A) (ys : List B) (k : ℕ) → length xs ≤ k → AreMapped f xs ys k
    → ys ≡ map f xs
mapped_done f xs ys k l h = sym (append-nil ys) ∙ ap (λ zs. ys ++ map f zs) (sym (drop_of_length-le xs l)) ∙ h

-- ---- the slot of a number that is looked up

no-place : (n : ℕ) (numbers : List ℕ) (place : ℕ) → position (nat_eq n) numbers ≡ None → slice_get numbers place ≡ Some n → ⊥
no-place n numbers place none at = by (nat_lt (position_or_len (nat_eq n) numbers) (length numbers)) refl none
  where
    by : (b : Bool) → nat_lt (position_or_len (nat_eq n) numbers) (length numbers) ≡ b
        → cond b (Some (position_or_len (nat_eq n) numbers)) None ≡ None → ⊥
    by true is clash = cc
    by false is e =
        let past : length numbers ≤ position_or_len (nat_eq n) numbers = grind (arith, nat_tests) in
        let low = slice_get_within numbers place n at in
        let fails = fails_before_first (nat_eq n) numbers place 0 (omega (arith, low, past)) in
        true≢false (sym (same_number n) ∙ ap (nat_eq n) (sym (get_or_from_slice_get numbers place n 0 at)) ∙ fails)

placed-at : (n : ℕ) (numbers : List ℕ) (place : ℕ) → position (nat_eq n) numbers ≡ Some place → slice_get numbers place ≡ Some n
placed-at n numbers place is =
    let at = position-Some (nat_eq n) numbers place 0 is in
    slice_get-get_or numbers place 0 at.0 ∙ ap Some (sym (eqb-true n (get_or numbers place 0) at.1))

pub slot-looked_up : (numbers : List ℕ) (n : ℕ) (found : Option ℕ) → IfSome found (λ place. slice_get numbers place ≡ Some n)
    → ((place : ℕ) → slice_get numbers place ≡ Some n → found ≡ Some place) → slot_or n found ≡ slot_of numbers n
slot-looked_up numbers n found there only = by (position (nat_eq n) numbers) refl
  where
    none : position (nat_eq n) numbers ≡ None → (f : Option ℕ) → IfSome f (λ place. slice_get numbers place ≡ Some n) → slot_or n f ≡ slots.Kept n
    none is None at = refl
    none is (Some place) at = absurd (no-place n numbers place is at)

    by : (p : Option ℕ) → position (nat_eq n) numbers ≡ p → slot_or n found ≡ slot_of numbers n
    by None is = none is found there ∙ sym (ap (slot_or n) is)
    by (Some place) is = ap (slot_or n) (only place (placed-at n numbers place is)) ∙ sym (ap (slot_or n) is)

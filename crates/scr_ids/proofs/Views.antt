-- What contracts see of the rolls, where those of one table changed.
use Rattle.std.proofs.Common.{◌≡◌, ℕ, ◌+◌, ◌-◌, ◌<◌, ◌≤◌, ⊎_elim, false, [], ◌∷◌, ◌++◌, length, get_or, refl, sym, ap, subst, ◌∙◌, arith}
use Rattle.std.proofs.lemmas.Bool.{cases_Bool}
use Rattle.std.proofs.lemmas.List.{get_or_append_left, get_or_push, get_or_read, length_push}
use Rattle.scr_ids.specs.Ranges.{IsApart, IsAt, IsWithin, Numbered, RangeList, count, first, first_in, made, roll_at, same_table, stride}
use Rattle.scr_ids.specs.Moves.{IsSameBut, Sunk}
use Rattle.scr_ids.specs.Steps.{IsRollsBut}
use Rattle.scr_ids.specs.Kept.{AreKept, AreRuns, IsKept, IsListed, IsOf, IsOwned, IsOwner, Range, numbered_of, owner_at, owners, place_at, range_at, range_of, ranges_in, ranges_of}
use Rattle.scr_ids.specs.declared.places.Places.TheInside.{Inside}
use Rattle.scr_ids.specs.declared.places.Owner.{Owner}
use Rattle.scr_ids.specs.declared.table.Table.{Table}
use Rattle.scr_ids.proofs.Tables.{kept-same, same_table-is, stride-some}
use Rattle.scr_ids.proofs.Runs.{owner-is, owner-known, owner-range}

pub count-is : (places : Numbered) (table : Table) → count places table ≡ (roll_at places.rolls table).live
unfolding count
count-is places table = refl

pub made-is : (places : Numbered) (table : Table) → made places table ≡ length (roll_at places.rolls table).firsts
unfolding made
made-is places table = refl

pub first-is : (places : Numbered) (table : Table) (k : ℕ) → first places table k ≡ first_in (roll_at places.rolls table).firsts k
unfolding first
first-is places table k = refl

-- what holds of a table and of all others holds of all
pub of_all : (P : Table → Type 0) (table : Table) → P table → ((other : Table) → same_table table other ≡ false → P other)
    → (any : Table) → P any
of_all P table own others any =
    ⊎_elim (λ t. subst P (same_table-is table any t) own) (λ f. others any f) (cases_Bool (same_table table any))

module _ (before now : Numbered) (table : Table) (rolls : IsRollsBut table before.rolls now.rolls) where
  pub others-same : IsSameBut table before now
  others-same = record {
    counts = λ other f. count-is now other ∙ ap (λ (r : RangeList). r.live) (rolls.others other f) ∙ sym (count-is before other);
    ranges = λ other f.
        made-is now other ∙ ap (λ (r : RangeList). length r.firsts) (rolls.others other f) ∙ sym (made-is before other);
    firsts = λ other f k.
        first-is now other k ∙ ap (λ (r : RangeList). first_in r.firsts k) (rolls.others other f) ∙ sym (first-is before other k);
  }

  module _ (firsts : (roll_at now.rolls table).firsts ≡ (roll_at before.rolls table).firsts) where
    pub made-same : made now table ≡ made before table
    made-same = made-is now table ∙ ap length firsts ∙ sym (made-is before table)

    pub first-same : (k : ℕ) → first now table k ≡ first before table k
    first-same k = first-is now table k ∙ ap (λ fs. first_in fs k) firsts ∙ sym (first-is before table k)

    pub made-all : (any : Table) → made now any ≡ made before any
    made-all = of_all (λ any. made now any ≡ made before any) table made-same others-same.ranges

    pub first-all : (any : Table) (k : ℕ) → first now any k ≡ first before any k
    first-all = of_all (λ any. (k : ℕ) → first now any k ≡ first before any k) table first-same others-same.firsts

-- where only the number of a table's rows is another
pub kept-live : (before now : Inside) → IsKept before → (table : Table)
    → IsRollsBut table before.rolls.items now.rolls.items
    → (roll_at now.rolls.items table).firsts ≡ (roll_at before.rolls.items table).firsts
    → now.runs.items ≡ before.runs.items → now.places.items ≡ before.places.items → now.size ≡ before.size
    → count (numbered_of now) table ≤ made (numbered_of before) table → IsKept now
kept-live before now kept table rolls firsts runs places size live = record {
  tables = rolls.tables ∙ kept.tables;
  live = of_all (λ any. count b any ≤ made b any) table
      (omega (arith, live, made-same a b table rolls firsts))
      (λ other f. let old = kept.live other in
      omega (arith, old, (others-same a b table rolls).counts other f, (others-same a b table rolls).ranges other f));
  few = λ any. let old = kept.few any in omega (arith, old, made-all a b table rolls firsts any, ap length places);
  numbers = omega (arith, kept.numbers, ap length places, ap length owner);
  end = omega (arith, kept.end, ap length owner, size);
  size = omega (arith, kept.size, size);
  runs = subst (λ rs. AreRuns rs (length now.places.items) now.size) (sym runs)
      (subst (λ ps. AreRuns before.runs.items (length ps) now.size) (sym places)
      (subst (AreRuns before.runs.items (length before.places.items)) (sym size) kept.runs));
  ranges = subst (λ rs. AreKept (made b) (first b) rs (owners (ranges_in now))) (sym ranges)
      (subst (AreKept (made b) (first b) (ranges_in before)) (sym owner)
      (kept-same (made a) (made b) (first a) (first b) (ranges_in before) (owners (ranges_in before))
      (made-all a b table rolls firsts) (first-all a b table rolls firsts) kept.ranges));
}
  where
    a : Numbered
    a = numbered_of before

    b : Numbered
    b = numbered_of now

    ranges : ranges_in now ≡ ranges_in before
    ranges = ap (λ rs. ranges_of rs now.places.items) runs ∙ ap (ranges_of before.runs.items) places

    owner : owners (ranges_in now) ≡ owners (ranges_in before)
    owner = ap owners ranges

-- ---- what is read

module _ (places : Inside) (kept : IsKept places) (value : Numbered) (view : numbered_of places ≡ value) where
  pub live-made : (table : Table) → count value table ≤ made value table
  live-made table = subst (λ v. count v table ≤ made v table) view (kept.live table)

  owned : (table : Table) (k j number : ℕ) → IsAt value table k j number
      → IsOwned (ranges_in places) (owners (ranges_in places)) table k (first value table k) j
  owned table k j number at =
      let some : k < made value table = let less = live-made table in omega (arith, at.row, less) in
      subst (λ v. IsOwned (ranges_in places) (owners (ranges_in places)) table k (first v table k) j) view
      (kept.ranges.owned table k j (subst (λ v. k < made v table) (sym view) some) at.family)

  -- a number of a row is owned by its range
  pub at-owned : (table : Table) (k j number : ℕ) → IsAt value table k j number
      → range_at (ranges_in places) (owner_at (owners (ranges_in places)) number) ≡ range_of table k (first value table k)
  at-owned table k j number at =
      subst (λ n. range_at (ranges_in places) (owner_at (owners (ranges_in places)) n) ≡ range_of table k (first value table k)) at.is
      (owned table k j number at).is

  pub at-within : (table : Table) (k j number : ℕ) → IsAt value table k j number → number < length (owners (ranges_in places))
  at-within table k j number at =
      subst (λ n. n < length (owners (ranges_in places))) at.is (owned table k j number at).within

  pub within : IsWithin value
  within number table k j at =
      subst (λ v. number < v.size) view (at-within table k j number at)

  pub apart : IsApart value
  apart number table k j other m i at at' =
      let same : range_of table k (first value table k) ≡ range_of other m (first value other m) =
      sym (at-owned table k j number at) ∙ at-owned other m i number at' in
      let start = ap (λ (r : Range). r.first) same in
      record {
        tables = ap (λ (r : Range). r.table) same;
        rows = ap (λ (r : Range). r.place) same;
        families = omega (arith, at.is, at'.is, start);
      }

  -- the numbers of a row are below the size
  pub below-size : (table : Table) (k : ℕ) → k < made value table → first value table k + stride table ≤ length (owners (ranges_in places))
  below-size table k inside =
      let some = stride-some table in
      let j : ℕ = stride table - 1 in
      let at = kept.ranges.owned table k j (subst (λ v. k < made v table) (sym view) inside) (omega (arith, some)) in
      let last = at.within in
      let start : first (numbered_of places) table k ≡ first value table k = ap (λ v. first v table k) view in
      omega (arith, some, last, start)

  -- what is found of a number that is below the size
  module _ (number : ℕ) (below : number < length (owners (ranges_in places))) (owner : Owner)
      (found : IsOwner places.runs.items number owner) where
    held : IsOf (ranges_in places) number (owner_at (owners (ranges_in places)) number)
    held = kept.ranges.held number below

    pub found-is : owner.id ≡ owner_at (owners (ranges_in places)) number
    found-is = owner-is places.runs.items places.places.items kept.runs.turn number held owner found

    pub found-known : owner.id < length places.places.items
    found-known = owner-known places.runs.items places.places.items kept.runs.turn number held owner found

    found-range : range_at (ranges_in places) owner.id ≡ range_of owner.table (place_at places.places.items owner.id) (number - owner.family)
    found-range = owner-range places.runs.items places.places.items kept.runs.turn number held owner found

    family-low : owner.family ≤ number
    family-low = omega (arith, found.is)

    -- what is read there is its place
    pub found-read : (row : ℕ) → row ≡ get_or places.places.items owner.id row → row ≡ place_at places.places.items owner.id
    found-read row read = get_or_read places.places.items owner.id row found-known read 0

    -- the row that has it, if it stands
    pub found-at : place_at places.places.items owner.id < count value owner.table
        → IsAt value owner.table (place_at places.places.items owner.id) owner.family number
    found-at room =
        let listed = kept.ranges.listed owner.id (subst (λ n. n < length (ranges_in places)) (sym found-is) held.known) in
        let start = (subst (IsListed (made (numbered_of places)) (first (numbered_of places)) (owners (ranges_in places)) owner.id) found-range listed).start in
        let same : first (numbered_of places) owner.table (place_at places.places.items owner.id)
        ≡ first value owner.table (place_at places.places.items owner.id) =
        ap (λ v. first v owner.table (place_at places.places.items owner.id)) view in
        record { row = room; family = found.family; is = omega (arith, start, same, family-low) }

    -- a row that has it stands in the table and at the place that were found
    pub found-row : (table : Table) (k j : ℕ) → IsAt value table k j number
        → (owner.table ≡ table) × (place_at places.places.items owner.id ≡ k)
    found-row table k j at =
        let same : range_of owner.table (place_at places.places.items owner.id) (number - owner.family) ≡ range_of table k (first value table k) =
        sym found-range ∙ ap (range_at (ranges_in places)) found-is ∙ at-owned table k j number at in
        (ap (λ (r : Range). r.table) same, ap (λ (r : Range). r.place) same)

    -- so where that row went, none has it
    pub found-none : count value owner.table ≤ place_at places.places.items owner.id → (table : Table) (k j : ℕ)
        → IsAt value table k j number → ⊥
    found-none gone table k j at =
        let of = found-row table k j at in
        let row : k < count value owner.table = subst (λ t. k < count value t) (sym of.0) at.row in
        let place = of.1 in
        absurd (omega (arith, gone, row, place))

-- ---- what the roll of a table tells

module _ (places : Inside) (value : Numbered) (view : numbered_of places ≡ value) (table : Table) (roll : RangeList)
    (is : roll ≡ roll_at places.rolls.items table) where
  pub roll-made : length roll.firsts ≡ made value table
  roll-made = ap (λ (r : RangeList). length r.firsts) is ∙ sym (made-is (numbered_of places) table) ∙ ap (λ v. made v table) view

  pub roll-first : (k : ℕ) → first_in roll.firsts k ≡ first value table k
  roll-first k = ap (λ (r : RangeList). first_in r.firsts k) is ∙ sym (first-is (numbered_of places) table k) ∙ ap (λ v. first v table k) view

-- rows that moved among those of a table
pub sunk-is : (a b : Numbered) (table : Table) (low high : ℕ)
    → Sunk low high (first_in (roll_at a.rolls table).firsts) (first_in (roll_at b.rolls table).firsts)
    → Sunk low high (first a table) (first b table)
unfolding first
sunk-is a b table low high s = record { below = s.below; between = s.between; moved = s.moved; above = s.above }

-- one more range at the end of a table's
module _ (a b : Numbered) (table : Table) (start : ℕ)
    (firsts : (roll_at b.rolls table).firsts ≡ (roll_at a.rolls table).firsts ++ start ∷ []) where
  pub made-more : made b table ≡ made a table + 1
  made-more =
      made-is b table ∙ ap length firsts ∙ length_push (roll_at a.rolls table).firsts start
      ∙ ap (λ n. n + 1) (sym (made-is a table))

  pub first-old : (k : ℕ) → k < made a table → first b table k ≡ first a table k
  first-old k less =
      first-is b table k ∙ ap (λ fs. first_in fs k) firsts
      ∙ get_or_append_left (roll_at a.rolls table).firsts (start ∷ []) 0 k (subst (λ n. k < n) (made-is a table) less)
      ∙ sym (first-is a table k)

  pub first-new : first b table (made a table) ≡ start
  first-new =
      first-is b table (made a table) ∙ ap (λ fs. first_in fs (made a table)) firsts
      ∙ get_or_push (roll_at a.rolls table).firsts start 0 (made a table) (sym (made-is a table))

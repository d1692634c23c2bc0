-- One more range, of the numbers after all others.
use Rattle.std.proofs.Common.{◌≡◌, ℕ, zero, suc, ◌+◌, ◌-◌, ◌<◌, ◌≤◌, ◌⊎◌, inl, inr, ⊎_elim, false, List, [], ◌∷◌, ◌++◌, length, replicate, refl, sym, ap, subst, ◌∙◌, arith}
use Rattle.std.proofs.lemmas.Bool.{cases_lt, cases_Bool}
use Rattle.std.proofs.lemmas.List.{length_push, length-append, length-replicate, get_or_push, get_or_append_left, get_or-append_right, get_or-replicate}
use Rattle.scr_ids.specs.Ranges.{Numbered, RangeList, count, first, made, no_ranges, roll_at, same_table, stride}
use Rattle.scr_ids.specs.Moves.{IsNew, IsSameBut}
use Rattle.scr_ids.specs.Steps.{IsRollsBut, Made, Revived}
use Rattle.scr_ids.specs.Kept.{AreKept, AreRuns, IsKept, IsListed, IsOf, IsOwned, Follow, Range, first_run, numbered_of, owner_at, owners, range_at, range_of, ranges_in, ranges_of, run_at}
use Rattle.scr_ids.specs.declared.places.Places.TheInside.{Inside}
use Rattle.scr_ids.specs.declared.table.Table.{Table}
use Rattle.scr_ids.specs.declared.table.Table.TheVariants as tables
use Rattle.scr_ids.proofs.Tables.{same_table-is, stride-some}
use Rattle.scr_ids.proofs.Owners.{owners-push}
use Rattle.scr_ids.proofs.Views.{count-is, first-new, first-old, made-is, made-more, of_all, others-same}

module _ (made_in : Table → ℕ) (first_of : Table → ℕ → ℕ) (ranges : List Range) (owner : List ℕ)
    (kept : AreKept made_in first_of ranges owner) (table : Table) where
  abbrev id : ℕ
  id = length ranges

  abbrev size : ℕ
  size = length owner

  abbrev place : ℕ
  place = made_in table

  abbrev more_ranges : List Range
  more_ranges = ranges ++ range_of table place size ∷ []

  abbrev more_owner : List ℕ
  more_owner = owner ++ replicate (stride table) id

  ranges-length : length more_ranges ≡ id + 1
  ranges-length = length_push ranges (range_of table place size)

  pub owner-length : length more_owner ≡ size + stride table
  owner-length = length-append owner (replicate (stride table) id) ∙ ap (λ n. size + n) (length-replicate (stride table) id)

  range-old : (n : ℕ) → n < id → range_at more_ranges n ≡ range_at ranges n
  range-old n known = get_or_append_left ranges (range_of table place size ∷ []) _ n known

  range-new : range_at more_ranges id ≡ range_of table place size
  range-new = get_or_push ranges (range_of table place size) _ id refl

  owner-old : (n : ℕ) → n < size → owner_at more_owner n ≡ owner_at owner n
  owner-old n within = get_or_append_left owner (replicate (stride table) id) 0 n within

  owner-new : (n : ℕ) → size ≤ n → n < size + stride table → owner_at more_owner n ≡ id
  owner-new n least most =
      get_or-append_right owner (replicate (stride table) id) size n 0 refl least
      ∙ get_or-replicate (stride table) (n - size) id 0 (omega arith)

  module _ (made_now : Table → ℕ) (first_now : Table → ℕ → ℕ)
      (made_others : (other : Table) → same_table table other ≡ false → made_now other ≡ made_in other)
      (first_others : (other : Table) → same_table table other ≡ false → (m : ℕ) → first_now other m ≡ first_of other m)
      (one_more : made_now table ≡ place + 1)
      (stays : (m : ℕ) → m < place → first_now table m ≡ first_of table m)
      (start : first_now table place ≡ size) where
    -- a place is the new one, or one that was there
    record IsOld (other : Table) (m : ℕ) : Type 0 where
      room : m < made_in other
      same : first_now other m ≡ first_of other m

    abbrev Which : Table → ℕ → Type 0
    Which other m = ((other ≡ table) × (m ≡ place)) ⊎ IsOld other m

    on_table : (m : ℕ) → m < made_now table → Which table m
    on_table m room = ⊎_elim
        (λ less. inr (record { room = less; same = stays m less }))
        (λ least. inl (refl, omega (arith, one_more)))
        (cases_lt m place)

    which : (other : Table) (m : ℕ) → m < made_now other → Which other m
    which other m room = ⊎_elim
        (λ t. let e = same_table-is table other t in
        subst (λ o. Which o m) e (on_table m (subst (λ o. m < made_now o) (sym e) room)))
        (λ f. inr (record { room = subst (λ n. m < n) (made_others other f) room; same = first_others other f m }))
        (cases_Bool (same_table table other))

    owned-new : (j : ℕ) → j < stride table → IsOwned more_ranges more_owner table place size j
    owned-new j family =
        let at : owner_at more_owner (size + j) ≡ id = owner-new (size + j) (omega arith) (omega arith) in
        record {
          within = omega (arith, owner-length);
          known = subst (λ n. n < length more_ranges) (sym at) (omega (arith, ranges-length));
          is = ap (range_at more_ranges) at ∙ range-new;
        }

    owned-old : (other : Table) (m j : ℕ) → m < made_in other → j < stride other
        → IsOwned more_ranges more_owner other m (first_of other m) j
    owned-old other m j room family =
        let owned = kept.owned other m j room family in
        let at = owner-old (first_of other m + j) owned.within in
        record {
          within = omega (arith, owned.within, owner-length);
          known = subst (λ n. n < length more_ranges) (sym at) (omega (arith, owned.known, ranges-length));
          is = ap (range_at more_ranges) at ∙ range-old (owner_at owner (first_of other m + j)) owned.known ∙ owned.is;
        }

    owned-more : (other : Table) (m j : ℕ) → m < made_now other → j < stride other
        → IsOwned more_ranges more_owner other m (first_now other m) j
    owned-more other m j room family = by (which other m room)
      where
        by : Which other m → IsOwned more_ranges more_owner other m (first_now other m) j
        by (inl at) =
            subst (λ o. IsOwned more_ranges more_owner o m (first_now o m) j) (sym at.0)
            (subst (λ n. IsOwned more_ranges more_owner table n (first_now table n) j) (sym at.1)
            (subst (λ s. IsOwned more_ranges more_owner table place s j) (sym start)
            (owned-new j (subst (λ o. j < stride o) at.0 family))))
        by (inr old) =
            subst (λ s. IsOwned more_ranges more_owner other m s j) (sym old.same) (owned-old other m j old.room family)

    -- what was there is there
    made-old : (other : Table) (m : ℕ) → m < made_in other → m < made_now other
    made-old other m room = ⊎_elim
        (λ t. let e = same_table-is table other t in
        subst (λ o. m < made_now o) e
        (let room' : m < place = subst (λ o. m < made_in o) (sym e) room in omega (arith, one_more)))
        (λ f. subst (λ n. m < n) (sym (made_others other f)) room)
        (cases_Bool (same_table table other))

    first-kept : (other : Table) (m : ℕ) → m < made_in other → first_now other m ≡ first_of other m
    first-kept other m room = ⊎_elim
        (λ t. let e = same_table-is table other t in
        subst (λ o. first_now o m ≡ first_of o m) e (stays m (subst (λ o. m < made_in o) (sym e) room)))
        (λ f. first_others other f m)
        (cases_Bool (same_table table other))

    listed-old : (n : ℕ) → n < id → IsListed made_now first_now more_owner n (range_at ranges n)
    listed-old n known = record {
      place = made-old range.table range.place of.place;
      start = first-kept range.table range.place of.place ∙ of.start;
      owns = λ j family. owner-old (range.first + j) (within j family) ∙ of.owns j family;
    }
      where
        range : Range
        range = range_at ranges n

        of : IsListed made_in first_of owner n range
        of = kept.listed n known

        within : (j : ℕ) → j < stride range.table → range.first + j < size
        within j family =
            subst (λ s. s + j < size) of.start (kept.owned range.table range.place j of.place family).within

    listed-more : (n : ℕ) → n < length more_ranges → IsListed made_now first_now more_owner n (range_at more_ranges n)
    listed-more n known = ⊎_elim
        (λ less. subst (IsListed made_now first_now more_owner n) (sym (range-old n less)) (listed-old n less))
        (λ least.
        let e : id ≡ n = omega (arith, ranges-length) in
        subst (λ i. IsListed made_now first_now more_owner i (range_at more_ranges i)) e
        (subst (IsListed made_now first_now more_owner id) (sym range-new) (record {
          place = omega (arith, one_more);
          start = start;
          owns = λ j family. owner-new (size + j) (omega arith) (omega arith);
        })))
        (cases_lt n id)

    held-more : (number : ℕ) → number < length more_owner → IsOf more_ranges number (owner_at more_owner number)
    held-more number within = ⊎_elim
        (λ less. subst (IsOf more_ranges number) (sym (owner-old number less)) (old less))
        (λ least. subst (IsOf more_ranges number) (sym (owner-new number least (omega (arith, owner-length)))) (record {
          known = omega (arith, ranges-length);
          low = subst (λ r. r.first ≤ number) (sym range-new) least;
          high = subst (λ r. number < r.first + stride r.table) (sym range-new) (omega (arith, owner-length));
        }))
        (cases_lt number size)
      where
        old : number < size → IsOf more_ranges number (owner_at owner number)
        old less =
            let of = kept.held number less in
            let at = range-old (owner_at owner number) of.known in
            record {
              known = omega (arith, of.known, ranges-length);
              low = subst (λ r. r.first ≤ number) (sym at) of.low;
              high = subst (λ r. number < r.first + stride r.table) (sym at) of.high;
            }

    pub kept-more : AreKept made_now first_now more_ranges more_owner
    kept-more = record { owned = owned-more; listed = listed-more; held = held-more }

-- ---- a range that was made

module _ (before now : Inside) (kept : IsKept before) (table : Table)
    (rolls : IsRollsBut table before.rolls.items now.rolls.items)
    (firsts : (roll_at now.rolls.items table).firsts ≡ (roll_at before.rolls.items table).firsts ++ length (owners (ranges_in before)) ∷ [])
    (live : (roll_at now.rolls.items table).live ≡ (roll_at before.rolls.items table).live)
    (ranges : (ranges_in now)
    ≡ (ranges_in before) ++ range_of table (made (numbered_of before) table) (length (owners (ranges_in before))) ∷ [])
    (runs : AreRuns now.runs.items (length now.places.items) now.size)
    (many : length now.places.items ≡ length before.places.items + 1)
    (size : now.size ≡ length (owners (ranges_in before)) + stride table)
    (fits : length (owners (ranges_in before)) + stride table < 4294967296) where
  owner : owners (ranges_in now) ≡ owners (ranges_in before) ++ replicate (stride table) (length (ranges_in before))
  owner = ap owners ranges
      ∙ owners-push (ranges_in before) (range_of table (made (numbered_of before) table) (length (owners (ranges_in before))))

  others : IsSameBut table (numbered_of before) (numbered_of now)
  others = others-same (numbered_of before) (numbered_of now) table rolls

  one-more : made (numbered_of now) table ≡ made (numbered_of before) table + 1
  one-more = made-more (numbered_of before) (numbered_of now) table (length (owners (ranges_in before))) firsts

  same-count : count (numbered_of now) table ≡ count (numbered_of before) table
  same-count = count-is (numbered_of now) table ∙ live ∙ sym (count-is (numbered_of before) table)

  old-firsts : (k : ℕ) → k < made (numbered_of before) table → first (numbered_of now) table k ≡ first (numbered_of before) table k
  old-firsts = first-old (numbered_of before) (numbered_of now) table (length (owners (ranges_in before))) firsts

  new-first : first (numbered_of now) table (made (numbered_of before) table) ≡ length (owners (ranges_in before))
  new-first = first-new (numbered_of before) (numbered_of now) table (length (owners (ranges_in before))) firsts

  owner-long : length (owners (ranges_in now)) ≡ length (owners (ranges_in before)) + stride table
  owner-long =
      ap length owner ∙ length-append (owners (ranges_in before)) (replicate (stride table) (length (ranges_in before)))
      ∙ ap (λ n. length (owners (ranges_in before)) + n) (length-replicate (stride table) (length (ranges_in before)))

  pub make-kept : IsKept now
  make-kept = record {
    tables = rolls.tables ∙ kept.tables;
    live = of_all (λ any. count (numbered_of now) any ≤ made (numbered_of now) any) table
        (let old = kept.live table in omega (arith, old, one-more, same-count))
        (λ other f. let old = kept.live other in omega (arith, old, others.counts other f, others.ranges other f));
    few = of_all (λ any. made (numbered_of now) any ≤ length now.places.items) table
        (let old = kept.few table in omega (arith, old, one-more, many))
        (λ other f. let old = kept.few other in omega (arith, old, many, others.ranges other f));
    numbers = let some = stride-some table in omega (arith, kept.numbers, many, owner-long, some);
    end = owner-long ∙ sym size;
    size = omega (arith, size, fits);
    runs = runs;
    ranges = subst (λ rs. AreKept (made (numbered_of now)) (first (numbered_of now)) rs (owners (ranges_in now))) (sym ranges)
        (subst (AreKept (made (numbered_of now)) (first (numbered_of now))
        ((ranges_in before) ++ range_of table (made (numbered_of before) table) (length (owners (ranges_in before))) ∷ [])) (sym owner)
        (kept-more (made (numbered_of before)) (first (numbered_of before)) (ranges_in before) (owners (ranges_in before)) kept.ranges
        table (made (numbered_of now)) (first (numbered_of now)) others.ranges others.firsts one-more old-firsts new-first));
  }

  pub make-made : Made table (numbered_of before) (numbered_of now)
  make-made = record {
    others = others;
    counts = same-count;
    ranges = one-more;
    firsts = old-firsts;
    start = new-first;
    size = owner-long;
  }

-- ---- nothing yet

module _ (places : Numbered) (empty : (table : Table) → roll_at places.rolls table ≡ no_ranges) where
  pub count-none : (table : Table) → count places table ≡ 0
  count-none table = count-is places table ∙ ap (λ (r : RangeList). r.live) (empty table)

  pub made-none : (table : Table) → made places table ≡ 0
  made-none table = made-is places table ∙ ap (λ (r : RangeList). length r.firsts) (empty table)

  pub new-is : (between now : Numbered) → places.size ≡ 0 → Made tables.Whole places between → Revived tables.Whole between now → IsNew now
  new-is between now none makes revives = record {
    size = omega (arith, revives.size, makes.size, none);
    counts = λ table f. revives.others.counts table f ∙ makes.others.counts table f ∙ count-none table;
    ranges = λ table f. revives.others.ranges table f ∙ makes.others.ranges table f ∙ made-none table;
    whole_count = let c = count-none tables.Whole in omega (arith, revives.one_more, makes.counts, c);
    whole_ranges = let m = made-none tables.Whole in omega (arith, revives.ranges, makes.ranges, m);
    whole_first = revives.firsts 0 ∙ ap (first between tables.Whole) (sym (made-none tables.Whole)) ∙ makes.start ∙ none;
  }

pub empty-kept : (now : Inside) → length now.rolls.items ≡ 7 → ((table : Table) → roll_at now.rolls.items table ≡ no_ranges)
    → now.runs.items ≡ first_run ∷ [] → now.places.items ≡ [] → now.size ≡ 0 → IsKept now
empty-kept now six empty runs places none = record {
  tables = six;
  live = λ table. let c = count-none (numbered_of now) empty table in omega (arith, c);
  few = λ table. let m = made-none (numbered_of now) empty table in omega (arith, m);
  numbers = omega (arith, ap length places);
  end = ap length owner ∙ sym none;
  size = omega (arith, none);
  runs = subst (λ rs. AreRuns rs (length now.places.items) now.size) (sym runs)
      (subst (λ ps. AreRuns (first_run ∷ []) (length ps) now.size) (sym places)
      (subst (AreRuns (first_run ∷ []) 0) (sym none) one-run));
  ranges = record {
    owned = λ table k j room family. let m = made-none (numbered_of now) empty table in absurd (omega (arith, m, room));
    listed = λ id known. absurd (omega (arith, ap length ranges, known));
    held = λ number within. absurd (omega (arith, ap length owner, within));
  };
}
  where
    ranges : ranges_in now ≡ []
    ranges = ap (ranges_of now.runs.items) places

    owner : owners (ranges_in now) ≡ []
    owner = ap owners ranges

    follow : Follow first_run (first_run ∷ [])
    follow zero less = record { id = omega arith; first = refl }
    follow (suc n) less = absurd (omega (arith, less))

    -- the run of the whole sheet, which has no range yet
    one-run : AreRuns (first_run ∷ []) 0 0
    one-run = record {
      turn = record { some = omega arith; begin = refl; follow = follow };
      low = low;
      end = refl;
    }
      where
        low : (n : ℕ) → n < 1 → (run_at (first_run ∷ []) n).id ≤ 0
        low zero less = omega arith
        low (suc n) less = absurd (omega (arith, less))

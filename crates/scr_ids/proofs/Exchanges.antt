-- Two ranges change places.
use Rattle.std.proofs.Common.{◌≡◌, ℕ, ◌+◌, ◌<◌, ◌≤◌, ◌⊎◌, inl, inr, ⊎_elim, true, false, List, length, set, refl, sym, ap, subst, ◌∙◌, arith}
use Rattle.std.proofs.lemmas.Bool.{cases_eq, cases_lt, cases_Bool}
use Rattle.std.proofs.lemmas.List.{length-set, get_or-set_same, get_or-set_other}
use Rattle.scr_ids.specs.Ranges.{RangeList, count, first, first_in, made, roll_at, same_table, stride}
use Rattle.scr_ids.specs.Moves.{IsSameBut, Sunk}
use Rattle.scr_ids.specs.Steps.{IsRollsBut, Sinking}
use Rattle.scr_ids.specs.Kept.{AreKept, AreRuns, IsKept, IsListed, IsOf, IsOwned, Range, numbered_of, owner_at, owners, range_at, range_of, ranges_in}
use Rattle.scr_ids.specs.declared.places.Places.TheInside.{Inside}
use Rattle.scr_ids.specs.declared.table.Table.{Table}
use Rattle.scr_ids.proofs.Tables.{same_table-is, same_table-self, stride-some}
use Rattle.scr_ids.proofs.Owners.{owners-same}
use Rattle.scr_ids.proofs.Views.{count-is, made-is, of_all, others-same, roll-first, roll-made, sunk-is}

module _ (made_in : Table → ℕ) (first_of : Table → ℕ → ℕ) (ranges : List Range) (owner : List ℕ)
    (kept : AreKept made_in first_of ranges owner) where
  -- the range at a place, and the numbers that are its own
  pub record Own (table : Table) (k start id : ℕ) : Type 0 where
    pub known : id < length ranges
    pub is : range_at ranges id ≡ range_of table k start
    pub owns : (j : ℕ) → j < stride table → owner_at owner (start + j) ≡ id

  pub own : (table : Table) (k : ℕ) → k < made_in table
      → Own table k (first_of table k) (owner_at owner (first_of table k))
  own table k inside = record {
    known = known;
    is = is;
    owns = (subst (IsListed made_in first_of owner id) is (kept.listed id known)).owns;
  }
    where
      start : ℕ
      start = first_of table k

      id : ℕ
      id = owner_at owner start

      owned : IsOwned ranges owner table k start 0
      owned = kept.owned table k 0 inside (stride-some table)

      at : start + 0 ≡ start
      at = omega arith

      known : id < length ranges
      known = subst (λ n. owner_at owner n < length ranges) at owned.known

      is : range_at ranges id ≡ range_of table k start
      is = subst (λ n. range_at ranges (owner_at owner n) ≡ range_of table k start) at owned.is

  pub start-within : (table : Table) (k : ℕ) → k < made_in table → first_of table k < length owner
  start-within table k inside =
      let owned = kept.owned table k 0 inside (stride-some table) in omega (arith, owned.within)

  module _ (table : Table) (k : ℕ) (inside : k + 1 < made_in table) where
    abbrev a : ℕ
    a = first_of table k

    abbrev b : ℕ
    b = first_of table (k + 1)

    abbrev ia : ℕ
    ia = owner_at owner a

    abbrev ib : ℕ
    ib = owner_at owner b

    inside-low : k < made_in table
    inside-low = omega arith

    pub low : Own table k a ia
    low = own table k inside-low

    pub high : Own table (k + 1) b ib
    high = own table (k + 1) inside

    apart : ia ≡ ib → ⊥
    apart e =
        let same : k ≡ k + 1 = ap (λ r. r.place) (sym low.is ∙ ap (range_at ranges) e ∙ high.is) in
        absurd (omega arith)

    abbrev moved : List Range
    moved = set ranges ia (record (range_at ranges ia) { place = k + 1 })

    abbrev after : List Range
    after = set moved ib (record (range_at moved ib) { place = k })

    -- what two writes leave
    pub after-is : (low_id high_id : ℕ) (once twice : List Range) → low_id ≡ ia → high_id ≡ ib
        → once ≡ set ranges low_id (record (range_at ranges low_id) { place = k + 1 })
        → twice ≡ set once high_id (record (range_at once high_id) { place = k }) → twice ≡ after
    after-is low_id high_id once twice low_is high_is first_write second_write =
        let once_is : once ≡ moved = first_write ∙ ap (λ n. set ranges n (record (range_at ranges n) { place = k + 1 })) low_is in
        second_write
        ∙ ap (λ rs. set rs high_id (record (range_at rs high_id) { place = k })) once_is
        ∙ ap (λ n. set moved n (record (range_at moved n) { place = k })) high_is

    pub after-length : length after ≡ length ranges
    after-length = length-set moved ib (record (range_at moved ib) { place = k }) ∙ length-set ranges ia (record (range_at ranges ia) { place = k + 1 })

    after-low : range_at after ia ≡ range_of table (k + 1) a
    after-low =
        get_or-set_other moved ib ia _ _ apart
        ∙ get_or-set_same ranges ia _ _ low.known
        ∙ ap (λ (r : Range). record r { place = k + 1 }) low.is

    moved-high : range_at moved ib ≡ range_of table (k + 1) b
    moved-high = get_or-set_other ranges ia ib _ _ (λ e. apart (sym e)) ∙ high.is

    after-high : range_at after ib ≡ range_of table k b
    after-high =
        get_or-set_same moved ib _ _ (subst (λ n. ib < n) (sym (length-set ranges ia (record (range_at ranges ia) { place = k + 1 }))) high.known)
        ∙ ap (λ (r : Range). record r { place = k }) moved-high

    after-else : (id : ℕ) → (id ≡ ia → ⊥) → (id ≡ ib → ⊥) → range_at after id ≡ range_at ranges id
    after-else id other further = get_or-set_other moved ib id _ _ further ∙ get_or-set_other ranges ia id _ _ other

    -- the table and the first number of a range stay
    pub after-body : (id : ℕ) → ((range_at after id).table ≡ (range_at ranges id).table) × ((range_at after id).first ≡ (range_at ranges id).first)
    after-body id = ⊎_elim
        (λ e. (
          ap (λ n. (range_at after n).table) e ∙ ap (λ r. r.table) after-low ∙ sym (ap (λ n. (range_at ranges n).table) e ∙ ap (λ r. r.table) low.is),
          ap (λ n. (range_at after n).first) e ∙ ap (λ r. r.first) after-low ∙ sym (ap (λ n. (range_at ranges n).first) e ∙ ap (λ r. r.first) low.is),
        ))
        (λ other. ⊎_elim
        (λ e. (
          ap (λ n. (range_at after n).table) e ∙ ap (λ r. r.table) after-high ∙ sym (ap (λ n. (range_at ranges n).table) e ∙ ap (λ r. r.table) high.is),
          ap (λ n. (range_at after n).first) e ∙ ap (λ r. r.first) after-high ∙ sym (ap (λ n. (range_at ranges n).first) e ∙ ap (λ r. r.first) high.is),
        ))
        (λ further. (ap (λ r. r.table) (after-else id other further), ap (λ r. r.first) (after-else id other further)))
        (cases_eq id ib))
        (cases_eq id ia)

    module _ (made_now : Table → ℕ) (first_now : Table → ℕ → ℕ)
        (same_made : (any : Table) → made_now any ≡ made_in any)
        (others : (other : Table) → same_table table other ≡ false → (m : ℕ) → first_now other m ≡ first_of other m)
        (sunk : Sunk k (k + 1) (first_of table) (first_now table)) where
      -- a place is one of the two, or another
      record IsElse (other : Table) (m : ℕ) : Type 0 where
        low : other ≡ table → m ≡ k → ⊥
        high : other ≡ table → m ≡ k + 1 → ⊥
        same : first_now other m ≡ first_of other m

      abbrev Which : Table → ℕ → Type 0
      Which other m = ((other ≡ table) × (m ≡ k)) ⊎ (((other ≡ table) × (m ≡ k + 1)) ⊎ IsElse other m)

      on_table : (m : ℕ) → Which table m
      on_table m = ⊎_elim
          (λ less. inr (inr (record { low = λ _ e. absurd (omega arith); high = λ _ e. absurd (omega arith); same = sunk.below m less })))
          (λ least. ⊎_elim
          (λ e. inl (refl, e))
          (λ other. ⊎_elim
          (λ e. inr (inl (refl, e)))
          (λ further. inr (inr (record { low = λ _ e. other e; high = λ _ e. further e; same = sunk.above m (omega arith) })))
          (cases_eq m (k + 1)))
          (cases_eq m k))
          (cases_lt m k)

      which : (other : Table) (m : ℕ) → Which other m
      which other m = ⊎_elim
          (λ t. subst (λ o. Which o m) (same_table-is table other t) (on_table m))
          (λ f. inr (inr (record {
            low = λ e _. differs f e;
            high = λ e _. differs f e;
            same = others other f m;
          })))
          (cases_Bool (same_table table other))
        where
          differs : same_table table other ≡ false → other ≡ table → ⊥
          differs f e =
              let t : same_table table other ≡ true = subst (λ o. same_table table o ≡ true) (sym e) (same_table-self table) in
              let clash : false ≡ true = sym f ∙ t in
              absurd (cc)

      first-low : first_now table k ≡ b
      first-low = sunk.between k (omega arith) (omega arith)

      first-high : first_now table (k + 1) ≡ a
      first-high = sunk.moved

      owned-low : (j : ℕ) → j < stride table → IsOwned after owner table k b j
      owned-low j family =
          let owned = kept.owned table (k + 1) j inside family in
          record {
            within = owned.within;
            known = subst (λ n. owner_at owner (b + j) < n) (sym after-length) owned.known;
            is = ap (range_at after) (high.owns j family) ∙ after-high;
          }

      owned-high : (j : ℕ) → j < stride table → IsOwned after owner table (k + 1) a j
      owned-high j family =
          let owned = kept.owned table k j inside-low family in
          record {
            within = owned.within;
            known = subst (λ n. owner_at owner (a + j) < n) (sym after-length) owned.known;
            is = ap (range_at after) (low.owns j family) ∙ after-low;
          }

      owned-else : (other : Table) (m j : ℕ) → m < made_in other → j < stride other → IsElse other m
          → IsOwned after owner other m (first_of other m) j
      owned-else other m j room family else =
          let owned = kept.owned other m j room family in
          let id = owner_at owner (first_of other m + j) in
          let not_low : id ≡ ia → ⊥ = λ e.
          let same = sym owned.is ∙ ap (range_at ranges) e ∙ low.is in
          else.low (ap (λ r. r.table) same) (ap (λ r. r.place) same) in
          let not_high : id ≡ ib → ⊥ = λ e.
          let same = sym owned.is ∙ ap (range_at ranges) e ∙ high.is in
          else.high (ap (λ r. r.table) same) (ap (λ r. r.place) same) in
          record {
            within = owned.within;
            known = subst (λ n. id < n) (sym after-length) owned.known;
            is = after-else id not_low not_high ∙ owned.is;
          }

      owned-after : (other : Table) (m j : ℕ) → m < made_now other → j < stride other
          → IsOwned after owner other m (first_now other m) j
      owned-after other m j room family = by (which other m)
        where
          by : Which other m → IsOwned after owner other m (first_now other m) j
          by (inl at) =
              let family' : j < stride table = subst (λ o. j < stride o) at.0 family in
              subst (λ o. IsOwned after owner o m (first_now o m) j) (sym at.0)
              (subst (λ n. IsOwned after owner table n (first_now table n) j) (sym at.1)
              (subst (λ start. IsOwned after owner table k start j) (sym first-low) (owned-low j family')))
          by (inr (inl at)) =
              let family' : j < stride table = subst (λ o. j < stride o) at.0 family in
              subst (λ o. IsOwned after owner o m (first_now o m) j) (sym at.0)
              (subst (λ n. IsOwned after owner table n (first_now table n) j) (sym at.1)
              (subst (λ start. IsOwned after owner table (k + 1) start j) (sym first-high) (owned-high j family')))
          by (inr (inr else)) =
              subst (λ start. IsOwned after owner other m start j) (sym else.same)
              (owned-else other m j (subst (λ n. m < n) (same_made other) room) family else)

      listed-else : (id : ℕ) → id < length ranges → (id ≡ ia → ⊥) → (id ≡ ib → ⊥)
          → IsListed made_now first_now owner id (range_at ranges id)
      listed-else id known not_low not_high =
          let of = kept.listed id known in
          record {
            place = subst (λ n. (range_at ranges id).place < n) (sym (same_made (range_at ranges id).table)) of.place;
            start = by (which (range_at ranges id).table (range_at ranges id).place);
            owns = of.owns;
          }
        where
          range : Range
          range = range_at ranges id

          of : IsListed made_in first_of owner id range
          of = kept.listed id known

          -- the first number of the range is its own
          self : owner_at owner range.first ≡ id
          self =
              let at : range.first + 0 ≡ range.first = omega arith in
              subst (λ n. owner_at owner n ≡ id) at (of.owns 0 (stride-some range.table))

          by : Which range.table range.place → first_now range.table range.place ≡ range.first
          by (inl at) =
              let start : a ≡ range.first = sym (ap (λ o. first_of o range.place) at.0 ∙ ap (first_of table) at.1) ∙ of.start in
              absurd (not_low (sym self ∙ ap (owner_at owner) (sym start)))
          by (inr (inl at)) =
              let start : b ≡ range.first = sym (ap (λ o. first_of o range.place) at.0 ∙ ap (first_of table) at.1) ∙ of.start in
              absurd (not_high (sym self ∙ ap (owner_at owner) (sym start)))
          by (inr (inr else)) = else.same ∙ of.start

      listed-after : (id : ℕ) → id < length after → IsListed made_now first_now owner id (range_at after id)
      listed-after id known = ⊎_elim
          (λ e. subst (λ n. IsListed made_now first_now owner n (range_at after n)) (sym e)
          (subst (IsListed made_now first_now owner ia) (sym after-low) (record {
            place = subst (λ n. k + 1 < n) (sym (same_made table)) inside;
            start = first-high;
            owns = low.owns;
          })))
          (λ other. ⊎_elim
          (λ e. subst (λ n. IsListed made_now first_now owner n (range_at after n)) (sym e)
          (subst (IsListed made_now first_now owner ib) (sym after-high) (record {
            place = subst (λ n. k < n) (sym (same_made table)) inside-low;
            start = first-low;
            owns = high.owns;
          })))
          (λ further. subst (IsListed made_now first_now owner id) (sym (after-else id other further))
          (listed-else id (subst (λ n. id < n) after-length known) other further))
          (cases_eq id ib))
          (cases_eq id ia)

      held-after : (number : ℕ) → number < length owner → IsOf after number (owner_at owner number)
      held-after number within =
          let of = kept.held number within in
          let body = after-body (owner_at owner number) in
          record {
            known = subst (λ n. owner_at owner number < n) (sym after-length) of.known;
            low = subst (λ n. n ≤ number) (sym body.1) of.low;
            high = subst (λ o. number < (range_at after (owner_at owner number)).first + stride o) (sym body.0)
                (subst (λ n. number < n + stride (range_at ranges (owner_at owner number)).table) (sym body.1) of.high);
          }

      pub kept-exchanged : AreKept made_now first_now after owner
      kept-exchanged = record { owned = owned-after; listed = listed-after; held = held-after }

-- ---- a range that is found by its place

module _ (places : Inside) (kept : IsKept places) (table : Table) (k : ℕ) (room : k < made (numbered_of places) table)
    (roll : RangeList) (is : roll ≡ roll_at places.rolls.items table) where
  pub read-room : k < length roll.firsts
  read-room = let long = roll-made places (numbered_of places) refl table roll is in omega (arith, room, long)

  module _ (number : ℕ) (told : number ≡ first_in roll.firsts k) where
    read-start : number ≡ first (numbered_of places) table k
    read-start = told ∙ roll-first places (numbered_of places) refl table roll is k

    pub read-below : number < length (owners (ranges_in places))
    read-below = subst (λ n. n < length (owners (ranges_in places))) (sym read-start)
        (start-within (made (numbered_of places)) (first (numbered_of places)) (ranges_in places) (owners (ranges_in places)) kept.ranges table k room)

    module _ (id : ℕ) (own_id : id ≡ owner_at (owners (ranges_in places)) number) where
      pub read-id : id ≡ owner_at (owners (ranges_in places)) (first (numbered_of places) table k)
      read-id = own_id ∙ ap (owner_at (owners (ranges_in places))) read-start

-- two neighbours changed places in the rolls and in what the ranges know
module _ (before now : Inside) (kept : IsKept before) (table : Table) (k : ℕ)
    (room : k + 1 < made (numbered_of before) table)
    (rolls : IsRollsBut table before.rolls.items now.rolls.items)
    (sunk : Sunk k (k + 1) (first_in (roll_at before.rolls.items table).firsts) (first_in (roll_at now.rolls.items table).firsts))
    (long : length (roll_at now.rolls.items table).firsts ≡ length (roll_at before.rolls.items table).firsts)
    (live : (roll_at now.rolls.items table).live ≡ (roll_at before.rolls.items table).live)
    (runs : now.runs.items ≡ before.runs.items) (many : length now.places.items ≡ length before.places.items) (size : now.size ≡ before.size)
    (low_id high_id : ℕ) (once : List Range)
    (low_is : low_id ≡ owner_at (owners (ranges_in before)) (first (numbered_of before) table k))
    (high_is : high_id ≡ owner_at (owners (ranges_in before)) (first (numbered_of before) table (k + 1)))
    (first_write : once ≡ set (ranges_in before) low_id (record (range_at (ranges_in before) low_id) { place = k + 1 }))
    (second_write : (ranges_in now) ≡ set once high_id (record (range_at once high_id) { place = k })) where
  exchanged-others : IsSameBut table (numbered_of before) (numbered_of now)
  exchanged-others = others-same (numbered_of before) (numbered_of now) table rolls

  exchanged-made : made (numbered_of now) table ≡ made (numbered_of before) table
  exchanged-made = made-is (numbered_of now) table ∙ long ∙ sym (made-is (numbered_of before) table)

  exchanged-count : count (numbered_of now) table ≡ count (numbered_of before) table
  exchanged-count = count-is (numbered_of now) table ∙ live ∙ sym (count-is (numbered_of before) table)

  exchanged-firsts : Sunk k (k + 1) (first (numbered_of before) table) (first (numbered_of now) table)
  exchanged-firsts = sunk-is (numbered_of before) (numbered_of now) table k (k + 1) sunk

  made-each : (any : Table) → made (numbered_of now) any ≡ made (numbered_of before) any
  made-each = of_all (λ any. made (numbered_of now) any ≡ made (numbered_of before) any) table exchanged-made exchanged-others.ranges

  count-each : (any : Table) → count (numbered_of now) any ≡ count (numbered_of before) any
  count-each = of_all (λ any. count (numbered_of now) any ≡ count (numbered_of before) any) table exchanged-count exchanged-others.counts

  abbrev swapped : List Range
  swapped = after (made (numbered_of before)) (first (numbered_of before)) (ranges_in before) (owners (ranges_in before)) kept.ranges table k room

  ranges-are : (ranges_in now) ≡ swapped
  ranges-are = after-is (made (numbered_of before)) (first (numbered_of before)) (ranges_in before) (owners (ranges_in before)) kept.ranges table k room
      low_id high_id once (ranges_in now) low_is high_is first_write second_write

  ranges-long : length (ranges_in now) ≡ length (ranges_in before)
  ranges-long = ap length ranges-are
      ∙ after-length (made (numbered_of before)) (first (numbered_of before)) (ranges_in before) (owners (ranges_in before)) kept.ranges table k room

  -- the tables of the ranges are the same, and so are the owners
  owner : owners (ranges_in now) ≡ owners (ranges_in before)
  owner = owners-same 0 (ranges_in now) (ranges_in before) ranges-long (λ id.
      ap (λ rs. (range_at rs id).table) ranges-are
      ∙ (after-body (made (numbered_of before)) (first (numbered_of before)) (ranges_in before) (owners (ranges_in before))
      kept.ranges table k room id).0)

  pub exchange-kept : IsKept now
  exchange-kept = record {
    tables = rolls.tables ∙ kept.tables;
    live = λ any. let old = kept.live any in omega (arith, old, made-each any, count-each any);
    few = λ any. let old = kept.few any in omega (arith, old, made-each any, many);
    numbers = omega (arith, kept.numbers, many, ap length owner);
    end = omega (arith, kept.end, ap length owner, size);
    size = omega (arith, kept.size, size);
    runs = subst (λ rs. AreRuns rs (length now.places.items) now.size) (sym runs)
        (subst (λ n. AreRuns before.runs.items n now.size) (sym many)
        (subst (AreRuns before.runs.items (length before.places.items)) (sym size) kept.runs));
    ranges = subst (λ rs. AreKept (made (numbered_of now)) (first (numbered_of now)) rs (owners (ranges_in now))) (sym ranges-are)
        (subst (AreKept (made (numbered_of now)) (first (numbered_of now)) swapped) (sym owner)
        (kept-exchanged (made (numbered_of before)) (first (numbered_of before)) (ranges_in before) (owners (ranges_in before)) kept.ranges
        table k room (made (numbered_of now)) (first (numbered_of now)) made-each exchanged-others.firsts exchanged-firsts));
  }

  pub exchange-sinks : Sinking table k (k + 1) (numbered_of before) (numbered_of now)
  exchange-sinks = record {
    others = exchanged-others;
    counts = exchanged-count;
    ranges = exchanged-made;
    firsts = exchanged-firsts;
    size = ap length owner;
  }

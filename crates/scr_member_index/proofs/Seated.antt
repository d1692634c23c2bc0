-- Parts come and go with the lists of a row's seats, seat by seat.
use Rattle.std.proofs.Common.{◌≡◌, ◌≢◌, ◌⊎◌, inl, inr, ℕ, zero, suc, ◌+◌, ◌<◌, ◌≤◌, List, length, max, min, Result, Ok, Err, OnOk, refl, sym, ap, subst, ◌∙◌, arith}
use Rattle.std.proofs.lemmas.Bool.{cases_eq, cases_lt}
use Rattle.scr_sum_tree.specs.Blocks.{blocks_at}
use Rattle.scr_sum_tree.specs.declared.blocks.Level.{Level}
use Rattle.scr_member_lists.specs.Seatings.{NOWHERE, roll_in}
use Rattle.scr_member_lists.specs.declared.seats.Seats.{Seats}
use Rattle.scr_sum_slots.specs.Firsts.{FirstLists, firsts_in}
use Rattle.scr_sum_slots.specs.Following.{AreSeatsOf}
use Rattle.scr_sum_slots.specs.Moves.{KeepsOthers, KeepsParts, KeepsRoom}
use Rattle.scr_sum_slots.specs.Parts.{Parted, count_of, size_of, slots_in}
use Rattle.scr_sum_slots.proofs.Fronts.{kept-cut}
use Rattle.scr_sheet.specs.declared.keys.Table.{Table}
use Rattle.scr_member_index.specs.Lists.{list_in}
use Rattle.scr_member_index.specs.Parting.{AreCut, AreExtended, AreSameParts, Comes, HasLost, HaveLost, HavePartsAt, IsCut, IsGrown}
use Rattle.scr_member_index.proofs.Counting.{list-apart}
use Rattle.scr_member_index.proofs.Lost.{lost-more, lost-start}

pub on-ok : {A E : Type 0} {P : Type 0} → (result : Result A E) → P → OnOk result P
on-ok (Ok a) is = is
on-ok (Err e) is = tt

module _ (table : Table) (firsts : FirstLists) where
  abbrev pub members : ℕ → ℕ
  members number = length (firsts_in number firsts)

  -- ---- parts go

  -- so far
  pub record CutTo (at : Seats) (s : ℕ) (old new : Parted) : Type 0 where
    pub cut : AreCut table firsts at s old new
    pub kept : KeepsParts new old
    pub room : KeepsRoom old new
    pub size : size_of new ≡ size_of old
    pub lost : HaveLost table at s old new

  none-cut : (at : Seats) (parts : Parted) → AreCut table firsts at 0 parts parts
  none-cut at parts = record { own = λ seat low real level. absurd (omega (arith, low)); others = λ list apart level. refl }

  pub cut-none : (at : Seats) (parts : Parted) → CutTo at 0 parts parts
  cut-none at parts = record { cut = none-cut at parts; kept = λ part slot is. is; room = λ key. omega arith; size = refl; lost = lost-start table at parts }

  module _ (at : Seats) (seat_of : ℕ → ℕ) (seats : AreSeatsOf seat_of at) (s : ℕ) (few : s < 11) (old mid : Parted) (were : AreCut table firsts at s old mid) where
    cut-free : (new : Parted) → roll_in s at ≡ NOWHERE → new ≡ mid → AreCut table firsts at (s + 1) old new
    cut-free new free same = subst (AreCut table firsts at (s + 1) old) (sym same) (record {
      own = λ seat low real. were.own seat (less seat low real) real;
      others = λ list apart. were.others list (λ seat low. apart seat (omega (arith, low)));
    })
      where
        less : (seat : ℕ) → seat < s + 1 → roll_in seat at ≢ NOWHERE → seat < s
        less seat low real = let ne : seat ≢ s = λ e. real (ap (λ t. roll_in t at) e ∙ free) in omega (arith, low, ne)

    cut-more : (new : Parted) → roll_in s at ≢ NOWHERE → IsCut (list_in table (roll_in s at)) (members (roll_in s at)) mid new
        → KeepsOthers (list_in table (roll_in s at)) mid new → AreCut table firsts at (s + 1) old new
    cut-more new some own others = record {
      own = λ seat low real. cut seat low real (cases_eq seat s);
      others = λ list apart level.
          others list level (apart s (omega arith) some) ∙ were.others list (λ seat low. apart seat (omega (arith, low))) level;
    }
      where
        apart_from : (seat : ℕ) → seat < s → roll_in seat at ≢ NOWHERE → roll_in seat at ≢ roll_in s at
        apart_from seat low real e =
            let one = seats seat (omega (arith, low, few)) real in
            let two = seats s few some in
            let same = ap seat_of e in
            omega (arith, one, two, same, low)

        cut : (seat : ℕ) → seat < s + 1 → roll_in seat at ≢ NOWHERE → (seat ≡ s) ⊎ (seat ≢ s)
            → IsCut (list_in table (roll_in seat at)) (members (roll_in seat at)) old new
        cut seat low real (inl e) =
            subst (λ (t : ℕ). IsCut (list_in table (roll_in t at)) (members (roll_in t at)) old new) (sym e)
            (λ level.
            own level
            ∙ ap (λ n. min n (blocks_at (members (roll_in s at)) level))
            (were.others (list_in table (roll_in s at)) (λ seat less real. list-apart table (roll_in s at) (roll_in seat at) (λ same. apart_from seat less real (sym same))) level))
        cut seat low real (inr ne) = λ level.
            (let less : seat < s = omega (arith, low, ne) in
            others (list_in table (roll_in seat at)) level (list-apart table (roll_in seat at) (roll_in s at) (apart_from seat less real)) ∙ were.own seat less real level)

  module _ (at : Seats) (seat_of : ℕ → ℕ) (seats : AreSeatsOf seat_of at) (s : ℕ) (few : s < 11) (old mid : Parted) (were : CutTo at s old mid) where
    pub cut-passed : (new : Parted) → roll_in s at ≡ NOWHERE → new ≡ mid → CutTo at (s + 1) old new
    cut-passed new free same = record {
      cut = cut-free at seat_of seats s few old mid were.cut new free same;
      kept = subst (λ (p : Parted). KeepsParts p old) (sym same) were.kept;
      room = subst (KeepsRoom old) (sym same) were.room;
      size = ap size_of same ∙ were.size;
      lost = lost-more table at s old mid new were.lost (inl (free, λ key. ap (slots_in key) same));
    }

    pub cut-one : (new : Parted) (number : ℕ) (numbers : List ℕ) → number ≡ roll_in s at → number ≢ NOWHERE → numbers ≡ firsts_in number firsts
        → IsCut (list_in table number) (length numbers) mid new → KeepsOthers (list_in table number) mid new → KeepsParts new mid → KeepsRoom mid new
        → size_of new ≡ size_of mid → HasLost (list_in table number) mid new → CutTo at (s + 1) old new
    cut-one new number numbers is some listed own others kept room size lost = record {
      cut = cut-more at seat_of seats s few old mid were.cut new (λ e. some (is ∙ e))
          (subst (λ (n : ℕ). IsCut (list_in table n) (length (firsts_in n firsts)) mid new) is
          (subst (λ (ns : List ℕ). IsCut (list_in table number) (length ns) mid new) listed own))
          (subst (λ (n : ℕ). KeepsOthers (list_in table n) mid new) is others);
      kept = λ part slot there. were.kept part slot (kept part slot there);
      room = λ key. (let one = were.room key in let two = room key in omega (arith, one, two));
      size = size ∙ were.size;
      lost = lost-more table at s old mid new were.lost
          (inr ((λ e. some (is ∙ e)), subst (λ (n : ℕ). HasLost (list_in table n) mid new) is lost));
    }

  -- ---- parts come

  module _ (was now : Seats) where
    -- so far
    pub record ExtendedTo (s : ℕ) (old new : Parted) : Type 0 where
      pub extended : AreExtended table firsts was now s old new
      pub kept : KeepsParts old new

    none-extended : (parts : Parted) → AreExtended table firsts was now 0 parts parts
    none-extended parts = record { own = λ seat low comes level. absurd (omega (arith, low)); others = λ list apart level. refl }

    pub extended-none : (parts : Parted) → ExtendedTo 0 parts parts
    extended-none parts = record { extended = none-extended parts; kept = λ part slot is. is }

    module _ (seat_of : ℕ → ℕ) (seats : AreSeatsOf seat_of now) (s : ℕ) (few : s < 11) (old mid : Parted) (were : AreExtended table firsts was now s old mid) where
      extended-still : (new : Parted) → (Comes was now s → ⊥) → new ≡ mid → AreExtended table firsts was now (s + 1) old new
      extended-still new still same = subst (AreExtended table firsts was now (s + 1) old) (sym same) (record {
        own = λ seat low comes. were.own seat (less seat low comes) comes;
        others = λ list apart. were.others list (λ seat low. apart seat (omega (arith, low)));
      })
        where
          less : (seat : ℕ) → seat < s + 1 → Comes was now seat → seat < s
          less seat low comes = let ne : seat ≢ s = λ e. still (subst (Comes was now) e comes) in omega (arith, low, ne)

      extended-more : (new : Parted) → Comes was now s → IsGrown (list_in table (roll_in s now)) (members (roll_in s now) + 1) mid new
          → KeepsOthers (list_in table (roll_in s now)) mid new → AreExtended table firsts was now (s + 1) old new
      extended-more new some own others = record {
        own = λ seat low comes. grown seat low comes (cases_eq seat s);
        others = λ list apart level.
            others list level (apart s (omega arith) some) ∙ were.others list (λ seat low. apart seat (omega (arith, low))) level;
      }
        where
          apart_from : (seat : ℕ) → seat < s → Comes was now seat → roll_in seat now ≢ roll_in s now
          apart_from seat low comes e =
              let one = seats seat (omega (arith, low, few)) comes.real in
              let two = seats s few some.real in
              let same = ap seat_of e in
              omega (arith, one, two, same, low)

          grown : (seat : ℕ) → seat < s + 1 → Comes was now seat → (seat ≡ s) ⊎ (seat ≢ s)
              → IsGrown (list_in table (roll_in seat now)) (members (roll_in seat now) + 1) old new
          grown seat low comes (inl e) =
              subst (λ (t : ℕ). IsGrown (list_in table (roll_in t now)) (members (roll_in t now) + 1) old new) (sym e)
              (λ level.
              own level
              ∙ ap (λ n. max n (blocks_at (members (roll_in s now) + 1) level))
              (were.others (list_in table (roll_in s now)) (λ seat less comes. list-apart table (roll_in s now) (roll_in seat now) (λ same. apart_from seat less comes (sym same))) level))
          grown seat low comes (inr ne) = λ level.
              (let less : seat < s = omega (arith, low, ne) in
              others (list_in table (roll_in seat now)) level (list-apart table (roll_in seat now) (roll_in s now) (apart_from seat less comes)) ∙ were.own seat less comes level)

    pub extended-all : (s : ℕ) (old new : Parted) → 11 ≤ s → s ≤ 11 → ExtendedTo s old new → AreExtended table firsts was now 11 old new
    extended-all s old new low high to = subst (λ (t : ℕ). AreExtended table firsts was now t old new) (same low high) to.extended
      where
        same : 11 ≤ s → s ≤ 11 → s ≡ 11
        same one two = omega (arith, one, two)

    module _ (seat_of : ℕ → ℕ) (seats : AreSeatsOf seat_of now) (s : ℕ) (few : s < 11) (old mid : Parted) (were : ExtendedTo s old mid) where
      pub extended-passed : (new : Parted) → (Comes was now s → ⊥) → new ≡ mid → ExtendedTo (s + 1) old new
      extended-passed new still same = record {
        extended = extended-still seat_of seats s few old mid were.extended new still same;
        kept = subst (KeepsParts old) (sym same) were.kept;
      }

      pub extended-one : (new : Parted) (number : ℕ) (numbers : List ℕ) → number ≡ roll_in s now → number ≢ NOWHERE → number ≢ roll_in s was
          → numbers ≡ firsts_in number firsts → IsGrown (list_in table number) (length numbers + 1) mid new → KeepsOthers (list_in table number) mid new
          → KeepsParts mid new → ExtendedTo (s + 1) old new
      extended-one new number numbers is some apart listed own others kept = record {
        extended = extended-more seat_of seats s few old mid were.extended new
            (record { real = λ e. some (is ∙ e); new = λ e. apart (is ∙ sym e) })
            (subst (λ (n : ℕ). IsGrown (list_in table n) (length (firsts_in n firsts) + 1) mid new) is
            (subst (λ (ns : List ℕ). IsGrown (list_in table number) (length ns + 1) mid new) listed own))
            (subst (λ (n : ℕ). KeepsOthers (list_in table n) mid new) is others);
        kept = λ part slot there. kept part slot (were.kept part slot there);
      }

      -- one more was refused
      pub extended-refused : (new : Parted) (list : ℕ) → ((level : Level) → count_of list level new ≡ count_of list level mid) → KeepsOthers list mid new
          → (seats : ℕ) × (seats ≤ 11) × AreExtended table firsts was now seats old new
      extended-refused new list own others = (
        s,
        omega (arith, few),
        record {
          own = λ seat low comes level. same (list_in table (roll_in seat now)) level (cases_eq (list_in table (roll_in seat now)) list) ∙ were.extended.own seat low comes level;
          others = λ other apart level. same other level (cases_eq other list) ∙ were.extended.others other apart level;
        },
      )
        where
          same : (other : ℕ) (level : Level) → (other ≡ list) ⊎ (other ≢ list) → count_of other level new ≡ count_of other level mid
          same other level (inl e) = subst (λ (l : ℕ). count_of l level new ≡ count_of l level mid) (sym e) (own level)
          same other level (inr ne) = others other level ne

    -- where memory was refused, the lists to which the row comes are cut again to the parts that they had
    module _ (seat_of : ℕ → ℕ) (seats : AreSeatsOf seat_of now) (s : ℕ) (few : s ≤ 11) (old mid new : Parted) (counted : HavePartsAt table firsts old)
        (extended : AreExtended table firsts was now s old mid) (cut : AreCut table firsts now 11 mid new) where
      -- in one of the first seats the row stands in the list
      pub record Found (list t : ℕ) : Type 0 where
        pub seat : ℕ
        pub low : seat < t
        pub real : roll_in seat now ≢ NOWHERE
        pub is : list ≡ list_in table (roll_in seat now)

      abbrev Missing : ℕ → ℕ → Type 0
      Missing list t = (seat : ℕ) → seat < t → roll_in seat now ≢ NOWHERE → list ≢ list_in table (roll_in seat now)

      find : (list t : ℕ) → Found list t ⊎ Missing list t
      find list zero = inr (λ seat low. absurd (omega (arith, low)))
      find list (suc t) = step (find list t) (cases_eq (roll_in t now) NOWHERE) (cases_eq list (list_in table (roll_in t now)))
        where
          step : Found list t ⊎ Missing list t → (roll_in t now ≡ NOWHERE) ⊎ (roll_in t now ≢ NOWHERE)
              → (list ≡ list_in table (roll_in t now)) ⊎ (list ≢ list_in table (roll_in t now)) → Found list (suc t) ⊎ Missing list (suc t)
          step (inl found) e d = inl (record { seat = found.seat; low = (let low = found.low in omega (arith, low)); real = found.real; is = found.is })
          step (inr none) (inr some) (inl is) = inl (record { seat = t; low = omega arith; real = some; is = is })
          step (inr none) (inl free) d =
              inr (λ seat low real. none seat (let ne : seat ≢ t = λ e. real (ap (λ u. roll_in u now) e ∙ free) in omega (arith, low, ne)) real)
          step (inr none) (inr some) (inr other) = inr (λ seat low real. at seat low real (cases_eq seat t))
            where
              at : (seat : ℕ) → seat < suc t → roll_in seat now ≢ NOWHERE → (seat ≡ t) ⊎ (seat ≢ t) → list ≢ list_in table (roll_in seat now)
              at seat low real (inl e) same = other (same ∙ ap (λ u. list_in table (roll_in u now)) e)
              at seat low real (inr ne) same = none seat (omega (arith, low, ne)) real same

      -- a list to which the row comes, or in which it stands, has no fewer parts than before
      no-fewer : (seat : ℕ) → seat < 11 → roll_in seat now ≢ NOWHERE → (level : Level)
          → count_of (list_in table (roll_in seat now)) level old ≤ count_of (list_in table (roll_in seat now)) level mid
      no-fewer seat low real level = by (cases_lt seat s) (cases_eq (roll_in seat was) (roll_in seat now))
        where
          same : (Comes was now seat → seat < s → ⊥) → (other : ℕ) → other < s → Comes was now other
              → list_in table (roll_in seat now) ≢ list_in table (roll_in other now)
          same not other less comes = list-apart table (roll_in seat now) (roll_in other now) apart
            where
              at : roll_in seat now ≡ roll_in other now → seat ≡ other
              at e =
                  let one = seats seat low real in
                  let two = seats other (omega (arith, less, few)) comes.real in
                  let one_seat = ap seat_of e in
                  omega (arith, one, two, one_seat)

              apart : roll_in seat now ≢ roll_in other now
              apart e = not (subst (Comes was now) (sym (at e)) comes) (let is = at e in omega (arith, is, less))

          still : (Comes was now seat → seat < s → ⊥)
              → count_of (list_in table (roll_in seat now)) level old ≤ count_of (list_in table (roll_in seat now)) level mid
          still not =
              let is = extended.others (list_in table (roll_in seat now)) (same not) level in omega (arith, is)

          by : (seat < s) ⊎ (s ≤ seat) → (roll_in seat was ≡ roll_in seat now) ⊎ (roll_in seat was ≢ roll_in seat now)
              → count_of (list_in table (roll_in seat now)) level old ≤ count_of (list_in table (roll_in seat now)) level mid
          by (inl less) (inr new_list) = let more = extended.own seat less (record { real = real; new = new_list }) level in omega (arith, more)
          by (inl less) (inl e) = still (λ comes _. comes.new e)
          by (inr past) d = still (λ comes less. omega (arith, past, less))

      cut-back : (list : ℕ) (level : Level) → count_of list level new ≡ count_of list level old
      cut-back list level = by (find list 11)
        where
          by : Found list 11 ⊎ Missing list 11 → count_of list level new ≡ count_of list level old
          by (inl found) =
              subst (λ (l : ℕ). count_of l level new ≡ count_of l level old) (sym found.is)
              (let is = cut.own found.seat found.low found.real level in
              let was = counted (roll_in found.seat now) level in
              let more = no-fewer found.seat found.low found.real level in
              omega (arith, is, was, more))
          by (inr none) =
              cut.others list none level
              ∙ extended.others list (λ seat low comes. none seat (omega (arith, low, few)) comes.real) level

      pub cut-same : KeepsParts old mid → KeepsParts new mid → AreSameParts old new
      cut-same kept back = record {
        counts = cut-back;
        kept = kept-cut old mid new kept back (λ list level. let is = cut-back list level in omega (arith, is));
      }

-- Rolls that are ready for a record: there are more of them, or there is more room, and nothing has moved.
use Rattle.std.proofs.Common.{◌≡◌, ◌⊎◌, inl, inr, ℕ, ◌+◌, ◌<◌, ◌≤◌, true, List, [], ◌∷◌, length, Option, Some, None, refl, sym, ap, subst, ◌∙◌, arith}
use Rattle.std.specs.Option.{option_map, option_map_or}
use Rattle.std.proofs.lemmas.Option.{slice_get_past}
use Rattle.scr_member_lists.specs.Members.{has}
use Rattle.scr_member_lists.specs.Owned.{Owned, number_of}
use Rattle.scr_member_lists.specs.Seatings.{Grows, Seated, names_of, seat_of}
use Rattle.scr_member_lists.specs.declared.seating.Numbered.{Numbered}
use Rattle.scr_sheet.specs.Members.{table_of}
use Rattle.scr_sheet.specs.declared.{sheet.BalanceSheet.BalanceSheet, keys.Table.Table, roll.Roll.Roll}
use Rattle.scr_sheet.specs.declared.keys.Table.TheVariants as tables
use Rattle.scr_sheet.specs.declared.roll.Roll.TheVariants as rolls
use Rattle.scr_book.specs.Rolls.{AreKept, AreNumbered, AreRollsOf, AreSame, GivesNumber, HaveSeats, IsNew, IsOfRoll, KeptRolls, listed, number_of_roll, seat_of_roll, seated_in}

-- a number that is none has no members
pub names-past : (n : ℕ) (lists : List Numbered) → length lists ≤ n → names_of n lists ≡ []
names-past n lists past = ap (λ (found : Option Numbered). option_map_or (λ (roll : Numbered). roll.roster.names) found []) (slice_get_past lists n (omega (arith, past)))

pub grows-same : (s : Seated) → Grows s s
grows-same s = record {
  count = omega arith;
  few = λ h. h;
  own = λ n h. refl;
  names = λ n. refl;
  seats = refl;
  room = λ n. omega arith;
  rows = omega arith;
  seated = λ names h. h;
}

-- the number of a roll where no owner has another
pub same-numbers : (roll : Roll) (old new : KeptRolls) → new.of_groups ≡ old.of_groups → new.of_assets ≡ old.of_assets → new.of_lines ≡ old.of_lines
    → number_of_roll roll new ≡ number_of_roll roll old
same-numbers (rolls.Class class) old new groups assets lines = refl
same-numbers rolls.Closed old new groups assets lines = refl
same-numbers rolls.Bonds old new groups assets lines = refl
same-numbers rolls.Grouped old new groups assets lines = refl
same-numbers (rolls.Group group) old new groups assets lines = ap (number_of group) groups
same-numbers (rolls.Assets currency) old new groups assets lines = ap (number_of currency) assets
same-numbers (rolls.Flows currency) old new groups assets lines = ap (λ owned. option_map (λ n. n + 1) (number_of currency owned)) assets
same-numbers (rolls.Lines currency) old new groups assets lines = ap (number_of currency) lines
same-numbers (rolls.Losses kind projection) old new groups assets lines = refl
same-numbers rolls.Groups old new groups assets lines = refl

-- a roll has a number for the first time
pub record IsFirst (roll : Roll) (number : ℕ) (old new : KeptRolls) : Type 0 where
  pub past : length (listed roll old) ≤ number
  pub within : number < length (listed roll new)
  pub seat : seat_of number (listed roll new) ≡ seat_of_roll roll

module _ (sheet : BalanceSheet) (old new : KeptRolls) (kept : AreRollsOf sheet old)
    (grows : (table : Table) → Grows (seated_in table old) (seated_in table new))
    (numbers : (roll : Roll) (n : ℕ) → number_of_roll roll old ≡ Some n → number_of_roll roll new ≡ Some n)
    (given : (roll : Roll) (n : ℕ) → number_of_roll roll new ≡ Some n → (number_of_roll roll old ≡ Some n) ⊎ IsFirst roll n old new)
    (groups : (one two : List ℕ) (n : ℕ) → number_of one new.of_groups ≡ Some n → number_of two new.of_groups ≡ Some n → one ≡ two)
    (assets : (one two : List ℕ) (n : ℕ) → number_of one new.of_assets ≡ Some n → number_of two new.of_assets ≡ Some n → one ≡ two)
    (lines : (one two : List ℕ) (n : ℕ) → number_of one new.of_lines ≡ Some n → number_of two new.of_lines ≡ Some n → one ≡ two) where
  same : AreSame old new
  same roll = by (number_of_roll roll old) (number_of_roll roll new) refl refl
    where
      by : (was is : Option ℕ) → number_of_roll roll old ≡ was → number_of_roll roll new ≡ is
          → option_map_or (λ n. names_of n (listed roll new)) is [] ≡ option_map_or (λ n. names_of n (listed roll old)) was []
      by (Some n) (Some m) e h =
          let found = numbers roll n e in
          let is : m ≡ n = cc in
          ap (λ k. names_of k (listed roll new)) is ∙ (grows (table_of roll)).names n
      by (Some n) None e h = let found = numbers roll n e in absurd (cc)
      by None None e h = refl
      by None (Some m) e h = first (given roll m h)
        where
          first : ((number_of_roll roll old ≡ Some m) ⊎ IsFirst roll m old new) → names_of m (listed roll new) ≡ []
          first (inl had) = absurd (cc)
          first (inr f) = (grows (table_of roll)).names m ∙ names-past m (listed roll old) f.past

  numbered : AreNumbered new
  numbered = record { own = λ roll n e. own roll n (given roll n e); owned = owned; groups = groups; assets = assets; lines = lines }
    where
      owned : (table : Table) (n : ℕ) (name : List ℕ) → has name (names_of n (seated_in table new).rolls) ≡ true → IsOfRoll table n new
      owned table n name stands =
          let was = kept.numbered.owned table n name (sym (ap (has name) ((grows table).names n)) ∙ stands) in
          record { roll = was.roll; of = was.of; numbered = numbers was.roll n was.numbered }

      own : (roll : Roll) (n : ℕ) → ((number_of_roll roll old ≡ Some n) ⊎ IsFirst roll n old new)
          → (n < length (listed roll new)) × (seat_of n (listed roll new) ≡ seat_of_roll roll)
      own roll n (inl e) =
          let had = kept.numbered.own roll n e in
          let inside = had.0 in
          let count = (grows (table_of roll)).count in
          (omega (arith, inside, count), (grows (table_of roll)).own n inside ∙ had.1)
      own roll n (inr f) = (f.within, f.seat)

  seated : (table : Table) → HaveSeats table sheet new
  seated tables.Security = (grows tables.Security).seated _ (kept.seated tables.Security)
  seated tables.Fund = (grows tables.Fund).seated _ (kept.seated tables.Fund)
  seated tables.Liability = (grows tables.Liability).seated _ (kept.seated tables.Liability)
  seated tables.Group = (grows tables.Group).seated _ (kept.seated tables.Group)
  seated tables.Bank = tt
  seated tables.Rein = tt
  seated tables.Curve = tt

  pub grown : AreKept sheet old new
  grown = record {
    kept = record { numbered = numbered; seated = seated; members = λ roll name. ap (has name) (same roll) ∙ kept.members roll name };
    ready = record { rolls = same; numbers = numbers; seats = λ table. (grows table).seats };
  }

-- what is kept once and again is kept
pub kept-then : (sheet : BalanceSheet) (first mid last : KeptRolls) → AreKept sheet first mid → AreKept sheet mid last → AreKept sheet first last
kept-then sheet first mid last one two = record {
  kept = two.kept;
  ready = record {
    rolls = λ roll. two.ready.rolls roll ∙ one.ready.rolls roll;
    numbers = λ roll n e. two.ready.numbers roll n (one.ready.numbers roll n e);
    seats = λ table. two.ready.seats table ∙ one.ready.seats table;
  };
}

pub kept-same : (sheet : BalanceSheet) (kept : KeptRolls) → AreRollsOf sheet kept → AreKept sheet kept kept
kept-same sheet kept h = record { kept = h; ready = record { rolls = λ roll. refl; numbers = λ roll n e. e; seats = λ table. refl } }

-- ---- one table has more room, and no owner has another number

module _ (sheet : BalanceSheet) (old : KeptRolls) (kept : AreRollsOf sheet old) where
  roomy : (new : KeptRolls) → ((table : Table) → Grows (seated_in table old) (seated_in table new))
      → new.of_groups ≡ old.of_groups → new.of_assets ≡ old.of_assets → new.of_lines ≡ old.of_lines → AreKept sheet old new
  roomy new grows groups assets lines =
      grown sheet old new kept grows
      (λ roll n e. same-numbers roll old new groups assets lines ∙ e)
      (λ roll n e. inl (sym (same-numbers roll old new groups assets lines) ∙ e))
      (λ one two n a b. kept.numbered.groups one two n (ap (number_of one) (sym groups) ∙ a) (ap (number_of two) (sym groups) ∙ b))
      (λ one two n a b. kept.numbered.assets one two n (ap (number_of one) (sym assets) ∙ a) (ap (number_of two) (sym assets) ∙ b))
      (λ one two n a b. kept.numbered.lines one two n (ap (number_of one) (sym lines) ∙ a) (ap (number_of two) (sym lines) ∙ b))

  pub roomy-securities : (s : Seated) → Grows old.securities s → AreKept sheet old (record old { securities = s })
  roomy-securities s g = roomy (record old { securities = s }) each refl refl refl
    where
      each : (table : Table) → Grows (seated_in table old) (seated_in table (record old { securities = s }))
      each tables.Security = g
      each table = grows-same _

  pub roomy-funds : (s : Seated) → Grows old.funds s → AreKept sheet old (record old { funds = s })
  roomy-funds s g = roomy (record old { funds = s }) each refl refl refl
    where
      each : (table : Table) → Grows (seated_in table old) (seated_in table (record old { funds = s }))
      each tables.Fund = g
      each table = grows-same _

  pub roomy-liabilities : (s : Seated) → Grows old.liabilities s → AreKept sheet old (record old { liabilities = s })
  roomy-liabilities s g = roomy (record old { liabilities = s }) each refl refl refl
    where
      each : (table : Table) → Grows (seated_in table old) (seated_in table (record old { liabilities = s }))
      each tables.Liability = g
      each table = grows-same _

  pub roomy-groups : (s : Seated) → Grows old.groups s → AreKept sheet old (record old { groups = s })
  roomy-groups s g = roomy (record old { groups = s }) each refl refl refl
    where
      each : (table : Table) → Grows (seated_in table old) (seated_in table (record old { groups = s }))
      each tables.Group = g
      each table = grows-same _

  -- ---- an owner has a number for the first time

  -- no two owners have one number where one of them was given a new one
  apart : (owner : List ℕ) (seats : List ℕ) (was now : Owned) (s t : Seated) → GivesNumber owner seats s t was now
      → ((name : List ℕ) (n : ℕ) → number_of name was ≡ Some n → n < length s.rolls)
      → ((one two : List ℕ) (n : ℕ) → number_of one was ≡ Some n → number_of two was ≡ Some n → one ≡ two)
      → (one two : List ℕ) (n : ℕ) → number_of one now ≡ Some n → number_of two now ≡ Some n → one ≡ two
  apart owner seats was now s t gives within before one two n a b = by (gives.given one n a) (gives.given two n b)
    where
      by : ((number_of one was ≡ Some n) ⊎ IsNew owner seats s t one n) → ((number_of two was ≡ Some n) ⊎ IsNew owner seats s t two n) → one ≡ two
      by (inl x) (inl y) = before one two n x y
      by (inl x) (inr y) = let inside = within one n x in let past = y.past in absurd (omega (arith, inside, past))
      by (inr x) (inl y) = let inside = within two n y in let past = x.past in absurd (omega (arith, inside, past))
      by (inr x) (inr y) = x.named ∙ sym y.named

  pub numbered-groups : (owner : List ℕ) (s : Seated) (now : Owned) → GivesNumber owner (2 ∷ []) old.securities s old.of_groups now
      → AreKept sheet old (record old { securities = s; of_groups = now })
  numbered-groups owner s now gives =
      grown sheet old new kept each numbers given
      (apart owner (2 ∷ []) old.of_groups now old.securities s gives (λ name n e. (kept.numbered.own (rolls.Group name) n e).0) kept.numbered.groups)
      kept.numbered.assets kept.numbered.lines
    where
      new : KeptRolls
      new = record old { securities = s; of_groups = now }

      each : (table : Table) → Grows (seated_in table old) (seated_in table new)
      each tables.Security = gives.grows
      each table = grows-same _

      numbers : (roll : Roll) (n : ℕ) → number_of_roll roll old ≡ Some n → number_of_roll roll new ≡ Some n
      numbers (rolls.Group group) n e = gives.kept group n e
      numbers roll n e = e

      given : (roll : Roll) (n : ℕ) → number_of_roll roll new ≡ Some n → (number_of_roll roll old ≡ Some n) ⊎ IsFirst roll n old new
      given (rolls.Group group) n e = by (gives.given group n e)
        where
          by : ((number_of group old.of_groups ≡ Some n) ⊎ IsNew owner (2 ∷ []) old.securities s group n) → (number_of group old.of_groups ≡ Some n) ⊎ IsFirst (rolls.Group group) n old new
          by (inl had) = inl had
          by (inr f) =
              let at = f.within 0 (omega arith) in
              let zero : n + 0 ≡ n = omega arith in
              inr (record { past = f.past; within = subst (λ m. m < length s.rolls) zero at.0; seat = ap (λ m. seat_of m s.rolls) (sym zero) ∙ at.1 })
      given roll n e = inl e

  pub numbered-lines : (owner : List ℕ) (s : Seated) (now : Owned) → GivesNumber owner (10 ∷ []) old.liabilities s old.of_lines now
      → AreKept sheet old (record old { liabilities = s; of_lines = now })
  numbered-lines owner s now gives =
      grown sheet old new kept each numbers given kept.numbered.groups kept.numbered.assets
      (apart owner (10 ∷ []) old.of_lines now old.liabilities s gives (λ name n e. (kept.numbered.own (rolls.Lines name) n e).0) kept.numbered.lines)
    where
      new : KeptRolls
      new = record old { liabilities = s; of_lines = now }

      each : (table : Table) → Grows (seated_in table old) (seated_in table new)
      each tables.Liability = gives.grows
      each table = grows-same _

      numbers : (roll : Roll) (n : ℕ) → number_of_roll roll old ≡ Some n → number_of_roll roll new ≡ Some n
      numbers (rolls.Lines currency) n e = gives.kept currency n e
      numbers roll n e = e

      given : (roll : Roll) (n : ℕ) → number_of_roll roll new ≡ Some n → (number_of_roll roll old ≡ Some n) ⊎ IsFirst roll n old new
      given (rolls.Lines currency) n e = by (gives.given currency n e)
        where
          by : ((number_of currency old.of_lines ≡ Some n) ⊎ IsNew owner (10 ∷ []) old.liabilities s currency n) → (number_of currency old.of_lines ≡ Some n) ⊎ IsFirst (rolls.Lines currency) n old new
          by (inl had) = inl had
          by (inr f) =
              let at = f.within 0 (omega arith) in
              let zero : n + 0 ≡ n = omega arith in
              inr (record { past = f.past; within = subst (λ m. m < length s.rolls) zero at.0; seat = ap (λ m. seat_of m s.rolls) (sym zero) ∙ at.1 })
      given roll n e = inl e

  pub numbered-assets : (owner : List ℕ) (s : Seated) (now : Owned) → GivesNumber owner (3 ∷ 4 ∷ []) old.securities s old.of_assets now
      → AreKept sheet old (record old { securities = s; of_assets = now })
  numbered-assets owner s now gives =
      grown sheet old new kept each numbers given kept.numbered.groups
      (apart owner (3 ∷ 4 ∷ []) old.of_assets now old.securities s gives (λ name n e. (kept.numbered.own (rolls.Assets name) n e).0) kept.numbered.assets)
      kept.numbered.lines
    where
      new : KeptRolls
      new = record old { securities = s; of_assets = now }

      each : (table : Table) → Grows (seated_in table old) (seated_in table new)
      each tables.Security = gives.grows
      each table = grows-same _

      numbers : (roll : Roll) (n : ℕ) → number_of_roll roll old ≡ Some n → number_of_roll roll new ≡ Some n
      numbers (rolls.Assets currency) n e = gives.kept currency n e
      numbers (rolls.Flows currency) n e = by (number_of currency old.of_assets) refl e
        where
          by : (found : Option ℕ) → number_of currency old.of_assets ≡ found → option_map (λ k. k + 1) found ≡ Some n → option_map (λ k. k + 1) (number_of currency now) ≡ Some n
          by None h none = absurd (cc)
          by (Some k) h some = ap (option_map (λ m. m + 1)) (gives.kept currency k h) ∙ some
      numbers roll n e = e

      given : (roll : Roll) (n : ℕ) → number_of_roll roll new ≡ Some n → (number_of_roll roll old ≡ Some n) ⊎ IsFirst roll n old new
      given (rolls.Assets currency) n e = by (gives.given currency n e)
        where
          by : ((number_of currency old.of_assets ≡ Some n) ⊎ IsNew owner (3 ∷ 4 ∷ []) old.securities s currency n) → (number_of currency old.of_assets ≡ Some n) ⊎ IsFirst (rolls.Assets currency) n old new
          by (inl had) = inl had
          by (inr f) =
              let at = f.within 0 (omega arith) in
              let zero : n + 0 ≡ n = omega arith in
              inr (record { past = f.past; within = subst (λ m. m < length s.rolls) zero at.0; seat = ap (λ m. seat_of m s.rolls) (sym zero) ∙ at.1 })
      given (rolls.Flows currency) n e = by (number_of currency now) refl e
        where
          next : (k : ℕ) → k + 1 ≡ n → ((number_of currency old.of_assets ≡ Some k) ⊎ IsNew owner (3 ∷ 4 ∷ []) old.securities s currency k)
              → (option_map (λ m. m + 1) (number_of currency old.of_assets) ≡ Some n) ⊎ IsFirst (rolls.Flows currency) n old new
          next k is (inl had) = inl (ap (option_map (λ m. m + 1)) had ∙ ap (λ m. Some m) is)
          next k is (inr f) =
              let at = f.within 1 (omega arith) in
              let past = f.past in
              inr (record {
                past = omega (arith, past, is);
                within = subst (λ m. m < length s.rolls) is at.0;
                seat = ap (λ m. seat_of m s.rolls) (sym is) ∙ at.1;
              })

          by : (found : Option ℕ) → number_of currency now ≡ found → option_map (λ k. k + 1) found ≡ Some n
              → (option_map (λ m. m + 1) (number_of currency old.of_assets) ≡ Some n) ⊎ IsFirst (rolls.Flows currency) n old new
          by None h none = absurd (cc)
          by (Some k) h some = let is : k + 1 ≡ n = cc in next k is (gives.given currency k h)
      given roll n e = inl e

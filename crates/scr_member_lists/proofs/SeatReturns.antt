-- A name that comes, leaves and goes back: who is a member then, and that a row goes back where its seats were kept.
use Rattle.std.proofs.Common.{◌≡◌, ◌≢◌, ◌⊎◌, inl, inr, ℕ, ◌-◌, ◌<◌, ◌≤◌, Bool, true, false, List, [], ◌∷◌, Option, Some, None, is_some, position, length, eqb, refl, sym, ap, subst, ◌∙◌, arith}
use Rattle.std.specs.Prelude.{◌==◌, if◌then◌else◌}
use Rattle.std.specs.List.{IsDistinct, position_or_len}
use Rattle.std.proofs.lemmas.Bool.{cases_eq, cases_lt}
use Rattle.std.proofs.lemmas.Bool.Decides.{Decides-eqb, nat_tests}
use Rattle.std.proofs.lemmas.List.{get_or_append_left, get_or_at, length_push}
use Rattle.std.proofs.lemmas.List.Folds.{list_any_at}
use Rattle.std.proofs.lemmas.List.Quantifiers.{position-Some}
use Rattle.std.proofs.lemmas.Map.Keys.{apart_from_distinct}
use Rattle.scr_tables.specs.Names.{same_name}
use Rattle.scr_tables.proofs.TableRows.{same_name-is, same_name-itself}
use Rattle.scr_member_lists.specs.Members.{has, name_at, come, left, back_at, moved, returned}
use Rattle.scr_member_lists.specs.Seatings.{NOWHERE, Seated, AreSeated, CanReturn, IsFor, KeepsRoom, KeepsSeats, StandsAt, names_of, place_in, roll_in, room_of, seat_at, seat_of, seats_of, stood}
use Rattle.scr_member_lists.specs.declared.seats.Seats.{Seats}
use Rattle.scr_member_lists.specs.declared.seating.Numbered.{Numbered}
use Rattle.scr_member_lists.proofs.Seated.{left-length, left-at, left-other, back-length, back-own, back-drawn, back-other}
use Rattle.scr_member_lists.proofs.SeatMoves.{nowhere, row-stands}
use Rattle.scr_member_lists.proofs.SeatRolls.{apart-roll, row-has, row-place}
use Rattle.scr_member_lists.proofs.SeatTables.{seats-none}
use Rattle.scr_member_lists.proofs.SeatedTables.{numbered}
use Rattle.scr_member_lists.proofs.Settled.{Stands, stands, has-position, after-none, after-some}

-- ---- who is a member

-- a name at a place is a member, and a member has a place
pub has-at : (name : List ℕ) (roll : List (List ℕ)) (p : ℕ) → p < length roll → name_at p roll ≡ name → has name roll ≡ true
has-at name roll p h is = list_any_at (same_name name) roll p [] h (ap (same_name name) is ∙ same_name-itself name)

pub at-has : (name : List ℕ) (roll : List (List ℕ)) → has name roll ≡ true → (p : ℕ) × (p < length roll) × (name_at p roll ≡ name)
at-has name roll there = by (position (same_name name) roll) refl
  where
    by : (found : Option ℕ) → position (same_name name) roll ≡ found → (p : ℕ) × (p < length roll) × (name_at p roll ≡ name)
    by None none = let never : false ≡ true = ap is_some (sym none) ∙ has-position (same_name name) roll ∙ there in absurd (cc)
    by (Some p) found = let at = position-Some (same_name name) roll p [] found in (p, at.0, sym (same_name-is name (name_at p roll) at.1))

-- two lists in which a name has a place in both or in none
same-has : (name : List ℕ) (roll new : List (List ℕ)) → ((p : ℕ) → p < length roll → name_at p roll ≡ name → has name new ≡ true)
    → ((p : ℕ) → p < length new → name_at p new ≡ name → has name roll ≡ true) → has name new ≡ has name roll
same-has name roll new there back = by (has name roll) refl (has name new) refl
  where
    by : (t : Bool) → has name roll ≡ t → (u : Bool) → has name new ≡ u → has name new ≡ has name roll
    by true e true f = f ∙ sym e
    by false e false f = f ∙ sym e
    by true e false f = let at = at-has name roll e in there at.0 at.1 at.2 ∙ sym e
    by false e true f = let at = at-has name new f in f ∙ sym (back at.0 at.1 at.2)

module _ (name : List ℕ) (roll : List (List ℕ)) where
  pub has-come-own : has name (come name roll) ≡ true
  has-come-own = has-at name (come name roll) (length roll) (omega (arith, length_push roll name)) (get_or_at roll name [] [] (length roll) refl)

  pub has-come-other : (other : List ℕ) → same_name name other ≡ false → has other (come name roll) ≡ has other roll
  has-come-other other apart =
      same-has other roll (come name roll)
      (λ p h is. has-at other (come name roll) p (omega (arith, h, length_push roll name)) (get_or_append_left roll (name ∷ []) [] p h ∙ is))
      (λ p h is. by p h is (cases_eq p (length roll)))
    where
      by : (p : ℕ) → p < length (come name roll) → name_at p (come name roll) ≡ other → ((p ≡ length roll) ⊎ (p ≡ length roll → ⊥)) → has other roll ≡ true
      by p h is (inl e) =
          let same : name ≡ other = sym (get_or_at roll name [] [] p (sym e)) ∙ is in
          let never : true ≡ false = sym (ap (same_name name) (sym same) ∙ same_name-itself name) ∙ apart in absurd (cc)
      by p h is (inr e) =
          let before : p < length roll = omega (arith, h, length_push roll name, e) in
          has-at other roll p before (sym (get_or_append_left roll (name ∷ []) [] p before) ∙ is)

module _ (roll : List (List ℕ)) (apart : IsDistinct same_name roll) where
  -- a name has one place
  one : (p q : ℕ) → p < length roll → q < length roll → name_at p roll ≡ name_at q roll → p ≡ q
  one p q hp hq e = by (cases_eq p q)
    where
      never : (i j : ℕ) → i < j → j < length roll → name_at i roll ≡ name_at j roll → ⊥
      never i j before h same =
          let wrong : true ≡ false = sym (ap (same_name (name_at i roll)) (sym same) ∙ same_name-itself (name_at i roll)) ∙ apart_from_distinct same_name roll i j [] apart before h in
          absurd (cc)

      by : ((p ≡ q) ⊎ (p ≡ q → ⊥)) → p ≡ q
      by (inl same) = same
      by (inr other) = order (cases_lt p q)
        where
          order : ((p < q) ⊎ (q ≤ p)) → p ≡ q
          order (inl before) = absurd (never p q before hq e)
          order (inr after) = absurd (never q p (omega (arith, after, other)) hp (sym e))

  module _ (p : ℕ) (within : p < length roll) where
    pub has-left-own : has (name_at p roll) (left p roll) ≡ false
    has-left-own = by (has (name_at p roll) (left p roll)) refl
      where
        at : (q : ℕ) → q < length (left p roll) → name_at q (left p roll) ≡ name_at p roll → ((q ≡ p) ⊎ (q ≡ p → ⊥)) → ⊥
        at q h is (inl e) =
            let short : p < length roll - 1 = omega (arith, h, e, left-length p roll) in
            let same : length roll - 1 ≡ p = one (length roll - 1) p (omega (arith, within)) within (sym (left-at p roll short) ∙ ap (λ k. name_at k (left p roll)) (sym e) ∙ is) in
            absurd (omega (arith, short, same))
        at q h is (inr e) =
            let short : q < length roll - 1 = omega (arith, h, left-length p roll) in
            e (one q p (omega (arith, short)) within (sym (left-other p q roll short e) ∙ is))

        by : (t : Bool) → has (name_at p roll) (left p roll) ≡ t → has (name_at p roll) (left p roll) ≡ false
        by false e = e
        by true e = let found = at-has (name_at p roll) (left p roll) e in absurd (at found.0 found.1 found.2 (cases_eq found.0 p))

    pub has-left-other : (other : List ℕ) → same_name (name_at p roll) other ≡ false → has other (left p roll) ≡ has other roll
    has-left-other other differs =
        same-has other roll (left p roll)
        (λ q h is. stays q h is (cases_eq q (length roll - 1)))
        (λ q h is. was q (subst (λ n. q < n) (left-length p roll) h) is (cases_eq q p))
      where
        stays : (q : ℕ) → q < length roll → name_at q roll ≡ other → ((q ≡ length roll - 1) ⊎ (q ≡ length roll - 1 → ⊥)) → has other (left p roll) ≡ true
        stays q h is (inl e) = last (cases_eq p q)
          where
            last : ((p ≡ q) ⊎ (p ≡ q → ⊥)) → has other (left p roll) ≡ true
            last (inl same) =
                let wrong : true ≡ false = sym (ap (same_name (name_at p roll)) (sym is ∙ ap (λ k. name_at k roll) (sym same)) ∙ same_name-itself (name_at p roll)) ∙ differs in
                absurd (cc)
            last (inr apart_from) =
                let short : p < length roll - 1 = omega (arith, within, e, h, apart_from) in
                has-at other (left p roll) p (omega (arith, short, left-length p roll)) (left-at p roll short ∙ ap (λ k. name_at k roll) (sym e) ∙ is)
        stays q h is (inr e) = inner (cases_eq q p)
          where
            short : q < length roll - 1
            short = omega (arith, h, e)

            inner : ((q ≡ p) ⊎ (q ≡ p → ⊥)) → has other (left p roll) ≡ true
            inner (inl same) =
                let wrong : true ≡ false = sym (ap (same_name (name_at p roll)) (sym is ∙ ap (λ k. name_at k roll) same) ∙ same_name-itself (name_at p roll)) ∙ differs in
                absurd (cc)
            inner (inr apart_from) = has-at other (left p roll) q (omega (arith, short, left-length p roll)) (left-other p q roll short apart_from ∙ is)

        was : (q : ℕ) → q < length roll - 1 → name_at q (left p roll) ≡ other → ((q ≡ p) ⊎ (q ≡ p → ⊥)) → has other roll ≡ true
        was q h is (inl e) =
            has-at other roll (length roll - 1) (omega (arith, h))
            (sym (left-at p roll (subst (λ k. k < length roll - 1) e h)) ∙ ap (λ k. name_at k (left p roll)) (sym e) ∙ is)
        was q h is (inr e) = has-at other roll q (omega (arith, h)) (sym (left-other p q roll h e) ∙ is)

  -- a member's place is the first that has its name
  pub found : (name : List ℕ) → has name roll ≡ true → Stands name roll (position_or_len (same_name name) roll)
  found name there = by (position (same_name name) roll) refl
    where
      by : (o : Option ℕ) → position (same_name name) roll ≡ o → Stands name roll (position_or_len (same_name name) roll)
      by None none = let never : false ≡ true = ap is_some (sym none) ∙ has-position (same_name name) roll ∙ there in absurd (cc)
      by (Some p) e = let s = stands name roll p e in subst (Stands name roll) (sym s.first) s

  has-moved-by : (name other : List ℕ) (was is : Bool) → has name roll ≡ was → (t : Bool) → same_name name other ≡ t
      → has other (moved name was is roll) ≡ (if t then is else has other roll)
  has-moved-by name other false true none true e = ap (λ x. has x (come name roll)) (sym (same_name-is name other e)) ∙ has-come-own name roll
  has-moved-by name other false true none false e = has-come-other name roll other e
  has-moved-by name other true false there true e =
      let s = found name there in
      ap (λ x. has x (left (position_or_len (same_name name) roll) roll)) (sym (same_name-is name other e) ∙ s.there)
      ∙ has-left-own (position_or_len (same_name name) roll) s.within
  has-moved-by name other true false there false e =
      let s = found name there in
      has-left-other (position_or_len (same_name name) roll) s.within other (ap (λ x. same_name x other) (sym s.there) ∙ e)
  has-moved-by name other true true there true e = ap (λ x. has x roll) (sym (same_name-is name other e)) ∙ there
  has-moved-by name other false false none true e = ap (λ x. has x roll) (sym (same_name-is name other e)) ∙ none
  has-moved-by name other true true there false e = refl
  has-moved-by name other false false none false e = refl

  pub has-moved : (name other : List ℕ) (is : Bool) → has other (moved name (has name roll) is roll) ≡ (if same_name name other then is else has other roll)
  has-moved name other is = has-moved-by name other (has name roll) is refl (same_name name other) refl

-- one that goes back is a member, and each other as before
module _ (name : List ℕ) (roll : List (List ℕ)) (p : ℕ) (within : p ≤ length roll) where
  has-back-own : has name (back_at p name roll) ≡ true
  has-back-own = has-at name (back_at p name roll) p (omega (arith, within, back-length p name roll)) (back-own p name roll within)

  has-back-other : (other : List ℕ) → same_name name other ≡ false → has other (back_at p name roll) ≡ has other roll
  has-back-other other differs = same-has other roll (back_at p name roll) (λ q h is. stays q h is (cases_eq q p)) (λ q h is. was q h is (cases_eq q p) (cases_eq q (length roll)))
    where
      stays : (q : ℕ) → q < length roll → name_at q roll ≡ other → ((q ≡ p) ⊎ (q ≡ p → ⊥)) → has other (back_at p name roll) ≡ true
      stays q h is (inl e) =
          has-at other (back_at p name roll) (length roll) (omega (arith, back-length p name roll))
          (back-drawn p name roll (subst (λ k. k < length roll) e h) ∙ ap (λ k. name_at k roll) (sym e) ∙ is)
      stays q h is (inr e) = has-at other (back_at p name roll) q (omega (arith, h, back-length p name roll)) (back-other p q name roll h e ∙ is)

      was : (q : ℕ) → q < length (back_at p name roll) → name_at q (back_at p name roll) ≡ other → ((q ≡ p) ⊎ (q ≡ p → ⊥)) → ((q ≡ length roll) ⊎ (q ≡ length roll → ⊥))
          → has other roll ≡ true
      was q h is (inl e) last =
          let same : name ≡ other = sym (back-own p name roll within) ∙ ap (λ k. name_at k (back_at p name roll)) (sym e) ∙ is in
          let wrong : true ≡ false = sym (ap (same_name name) (sym same) ∙ same_name-itself name) ∙ differs in absurd (cc)
      was q h is (inr e) (inl last) =
          let inside : p < length roll = omega (arith, within, e, last) in
          has-at other roll p inside (sym (back-drawn p name roll inside) ∙ ap (λ k. name_at k (back_at p name roll)) (sym last) ∙ is)
      was q h is (inr e) (inr other_place) =
          let inside : q < length roll = omega (arith, h, back-length p name roll, other_place) in
          has-at other roll q inside (sym (back-other p q name roll inside e) ∙ is)

pub has-returned : (name other : List ℕ) (before : Option ℕ) (roll : List (List ℕ)) → IsDistinct same_name roll
    → ((place : ℕ) → before ≡ Some place → has name roll ≡ false → place ≤ length roll)
    → has other (returned name before roll) ≡ (if same_name name other then is_some before else has other roll)
has-returned name other None roll apart there = has-moved roll apart name other false
has-returned name other (Some place) roll apart there = by (has name roll) refl (same_name name other) refl
  where
    by : (b : Bool) → has name roll ≡ b → (t : Bool) → same_name name other ≡ t
        → has other (if b then roll else back_at place name roll) ≡ (if t then true else has other roll)
    by true e true f = ap (λ x. has x roll) (sym (same_name-is name other f)) ∙ e
    by true e false f = refl
    by false e true f = ap (λ x. has x (back_at place name roll)) (sym (same_name-is name other f)) ∙ has-back-own name roll place (there place refl e)
    by false e false f = has-back-other name roll place (there place refl e) other f

-- ---- a row goes back where its seats were kept

module _ (names : List (List ℕ)) (old : Seated) (k : ℕ) (seated : AreSeated names old) (apart : IsDistinct same_name names) (within : k < length names) where
  abbrev x : List ℕ
  x = name_at k names

  abbrev kept : Seats
  kept = seat_at k old.seats

  pub stands-by : (n : ℕ) → n < length old.rolls → has x (names_of n old.rolls) ≡ (roll_in (seat_of n old.rolls) kept == n)
  stands-by n number = row-has names old seated apart k within (seat_of n old.rolls) n number refl

  -- a number that is one
  real : (n m : ℕ) → n < length old.rolls → m ≡ n → m ≢ NOWHERE
  real n m number is e = let few = seated.few in omega (arith, few, is, e, number)

  pub names-back : (n : ℕ) → n < length old.rolls → (is : Bool)
      → returned x (stood (seat_of n old.rolls) n kept) (moved x (has x (names_of n old.rolls)) is (names_of n old.rolls)) ≡ names_of n old.rolls
  names-back n number is = by (eqb (roll_in s kept) n) refl
    where
      s : ℕ
      s = seat_of n old.rolls

      roll : List (List ℕ)
      roll = names_of n old.rolls

      told : (b : Bool) → has x roll ≡ b → has x (moved x b is roll) ≡ is
      told b e =
          subst (λ t. has x (moved x t is roll) ≡ is) e
          (has-moved roll (apart-roll names old seated n) x x is ∙ ap (λ t. if t then is else has x roll) (same_name-itself x))

      by : (t : Bool) → eqb (roll_in s kept) n ≡ t
          → returned x (if t then Some (place_in s kept) else None) (moved x (has x roll) is roll) ≡ roll
      by true e =
          let from : roll_in s kept ≡ n = (Decides-eqb (roll_in s kept) n).0 e in
          let there : has x roll ≡ true = stands-by n number ∙ e in
          let stand = found roll (apart-roll names old seated n) x there in
          let first : position_or_len (same_name x) roll ≡ place_in s kept =
          ap (λ m. position_or_len (same_name x) (names_of m old.rolls)) (sym from) ∙ row-place names old seated apart k within s (real n (roll_in s kept) number from) in
          subst (λ b. returned x (Some (place_in s kept)) (moved x b is roll) ≡ roll) (sym there)
          (after-some x roll (place_in s kept) (subst (Stands x roll) first stand) is (told true there))
      by false e =
          let none : has x roll ≡ false = stands-by n number ∙ e in
          subst (λ b. returned x None (moved x b is roll) ≡ roll) (sym none) (after-none x roll none is (told false none))

  module _ (rolls : List Numbered) (keeps : KeepsSeats old.rolls rolls) (room : KeepsRoom old.rolls rolls) (now : Seats)
      (arranged : (n : ℕ) → n < length old.rolls → names_of n rolls ≡ moved x (has x (names_of n old.rolls)) (roll_in (seat_of n old.rolls) now == n) (names_of n old.rolls))
      (s : ℕ) where
    abbrev n : ℕ
    n = roll_in s kept

    stood-there : n ≢ NOWHERE → StandsAt old.rolls x s n (place_in s kept)
    stood-there some = row-stands names old seated apart k within s some

    target : IsFor rolls s n
    target = by (cases_eq n NOWHERE)
      where
        by : ((n ≡ NOWHERE) ⊎ (n ≡ NOWHERE → ⊥)) → IsFor rolls s n
        by (inl e) = inl e
        by (inr some) = let there = stood-there some in inr (let count = keeps.count in let inside = there.numbered in omega (arith, count, inside), keeps.own n ∙ there.own)

    places : n ≢ NOWHERE → n ≢ roll_in s now → (place_in s kept ≤ length (names_of n rolls)) × (0 < room_of n rolls)
    places some other =
        let there = stood-there some in
        let number : n < length old.rolls = there.numbered in
        let inside : place_in s kept < length (names_of n old.rolls) = there.within in
        let member : has x (names_of n old.rolls) ≡ true = has-at x (names_of n old.rolls) (place_in s kept) inside there.named in
        let away : (roll_in (seat_of n old.rolls) now == n) ≡ false = unlike (roll_in (seat_of n old.rolls) now) n (λ e. other (sym e ∙ ap (λ t. roll_in t now) there.own)) in
        let left_names : names_of n rolls ≡ left (position_or_len (same_name x) (names_of n old.rolls)) (names_of n old.rolls) =
        arranged n number ∙ ap (λ b. moved x b (roll_in (seat_of n old.rolls) now == n) (names_of n old.rolls)) member
        ∙ ap (λ b. moved x true b (names_of n old.rolls)) away in
        let long : length (names_of n rolls) ≡ length (names_of n old.rolls) - 1 = ap length left_names ∙ left-length (position_or_len (same_name x) (names_of n old.rolls)) (names_of n old.rolls) in
        let more = room n in (omega (arith, long, inside), omega (arith, long, inside, more))
      where
        unlike : (a b : ℕ) → a ≢ b → eqb a b ≡ false
        unlike a b differ = grind (arith, nat_tests, differ)

    pub can-return : CanReturn rolls now kept s
    can-return = record { target = target; room = places }

-- a name without a row is in no roll
pub never-member : (names : List (List ℕ)) (old : Seated) (name : List ℕ) → AreSeated names old → has name names ≡ false → (n : ℕ) → has name (names_of n old.rolls) ≡ false
never-member names old name seated none n = by (has name (names_of n old.rolls)) refl
  where
    by : (t : Bool) → has name (names_of n old.rolls) ≡ t → has name (names_of n old.rolls) ≡ false
    by false e = e
    by true e =
        let at = at-has name (names_of n old.rolls) e in
        let told : roll_in (seat_of n old.rolls) (seats_of names old.seats name) ≡ n =
        ap (λ y. roll_in (seat_of n old.rolls) (seats_of names old.seats y)) (sym at.2) ∙ seated.rolled n at.0 at.1 in
        absurd (numbered names old n at.0 seated.few at.1
        (sym told ∙ ap (roll_in (seat_of n old.rolls)) (seats-none names old.seats name seated.beside none) ∙ nowhere (seat_of n old.rolls)))

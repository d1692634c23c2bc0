-- The seats of a table's rows, by the names of the rows.
use Rattle.std.proofs.Common.{◌≡◌, ◌≢◌, ◌⊎◌, inl, inr, ℕ, ◌+◌, ◌-◌, ◌<◌, Bool, true, false, List, [], length, map, get_or, set, cond, ltb, eqb, slice_get, Some, None, position, refl, sym, ap, ◌∙◌, arith}
use Rattle.std.specs.Prelude.{if◌then◌else◌}
use Rattle.std.specs.List.{IsDistinct, position_or_len}
use Rattle.std.specs.Option.{option_map}
use Rattle.std.proofs.lemmas.Bool.Decides.{Decides-eqb, nat_tests}
use Rattle.std.proofs.lemmas.List.{get_or-set_same, get_or-set_other}
use Rattle.std.proofs.lemmas.List.Quantifiers.{position-Some}
use Rattle.std.proofs.lemmas.List.Sums.{position_or_len_is}
use Rattle.std.proofs.lemmas.Map.Keys.{apart_from_distinct}
use Rattle.std.proofs.lemmas.Option.{slice_get-map, slice_get_read, slice_get_within, get_or_from_slice_get}
use Rattle.scr_tables.specs.Names.{same_name}
use Rattle.scr_tables.proofs.TableRows.{same_name-is, same_name-itself, same_name-flip, same_or_other}
use Rattle.scr_member_lists.specs.Rosters.{drawn_in, drawn_out}
use Rattle.scr_member_lists.specs.Seatings.{free, seat_at, seats_of}
use Rattle.scr_member_lists.specs.declared.seats.Seats.{Seats}

-- the place of a row that has the name
pub place-of : (names : List (List ℕ)) (k : ℕ) (x : List ℕ) → IsDistinct same_name names → k < length names → get_or names k [] ≡ x → position_or_len (same_name x) names ≡ k
place-of names k x apart h is =
    position_or_len_is (same_name x) names k [] (omega (arith, h))
    (λ j before. same_name-flip x (get_or names j []) ∙ ap (same_name (get_or names j [])) (sym is) ∙ apart_from_distinct same_name names j k [] apart before h)
    (λ w. ap (same_name x) is ∙ same_name-itself x)

-- what has the name at its place
pub name-there : (names : List (List ℕ)) (x : List ℕ) (k : ℕ) → position_or_len (same_name x) names ≡ k → k < length names → get_or names k [] ≡ x
name-there names x k is h = sym (same_name-is x (get_or names k []) (position-Some (same_name x) names k [] found).1)
  where
    inside : ltb k (length names) ≡ true
    inside = grind (arith, nat_tests, h)

    found : position (same_name x) names ≡ Some k
    found = ap (λ j. cond (ltb j (length names)) (Some j) None) is ∙ ap (λ b. cond b (Some k) None) inside

module _ (names : List (List ℕ)) (seats : List Seats) (beside : length seats ≡ length names) (k : ℕ) (within : k < length names) (own : Seats) where
  pub set-own : IsDistinct same_name names → (x : List ℕ) → get_or names k [] ≡ x → seats_of names (set seats k own) x ≡ own
  set-own apart x is = ap (λ j. get_or (set seats k own) j free) (place-of names k x apart within is) ∙ get_or-set_same seats k own free (omega (arith, beside, within))

  pub set-other : (y : List ℕ) → y ≢ get_or names k [] → seats_of names (set seats k own) y ≡ seats_of names seats y
  set-other y apart = get_or-set_other seats k (position_or_len (same_name y) names) own free (λ e. apart (sym (name-there names y k e within)))

  pub own-before : IsDistinct same_name names → (x : List ℕ) → get_or names k [] ≡ x → seats_of names seats x ≡ seat_at k seats
  own-before apart x is = ap (λ j. get_or seats j free) (place-of names k x apart within is)

-- a row that a table has under a name
pub named-at : {Row : Type 0} (name_of : Row → List ℕ) (rows : List Row) (k : ℕ) (x : List ℕ) → option_map name_of (slice_get rows k) ≡ Some x
    → (k < length (map name_of rows)) × (get_or (map name_of rows) k [] ≡ x)
named-at name_of rows k x e =
    let found : slice_get (map name_of rows) k ≡ Some x = slice_get-map name_of rows k ∙ e in
    (slice_get_within (map name_of rows) k x found, get_or_from_slice_get (map name_of rows) k x [] found)

-- the seats at a place, read whichever way
pub at-any : (seats : List Seats) (k : ℕ) (own : Seats) → k < length seats → own ≡ get_or seats k own → seat_at k seats ≡ own
at-any seats k own h e = get_or_from_slice_get seats k own free (slice_get_read seats (length seats) k own refl h e)

-- who stood at the place to which another goes back
pub drawn-out : (place : ℕ) (roll : List (List ℕ)) (d : List ℕ) → drawn_out place roll ≡ Some d → (place < length roll) × (d ≡ get_or roll place [])
drawn-out place roll d = by (ltb place (length roll)) refl
  where
    by : (t : Bool) → ltb place (length roll) ≡ t → (if t then Some (get_or roll place []) else None) ≡ Some d → (place < length roll) × (d ≡ get_or roll place [])
    by true e is = (grind (arith, nat_tests, e), let one : get_or roll place [] ≡ d = cc in sym one)
    by false e is = absurd (cc)

-- who takes the place of one that leaves
pub drawn-in : (place : ℕ) (roll : List (List ℕ)) (d : List ℕ) → drawn_in place roll ≡ Some d
    → (place + 1 < length roll) × (d ≡ get_or roll (length roll - 1) [])
drawn-in place roll d = by (ltb (place + 1) (length roll)) refl
  where
    last : List ℕ
    last = get_or roll (length roll - 1) []

    by : (t : Bool) → ltb (place + 1) (length roll) ≡ t → (if t then Some last else None) ≡ Some d → (place + 1 < length roll) × (d ≡ last)
    by true e is = (grind (arith, nat_tests, e), let one : last ≡ d = cc in sym one)
    by false e is = absurd (cc)

-- ---- one seat of one row is written

module _ (names : List (List ℕ)) (old : List Seats) (apart : IsDistinct same_name names) (beside : length old ≡ length names)
    (k : ℕ) (x : List ℕ) (within : k < length names) (is : get_or names k [] ≡ x) (own : Seats) where
  -- what a row has in a seat, as a number
  module _ (told : ℕ → Seats → ℕ) (seat value : ℕ) (written : (s : ℕ) → told s own ≡ (if eqb seat s then value else told s (seat_at k old))) where
    pub write-own : told seat (seats_of names (set old k own) x) ≡ value
    write-own =
        ap (told seat) (set-own names old beside k within own apart x is) ∙ written seat
        ∙ ap (λ b. if b then value else told seat (seat_at k old)) ((Decides-eqb seat seat).1 refl)

    unlike : {s : ℕ} → s ≢ seat → eqb seat s ≡ false
    unlike {s} other = grind (arith, nat_tests, other)

    pub write-others : (y : List ℕ) (s : ℕ) → ((y ≢ x) ⊎ (s ≢ seat)) → told s (seats_of names (set old k own) y) ≡ told s (seats_of names old y)
    write-others y s (inl other) = ap (told s) (set-other names old beside k within own y (λ e. other (e ∙ is)))
    write-others y s (inr other) =
        same_or_other x y
        (λ e. let one : x ≡ y = same_name-is x y e in
        ap (λ z. told s (seats_of names (set old k own) z)) (sym one)
        ∙ ap (told s) (set-own names old beside k within own apart x is) ∙ written s
        ∙ ap (λ b. if b then value else told s (seat_at k old)) (unlike other)
        ∙ ap (told s) (sym (own-before names old beside k within own apart x is))
        ∙ ap (λ z. told s (seats_of names old z)) one)
        (λ e. ap (told s) (set-other names old beside k within own y (λ z. let never : true ≡ false = sym (ap (same_name x) (z ∙ is) ∙ same_name-itself x) ∙ e in absurd (cc))))

  -- what stays in all seats of the row stays for all rows
  pub write-kept : (told : ℕ → Seats → ℕ) → ((s : ℕ) → told s own ≡ told s (seat_at k old)) → (y : List ℕ) (s : ℕ) → told s (seats_of names (set old k own) y) ≡ told s (seats_of names old y)
  write-kept told same y s =
      same_or_other x y
      (λ e. let one : x ≡ y = same_name-is x y e in
      ap (λ z. told s (seats_of names (set old k own) z)) (sym one)
      ∙ ap (told s) (set-own names old beside k within own apart x is) ∙ same s
      ∙ ap (told s) (sym (own-before names old beside k within own apart x is))
      ∙ ap (λ z. told s (seats_of names old z)) one)
      (λ e. ap (told s) (set-other names old beside k within own y (λ z. let never : true ≡ false = sym (ap (same_name x) (z ∙ is) ∙ same_name-itself x) ∙ e in absurd (cc))))

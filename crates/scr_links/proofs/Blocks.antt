-- The ends of lists are written block by block.
use Rattle.std.proofs.Common.{◌≡◌, ℕ, zero, suc, ◌+◌, ◌-◌, ◌*◌, ◌/◌, ◌%◌, ◌<◌, ◌≤◌, cond, List, [], ◌∷◌, ◌++◌, length, replicate, get_or, set, eqb, refl, ap, sym, ◌∙◌, ⊎_elim, subst, arith, eqb-true, eq-eqb, ne_eqb}
use Rattle.std.proofs.lemmas.Bool.{cases_Bool, cases_eq, cases_lt, both_ways, cond-true, cond-false}
use Rattle.std.proofs.lemmas.List.{get_or_past, get_or-append_right, get_or_append_left, get_or-replicate, get_or-set_same, get_or-set_other, length-append, length-replicate, length-set}
use Rattle.scr_links.specs.Chains.{none, empty, ends_in, seat_at, written_at}
use Rattle.scr_links.specs.ListEnds.{AreSeated, HasSeat, one_if, unwritten}
use Rattle.scr_links.specs.declared.chains.Ends.{Ends}

-- what is read past a list stays when it is written there
pub get-more : {X : Type 0} (xs : List X) (n : ℕ) (d : X) (i : ℕ) → get_or (xs ++ replicate n d) i d ≡ get_or xs i d
get-more xs n d i = ⊎_elim
    (λ less. get_or_append_left xs (replicate n d) d i less)
    (λ least. get_or-append_right xs (replicate n d) (length xs) i d refl least ∙ of_same (i - length xs)
    ∙ sym (get_or_past xs i d least))
    (cases_lt i (length xs))
  where
    of_same : (k : ℕ) → get_or (replicate n d) k d ≡ d
    of_same k = ⊎_elim
        (λ less. get_or-replicate n k d d less)
        (λ least. get_or_past (replicate n d) k d (omega (arith, length-replicate n d)))
        (cases_lt k n)

-- ---- how many are not written

unwritten-none : (n : ℕ) → unwritten (replicate n none) ≡ n
unwritten-none zero = refl
unwritten-none (suc n) =
    let rest = unwritten-none n in
    let one : one_if (eqb none none) ≡ 1 = ap one_if (eq-eqb none none refl) in
    omega (arith, rest, one)

unwritten-more : (seats : List ℕ) (n : ℕ) → unwritten (seats ++ replicate n none) ≡ unwritten seats + n
unwritten-more [] n = let all = unwritten-none n in omega (arith, all)
unwritten-more (seat ∷ seats) n = let rest = unwritten-more seats n in omega (arith, rest)

unwritten-set : (seats : List ℕ) (block seat : ℕ) → block < length seats → seat_at seats block ≡ none → (seat ≡ none → ⊥)
    → unwritten (set seats block seat) + 1 ≡ unwritten seats
unwritten-set [] block seat low is some = absurd (omega (arith, low))
unwritten-set (first ∷ seats) zero seat low is some =
    let one : one_if (eqb first none) ≡ 1 = ap one_if (eq-eqb first none is) in
    let nothing : one_if (eqb seat none) ≡ 0 = ap one_if (ne_eqb seat none some) in
    omega (arith, one, nothing)
unwritten-set (first ∷ seats) (suc block) seat low is some =
    let rest = unwritten-set seats block seat (omega (arith, low)) is some in omega (arith, rest)

-- ---- more seats

module _ (seats : List ℕ) (ends : List Ends) (n : ℕ) where
  pub filled-same : (list : ℕ) → ends_in (seats ++ replicate n none) ends list ≡ ends_in seats ends list
  filled-same list = ap (λ seat. written_at ends (seat * 4 + list % 4)) (get-more seats n none (list / 4))

  pub filled-seated : AreSeated seats ends → AreSeated (seats ++ replicate n none) ends
  filled-seated seated = record {
    counted = omega (arith, seated.counted, unwritten-more seats n, length-append seats (replicate n none), length-replicate n none);
    within = λ block some.
        let same = get-more seats n none block in
        let low = seated.within block (λ e. some (same ∙ e)) in
        omega (arith, low, same);
    apart = λ block other some e.
        seated.apart block other (λ e'. some (get-more seats n none block ∙ e'))
        (sym (get-more seats n none block) ∙ e ∙ get-more seats n none other);
  }

-- ---- a block more

module _ (seats : List ℕ) (ends : List Ends) (seated : AreSeated seats ends) (few : length seats ≤ 1073741824)
    (block next : ℕ) (low : block < length seats) (is : seat_at seats block ≡ none) (next_is : next * 4 ≡ length ends) where
  abbrev now_seats : List ℕ
  now_seats = set seats block next

  abbrev now_ends : List Ends
  now_ends = ends ++ replicate 4 empty

  next_some : next ≡ none → ⊥
  next_some e = let counted = seated.counted in absurd (omega (arith, counted, few, next_is, e))

  long : length now_ends ≡ length ends + 4
  long = length-append ends (replicate 4 empty)

  seat_here : seat_at now_seats block ≡ next
  seat_here = get_or-set_same seats block next none low

  seat_else : (other : ℕ) → (other ≡ block → ⊥) → seat_at now_seats other ≡ seat_at seats other
  seat_else other apart = get_or-set_other seats block other next none apart

  -- no other block has the new seat
  fresh : (other : ℕ) → seat_at seats other ≡ next → ⊥
  fresh other e =
      let within = seated.within other (λ e'. next_some (sym e ∙ e')) in
      absurd (omega (arith, within, e, next_is))

  pub written-seated : AreSeated now_seats now_ends
  written-seated = record {
    counted =
        let counted = seated.counted in
        let fewer = unwritten-set seats block next low is next_some in
        omega (arith, counted, fewer, long, length-set seats block next);
    within = λ one some. ⊎_elim
        (λ e. let seat : seat_at now_seats one ≡ next = ap (seat_at now_seats) e ∙ seat_here in
        omega (arith, seat, next_is, long))
        (λ other. let same = seat_else one other in
        let within = seated.within one (λ e. some (same ∙ e)) in
        omega (arith, same, within, long))
        (cases_eq one block);
    apart = λ one other some e. ⊎_elim
        (λ here. ⊎_elim
        (λ there. here ∙ sym there)
        (λ apart. absurd (fresh other (sym (seat_else other apart) ∙ sym e ∙ ap (seat_at now_seats) here ∙ seat_here)))
        (cases_eq other block))
        (λ away. ⊎_elim
        (λ there. absurd (fresh one (sym (seat_else one away) ∙ e ∙ ap (seat_at now_seats) there ∙ seat_here)))
        (λ apart. seated.apart one other (λ e'. some (seat_else one away ∙ e'))
        (sym (seat_else one away) ∙ e ∙ seat_else other apart))
        (cases_eq other block))
        (cases_eq one block);
  }

  pub written-same : (list : ℕ) → ends_in now_seats now_ends list ≡ ends_in seats ends list
  written-same list = ⊎_elim
      (λ e.
      let counted = seated.counted in
      let new : seat_at now_seats (list / 4) ≡ next = ap (seat_at now_seats) e ∙ seat_here in
      let old : seat_at seats (list / 4) ≡ none = ap (seat_at seats) e ∙ is in
      get-more ends 4 empty (seat_at now_seats (list / 4) * 4 + list % 4)
      ∙ get_or_past ends (seat_at now_seats (list / 4) * 4 + list % 4) empty (omega (arith, new, next_is))
      ∙ sym (get_or_past ends (seat_at seats (list / 4) * 4 + list % 4) empty (omega (arith, old, counted, few))))
      (λ other.
      get-more ends 4 empty (seat_at now_seats (list / 4) * 4 + list % 4)
      ∙ ap (λ seat. written_at ends (seat * 4 + list % 4)) (seat_else (list / 4) other))
      (cases_eq (list / 4) block)

-- ---- the ends of one list are written

module _ (seats : List ℕ) (ends : List Ends) (seated : AreSeated seats ends) (few : length seats ≤ 1073741824)
    (list seat : ℕ) (is : seat_at seats (list / 4) ≡ seat) (there : seat * 4 + 4 ≤ length ends) (written : Ends) where
  abbrev place : ℕ
  place = seat * 4 + list % 4

  abbrev now : List Ends
  now = set ends place written

  pub set-seated : AreSeated seats now
  set-seated = record {
    counted = let counted = seated.counted in omega (arith, counted, length-set ends place written);
    within = λ block some. let within = seated.within block some in omega (arith, within, length-set ends place written);
    apart = seated.apart;
  }

  -- another list has another place
  one : (number : ℕ) → seat_at seats (number / 4) * 4 + number % 4 ≡ place → number ≡ list
  one number e =
      let counted = seated.counted in
      let seats_same : seat_at seats (number / 4) ≡ seat = omega (arith, e) in
      let some : seat_at seats (number / 4) ≡ none → ⊥ = λ e'. absurd (omega (arith, e', seats_same, there, counted, few)) in
      let blocks = seated.apart (number / 4) (list / 4) some (seats_same ∙ sym is) in
      omega (arith, e, seats_same, blocks)

  pub set-at : (number : ℕ) → ends_in seats now number ≡ cond (eqb number list) written (ends_in seats ends number)
  set-at number = ⊎_elim
      (λ t.
      ap (ends_in seats now) (eqb-true number list t)
      ∙ ap (λ s. written_at now (s * 4 + list % 4)) is
      ∙ get_or-set_same ends place written empty (omega (arith, there))
      ∙ sym (cond-true _ _ _ t))
      (λ f.
      get_or-set_other ends place (seat_at seats (number / 4) * 4 + number % 4) written empty
      (λ e. both_ways _ f (eq-eqb number list (one number e)))
      ∙ sym (cond-false _ _ _ f))
      (cases_Bool (eqb number list))

-- past all seats no list has ends
pub past-none : (seats : List ℕ) (ends : List Ends) → AreSeated seats ends → length seats ≤ 1073741824
    → (list : ℕ) → length seats * 4 ≤ list → ends_in seats ends list ≡ empty
past-none seats ends seated few list high =
    let counted = seated.counted in
    let none_there : seat_at seats (list / 4) ≡ none = get_or_past seats (list / 4) none (omega (arith, high)) in
    get_or_past ends (seat_at seats (list / 4) * 4 + list % 4) empty (omega (arith, none_there, counted, few))

-- ---- the seat of a block

-- the block has this seat now, and the ends of all lists are the same
pub record IsReady (seats : List ℕ) (ends : List Ends) (now : List ℕ) (so : List Ends) (block seat : ℕ) : Type 0 where
  pub seated : AreSeated now so
  pub same : (list : ℕ) → ends_in now so list ≡ ends_in seats ends list
  pub has : HasSeat now so block seat

-- it is written already
pub found : (seats : List ℕ) (ends : List Ends) → AreSeated seats ends → (block seat : ℕ) → seat ≡ seat_at seats block
    → (seat ≡ none → ⊥) → IsReady seats ends seats ends block seat
found seats ends seated block seat is some =
    let within = seated.within block (λ e. some (is ∙ e)) in
    let counted = seated.counted in
    record {
      seated = seated;
      same = λ list. refl;
      has = record { is = sym is; there = omega (arith, within, is, counted) };
    }

-- it is the next one
module _ (seats : List ℕ) (ends : List Ends) (seated : AreSeated seats ends) (block : ℕ) (is : seat_at seats block ≡ none)
    (now : List ℕ) (filled : now ≡ seats ++ replicate (block + 1 - length seats) none) where
  abbrev more : ℕ
  more = block + 1 - length seats

  pub filled-long : length now ≡ length seats + more
  filled-long =
      ap length filled ∙ length-append seats (replicate more none) ∙ ap (λ n. length seats + n) (length-replicate more none)

  pub low : block < length now
  low = omega (arith, filled-long)

  pub longest : (most : ℕ) → block < most → length seats ≤ most → length now ≤ most
  longest most less few = omega (arith, filled-long, less, few)

  now_seated : AreSeated now ends
  now_seated = subst (λ ss. AreSeated ss ends) (sym filled) (filled-seated seats ends more seated)

  now_same : (list : ℕ) → ends_in now ends list ≡ ends_in seats ends list
  now_same list = ap (λ ss. ends_in ss ends list) filled ∙ filled-same seats ends more list

  now_is : seat_at now block ≡ none
  now_is = ap (λ ss. seat_at ss block) filled ∙ get-more seats more none block ∙ is

  -- there is room for it: a block is not written yet
  pub made-room : length ends + 4 ≤ length now * 4
  made-room =
      let counted = now_seated.counted in
      let fewer = unwritten-set now block 0 low now_is (λ e. absurd (omega (arith, e))) in
      omega (arith, counted, fewer)

  pub made : (seat : ℕ) → length seats ≤ 1073741824 → block < 1073741824 → seat * 4 ≡ length ends → (then : List ℕ)
      → then ≡ set now block seat → (so : List Ends) → so ≡ ends ++ replicate 4 empty
      → IsReady seats ends then so block seat
  made seat few short next then is_then so is_so =
      let small = longest 1073741824 short few in
      subst (λ ss. IsReady seats ends ss so block seat) (sym is_then)
      (subst (λ es. IsReady seats ends (set now block seat) es block seat) (sym is_so) (record {
        seated = written-seated now ends now_seated small block seat low now_is next;
        same = λ list. written-same now ends now_seated small block seat low now_is next list ∙ now_same list;
        has = record {
          is = get_or-set_same now block seat none low;
          there = omega (arith, next, length-append ends (replicate 4 empty));
        };
      }))

pub empty-seated : (seats : List ℕ) (ends : List Ends) → seats ≡ [] → ends ≡ [] → AreSeated seats ends
empty-seated seats ends no_seats no_ends = record {
  counted =
      let nothing = ap unwritten no_seats in
      omega (arith, ap length no_seats, ap length no_ends, nothing);
  within = λ block some. absurd (some (ap (λ ss. seat_at ss block) no_seats));
  apart = λ block other some e. absurd (some (ap (λ ss. seat_at ss block) no_seats));
}

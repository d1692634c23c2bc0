-- Rolls by number and where each name stands, as functions: what holds where one leaves a roll, comes to one, or goes back.
use Rattle.std.proofs.Common.{◌≡◌, ◌≢◌, ◌⊎◌, inl, inr, ℕ, ◌+◌, ◌-◌, ◌<◌, ◌≤◌, Bool, true, false, List, [], ◌∷◌, length, get_or, set, eqb, refl, sym, ap, subst, ◌∙◌, arith}
use Rattle.std.specs.Prelude.{if◌then◌else◌}
use Rattle.std.proofs.lemmas.Bool.Decides.{Decides-eqb, nat_tests}
use Rattle.std.proofs.lemmas.Bool.{cases_eq}
use Rattle.std.proofs.lemmas.List.{length-take, length_push, length-set, get_or-take, get_or-set_same, get_or-set_other, get_or_append_left, get_or_at}
use Rattle.scr_tables.specs.Names.{same_name}
use Rattle.scr_tables.proofs.TableRows.{same_name-is, same_name-itself, same_or_other}
use Rattle.scr_member_lists.specs.Members.{name_at, come, left, back_at}
use Rattle.scr_member_lists.specs.Seatings.{NOWHERE}

-- ---- lists that change

pub left-length : (p : ℕ) (roll : List (List ℕ)) → length (left p roll) ≡ length roll - 1
left-length p roll = length-take (length roll - 1) (set roll p (get_or roll (length roll - 1) [])) ∙ (omega (arith, length-set roll p (get_or roll (length roll - 1) [])))

pub left-at : (p : ℕ) (roll : List (List ℕ)) → p < length roll - 1 → name_at p (left p roll) ≡ name_at (length roll - 1) roll
left-at p roll h =
    get_or-take (length roll - 1) (set roll p (get_or roll (length roll - 1) [])) p [] h
    ∙ get_or-set_same roll p (get_or roll (length roll - 1) []) [] (omega (arith, h))

pub left-other : (p q : ℕ) (roll : List (List ℕ)) → q < length roll - 1 → q ≢ p → name_at q (left p roll) ≡ name_at q roll
left-other p q roll h apart =
    get_or-take (length roll - 1) (set roll p (get_or roll (length roll - 1) [])) q [] h
    ∙ get_or-set_other roll p q (get_or roll (length roll - 1) []) [] apart

come-before : (x : List ℕ) (roll : List (List ℕ)) (q : ℕ) → q < length roll → name_at q (come x roll) ≡ name_at q roll
come-before x roll q h = get_or_append_left roll (x ∷ []) [] q h

come-last : (x : List ℕ) (roll : List (List ℕ)) → name_at (length roll) (come x roll) ≡ x
come-last x roll = get_or_at roll x [] [] (length roll) refl

abbrev back_by : Bool → ℕ → List ℕ → List (List ℕ) → List (List ℕ)
back_by t p x roll = if t then come x roll else come (name_at p roll) (set roll p x)

pub back-length : (p : ℕ) (x : List ℕ) (roll : List (List ℕ)) → length (back_at p x roll) ≡ length roll + 1
back-length p x roll = by (eqb p (length roll))
  where
    by : (t : Bool) → length (back_by t p x roll) ≡ length roll + 1
    by true = length_push roll x
    by false = length_push (set roll p x) (name_at p roll) ∙ ap (λ n. n + 1) (length-set roll p x)

pub back-own : (p : ℕ) (x : List ℕ) (roll : List (List ℕ)) → p ≤ length roll → name_at p (back_at p x roll) ≡ x
back-own p x roll h = by (eqb p (length roll)) refl
  where
    by : (t : Bool) → eqb p (length roll) ≡ t → name_at p (back_by t p x roll) ≡ x
    by true e = ap (λ k. name_at k (come x roll)) ((Decides-eqb p (length roll)).0 e) ∙ come-last x roll
    by false e =
        let before : p < length roll = grind (arith, nat_tests, e, h) in
        come-before (name_at p roll) (set roll p x) p (subst (λ n. p < n) (sym (length-set roll p x)) before) ∙ get_or-set_same roll p x [] before

pub back-drawn : (p : ℕ) (x : List ℕ) (roll : List (List ℕ)) → p < length roll → name_at (length roll) (back_at p x roll) ≡ name_at p roll
back-drawn p x roll h = by (eqb p (length roll)) refl
  where
    by : (t : Bool) → eqb p (length roll) ≡ t → name_at (length roll) (back_by t p x roll) ≡ name_at p roll
    by true e = let same = (Decides-eqb p (length roll)).0 e in absurd (omega (arith, same, h))
    by false e = ap (λ n. name_at n (come (name_at p roll) (set roll p x))) (sym (length-set roll p x)) ∙ come-last (name_at p roll) (set roll p x)

pub back-other : (p q : ℕ) (x : List ℕ) (roll : List (List ℕ)) → q < length roll → q ≢ p → name_at q (back_at p x roll) ≡ name_at q roll
back-other p q x roll h apart = by (eqb p (length roll))
  where
    by : (t : Bool) → name_at q (back_by t p x roll) ≡ name_at q roll
    by true = come-before x roll q h
    by false = come-before (name_at p roll) (set roll p x) q (subst (λ n. q < n) (sym (length-set roll p x)) h) ∙ get_or-set_other roll p q x [] apart

module _ (seat_of : ℕ → ℕ) (count : ℕ) where
  -- each member has a seat that says where it stands, and what a seat says is so
  pub record Told (names : ℕ → List (List ℕ)) (at place : List ℕ → ℕ → ℕ) : Type 0 where
    pub real : (n p : ℕ) → p < length (names n) → n ≢ NOWHERE
    pub rolled : (n p : ℕ) → p < length (names n) → at (name_at p (names n)) (seat_of n) ≡ n
    pub placed : (n p : ℕ) → p < length (names n) → place (name_at p (names n)) (seat_of n) ≡ p
    pub there : (x : List ℕ) (s : ℕ) → at x s ≢ NOWHERE
        → (at x s < count) × (seat_of (at x s) ≡ s) × (place x s < length (names (at x s))) × (name_at (place x s) (names (at x s)) ≡ x)

  -- ---- one leaves

  module _ (names new : ℕ → List (List ℕ)) (at at_new place place_new : List ℕ → ℕ → ℕ) (told : Told names at place) (x : List ℕ) (s n p : ℕ)
      (is : at x s ≡ n) (some : n ≢ NOWHERE) (stands : place x s ≡ p)
      (own : new n ≡ left p (names n)) (others : (m : ℕ) → m ≢ n → new m ≡ names m)
      (gone : at_new x s ≡ NOWHERE) (stay : (y : List ℕ) (t : ℕ) → ((y ≢ x) ⊎ (t ≢ s)) → at_new y t ≡ at y t)
      (drawn : p + 1 < length (names n) → place_new (name_at (length (names n) - 1) (names n)) s ≡ p)
      (still : (y : List ℕ) (t : ℕ) → ((y ≢ name_at (length (names n) - 1) (names n)) ⊎ (t ≢ s)) → place_new y t ≡ place y t) where
    abbrev roll : List (List ℕ)
    roll = names n

    abbrev last : ℕ
    last = length roll - 1

    here : (at x s < count) × (seat_of (at x s) ≡ s) × (place x s < length (names (at x s))) × (name_at (place x s) (names (at x s)) ≡ x)
    here = told.there x s (λ e. some (sym is ∙ e))

    seat : seat_of n ≡ s
    seat = ap seat_of (sym is) ∙ here.1

    within : p < length roll
    within = subst (λ k. k < length roll) stands (subst (λ m. place x s < length (names m)) is here.2)

    named : name_at p roll ≡ x
    named = ap (λ k. name_at k roll) (sym stands) ∙ ap (λ m. name_at (place x s) (names m)) (sym is) ∙ here.3

    -- the members of the roll, each told once
    in_seat : (q : ℕ) → q < length roll → at (name_at q roll) s ≡ n
    in_seat q h = ap (at (name_at q roll)) (sym seat) ∙ told.rolled n q h

    at_place : (q : ℕ) → q < length roll → place (name_at q roll) s ≡ q
    at_place q h = ap (place (name_at q roll)) (sym seat) ∙ told.placed n q h

    one_place : (q r : ℕ) → q < length roll → r < length roll → name_at q roll ≡ name_at r roll → q ≡ r
    one_place q r hq hr e = sym (at_place q hq) ∙ ap (λ y. place y s) e ∙ at_place r hr

    not_own : (q : ℕ) → q < length roll → q ≢ p → name_at q roll ≢ x
    not_own q h apart e = apart (one_place q p h within (e ∙ sym named))

    -- a member of another roll in the seat is none of this one
    apart : (m q r : ℕ) → m ≢ n → q < length (names m) → r < length roll → seat_of m ≡ s → name_at q (names m) ≢ name_at r roll
    apart m q r other hq hr e same = other (sym (told.rolled m q hq) ∙ ap (at (name_at q (names m))) e ∙ ap (λ y. at y s) same ∙ in_seat r hr)

    leave-rolled : (m q : ℕ) → q < length (new m) → at_new (name_at q (new m)) (seat_of m) ≡ m
    leave-rolled m q h = by (cases_eq m n)
      where
        by : ((m ≡ n) ⊎ (m ≡ n → ⊥)) → at_new (name_at q (new m)) (seat_of m) ≡ m
        by (inr other) =
            let same = others m other in
            let h2 : q < length (names m) = subst (λ xs. q < length xs) same h in
            ap (λ xs. at_new (name_at q xs) (seat_of m)) same
            ∙ stay (name_at q (names m)) (seat_of m) (side h2 (cases_eq (seat_of m) s)) ∙ told.rolled m q h2
          where
            side : q < length (names m) → ((seat_of m ≡ s) ⊎ (seat_of m ≡ s → ⊥)) → ((name_at q (names m) ≢ x) ⊎ (seat_of m ≢ s))
            side h2 (inl e) = inl (λ same. apart m q p other h2 within e (same ∙ sym named))
            side h2 (inr e) = inr e
        by (inl e) = ap (λ k. at_new (name_at q (new k)) (seat_of k)) e ∙ ap (λ xs. at_new (name_at q xs) (seat_of n)) own ∙ ap (at_new (name_at q (left p roll))) seat ∙ inside (cases_eq q p) ∙ sym e
          where
            h2 : q < last
            h2 = subst (λ k. q < k) (ap length (ap new e ∙ own) ∙ left-length p roll) h

            short : q < length roll
            short = omega (arith, h2)

            inside : ((q ≡ p) ⊎ (q ≡ p → ⊥)) → at_new (name_at q (left p roll)) s ≡ n
            inside (inl same) =
                let lastly : last < length roll = omega (arith, h2) in
                ap (λ k. at_new (name_at k (left p roll)) s) same
                ∙ ap (λ y. at_new y s) (left-at p roll (subst (λ k. k < last) same h2))
                ∙ stay (name_at last roll) s (inl (not_own last lastly (λ z. (omega (arith, z, same, h2)))))
                ∙ in_seat last lastly
            inside (inr other) =
                ap (λ y. at_new y s) (left-other p q roll h2 other)
                ∙ stay (name_at q roll) s (inl (not_own q short other)) ∙ in_seat q short

    leave-placed : (m q : ℕ) → q < length (new m) → place_new (name_at q (new m)) (seat_of m) ≡ q
    leave-placed m q h = by (cases_eq m n)
      where
        by : ((m ≡ n) ⊎ (m ≡ n → ⊥)) → place_new (name_at q (new m)) (seat_of m) ≡ q
        by (inr other) =
            let same = others m other in
            let h2 : q < length (names m) = subst (λ xs. q < length xs) same h in
            let lastly : last < length roll = omega (arith, within) in
            ap (λ xs. place_new (name_at q xs) (seat_of m)) same
            ∙ still (name_at q (names m)) (seat_of m) (side h2 lastly (cases_eq (seat_of m) s)) ∙ told.placed m q h2
          where
            side : q < length (names m) → last < length roll → ((seat_of m ≡ s) ⊎ (seat_of m ≡ s → ⊥)) → ((name_at q (names m) ≢ name_at last roll) ⊎ (seat_of m ≢ s))
            side h2 lastly (inl e) = inl (λ same. apart m q last other h2 lastly e same)
            side h2 lastly (inr e) = inr e
        by (inl e) = ap (λ k. place_new (name_at q (new k)) (seat_of k)) e ∙ ap (λ xs. place_new (name_at q xs) (seat_of n)) own ∙ ap (place_new (name_at q (left p roll))) seat ∙ inside (cases_eq q p)
          where
            h2 : q < last
            h2 = subst (λ k. q < k) (ap length (ap new e ∙ own) ∙ left-length p roll) h

            short : q < length roll
            short = omega (arith, h2)

            inside : ((q ≡ p) ⊎ (q ≡ p → ⊥)) → place_new (name_at q (left p roll)) s ≡ q
            inside (inl same) =
                ap (λ k. place_new (name_at k (left p roll)) s) same
                ∙ ap (λ y. place_new y s) (left-at p roll (subst (λ k. k < last) same h2))
                ∙ drawn (omega (arith, same, h2)) ∙ sym same
            inside (inr other) =
                let lastly : last < length roll = omega (arith, h2) in
                ap (λ y. place_new y s) (left-other p q roll h2 other)
                ∙ still (name_at q roll) s (inl (λ z. let k = one_place q last short lastly z in omega (arith, k, h2)))
                ∙ at_place q short

    abbrev Stands : List ℕ → ℕ → ℕ → Type 0
    Stands y t m = (m < count) × (seat_of m ≡ t) × (place_new y t < length (new m)) × (name_at (place_new y t) (new m) ≡ y)

    leave-there : (y : List ℕ) (t : ℕ) → at_new y t ≢ NOWHERE → Stands y t (at_new y t)
    leave-there y t some_new = subst (Stands y t) (sym same) (by (cases_eq m n))
      where
        other_name : t ≡ s → y ≢ x
        other_name e z = some_new (ap (λ k. at_new y k) e ∙ ap (λ w. at_new w s) z ∙ gone)

        side : ((t ≡ s) ⊎ (t ≡ s → ⊥)) → ((y ≢ x) ⊎ (t ≢ s))
        side (inl e) = inl (other_name e)
        side (inr e) = inr e

        m : ℕ
        m = at y t

        same : at_new y t ≡ m
        same = stay y t (side (cases_eq t s))

        old : (m < count) × (seat_of m ≡ t) × (place y t < length (names m)) × (name_at (place y t) (names m) ≡ y)
        old = told.there y t (λ z. some_new (same ∙ z))

        elsewhere : m ≢ n → ((t ≡ s) ⊎ (t ≡ s → ⊥)) → ((y ≢ name_at last roll) ⊎ (t ≢ s))
        elsewhere other (inl e) = inl (λ z. other (ap (at y) e ∙ ap (λ w. at w s) z ∙ in_seat last (omega (arith, within))))
        elsewhere other (inr e) = inr e

        by : ((m ≡ n) ⊎ (m ≡ n → ⊥)) → Stands y t m
        by (inr other) =
            let kept = still y t (elsewhere other (cases_eq t s)) in
            let roll_kept = others m other in (
              old.0,
              old.1,
              subst (λ xs. place_new y t < length xs) (sym roll_kept) (subst (λ k. k < length (names m)) (sym kept) old.2),
              ap (λ xs. name_at (place_new y t) xs) roll_kept ∙ ap (λ k. name_at k (names m)) kept ∙ old.3,
            )
        by (inl e) = (old.0, old.1, subst (λ k. place_new y t < length (new k)) (sym e) shorter.0, ap (λ k. name_at (place_new y t) (new k)) e ∙ shorter.1)
          where
            seated : t ≡ s
            seated = sym old.1 ∙ ap seat_of e ∙ seat

            q : ℕ
            q = place y t

            q_within : q < length roll
            q_within = subst (λ k. q < length (names k)) e old.2

            q_named : name_at q roll ≡ y
            q_named = ap (λ k. name_at q (names k)) (sym e) ∙ old.3

            q_apart : q ≢ p
            q_apart z = other_name seated (sym q_named ∙ ap (λ k. name_at k roll) z ∙ named)

            own_length : length (new n) ≡ last
            own_length = ap length own ∙ left-length p roll

            at_last : q ≡ last → (place_new y t < length (new n)) × (name_at (place_new y t) (new n) ≡ y)
            at_last z =
                let before : p < last = omega (arith, within, q_within, q_apart, z) in
                let moved_to : place_new y t ≡ p = ap (place_new y) seated ∙ ap (λ w. place_new w s) (sym q_named ∙ ap (λ k. name_at k roll) z) ∙ drawn (omega (arith, before)) in
                (omega (arith, moved_to, own_length, before), ap (λ k. name_at k (new n)) moved_to ∙ ap (name_at p) own ∙ left-at p roll before ∙ ap (λ k. name_at k roll) (sym z) ∙ q_named)

            not_last : (q ≡ last → ⊥) → (place_new y t < length (new n)) × (name_at (place_new y t) (new n) ≡ y)
            not_last z =
                let before : q < last = omega (arith, q_within, z) in
                let lastly : last < length roll = omega (arith, q_within) in
                let kept : place_new y t ≡ q = still y t (inl (λ w. z (one_place q last q_within lastly (q_named ∙ w)))) in
                (omega (arith, kept, own_length, before), ap (λ k. name_at k (new n)) kept ∙ ap (name_at q) own ∙ left-other p q roll before q_apart ∙ q_named)

            shorter : (place_new y t < length (new n)) × (name_at (place_new y t) (new n) ≡ y)
            shorter = pick (cases_eq q last)
              where
                pick : ((q ≡ last) ⊎ (q ≡ last → ⊥)) → (place_new y t < length (new n)) × (name_at (place_new y t) (new n) ≡ y)
                pick (inl z) = at_last z
                pick (inr z) = not_last z

    pub leave-told : Told new at_new place_new
    leave-told = record {
      real = λ m q h. real_of m q h (cases_eq m n);
      rolled = leave-rolled;
      placed = leave-placed;
      there = leave-there;
    }
      where
        real_of : (m q : ℕ) → q < length (new m) → ((m ≡ n) ⊎ (m ≡ n → ⊥)) → m ≢ NOWHERE
        real_of m q h (inl e) z = some (sym e ∙ z)
        real_of m q h (inr e) z = told.real m q (subst (λ xs. q < length xs) (others m e) h) z

  -- ---- one comes, or goes back

  module _ (names new : ℕ → List (List ℕ)) (at at_new place place_new : List ℕ → ℕ → ℕ) (told : Told names at place) (x : List ℕ) (s n p : ℕ)
      (none : at x s ≡ NOWHERE) (numbered : n < count) (some : n ≢ NOWHERE) (seat : seat_of n ≡ s) (inside : p ≤ length (names n))
      (own : new n ≡ back_at p x (names n)) (others : (m : ℕ) → m ≢ n → new m ≡ names m)
      (come_to : at_new x s ≡ n) (stands : place_new x s ≡ p)
      (stay : (y : List ℕ) (t : ℕ) → ((y ≢ x) ⊎ (t ≢ s)) → at_new y t ≡ at y t)
      (drawn : p < length (names n) → place_new (name_at p (names n)) s ≡ length (names n))
      (still : (y : List ℕ) (t : ℕ) → (((y ≢ x) × (p < length (names n) → y ≢ name_at p (names n))) ⊎ (t ≢ s)) → place_new y t ≡ place y t) where
    abbrev old_roll : List (List ℕ)
    old_roll = names n

    -- the name is no member of any roll in the seat
    is_no_member : (m q : ℕ) → q < length (names m) → seat_of m ≡ s → name_at q (names m) ≢ x
    is_no_member m q h e same = told.real m q h (sym (told.rolled m q h) ∙ ap (at (name_at q (names m))) e ∙ ap (λ y. at y s) same ∙ none)

    off : (m q : ℕ) → q < length (names m) → ((seat_of m ≡ s) ⊎ (seat_of m ≡ s → ⊥)) → ((name_at q (names m) ≢ x) ⊎ (seat_of m ≢ s))
    off m q h (inl e) = inl (is_no_member m q h e)
    off m q h (inr e) = inr e

    at_seat : (q : ℕ) → q < length old_roll → at (name_at q old_roll) s ≡ n
    at_seat q h = ap (at (name_at q old_roll)) (sym seat) ∙ told.rolled n q h

    own_place : (q : ℕ) → q < length old_roll → place (name_at q old_roll) s ≡ q
    own_place q h = ap (place (name_at q old_roll)) (sym seat) ∙ told.placed n q h

    -- a member of another roll in the seat, or at another place, is not the one that is drawn
    undrawn : (m q : ℕ) → q < length (names m) → seat_of m ≡ s → ((m ≢ n) ⊎ ((m ≡ n) × (q ≢ p))) → p < length old_roll → name_at q (names m) ≢ name_at p old_roll
    undrawn m q h e (inl other) hp same = other (sym (told.rolled m q h) ∙ ap (at (name_at q (names m))) e ∙ ap (λ y. at y s) same ∙ at_seat p hp)
    undrawn m q h e (inr (is, apart)) hp same = apart (sym (told.placed m q h) ∙ ap (place (name_at q (names m))) e ∙ ap (λ y. place y s) same ∙ own_place p hp)

    unmoved : (m q : ℕ) → q < length (names m) → ((m ≢ n) ⊎ ((m ≡ n) × (q ≢ p))) → ((seat_of m ≡ s) ⊎ (seat_of m ≡ s → ⊥))
        → (((name_at q (names m) ≢ x) × (p < length old_roll → name_at q (names m) ≢ name_at p old_roll)) ⊎ (seat_of m ≢ s))
    unmoved m q h where_ (inl e) = inl (is_no_member m q h e, undrawn m q h e where_)
    unmoved m q h where_ (inr e) = inr e

    -- where each place of the new roll comes from
    data Origin (q : ℕ) : Type 0 where
      its_own : q ≡ p → Origin q
      drawn_there : q ≡ length old_roll → p < length old_roll → Origin q
      as_before : q < length old_roll → q ≢ p → Origin q

    origin : (q : ℕ) → q < length (back_at p x old_roll) → Origin q
    origin q h = pick (cases_eq q p) (cases_eq q (length old_roll))
      where
        pick : ((q ≡ p) ⊎ (q ≡ p → ⊥)) → ((q ≡ length old_roll) ⊎ (q ≡ length old_roll → ⊥)) → Origin q
        pick (inl e) other = its_own e
        pick (inr apart) (inl e) = drawn_there e (omega (arith, inside, apart, e))
        pick (inr apart) (inr e) = as_before (let long = back-length p x old_roll in omega (arith, h, long, e)) apart

    back-rolled : (m q : ℕ) → q < length (new m) → at_new (name_at q (new m)) (seat_of m) ≡ m
    back-rolled m q h = by (cases_eq m n)
      where
        by : ((m ≡ n) ⊎ (m ≡ n → ⊥)) → at_new (name_at q (new m)) (seat_of m) ≡ m
        by (inr other) =
            let h2 : q < length (names m) = subst (λ xs. q < length xs) (others m other) h in
            ap (λ xs. at_new (name_at q xs) (seat_of m)) (others m other)
            ∙ stay (name_at q (names m)) (seat_of m) (off m q h2 (cases_eq (seat_of m) s)) ∙ told.rolled m q h2
        by (inl e) =
            ap (λ k. at_new (name_at q (new k)) (seat_of k)) e ∙ ap (λ xs. at_new (name_at q xs) (seat_of n)) own ∙ ap (at_new (name_at q (back_at p x old_roll))) seat
            ∙ from (origin q (subst (λ xs. q < length xs) (ap new e ∙ own) h)) ∙ sym e
          where
            from : Origin q → at_new (name_at q (back_at p x old_roll)) s ≡ n
            from (its_own z) = ap (λ y. at_new y s) (ap (λ k. name_at k (back_at p x old_roll)) z ∙ back-own p x old_roll inside) ∙ come_to
            from (drawn_there z hp) =
                ap (λ y. at_new y s) (ap (λ k. name_at k (back_at p x old_roll)) z ∙ back-drawn p x old_roll hp)
                ∙ stay (name_at p old_roll) s (inl (is_no_member n p hp seat)) ∙ at_seat p hp
            from (as_before h2 apart) =
                ap (λ y. at_new y s) (back-other p q x old_roll h2 apart)
                ∙ stay (name_at q old_roll) s (inl (is_no_member n q h2 seat)) ∙ at_seat q h2

    back-placed : (m q : ℕ) → q < length (new m) → place_new (name_at q (new m)) (seat_of m) ≡ q
    back-placed m q h = by (cases_eq m n)
      where
        by : ((m ≡ n) ⊎ (m ≡ n → ⊥)) → place_new (name_at q (new m)) (seat_of m) ≡ q
        by (inr other) =
            let h2 : q < length (names m) = subst (λ xs. q < length xs) (others m other) h in
            ap (λ xs. place_new (name_at q xs) (seat_of m)) (others m other)
            ∙ still (name_at q (names m)) (seat_of m) (unmoved m q h2 (inl other) (cases_eq (seat_of m) s)) ∙ told.placed m q h2
        by (inl e) =
            ap (λ k. place_new (name_at q (new k)) (seat_of k)) e ∙ ap (λ xs. place_new (name_at q xs) (seat_of n)) own ∙ ap (place_new (name_at q (back_at p x old_roll))) seat
            ∙ from (origin q (subst (λ xs. q < length xs) (ap new e ∙ own) h))
          where
            from : Origin q → place_new (name_at q (back_at p x old_roll)) s ≡ q
            from (its_own z) = ap (λ y. place_new y s) (ap (λ k. name_at k (back_at p x old_roll)) z ∙ back-own p x old_roll inside) ∙ stands ∙ sym z
            from (drawn_there z hp) = ap (λ y. place_new y s) (ap (λ k. name_at k (back_at p x old_roll)) z ∙ back-drawn p x old_roll hp) ∙ drawn hp ∙ sym z
            from (as_before h2 apart) =
                ap (λ y. place_new y s) (back-other p q x old_roll h2 apart)
                ∙ still (name_at q old_roll) s (inl (is_no_member n q h2 seat, undrawn n q h2 seat (inr (refl, apart)))) ∙ own_place q h2

    abbrev StandsBack : List ℕ → ℕ → ℕ → Type 0
    StandsBack y t m = (m < count) × (seat_of m ≡ t) × (place_new y t < length (new m)) × (name_at (place_new y t) (new m) ≡ y)

    own_length : length (new n) ≡ length old_roll + 1
    own_length = ap length own ∙ back-length p x old_roll

    back-there : (y : List ℕ) (t : ℕ) → at_new y t ≢ NOWHERE → StandsBack y t (at_new y t)
    back-there y t some_new = same_or_other x y (λ e. own_name (sym (same_name-is x y e)) (cases_eq t s)) (λ e. other_name (inl (λ z. let never : true ≡ false = sym (ap (same_name x) z ∙ same_name-itself x) ∙ e in absurd (cc))))
      where
        other_name : ((y ≢ x) ⊎ (t ≢ s)) → StandsBack y t (at_new y t)
        other_name side = subst (StandsBack y t) (sym same) (by (cases_eq m n))
          where
            m : ℕ
            m = at y t

            same : at_new y t ≡ m
            same = stay y t side

            old : (m < count) × (seat_of m ≡ t) × (place y t < length (names m)) × (name_at (place y t) (names m) ≡ y)
            old = told.there y t (λ z. some_new (same ∙ z))

            quiet : ((m ≢ n) ⊎ ((m ≡ n) × (place y t ≢ p))) → place_new y t ≡ place y t
            quiet where_ = still y t (pick side (cases_eq t s))
              where
                pick : ((y ≢ x) ⊎ (t ≢ s)) → ((t ≡ s) ⊎ (t ≡ s → ⊥)) → (((y ≢ x) × (p < length old_roll → y ≢ name_at p old_roll)) ⊎ (t ≢ s))
                pick (inr e) z = inr e
                pick (inl apart) (inr z) = inr z
                pick (inl apart) (inl z) = inl (apart, λ hp same_as. undrawn m (place y t) old.2 (old.1 ∙ z) where_ hp (old.3 ∙ same_as))

            by : ((m ≡ n) ⊎ (m ≡ n → ⊥)) → StandsBack y t m
            by (inr other) =
                let kept = quiet (inl other) in (
                  old.0,
                  old.1,
                  subst (λ xs. place_new y t < length xs) (sym (others m other)) (subst (λ k. k < length (names m)) (sym kept) old.2),
                  ap (λ xs. name_at (place_new y t) xs) (others m other) ∙ ap (λ k. name_at k (names m)) kept ∙ old.3,
                )
            by (inl e) = (old.0, old.1, subst (λ k. place_new y t < length (new k)) (sym e) longer.0, ap (λ k. name_at (place_new y t) (new k)) e ∙ longer.1)
              where
                q : ℕ
                q = place y t

                seated : t ≡ s
                seated = sym old.1 ∙ ap seat_of e ∙ seat

                q_within : q < length old_roll
                q_within = subst (λ k. q < length (names k)) e old.2

                q_named : name_at q old_roll ≡ y
                q_named = ap (λ k. name_at q (names k)) (sym e) ∙ old.3

                longer : (place_new y t < length (new n)) × (name_at (place_new y t) (new n) ≡ y)
                longer = pick (cases_eq q p)
                  where
                    pick : ((q ≡ p) ⊎ (q ≡ p → ⊥)) → (place_new y t < length (new n)) × (name_at (place_new y t) (new n) ≡ y)
                    pick (inl z) =
                        let hp : p < length old_roll = omega (arith, q_within, z) in
                        let end : place_new y t ≡ length old_roll = ap (place_new y) seated ∙ ap (λ w. place_new w s) (sym q_named ∙ ap (λ k. name_at k old_roll) z) ∙ drawn hp in
                        (omega (arith, end, own_length), ap (λ k. name_at k (new n)) end ∙ ap (name_at (length old_roll)) own ∙ back-drawn p x old_roll hp ∙ ap (λ k. name_at k old_roll) (sym z) ∙ q_named)
                    pick (inr z) =
                        let kept = quiet (inr (e, z)) in
                        (omega (arith, kept, own_length, q_within), ap (λ k. name_at k (new n)) kept ∙ ap (name_at q) own ∙ back-other p q x old_roll q_within z ∙ q_named)

        own_name : y ≡ x → ((t ≡ s) ⊎ (t ≡ s → ⊥)) → StandsBack y t (at_new y t)
        own_name e (inr z) = other_name (inr z)
        own_name e (inl z) = subst (StandsBack y t) (sym at_n) (numbered, seat ∙ sym z, omega (arith, at_p, own_length, inside), ap (λ k. name_at k (new n)) at_p ∙ ap (name_at p) own ∙ back-own p x old_roll inside ∙ sym e)
          where
            at_n : at_new y t ≡ n
            at_n = ap (at_new y) z ∙ ap (λ w. at_new w s) e ∙ come_to

            at_p : place_new y t ≡ p
            at_p = ap (place_new y) z ∙ ap (λ w. place_new w s) e ∙ stands

    pub back-told : Told new at_new place_new
    back-told = record {
      real = λ m q h. real_of m q h (cases_eq m n);
      rolled = back-rolled;
      placed = back-placed;
      there = back-there;
    }
      where
        real_of : (m q : ℕ) → q < length (new m) → ((m ≡ n) ⊎ (m ≡ n → ⊥)) → m ≢ NOWHERE
        real_of m q h (inl e) z = some (sym e ∙ z)
        real_of m q h (inr e) z = told.real m q (subst (λ xs. q < length xs) (others m e) h) z

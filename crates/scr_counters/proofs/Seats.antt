-- Counts by block, where each block in which something was counted has a seat.
use Rattle.std.proofs.Common.{◌≡◌, ℕ, zero, suc, ◌+◌, ◌<◌, ◌≤◌, Bool, true, false, eqb, ltb, IfSome, List, [], ◌∷◌, ◌++◌, Option, Some, None, length, replicate, set, get_or, refl, sym, ap, subst, ◌∙◌, arith}
use Rattle.std.proofs.lemmas.List.{get_or-set_same, get_or-set_other, get_or_push, get_or_append_left, get_or_read, get_or_past, length-set, length-append, length-replicate}
use Rattle.std.specs.Option.{option_map_or}
use Rattle.scr_counters.specs.Counts.{count_at, IsLastPlace}
use Rattle.scr_counters.specs.Blocks.{block_at, count_in, IsCountWritten}
use Rattle.scr_counters.specs.Seats.{seat_of, counts_at, by_block, seated, AreSeated}

-- ---- what is read

pub block-read : (counts : List (List ℕ)) (seats : List (Option ℕ)) (block : ℕ) → block_at (by_block seats counts) block ≡ counts_at counts (seat_of seats block)
block-read counts [] block = refl
block-read counts (seat ∷ seats) zero = refl
block-read counts (seat ∷ seats) (suc block) = block-read counts seats block

-- a block with a seat, and one without
module _ (counts : List (List ℕ)) (seats : List (Option ℕ)) (block : ℕ) where
  pub read-some : (seat : ℕ) → seat_of seats block ≡ Some seat → block_at (by_block seats counts) block ≡ block_at counts seat
  read-some seat is = block-read counts seats block ∙ ap (counts_at counts) is

  pub read-none : seat_of seats block ≡ None → block_at (by_block seats counts) block ≡ []
  read-none is = block-read counts seats block ∙ ap (counts_at counts) is

-- ---- nothing counted

some_apart : (seat : ℕ) (found : Option ℕ) → found ≡ None → found ≡ Some seat → ⊥
some_apart seat found none some = absurd (cc)

no-seat : (n block : ℕ) → seat_of (replicate n None) block ≡ None
no-seat zero block = refl
no-seat (suc n) zero = refl
no-seat (suc n) (suc block) = no-seat n block

none-seated : (n : ℕ) → seated (replicate n None) ≡ 0
none-seated zero = refl
none-seated (suc n) = none-seated n

-- blocks that were made
module _ (seats : List (Option ℕ)) (counts : List (List ℕ)) (seats_is : seats ≡ replicate 251 None) (counts_is : counts ≡ []) where
  none_at : (block : ℕ) → seat_of seats block ≡ None
  none_at block = ap (λ (l : List (Option ℕ)). seat_of l block) seats_is ∙ no-seat 251 block

  pub seats-made : (capacity : ℕ) → 251 ≤ capacity → AreSeated seats counts capacity
  seats-made capacity room =
      record {
        blocks = ap length seats_is ∙ length-replicate {A = Option ℕ} 251 None;
        places = λ seat within. let none = ap length counts_is in absurd (omega (arith, within, none));
        within = λ block seat e. absurd (some_apart seat (seat_of seats block) (none_at block) e);
        apart = λ block other seat e f. absurd (some_apart seat (seat_of seats block) (none_at block) e);
        all = ap seated seats_is ∙ none-seated 251 ∙ sym (ap length counts_is);
        room = room;
      }

  pub counts-made : (block place : ℕ) → count_in (by_block seats counts) block place ≡ 0
  counts-made block place = ap (λ (c : List ℕ). count_at c place) (read-none counts seats block (none_at block))

pub count-zeros : (n place : ℕ) → count_at (replicate n 0) place ≡ 0
count-zeros zero place = refl
count-zeros (suc n) zero = refl
count-zeros (suc n) (suc place) = count-zeros n place

some-one : (a b : ℕ) → Some a ≡ Some b → a ≡ b
some-one a b e = ap (λ (o : Option ℕ). option_map_or (λ k. k) o a) e

-- ---- how many blocks have a seat

one-more : (seats : List (Option ℕ)) (seat : ℕ) → seated (Some seat ∷ seats) ≡ seated seats + 1
one-more seats seat = refl

no-more : (seats : List (Option ℕ)) → seated (None ∷ seats) ≡ seated seats
no-more seats = refl

-- one without a seat leaves fewer than there are
seated-most : (seats : List (Option ℕ)) → seated seats ≤ length seats
seated-most [] = omega arith
seated-most (None ∷ seats) = let rest = seated-most seats in omega (arith, rest, no-more seats)
seated-most (Some seat ∷ seats) = let rest = seated-most seats in omega (arith, rest, one-more seats seat)

seated-fewer : (seats : List (Option ℕ)) (block : ℕ) → block < length seats → seat_of seats block ≡ None → seated seats < length seats
seated-fewer [] block within none = absurd (omega (arith, within))
seated-fewer (None ∷ seats) zero within none = let rest = seated-most seats in omega (arith, rest, no-more seats)
seated-fewer (Some seat ∷ seats) zero within none = absurd (cc)
seated-fewer (None ∷ seats) (suc block) within none = let rest = seated-fewer seats block (omega (arith, within)) none in omega (arith, rest, no-more seats)
seated-fewer (Some seat ∷ seats) (suc block) within none = let rest = seated-fewer seats block (omega (arith, within)) none in omega (arith, rest, one-more seats seat)

seated-more : (seats : List (Option ℕ)) (block seat : ℕ) → block < length seats → seat_of seats block ≡ None → seated (set seats block (Some seat)) ≡ seated seats + 1
seated-more [] block seat within none = absurd (omega (arith, within))
seated-more (None ∷ seats) zero seat within none = one-more seats seat
seated-more (Some s ∷ seats) zero seat within none = absurd (cc)
seated-more (None ∷ seats) (suc block) seat within none = seated-more seats block seat (omega (arith, within)) none
seated-more (Some s ∷ seats) (suc block) seat within none =
    let rest = seated-more seats block seat (omega (arith, within)) none in one-more (set seats block (Some seat)) s ∙ ap (λ (n : ℕ). n + 1) (rest ∙ sym (one-more seats s))

same_or_not : (A : Type 0) (i j : ℕ) → (i ≡ j → A) → ((i ≡ j → ⊥) → A) → A
same_or_not A i j same other = by (eqb i j) refl
  where
    by : (t : Bool) → eqb i j ≡ t → A
    by true e = same (grind (arith, e))
    by false e = other (λ is. grind (arith, e, is))

module _ (seats : List (Option ℕ)) (counts : List (List ℕ)) (room : ℕ) (are : AreSeated seats counts room) where
  -- the seat that was read
  pub seat-read : (block : ℕ) (found seat : Option ℕ) → block < 251 → found ≡ get_or seats block found → found ≡ seat → seat_of seats block ≡ seat
  seat-read block found seat in_blocks read is = sym (get_or_read seats block found (omega (arith, in_blocks, are.blocks)) read None) ∙ is

  -- at the seat of a block, where these counts were read
  module _ (block seat : ℕ) (old : List ℕ) (is : seat_of seats block ≡ Some seat) (read : old ≡ get_or counts seat old) where
    in_counts : seat < length counts
    in_counts = are.within block seat is

    old_is : old ≡ block_at counts seat
    old_is = get_or_read counts seat old in_counts read []

    pub old-long : length old ≡ 438
    old-long = ap length old_is ∙ are.places seat in_counts

    pub block-before : block_at (by_block seats counts) block ≡ old
    block-before = read-some counts seats block seat is ∙ sym old_is

    pub count-before : (p : ℕ) → count_in (by_block seats counts) block p ≡ count_at old p
    count-before p = ap (λ (c : List ℕ). count_at c p) block-before

  -- and one of them was written
  module _ (block place seat n : ℕ) (old new : List ℕ) (is : seat_of seats block ≡ Some seat) (read : old ≡ get_or counts seat old) (in_places : place < 438) (new_is : new ≡ set old place n) where
    within : seat < length counts
    within = are.within block seat is

    abbrev after : List (List ℕ)
    after = set counts seat new

    long : length old ≡ 438
    long = old-long block seat old is read

    pub seats-written : AreSeated seats after room
    seats-written =
        record {
          blocks = are.blocks;
          places = λ s in_after.
              same_or_not (length (block_at after s) ≡ 438) s seat
              (λ e. ap (λ (k : ℕ). length (block_at after k)) e ∙ ap length (get_or-set_same counts seat new [] within) ∙ ap length new_is ∙ length-set old place n ∙ long)
              (λ apart. ap length (get_or-set_other counts seat s new [] apart) ∙ are.places s (subst (λ (k : ℕ). s < k) (length-set counts seat new) in_after));
          within = λ b s e. subst (λ (k : ℕ). s < k) (sym (length-set counts seat new)) (are.within b s e);
          apart = are.apart;
          all = are.all ∙ sym (length-set counts seat new);
          room = are.room;
        }

    -- what stands there now, and what stood there before
    now_at : (p : ℕ) → count_in (by_block seats after) block p ≡ count_at (set old place n) p
    now_at p = ap (λ (c : List ℕ). count_at c p) (read-some after seats block seat is ∙ get_or-set_same counts seat new [] within ∙ new_is)

    other_block : (b : ℕ) → (b ≡ block → ⊥) → block_at (by_block seats after) b ≡ block_at (by_block seats counts) b
    other_block b apart = by (seat_of seats b) refl
      where
        by : (s : Option ℕ) → seat_of seats b ≡ s → block_at (by_block seats after) b ≡ block_at (by_block seats counts) b
        by None e = read-none after seats b e ∙ sym (read-none counts seats b e)
        by (Some s) e =
            read-some after seats b s e
            ∙ get_or-set_other counts seat s new [] (λ same. apart (are.apart b block seat (e ∙ ap (λ (k : ℕ). Some k) same) is))
            ∙ sym (read-some counts seats b s e)

    pub count-written : IsCountWritten block place n (by_block seats counts) (by_block seats after)
    count-written =
        record {
          own = now_at place ∙ get_or-set_same old place n 0 (omega (arith, in_places, long));
          others = λ b p apart.
              same_or_not (count_in (by_block seats after) b p ≡ count_in (by_block seats counts) b p) b block
              (λ same. ap (λ (k : ℕ). count_in (by_block seats after) k p) same ∙ now_at p ∙ get_or-set_other old place p n 0 (apart same)
              ∙ sym (count-before block seat old is read p) ∙ ap (λ (k : ℕ). count_in (by_block seats counts) k p) (sym same))
              (λ other. ap (λ (c : List ℕ). count_at c p) (other_block b other));
        }

  -- in a block without a seat
  module _ (block : ℕ) (none : seat_of seats block ≡ None) where
    pub none-before : (p : ℕ) → count_in (by_block seats counts) block p ≡ 0
    none-before p = ap (λ (c : List ℕ). count_at c p) (read-none counts seats block none)

    pub seats-left : block < 251 → length counts < 251
    seats-left in_blocks = let fewer = seated-fewer seats block (omega (arith, in_blocks, are.blocks)) none in omega (arith, fewer, are.all, are.blocks)

  -- which is given the next one
  module _ (block place n : ℕ) (new : List ℕ) (in_blocks : block < 251) (none : seat_of seats block ≡ None) (in_places : place < 438) (new_is : new ≡ set (replicate 438 0) place n) where
    within_seats : block < length seats
    within_seats = omega (arith, in_blocks, are.blocks)

    abbrev seats_after : List (Option ℕ)
    seats_after = set seats block (Some (length counts))

    abbrev counts_after : List (List ℕ)
    counts_after = counts ++ new ∷ []

    longer : length counts_after ≡ length counts + 1
    longer = length-append counts (new ∷ [])

    own_seat : seat_of seats_after block ≡ Some (length counts)
    own_seat = get_or-set_same seats block (Some (length counts)) None within_seats

    other_seat : (b : ℕ) → (b ≡ block → ⊥) → seat_of seats_after b ≡ seat_of seats b
    other_seat b apart = get_or-set_other seats block b (Some (length counts)) None apart

    old_counts : (s : ℕ) → s < length counts → block_at counts_after s ≡ block_at counts s
    old_counts s in_counts = get_or_append_left counts (new ∷ []) [] s in_counts

    new_counts : block_at counts_after (length counts) ≡ set (replicate 438 0) place n
    new_counts = get_or_push counts new [] (length counts) refl ∙ new_is

    in_after : (b s : ℕ) → seat_of seats_after b ≡ Some s → s < length counts + 1
    in_after b s e =
        same_or_not (s < length counts + 1) b block
        (λ same. let is : length counts ≡ s = some-one (length counts) s (sym own_seat ∙ ap (seat_of seats_after) (sym same) ∙ e) in omega (arith, is))
        (λ other. let old = are.within b s (sym (other_seat b other) ∙ e) in omega (arith, old))

    -- another block does not have the seat
    seat_apart : (b : ℕ) → (b ≡ block → ⊥) → seat_of seats_after b ≡ Some (length counts) → ⊥
    seat_apart b other e = let old = are.within b (length counts) (sym (other_seat b other) ∙ e) in absurd (omega (arith, old))

    -- a block with the seat of the one that was given it
    seat_same : (b s : ℕ) → seat_of seats_after block ≡ Some s → seat_of seats_after b ≡ Some s → b ≡ block
    seat_same b s own e =
        same_or_not (b ≡ block) b block (λ same. same) (λ other. absurd (seat_apart b other (e ∙ sym own ∙ own_seat)))

    all_apart : (b o s : ℕ) → seat_of seats_after b ≡ Some s → seat_of seats_after o ≡ Some s → b ≡ o
    all_apart b o s e f =
        same_or_not (b ≡ o) b block (λ same. same ∙ sym (seat_same o s (ap (seat_of seats_after) (sym same) ∙ e) f))
        (λ other. same_or_not (b ≡ o) o block (λ same. seat_same b s (ap (seat_of seats_after) (sym same) ∙ f) e ∙ sym same)
        (λ another. are.apart b o s (sym (other_seat b other) ∙ e) (sym (other_seat o another) ∙ f)))

    seats_given : AreSeated seats_after counts_after room
    seats_given =
        record {
          blocks = length-set seats block (Some (length counts)) ∙ are.blocks;
          places = λ s within.
              same_or_not (length (block_at counts_after s) ≡ 438) s (length counts)
              (λ e. ap (λ (k : ℕ). length (block_at counts_after k)) e ∙ ap length new_counts ∙ length-set (replicate 438 0) place n)
              (λ other. let old : s < length counts = grind (arith, within, longer, other) in ap length (old_counts s old) ∙ are.places s old);
          within = λ b s e. let old = in_after b s e in omega (arith, old, longer);
          apart = all_apart;
          all = seated-more seats block (length counts) within_seats none ∙ ap (λ (k : ℕ). k + 1) are.all ∙ sym longer;
          room = are.room;
        }

    now_in : (p : ℕ) → count_in (by_block seats_after counts_after) block p ≡ count_at (set (replicate 438 0) place n) p
    now_in p = ap (λ (c : List ℕ). count_at c p) (read-some counts_after seats_after block (length counts) own_seat ∙ new_counts)

    old_block : (b : ℕ) → (b ≡ block → ⊥) → block_at (by_block seats_after counts_after) b ≡ block_at (by_block seats counts) b
    old_block b other = by (seat_of seats b) refl
      where
        by : (s : Option ℕ) → seat_of seats b ≡ s → block_at (by_block seats_after counts_after) b ≡ block_at (by_block seats counts) b
        by None e = read-none counts_after seats_after b (other_seat b other ∙ e) ∙ sym (read-none counts seats b e)
        by (Some s) e =
            read-some counts_after seats_after b s (other_seat b other ∙ e) ∙ old_counts s (are.within b s e) ∙ sym (read-some counts seats b s e)

    count_given : IsCountWritten block place n (by_block seats counts) (by_block seats_after counts_after)
    count_given =
        record {
          own = now_in place ∙ get_or-set_same (replicate 438 0) place n 0 in_places;
          others = λ b p apart.
              same_or_not (count_in (by_block seats_after counts_after) b p ≡ count_in (by_block seats counts) b p) b block
              (λ same. ap (λ (k : ℕ). count_in (by_block seats_after counts_after) k p) same ∙ now_in p ∙ get_or-set_other (replicate 438 0) place p n 0 (apart same)
              ∙ count-zeros 438 p ∙ sym (none-before block none p) ∙ ap (λ (k : ℕ). count_in (by_block seats counts) k p) (sym same))
              (λ other. ap (λ (c : List ℕ). count_at c p) (old_block b other));
        }

    -- with the numbers and lists that were read
    module _ (next capacity : ℕ) (now : List (List ℕ)) (next_is : next ≡ length counts) (now_is : now ≡ counts ++ new ∷ []) where
      pub seats-given : capacity ≡ room → AreSeated (set seats block (Some next)) now capacity
      seats-given same =
          subst (λ (k : ℕ). AreSeated (set seats block (Some next)) now k) (sym same)
          (subst (λ (l : List (List ℕ)). AreSeated (set seats block (Some next)) l room) (sym now_is)
          (subst (λ (k : ℕ). AreSeated (set seats block (Some k)) counts_after room) (sym next_is) seats_given))

      pub count-given : IsCountWritten block place n (by_block seats counts) (by_block (set seats block (Some next)) now)
      count-given =
          subst (λ (l : List (List ℕ)). IsCountWritten block place n (by_block seats counts) (by_block (set seats block (Some next)) l)) (sym now_is)
          (subst (λ (k : ℕ). IsCountWritten block place n (by_block seats counts) (by_block (set seats block (Some k)) counts_after)) (sym next_is) count_given)

-- a place with a count is one of the 438
pub place-within : (counts : List ℕ) (found : Option ℕ) → length counts ≡ 438 → IsLastPlace counts found → IfSome found (λ place. place < 438)
place-within counts None long last = _
place-within counts (Some place) long last = by (ltb place 438) refl
  where
    by : (t : Bool) → ltb place 438 ≡ t → place < 438
    by true e = grind (arith, e)
    by false e =
        let past : 438 ≤ place = grind (arith, e) in
        let none : count_at counts place ≡ 0 = get_or_past counts place 0 (omega (arith, past, long)) in
        absurd (omega (arith, none, last.0))

-- past the last block there is no count
pub count-past : (seats : List (Option ℕ)) (counts : List (List ℕ)) (block place : ℕ) → length seats ≤ block → count_in (by_block seats counts) block place ≡ 0
count-past seats counts block place past = ap (λ (c : List ℕ). count_at c place) (read-none counts seats block (get_or_past seats block None past))

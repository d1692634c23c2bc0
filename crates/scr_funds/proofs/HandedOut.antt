-- Funds hand out what they have, each after all that hold it: then what each has is its total.
use Rattle.std.proofs.Common.{◌≡◌, ◌⊎◌, ℕ, zero, suc, ◌+◌, ◌<◌, ◌≤◌, List, [], ◌∷◌, map, length, get_or, take, sum, sum_by, cond, nat_eq, if◌then◌else◌, All, Contains, refl, sym, ap, subst, ◌∙◌, inl, inr, arith}
use Rattle.std.specs.List.{IsDistinct, range_with_len}
use Rattle.std.proofs.lemmas.Bool.{cases_lt, cond_both}
use Rattle.std.proofs.lemmas.List.{take_all, take_more, take-take, length-take, length-take-le}
use Rattle.std.proofs.lemmas.List.Elements.{All-contains, All-from_get_or, All-head, Contains-get_or}
use Rattle.std.proofs.lemmas.List.FromFn.{fill_by_all, length-range_with_len}
use Rattle.std.proofs.lemmas.List.Sums.{sum_by-cons, sum_by_more}
use Rattle.scr_funds.specs.ByNumber.{IsRow, held_at, numbered}
use Rattle.scr_funds.specs.Chains.{IsAcyclic}
use Rattle.scr_funds.specs.HandedOn.{AreReady, times}
use Rattle.scr_funds.specs.LookThrough.{Weighted, falling_to, names_in, part_in, parts_of, total}
use Rattle.scr_funds.proofs.Climbs.{climbs-end}
use Rattle.scr_funds.proofs.LookThroughLaws.{falling_to-none, falling_to-all, member_or_not, names_in-own, passed-whole, total_is, parts-counted}
use Rattle.scr_funds.proofs.Members.{IsMember, IsMember-from_Contains, Contains-from_IsMember, IsMember-cases, IsMember-map}
use Rattle.scr_funds.proofs.Ranges.{nat_is_same, nat_same_self, range_has, below_range, range-distinct, distinct-cons, member-take, distinct-take, not_in_front, sum_by-places, sum_by-numbered, numbered_once, member-numbered}
use Rattle.scr_funds.proofs.SplitSums.{sum_by-some_le, sum_by-all_there, none_left_out, one_left_out}
use Rattle.scr_funds.proofs.SumsBy.{sum_by-same, sum_by-within, sum_by-add, sum_by-swap}

-- ---- the places of a number in a row

pub times-cons : (x : ℕ) (c : ℕ × ℕ) (cs : Weighted ℕ) → times x (c ∷ cs) ≡ (if nat_eq x c.0 then 1 else 0) + times x cs
times-cons x c cs = sum_by-cons (λ d. cond (nat_eq x d.0) 1 0) c cs

pub times-none : (x : ℕ) (row : Weighted ℕ) → (IsMember x (map (λ c. c.0) row) → ⊥) → times x row ≡ 0
times-none x [] apart = refl
times-none x (c ∷ cs) apart = let rest = times-none x cs in grind (arith, apart, rest, times-cons x c cs)

pub times-some : (x : ℕ) (row : Weighted ℕ) → IsMember x (map (λ c. c.0) row) → 0 < times x row
times-some x [] m = absurd m
times-some x (c ∷ cs) m = let rest = times-some x cs in grind (arith, m, rest, times-cons x c cs)

pub member-times : (x : ℕ) (row : Weighted ℕ) → 0 < times x row → IsMember x (map (λ c. c.0) row)
member-times x row l = member_or_not nat_eq nat_is_same nat_same_self x (map (λ c. c.0) row) (λ m. m)
    (λ n. let none : times x row ≡ 0 = times-none x row n in absurd (omega arith))

-- what has no place in a row has no part
part_in-none : (value : ℕ) (row : Weighted ℕ) (x : ℕ) → times x row ≡ 0 → part_in nat_eq value row x ≡ 0
part_in-none value row x e = falling_to-none nat_eq nat_is_same nat_same_self x (map (λ c. c.0) row)
    (parts_of value (map (λ c. c.1) row))
    (λ m. let some : 0 < times x row = times-some x row m in absurd (omega arith))

sum_by-ones : (xs : List ℕ) → sum_by (λ x. 1) xs ≡ length xs
sum_by-ones [] = refl
sum_by-ones (x ∷ xs) = sum_by-cons (λ y. 1) x xs ∙ (omega (arith, sum_by-ones xs))

-- weights sum to more than 0
pub weights-some : (row : Weighted ℕ) → All (λ c. 1 ≤ c.1) row → 0 < length row → 0 < sum (map (λ c. c.1) row)
weights-some [] positive l = absurd (omega arith)
weights-some (c ∷ cs) positive l =
    let one : 1 ≤ c.1 = All-head (λ d. 1 ≤ d.1) c cs positive in
    omega (arith, one, sum_by-cons (λ w. w) c.1 (map (λ d. d.1) cs))

-- ---- how far funds have handed out

-- what is held of a number, directly and through funds
abbrev pub worth : List ℕ → List (Weighted ℕ) → ℕ → ℕ
worth held rows k = total nat_eq (held_at held) (numbered rows) k

-- The first so many that were ready have handed out: each number has what is held of it directly and its parts in
-- those.
pub record Passed (held : List ℕ) (rows : List (Weighted ℕ)) (values waiting ready : List ℕ) (place : ℕ) : Type 0 where
  pub value : (x : ℕ) → x < length held → get_or values x 0
      ≡ get_or held x 0 + sum_by (λ k. part_in nat_eq (worth held rows k) (get_or rows k []) x) (take place ready)
  pub count : (x : ℕ) → x < length held → get_or waiting x 0 + sum_by (λ k. times x (get_or rows k []))
      (take place ready) ≡ sum_by (times x) rows
  pub sound : AreReady (length rows) waiting ready
  pub within : (k : ℕ) → IsMember k (take place ready) → worth held rows k ≤ sum held
  pub reached : place ≤ length ready

module _ (held : List ℕ) (rows : List (Weighted ℕ)) (fewer : length rows ≤ length held)
    (rows_sound : All (IsRow (length held)) rows) (acyclic : IsAcyclic (names_in nat_eq (numbered rows))) where
  equation : (x : ℕ) → worth held rows x ≡ get_or held x 0 + sum_by
      (λ k. part_in nat_eq (worth held rows k) (get_or rows k []) x) (range_with_len 0 (length rows))
  equation x =
      total_is nat_eq nat_is_same nat_same_self (held_at held) (numbered rows) (numbered_once rows) acyclic x
      ∙ ap (λ n. get_or held x 0 + n) (sum_by-numbered (λ fund. part_in nat_eq (worth held rows fund.0) fund.1 x) rows)

  counts : (x : ℕ) → sum_by (times x) rows ≡ sum_by (λ k. times x (get_or rows k [])) (range_with_len 0 (length rows))
  counts x = sum_by-places (times x) rows []

  row_below : (k x : ℕ) → k < length rows → IsMember x (map (λ c. c.0) (get_or rows k [])) → x < length held
  row_below k x l m =
      let c = IsMember-map (λ c. c.0) (get_or rows k []) x m in
      subst (λ y. y < length held) c.2
      (All-contains (λ d. d.0 < length held) (get_or rows k []) c.0 ((rows_sound k [] l).below)
      (Contains-from_IsMember (get_or rows k []) c.0 c.1))

  module _ (values waiting ready : List ℕ) (place : ℕ) (passed : Passed held rows values waiting ready place) where
    ready_below : (k : ℕ) → IsMember k ready → k < length rows
    ready_below k m = (passed.sound.each k (Contains-from_IsMember ready k m)).0

    done_once : IsDistinct nat_eq (take place ready)
    done_once = distinct-take place ready passed.sound.once

    done_below : (k : ℕ) → IsMember k (take place ready) → k < length rows
    done_below k m = ready_below k (member-take place ready k m)

    done_listed : (k : ℕ) → IsMember k (take place ready) → IsMember k (range_with_len 0 (length rows))
    done_listed k m = range_has (length rows) k (done_below k m)

    -- what waits for none has its total
    pub settled : (x : ℕ) → x < length held → get_or waiting x 0 ≡ 0 → get_or values x 0 ≡ worth held rows x
    settled x l none =
        passed.value x l
        ∙ ap (λ n. get_or held x 0 + n)
        (sum_by-all_there nat_eq nat_is_same nat_same_self (range_with_len 0 (length rows)) (take place ready)
        (range-distinct (length rows)) done_once done_listed
        (λ k. part_in nat_eq (worth held rows k) (get_or rows k []) x)
        (λ k m apart. part_in-none (worth held rows k) (get_or rows k []) x
        (none_left_out nat_eq nat_is_same nat_same_self (range_with_len 0 (length rows)) (take place ready)
        (range-distinct (length rows)) done_once done_listed (λ k. times x (get_or rows k [])) all_counted k m apart)))
        ∙ sym (equation x)
      where
        all_counted : sum_by (λ k. times x (get_or rows k [])) (take place ready)
            ≡ sum_by (λ k. times x (get_or rows k [])) (range_with_len 0 (length rows))
        all_counted = let counted = passed.count x l in omega (arith, counted, none, counts x)

    pub done_settled : (k : ℕ) → IsMember k (take place ready) → get_or values k 0 ≡ worth held rows k
    done_settled k m =
        let here = passed.sound.each k (Contains-from_IsMember ready k (member-take place ready k m)) in
        let below : k < length rows = here.0 in
        settled k (omega arith) here.1

    -- the parts of a fund sum to no more than it has
    parts_within : (k : ℕ) → k < length rows
        → sum_by (λ x. part_in nat_eq (worth held rows k) (get_or rows k []) x) (range_with_len 0 (length held))
        ≤ worth held rows k
    parts_within k l =
        let whole : sum_by (λ x. part_in nat_eq (worth held rows k) (get_or rows k []) x)
        (range_with_len 0 (length held)) ≡ passed_on =
        falling_to-all nat_eq nat_is_same nat_same_self (range_with_len 0 (length held)) (range-distinct (length held))
        (map (λ c. c.0) (get_or rows k [])) (parts_of (worth held rows k) (map (λ c. c.1) (get_or rows k [])))
        (parts-counted (worth held rows k) (get_or rows k []))
        (λ x m. range_has (length held) x (row_below k x l m))
        ∙ passed-whole (worth held rows k) (get_or rows k []) weighted in
        omega (arith, whole, within)
      where
        passed_on : ℕ
        passed_on = if nat_eq (length (map (λ c. c.0) (get_or rows k []))) 0 then 0 else worth held rows k

        within : passed_on ≤ worth held rows k
        within = cond_both (nat_eq (length (map (λ c. c.0) (get_or rows k []))) 0) 0 (worth held rows k)
            (λ n. n ≤ worth held rows k) (λ e. omega arith) (λ e. omega arith)

        weighted : 0 < length (get_or rows k []) → 0 < sum (map (λ c. c.1) (get_or rows k []))
        weighted some = weights-some (get_or rows k []) (rows_sound k [] l).positive some

    -- what has not handed out has no more than is held in all
    pub small : (x : ℕ) → x < length held → (IsMember x (take place ready) → ⊥) → get_or values x 0 ≤ sum held
    small x l apart =
        let all : sum_by (λ k. get_or values k 0) (x ∷ take place ready)
        ≤ sum_by (λ k. get_or values k 0) (range_with_len 0 (length held)) =
        sum_by-some_le nat_eq nat_is_same nat_same_self (range_with_len 0 (length held)) (x ∷ take place ready)
        (range-distinct (length held)) (distinct-cons x (take place ready) apart done_once)
        listed (λ k. get_or values k 0) in
        let done : sum_by (λ k. get_or values k 0) (take place ready) ≡ sum_by (worth held rows) (take place ready) =
        sum_by-same (λ k. get_or values k 0) (worth held rows) (take place ready) done_settled in
        let came : sum_by (λ k. get_or values k 0) (range_with_len 0 (length held)) ≡ sum held + given =
        sum_by-same (λ k. get_or values k 0)
        (λ y. get_or held y 0 + sum_by (λ k. part_in nat_eq (worth held rows k) (get_or rows k []) y)
        (take place ready)) (range_with_len 0 (length held))
        (λ y m. passed.value y (below_range (length held) y m))
        ∙ sum_by-add (λ y. get_or held y 0)
        (λ y. sum_by (λ k. part_in nat_eq (worth held rows k) (get_or rows k []) y) (take place ready))
        (range_with_len 0 (length held))
        ∙ ap (λ n. n + sum_by
        (λ y. sum_by (λ k. part_in nat_eq (worth held rows k) (get_or rows k []) y) (take place ready))
        (range_with_len 0 (length held))) (sym (sum_by-places (λ n. n) held 0))
        ∙ ap (λ n. sum held + n)
        (sum_by-swap (λ y k. part_in nat_eq (worth held rows k) (get_or rows k []) y) (range_with_len 0 (length held))
        (take place ready)) in
        let least : given ≤ sum_by (worth held rows) (take place ready) =
        sum_by-within
        (λ k. sum_by (λ y. part_in nat_eq (worth held rows k) (get_or rows k []) y) (range_with_len 0 (length held)))
        (worth held rows) (take place ready) (λ k m. parts_within k (done_below k m)) in
        omega (arith, all, done, came, least, sum_by-cons (λ k. get_or values k 0) x (take place ready))
      where
        given : ℕ
        given = sum_by
            (λ k. sum_by (λ y. part_in nat_eq (worth held rows k) (get_or rows k []) y)
            (range_with_len 0 (length held))) (take place ready)

        listed : (y : ℕ) → IsMember y (x ∷ take place ready) → IsMember y (range_with_len 0 (length held))
        listed y (inl e) = range_has (length held) y (subst (λ z. z < length held) (sym e) l)
        listed y (inr m) = let below : y < length rows = done_below y m in range_has (length held) y (omega arith)

    -- ---- the next fund

    -- where not all have handed out, a fund is ready: else each that is left has a holder that is left
    pub ready_one : place < length rows → place < length ready
    ready_one l = by (cases_lt place (length ready))
      where
        IsLeft : ℕ → Type 0
        IsLeft k = IsMember k (range_with_len 0 (length rows)) × (IsMember k ready → ⊥)

        by : (place < length ready) ⊎ (length ready ≤ place) → place < length ready
        by (inl m) = m
        by (inr m) =
            absurd (climbs-end nat_eq nat_is_same nat_same_self (names_in nat_eq (numbered rows)) acyclic
            (range_with_len 0 (length rows)) IsLeft (λ x k. k.0) held_too first.0 (first.1, first.2))
          where
            done_all : take place ready ≡ ready
            done_all = take_all place ready m

            first : (k : ℕ) × IsMember k (range_with_len 0 (length rows)) × (IsMember k ready → ⊥) × (0 < 1)
            first = one_left_out nat_eq nat_is_same nat_same_self (range_with_len 0 (length rows)) ready
                (range-distinct (length rows)) passed.sound.once
                (λ k i. range_has (length rows) k (ready_below k i)) (λ k. 1) fewer_ready
              where
                fewer_ready : sum_by (λ k. 1) ready < sum_by (λ k. 1) (range_with_len 0 (length rows))
                fewer_ready =
                    omega (
                      arith,
                      sum_by-ones ready,
                      sum_by-ones (range_with_len 0 (length rows)),
                      length-range_with_len 0 (length rows),
                    )

            held_too : (x : ℕ) → IsLeft x → (holder : ℕ) × IsLeft holder
                × Contains (names_in nat_eq (numbered rows) holder) x
            held_too x left = (
              found.0,
              (found.1, found.2),
              subst (λ row. Contains row x)
                  (sym (names_in-own nat_eq nat_is_same nat_same_self (numbered rows) (numbered_once rows)
                  (found.0, get_or rows found.0 [])
                  (member-numbered rows found.0 (below_range (length rows) found.0 found.1))))
                  (Contains-from_IsMember (map (λ c. c.0) (get_or rows found.0 [])) x
                  (member-times x (get_or rows found.0 []) found.3)),
            )
              where
                below : x < length rows
                below = below_range (length rows) x left.0

                waits : 0 < get_or waiting x 0
                waits = above (get_or waiting x 0) refl
                  where
                    above : (n : ℕ) → get_or waiting x 0 ≡ n → 0 < get_or waiting x 0
                    above zero e = absurd (left.1 (IsMember-from_Contains ready x (passed.sound.all x below e)))
                    above (suc n) e = omega arith

                more : sum_by (λ k. times x (get_or rows k [])) ready
                    < sum_by (λ k. times x (get_or rows k [])) (range_with_len 0 (length rows))
                more =
                    let b : x < length rows = below in
                    let counted = passed.count x (omega arith) in
                    let same_sum : sum_by (λ k. times x (get_or rows k [])) (take place ready)
                    ≡ sum_by (λ k. times x (get_or rows k [])) ready =
                    ap (sum_by (λ k. times x (get_or rows k []))) done_all in
                    omega (arith, counted, same_sum, counts x, waits)

                found : (k : ℕ) × IsMember k (range_with_len 0 (length rows)) × (IsMember k ready → ⊥)
                    × (0 < times x (get_or rows k []))
                found = one_left_out nat_eq nat_is_same nat_same_self (range_with_len 0 (length rows)) ready
                    (range-distinct (length rows)) passed.sound.once
                    (λ k i. range_has (length rows) k (ready_below k i)) (λ k. times x (get_or rows k [])) more

    module _ (next : place < length ready) where
      fund_ready : Contains ready (get_or ready place 0)
      fund_ready = Contains-get_or ready place 0 next

      pub fund_below : get_or ready place 0 < length rows
      fund_below = (passed.sound.each (get_or ready place 0) fund_ready).0

      fund_new : IsMember (get_or ready place 0) (take place ready) → ⊥
      fund_new = not_in_front ready place passed.sound.once next

      -- the fund has its total, which is no more than is held in all
      pub fund_settled : get_or values (get_or ready place 0) 0 ≡ worth held rows (get_or ready place 0)
      fund_settled = let below = fund_below in
          settled (get_or ready place 0) (omega arith) (passed.sound.each (get_or ready place 0) fund_ready).1

      pub fund_small : get_or values (get_or ready place 0) 0 ≤ sum held
      fund_small = let below = fund_below in small (get_or ready place 0) (omega arith) fund_new

      -- its components wait for it
      pub fund_counted : (x : ℕ) → times x (get_or rows (get_or ready place 0) []) ≤ get_or waiting x 0
      fund_counted x = by (cases_lt x (length held))
        where
          by : (x < length held) ⊎ (length held ≤ x)
              → times x (get_or rows (get_or ready place 0) []) ≤ get_or waiting x 0
          by (inl l) =
              let counted = passed.count x l in
              let all : sum_by (λ k. times x (get_or rows k [])) (get_or ready place 0 ∷ take place ready)
              ≤ sum_by (λ k. times x (get_or rows k [])) (range_with_len 0 (length rows)) =
              sum_by-some_le nat_eq nat_is_same nat_same_self (range_with_len 0 (length rows))
              (get_or ready place 0 ∷ take place ready) (range-distinct (length rows))
              (distinct-cons (get_or ready place 0) (take place ready) fund_new done_once) listed
              (λ k. times x (get_or rows k [])) in
              omega (
                arith,
                counted,
                all,
                counts x,
                sum_by-cons (λ k. times x (get_or rows k [])) (get_or ready place 0)
                    (take place ready),
              )
            where
              listed : (y : ℕ) → IsMember y (get_or ready place 0 ∷ take place ready)
                  → IsMember y (range_with_len 0 (length rows))
              listed y (inl e) = range_has (length rows) y (subst (λ z. z < length rows) (sym e) fund_below)
              listed y (inr m) = done_listed y m
          by (inr l) = let none : times x (get_or rows (get_or ready place 0) []) ≡ 0 =
              times-none x (get_or rows (get_or ready place 0) []) past in omega arith
            where
              past : IsMember x (map (λ c. c.0) (get_or rows (get_or ready place 0) [])) → ⊥
              past m = let below : x < length held = row_below (get_or ready place 0) x fund_below m in
                  absurd (omega arith)

      -- once it has handed out
      pub passed_next : (values' waiting' ready' parts : List ℕ)
          → parts ≡ parts_of (get_or values (get_or ready place 0) 0)
          (map (λ c. c.1) (get_or rows (get_or ready place 0) []))
          → ((x : ℕ) → x < length held → get_or values' x 0
          ≡ get_or values x 0 + falling_to nat_eq x (map (λ c. c.0) (get_or rows (get_or ready place 0) [])) parts)
          → ((x : ℕ) → get_or waiting' x 0 + times x (get_or rows (get_or ready place 0) []) ≡ get_or waiting x 0)
          → AreReady (length rows) waiting' ready' → take (length ready) ready' ≡ ready
          → Passed held rows values' waiting' ready' (place + 1)
      passed_next values' waiting' ready' parts shared added released sound front = record {
        value = value;
        count = count;
        sound = sound;
        within = within;
        reached = let less : length (take (length ready) ready') ≡ length ready = ap length front in let most =
            length-take (length ready) ready' in omega arith;
      }
        where
          fund : ℕ
          fund = get_or ready place 0

          -- the front is as it was
          same_front : take (place + 1) ready' ≡ take (place + 1) ready
          same_front = sym (take-take (place + 1) (length ready) ready' (omega arith)) ∙ ap (take (place + 1)) front

          one_more : (f : ℕ → ℕ) → sum_by f (take (place + 1) ready') ≡ sum_by f (take place ready) + f fund
          one_more f = ap (sum_by f) same_front ∙ sum_by_more f ready place 0 next

          value : (x : ℕ) → x < length held → get_or values' x 0
              ≡ get_or held x 0 + sum_by (λ k. part_in nat_eq (worth held rows k) (get_or rows k []) x)
              (take (place + 1) ready')
          value x l =
              let was = passed.value x l in
              let gained = added x l in
              let part : falling_to nat_eq x (map (λ c. c.0) (get_or rows fund [])) parts
              ≡ part_in nat_eq (worth held rows fund) (get_or rows fund []) x =
              ap (falling_to nat_eq x (map (λ c. c.0) (get_or rows fund []))) shared
              ∙ ap (λ v. part_in nat_eq v (get_or rows fund []) x) fund_settled in
              let more = one_more (λ k. part_in nat_eq (worth held rows k) (get_or rows k []) x) in
              omega (arith, was, gained, part, more)

          count : (x : ℕ) → x < length held → get_or waiting' x 0 + sum_by (λ k. times x (get_or rows k []))
              (take (place + 1) ready') ≡ sum_by (times x) rows
          count x l =
              let was = passed.count x l in
              let lost = released x in
              let more = one_more (λ k. times x (get_or rows k [])) in
              omega (arith, was, lost, more)

          within : (k : ℕ) → IsMember k (take (place + 1) ready') → worth held rows k ≤ sum held
          within k m =
              by (IsMember-cases (take place ready) (fund ∷ []) k
              (subst (IsMember k) (same_front ∙ take_more ready place 0 next) m))
            where
              by : IsMember k (take place ready) ⊎ IsMember k (fund ∷ []) → worth held rows k ≤ sum held
              by (inl i) = passed.within k i
              by (inr (inl e)) = subst (λ n. n ≤ sum held) (fund_settled ∙ ap (worth held rows) (sym e)) fund_small
              by (inr (inr i)) = absurd i

    -- ---- the end

    module _ (all_done : place ≡ length rows) where
      left_none : (k : ℕ) → IsMember k (range_with_len 0 (length rows)) → (IsMember k (take place ready) → ⊥) → ⊥
      left_none k m apart =
          one_is_some 1 refl
          (none_left_out nat_eq nat_is_same nat_same_self (range_with_len 0 (length rows)) (take place ready)
          (range-distinct (length rows)) done_once done_listed (λ k. 1) as_many k m apart)
        where
          one_is_some : (n : ℕ) → n ≡ 1 → n ≡ 0 → ⊥
          one_is_some n one none = omega arith

          as_many : sum_by (λ k. 1) (take place ready) ≡ sum_by (λ k. 1) (range_with_len 0 (length rows))
          as_many = let reached = passed.reached in
              omega (
                arith,
                sum_by-ones (take place ready),
                sum_by-ones (range_with_len 0 (length rows)),
                length-range_with_len 0 (length rows),
                length-take-le place ready reached,
              )

      ended : (x : ℕ) → x < length held → get_or values x 0 ≡ worth held rows x
      ended x l =
          passed.value x l
          ∙ ap (λ n. get_or held x 0 + n)
          (sum_by-all_there nat_eq nat_is_same nat_same_self (range_with_len 0 (length rows)) (take place ready)
          (range-distinct (length rows)) done_once done_listed
          (λ k. part_in nat_eq (worth held rows k) (get_or rows k []) x)
          (λ k m apart. absurd (left_none k m apart)))
          ∙ sym (equation x)

      pub ended-values : length values ≡ length held → values ≡ map (worth held rows) (range_with_len 0 (length held))
      ended-values l = fill_by_all (worth held rows) values (length held) 0 l ended

      pub ended-within : length values ≡ length held → All (λ value. value ≤ sum held) values
      ended-within l = All-from_get_or (λ value. value ≤ sum held) values 0
          (λ x i. member_or_not nat_eq nat_is_same nat_same_self x (take place ready)
          (λ m. subst (λ n. n ≤ sum held) (sym (ended x (omega arith))) (passed.within x m))
          (λ n. small x (omega arith) n))

  -- nothing is handed out yet
  pub passed_none : (waiting ready : List ℕ) → ((x : ℕ) → x < length held → get_or waiting x 0 ≡ sum_by (times x) rows)
      → AreReady (length rows) waiting ready → Passed held rows held waiting ready 0
  passed_none waiting ready counted sound = record {
    value = λ x l. omega arith;
    count = λ x l. let c = counted x l in omega arith;
    sound = sound;
    within = λ k m. absurd m;
    reached = omega arith;
  }

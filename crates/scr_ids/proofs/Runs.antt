-- The ranges that runs stand for.
use Rattle.std.proofs.Common.{◌≡◌, ℕ, zero, suc, ◌+◌, ◌-◌, ◌*◌, ◌/◌, ◌%◌, ◌<◌, ◌≤◌, ⊎_elim, true, false, List, [], ◌∷◌, ◌++◌, length, ltb, set, cond, refl, sym, ap, subst, ◌∙◌, arith, div-add-mod', div-mul-le_self, mod-lt, mul-le-mul_right}
use Rattle.std.proofs.lemmas.Bool.{cases_lt, cases_Bool, cond-true, cond-false, le-ltb, lt-ltb}
use Rattle.std.proofs.lemmas.List.{get_or_append_left, get_or_push, length_push}
use Rattle.scr_ids.specs.Ranges.{same_table, stride}
use Rattle.scr_ids.specs.Kept.{AreInTurn, AreRuns, Follow, IsNext, IsOf, IsOwner, Range, first_run, last_run, owner_at, owners, place_at, range_at, range_in, range_of, ranges_from, ranges_of, run_at, run_from, run_of, start_in, start_of}
use Rattle.scr_ids.specs.declared.places.Owner.{Owner}
use Rattle.scr_ids.specs.declared.places.Run.{Run}
use Rattle.scr_ids.specs.declared.table.Table.{Table}
use Rattle.scr_ids.proofs.Tables.{same_table-is, same_table-self, stride-some}

-- ---- first numbers

run-before : (id start : ℕ) (run next : Run) → id < start → cond (ltb id start) run next ≡ run
run-before id start run next less = cond-true (ltb id start) run next (lt-ltb id start less)

run-behind : (id start : ℕ) (run next : Run) → start ≤ id → cond (ltb id start) run next ≡ next
run-behind id start run next least = cond-false (ltb id start) run next (le-ltb id start least)

start-self : (run : Run) → start_in run run.id ≡ run.first
start-self run =
    let none : run.id - run.id ≡ 0 = omega arith in
    ap (λ d. run.first + d * stride run.table) none ∙ omega arith

start-more : (run : Run) (id : ℕ) → run.id ≤ id → start_in run (id + 1) ≡ start_in run id + stride run.table
start-more run id low =
    let more : id + 1 - run.id ≡ (id - run.id) + 1 = omega (arith, low) in
    ap (λ d. run.first + d * stride run.table) more ∙ omega arith

-- the runs behind the first
follow-rest : (run next : Run) (runs : List Run) → Follow run (next ∷ runs) → Follow next runs
follow-rest run next runs follow n less = follow (suc n) (omega (arith, less))

rise : (run : Run) (runs : List Run) → Follow run runs → (n : ℕ) → n < length runs → run.id ≤ (run_at runs n).id
rise run [] follow n less = absurd (omega (arith, less))
rise run (next ∷ runs) follow zero less = (follow 0 (omega arith)).id
rise run (next ∷ runs) follow (suc n) less =
    let one = (follow 0 (omega arith)).id in
    let more = rise next runs (follow-rest run next runs follow) n (omega (arith, less)) in
    omega (arith, one, more)

-- the run of a range that it has
from-is : (run : Run) (runs : List Run) → Follow run runs → (n id : ℕ) → n < length runs → (run_at runs n).id ≤ id
    → (suc n < length runs → id < (run_at runs (suc n)).id) → run_from run runs id ≡ run_at runs n
from-is run [] follow n id less low high = absurd (omega (arith, less))
from-is run (next ∷ []) follow zero id less low high = run-behind id next.id run next low
from-is run (next ∷ other ∷ runs) follow zero id less low high =
    run-behind id next.id run (run_from next (other ∷ runs) id) low
    ∙ run-before id other.id next (run_from other runs id) (high (omega arith))
from-is run (next ∷ runs) follow (suc n) id less low high =
    let up = rise next runs (follow-rest run next runs follow) n (omega (arith, less)) in
    run-behind id next.id run (run_from next runs id) (omega (arith, up, low))
    ∙ from-is next runs (follow-rest run next runs follow) n id (omega (arith, less)) low (λ more. high (omega (arith, more)))

-- the last has all ranges from its own on
from-last : (run : Run) (runs : List Run) (id : ℕ) → ((n : ℕ) → n < length runs → (run_at runs n).id ≤ id)
    → run_from run runs id ≡ run_at (run ∷ runs) (length runs)
from-last run [] id low = refl
from-last run (next ∷ runs) id low =
    run-behind id next.id run (run_from next runs id) (low 0 (omega arith))
    ∙ from-last next runs id (λ n less. low (suc n) (omega (arith, less)))

last-is : (runs : List Run) → 0 < length runs → run_at (first_run ∷ runs) (length runs) ≡ last_run runs
last-is [] some = absurd (omega (arith, some))
last-is (run ∷ runs) some =
    let before : length runs ≡ length (run ∷ runs) - 1 = omega arith in
    ap (run_at (run ∷ runs)) before

-- a run begins with its own first number
from-start : (run : Run) (runs : List Run) → Follow run runs → start_in (run_from run runs run.id) run.id ≡ run.first
from-start run [] follow = start-self run
from-start run (next ∷ runs) follow = ⊎_elim
    (λ less. ap (λ r. start_in r run.id) (run-before run.id next.id run (run_from next runs run.id) less) ∙ start-self run)
    (λ least.
    let step = follow 0 (omega arith) in
    let up = step.id in
    let same : next.id ≡ run.id = omega (arith, up, least) in
    ap (λ r. start_in r run.id) (run-behind run.id next.id run (run_from next runs run.id) least)
    ∙ subst (λ i. start_in (run_from next runs i) i ≡ next.first) same (from-start next runs (follow-rest run next runs follow))
    ∙ step.first ∙ ap (start_in run) same ∙ start-self run)
    (cases_lt run.id next.id)

-- each range begins where the one before it ends
from-next : (run : Run) (runs : List Run) → Follow run runs → (id : ℕ) → run.id ≤ id
    → start_in (run_from run runs (id + 1)) (id + 1) ≡ start_in (run_from run runs id) id + stride (run_from run runs id).table
from-next run [] follow id low = start-more run id low
from-next run (next ∷ runs) follow id low = ⊎_elim
    (λ below.
    ap (λ r. start_in r (id + 1)) (run-before (id + 1) next.id run (run_from next runs (id + 1)) below) ∙ start-more run id low
    ∙ sym (ap end (run-before id next.id run (run_from next runs id) (omega (arith, below)))))
    (λ least.
    ap (λ r. start_in r (id + 1)) (run-behind (id + 1) next.id run (run_from next runs (id + 1)) least)
    ∙ ⊎_elim
    (λ under.
    let same : next.id ≡ id + 1 = omega (arith, under, least) in
    subst (λ i. start_in (run_from next runs i) i ≡ next.first) same (from-start next runs (follow-rest run next runs follow))
    ∙ (follow 0 (omega arith)).first ∙ ap (start_in run) same ∙ start-more run id low
    ∙ sym (ap end (run-before id next.id run (run_from next runs id) under)))
    (λ over.
    from-next next runs (follow-rest run next runs follow) id over
    ∙ sym (ap end (run-behind id next.id run (run_from next runs id) over)))
    (cases_lt id next.id))
    (cases_lt (id + 1) next.id)
  where
    end : Run → ℕ
    end r = start_in r id + stride r.table

module _ (runs : List Run) (follow : Follow first_run runs) where
  pub start-next : (id : ℕ) → start_of runs (id + 1) ≡ start_of runs id + stride (run_of runs id).table
  start-next id = from-next first_run runs follow id (omega arith)

  start-far : (id more : ℕ) → start_of runs id + stride (run_of runs id).table ≤ start_of runs (id + 1 + more)
  start-far id zero =
      let next = start-next id in
      let same : id + 1 + 0 ≡ id + 1 = omega arith in
      let here = ap (start_of runs) same in
      omega (arith, next, here)
  start-far id (suc more) =
      let less = start-far id more in
      let next = start-next (id + 1 + more) in
      let same : id + 1 + suc more ≡ id + 1 + more + 1 = omega arith in
      let here = ap (start_of runs) same in
      omega (arith, less, next, here)

  start-past : (id other : ℕ) → id < other → start_of runs id + stride (run_of runs id).table ≤ start_of runs other
  start-past id other less =
      let there : id + 1 + (other - id - 1) ≡ other = omega (arith, less) in
      subst (λ n. start_of runs id + stride (run_of runs id).table ≤ start_of runs n) there (start-far id (other - id - 1))

  -- no number is of two ranges
  one-range : (number id other : ℕ) → start_of runs id ≤ number → number < start_of runs id + stride (run_of runs id).table
      → start_of runs other ≤ number → number < start_of runs other + stride (run_of runs other).table → id ≡ other
  one-range number id other low high from below = ⊎_elim
      (λ less. let past = start-past id other less in absurd (omega (arith, past, high, from)))
      (λ least. ⊎_elim
      (λ more. let past = start-past other id more in absurd (omega (arith, past, below, low)))
      (λ most. omega (arith, least, most))
      (cases_lt other id))
      (cases_lt id other)

-- ---- the list of ranges

pub ranges-long : (runs : List Run) (from : ℕ) (places : List ℕ) → length (ranges_from runs from places) ≡ length places
ranges-long runs from [] = refl
ranges-long runs from (place ∷ places) = ap suc (ranges-long runs (from + 1) places)

from-at : (runs : List Run) (from : ℕ) (places : List ℕ) (n : ℕ) → n < length places
    → range_at (ranges_from runs from places) n ≡ range_in runs (from + n) (place_at places n)
from-at runs from [] n less = absurd (omega (arith, less))
from-at runs from (place ∷ places) zero less =
    let same : from ≡ from + 0 = omega arith in
    ap (λ id. range_in runs id place) same
from-at runs from (place ∷ places) (suc n) less =
    let same : from + 1 + n ≡ from + suc n = omega arith in
    from-at runs (from + 1) places n (omega (arith, less)) ∙ ap (λ id. range_in runs id (place_at places n)) same

pub range-is : (runs : List Run) (places : List ℕ) (id : ℕ) → id < length places
    → range_at (ranges_of runs places) id ≡ range_in runs id (place_at places id)
range-is runs places id less =
    let same : 0 + id ≡ id = omega arith in
    from-at runs 0 places id less ∙ ap (λ n. range_in runs n (place_at places id)) same

pub ranges-set : (runs : List Run) (from : ℕ) (places : List ℕ) (n place : ℕ) → n < length places
    → ranges_from runs from (set places n place)
    ≡ set (ranges_from runs from places) n (record (range_at (ranges_from runs from places) n) { place = place })
ranges-set runs from [] n place less = absurd (omega (arith, less))
ranges-set runs from (first ∷ places) zero place less = refl
ranges-set runs from (first ∷ places) (suc n) place less =
    ap (λ rest. range_in runs from first ∷ rest) (ranges-set runs (from + 1) places n place (omega (arith, less)))

from-push : (runs : List Run) (from : ℕ) (places : List ℕ) (place : ℕ)
    → ranges_from runs from (places ++ place ∷ []) ≡ ranges_from runs from places ++ range_in runs (from + length places) place ∷ []
from-push runs from [] place =
    let same : from ≡ from + 0 = omega arith in
    ap (λ id. range_in runs id place ∷ []) same
from-push runs from (first ∷ places) place =
    let same : from + 1 + length places ≡ from + length (first ∷ places) = omega arith in
    ap (λ rest. range_in runs from first ∷ rest) (from-push runs (from + 1) places place)
    ∙ ap (λ id. ranges_from runs from (first ∷ places) ++ range_in runs id place ∷ []) same

from-same : (now before : List Run) (from : ℕ) (places : List ℕ)
    → ((id : ℕ) → id < from + length places → run_of now id ≡ run_of before id)
    → ranges_from now from places ≡ ranges_from before from places
from-same now before from [] same = refl
from-same now before from (place ∷ places) same =
    ap (λ run. range_of run.table place (start_in run from) ∷ ranges_from now (from + 1) places) (same from (omega arith))
    ∙ ap (λ rest. range_in before from place ∷ rest) (from-same now before (from + 1) places (λ id less. same id (omega (arith, less))))

-- ---- one more range

old-run : (run : Run) (runs : List Run) (new : Run) (id : ℕ) → id < new.id → run_from run (runs ++ new ∷ []) id ≡ run_from run runs id
old-run run [] new id less = run-before id new.id run new less
old-run run (next ∷ runs) new id less = ⊎_elim
    (λ below. run-before id next.id run (run_from next (runs ++ new ∷ []) id) below ∙ sym (run-before id next.id run (run_from next runs id) below))
    (λ least.
    run-behind id next.id run (run_from next (runs ++ new ∷ []) id) least ∙ old-run next runs new id less
    ∙ sym (run-behind id next.id run (run_from next runs id) least))
    (cases_lt id next.id)

new-run : (run : Run) (runs : List Run) (new : Run) (id : ℕ) → ((n : ℕ) → n < length runs → (run_at runs n).id ≤ id) → new.id ≤ id
    → run_from run (runs ++ new ∷ []) id ≡ new
new-run run [] new id low least = run-behind id new.id run new least
new-run run (next ∷ runs) new id low least =
    run-behind id next.id run (run_from next (runs ++ new ∷ []) id) (low 0 (omega arith))
    ∙ new-run next runs new id (λ n less. low (suc n) (omega (arith, less))) least

follow-push : (run : Run) (runs : List Run) (new : Run) → Follow run runs → IsNext (run_at (run ∷ runs) (length runs)) new
    → Follow run (runs ++ new ∷ [])
follow-push run [] new follow next zero less = next
follow-push run [] new follow next (suc n) less = absurd (omega (arith, less))
follow-push run (other ∷ runs) new follow next zero less = follow 0 (omega arith)
follow-push run (other ∷ runs) new follow next (suc n) less =
    follow-push other runs new (follow-rest run other runs follow) next n (omega (arith, less))

-- runs for one more range, of this table
record IsMore (runs more : List Run) (table : Table) (count size : ℕ) : Type 0 where
  turn : AreInTurn more
  low : (n : ℕ) → n < length more → (run_at more n).id ≤ count
  old : (id : ℕ) → id < count → run_of more id ≡ run_of runs id
  tabled : (run_of more count).table ≡ table
  start : start_of more count ≡ size

module _ (runs : List Run) (table : Table) (count size : ℕ) (kept : AreRuns runs count size) where
  abbrev new : Run
  new = record { table = table; first = size; id = count }

  last-of : run_of runs count ≡ last_run runs
  last-of = from-last first_run runs count kept.low ∙ last-is runs kept.turn.some

  goes-on : (last_run runs).table ≡ table → IsMore runs runs table count size
  goes-on same = record {
    turn = kept.turn;
    low = kept.low;
    old = λ id less. refl;
    tabled = ap (λ (r : Run). r.table) last-of ∙ same;
    start = kept.end;
  }

  long : length (runs ++ new ∷ []) ≡ length runs + 1
  long = length_push runs new

  next : IsNext (run_at (first_run ∷ runs) (length runs)) new
  next = subst (λ r. IsNext r new) (from-last first_run runs count kept.low) (record {
    id = subst (λ (r : Run). r.id ≤ count) (sym last-of) (kept.low (length runs - 1) (omega (arith, kept.turn.some)));
    first = sym kept.end;
  })

  begins : IsMore runs (runs ++ new ∷ []) table count size
  begins = record {
    turn = record {
      some = omega (arith, long);
      begin = ap (λ (r : Run). r.first) (get_or_append_left runs (new ∷ []) first_run 0 kept.turn.some) ∙ kept.turn.begin;
      follow = follow-push first_run runs new kept.turn.follow next;
    };
    low = λ n less. ⊎_elim
        (λ below. subst (λ (r : Run). r.id ≤ count) (sym (get_or_append_left runs (new ∷ []) first_run n below)) (kept.low n below))
        (λ least.
        let at : length runs ≡ n = omega (arith, less, least, long) in
        subst (λ (r : Run). r.id ≤ count) (sym (get_or_push runs new first_run n at)) (omega arith))
        (cases_lt n (length runs));
    old = λ id less. old-run first_run runs new id less;
    tabled = ap (λ (r : Run). r.table) is;
    start = ap (λ (r : Run). start_in r count) is ∙ start-self new;
  }
    where
      is : run_of (runs ++ new ∷ []) count ≡ new
      is = new-run first_run runs new count kept.low (omega arith)

  module _ (more : List Run) (same : (last_run runs).table ≡ table → more ≡ runs)
      (other : ((last_run runs).table ≡ table → ⊥) → more ≡ runs ++ new ∷ []) where
    are-more : IsMore runs more table count size
    are-more = ⊎_elim
        (λ t. let e = same_table-is (last_run runs).table table t in
        subst (λ rs. IsMore runs rs table count size) (sym (same e)) (goes-on e))
        (λ f. subst (λ rs. IsMore runs rs table count size) (sym (other (λ e.
        let t = subst (λ o. same_table (last_run runs).table o ≡ true) e (same_table-self (last_run runs).table) in
        let clash : false ≡ true = sym f ∙ t in
        absurd (cc)))) begins)
        (cases_Bool (same_table (last_run runs).table table))

    pub runs-more : AreRuns more (count + 1) (size + stride table)
    runs-more = record {
      turn = are-more.turn;
      low = λ n less. let low = are-more.low n less in omega (arith, low);
      end = start-next more are-more.turn.follow count ∙ ap (λ s. s + stride (run_of more count).table) are-more.start
          ∙ ap (λ t. size + stride t) are-more.tabled;
    }

    pub ranges-more : (places : List ℕ) (place : ℕ) → count ≡ length places
        → ranges_of more (places ++ place ∷ []) ≡ ranges_of runs places ++ range_of table place size ∷ []
    ranges-more places place many =
        let behind : 0 + length places ≡ count = omega (arith, many) in
        from-push more 0 places place
        ∙ ap (λ rs. rs ++ range_in more (0 + length places) place ∷ [])
        (from-same more runs 0 places (λ id less. are-more.old id (omega (arith, less, many))))
        ∙ ap (λ id. ranges_of runs places ++ range_in more id place ∷ []) behind
        ∙ ap (λ t. ranges_of runs places ++ range_of t place (start_of more count) ∷ []) are-more.tabled
        ∙ ap (λ s. ranges_of runs places ++ range_of table place s ∷ []) are-more.start

-- ---- the owner of a number is found

-- the range of a run that has the number
pub owner-found : (runs : List Run) → AreInTurn runs → (number n : ℕ) → n < length runs → (run_at runs n).first ≤ number
    → (n + 1 < length runs → number < (run_at runs (n + 1)).first) → (quotient : ℕ)
    → quotient * stride (run_at runs n).table ≤ number - (run_at runs n).first
    → run_of runs ((run_at runs n).id + quotient) ≡ run_at runs n
owner-found runs turn number n known low high quotient below =
    from-is first_run runs turn.follow n ((run_at runs n).id + quotient) known (omega arith) (λ more.
    let next = turn.follow (suc n) more in
    let least = next.id in
    let start = next.first in
    let here : n + 1 ≡ suc n = omega arith in
    let end : number < (run_at runs (suc n)).first =
    subst (λ m. number < (run_at runs m).first) here (high (omega (arith, more))) in
    ⊎_elim
    (λ less. omega (arith, less, least))
    (λ most.
    let past : ((run_at runs (suc n)).id - (run_at runs n).id) * stride (run_at runs n).table ≤ quotient * stride (run_at runs n).table =
    mul-le-mul_right (stride (run_at runs n).table) most in
    absurd (omega (arith, past, below, start, end, low)))
    (cases_lt quotient ((run_at runs (suc n)).id - (run_at runs n).id)))

module _ (runs : List Run) (turn : AreInTurn runs) (number n : ℕ) (known : n < length runs) (low : (run_at runs n).first ≤ number)
    (high : n + 1 < length runs → number < (run_at runs (n + 1)).first) where
  abbrev run : Run
  run = run_at runs n

  abbrev wide : ℕ
  wide = stride run.table

  abbrev beyond : ℕ
  beyond = number - run.first

  found : run_of runs (run.id + beyond / wide) ≡ run
  found = owner-found runs turn number n known low high (beyond / wide) (div-mul-le_self beyond wide)

  sums : start_in run (run.id + beyond / wide) + beyond % wide ≡ number
  sums =
      let ranges : run.id + beyond / wide - run.id ≡ beyond / wide = omega arith in
      ap (λ d. run.first + d * wide + beyond % wide) ranges ∙ omega (arith, div-add-mod' beyond wide, low)

  owner-made : IsOwner runs number (record { table = run.table; id = run.id + beyond / wide; family = beyond % wide })
  owner-made = record {
    table = ap (λ (r : Run). r.table) found;
    family = mod-lt beyond (stride-some run.table);
    is = ap (λ r. start_in r (run.id + beyond / wide) + beyond % wide) found ∙ sums;
  }

  -- as it is reckoned with what is told of the rows that are used up
  pub owner-told : (rows rest : ℕ) → rows ≡ beyond / wide → rest ≡ beyond % wide
      → IsOwner runs number (record { table = run.table; id = run.id + rows; family = rest })
  owner-told rows rest rows_is rest_is =
      subst (λ n. IsOwner runs number (record { table = run.table; id = run.id + rows; family = n })) (sym rest_is)
      (subst (λ n. IsOwner runs number (record { table = run.table; id = run.id + n; family = beyond % wide })) (sym rows_is) owner-made)

module _ (runs : List Run) (places : List ℕ) (turn : AreInTurn runs) (number : ℕ)
    (of : IsOf (ranges_of runs places) number (owner_at (owners (ranges_of runs places)) number)) (owner : Owner)
    (found : IsOwner runs number owner) where
  abbrev id : ℕ
  id = owner_at (owners (ranges_of runs places)) number

  known : id < length places
  known = subst (λ n. id < n) (ranges-long runs 0 places) of.known

  at : range_at (ranges_of runs places) id ≡ range_in runs id (place_at places id)
  at = range-is runs places id known

  pub owner-is : owner.id ≡ id
  owner-is =
      let wide = ap stride found.table in
      one-range runs turn.follow number owner.id id (omega (arith, found.is)) (omega (arith, found.is, found.family, wide))
      (subst (λ (r : Range). r.first ≤ number) at of.low) (subst (λ (r : Range). number < r.first + stride r.table) at of.high)

  pub owner-known : owner.id < length places
  owner-known = subst (λ n. n < length places) (sym owner-is) known

  pub owner-range : range_at (ranges_of runs places) owner.id ≡ range_of owner.table (place_at places owner.id) (number - owner.family)
  owner-range =
      let start : start_of runs owner.id ≡ number - owner.family = omega (arith, found.is) in
      range-is runs places owner.id owner-known
      ∙ ap (λ t. range_of t (place_at places owner.id) (start_of runs owner.id)) found.table
      ∙ ap (range_of owner.table (place_at places owner.id)) start

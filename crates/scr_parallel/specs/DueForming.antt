-- What is due makes a round of a board, and the figures of the round are those of what is due.
use Rattle.std.proofs.Common.{◌≡◌, ℕ, zero, suc, ◌+◌, ◌<◌, ◌≤◌, ◌^◌, List, [], ◌∷◌, Contains, Some, length, map, slice_get, slice_index_or, refl, sym, ap, subst, ◌∙◌, arith}
use Rattle.std.specs.Prelude.{slice_index}
use Rattle.std.specs.List.{AllByRecursion}
use Rattle.scr_num.specs.Rounding.{Ends}
use Rattle.scr_board.specs.Counts.{times}
use Rattle.scr_board.specs.Rounds.{IsRound}
use Rattle.scr_board.proofs.Ending.{length-below, sum_below-most}
use Rattle.scr_reachability.specs.declared.ranks.Due.{Due}
use Rattle.scr_reachability.specs.Dues.{EndsIn, IsSchedule}
use Rattle.scr_reachability.specs.Levels.{number_at, numbers_of}
use Rattle.scr_reachability.specs.Ranks.{rank_at}
use Rattle.scr_reachability.proofs.Members.{IsMember-from_Contains, place_of}
use Rattle.scr_subgraph.specs.declared.round.Slot.{Slot}
use Rattle.scr_subgraph.specs.declared.round.Slot.TheVariants as slots
use Rattle.scr_subgraph.specs.Naming.{dues_in}
use Rattle.scr_subgraph.specs.Slots.{Lists, slot_of, slots_with, sources_at}
use Rattle.scr_subgraph.proofs.Entering.{length-slots}
use Rattle.scr_subgraph.proofs.Formed.{is-round}
use Rattle.scr_board.specs.BoardRounds.{BoardRound, IsBoardRound, IsRoundWorked, nodes_in}
use Rattle.scr_parallel.specs.Workable.{AreWorkable, IsGraphOf, figures_of, round_for, spot_for}

-- ---- what is due comes in an order, and so no chain of dues is longer than there are dues

module _ (is_known : ℕ → Type 0) (is_due : Due → Type 0) (dues : List Due) (can : AreWorkable is_known is_due dues) where
  ends-from : (k n : ℕ) → 0 < k → ((i : ℕ) (due : Due) → slice_get dues i ≡ Some due → due.number ≡ n → i + 1 < k) → EndsIn dues k n
  unfolding EndsIn
  ends-from zero n some before = absurd (omega (arith, some))
  ends-from (suc k) n some before = λ due has is source named.
      let at = place_of dues due (IsMember-from_Contains dues due has) in
      let low = before at.0 due at.1 is in
      ends-from k source (omega (arith, low))
      (λ j from there number.
      let earlier = can.before at.0 j due from at.1 there (subst (Contains due.sources.items) (sym number) named) in
      omega (arith, earlier, low))

  place-low : (ds : List Due) (i : ℕ) (due : Due) → slice_get ds i ≡ Some due → i < length ds
  place-low [] i due at = cc
  place-low (d ∷ ds) zero due at = omega arith
  place-low (d ∷ ds) (suc i) due at = let low = place-low ds i due at in omega (arith, low)

  schedule : IsSchedule dues (length dues + 2)
  schedule = record {
    once = can.once;
    ends = λ due has. ends-from (length dues + 2) due.number (omega arith)
        (λ i other at is. let low = place-low dues i other at in omega (arith, low));
  }

-- ---- lists of the round

module _ (worked : ℕ → Ends) where
  nodes-row : (row : List Slot) → nodes_in (map (spot_for worked) row) ≡ dues_in row
  nodes-row [] = refl
  nodes-row (slots.Kept number ∷ row) = nodes-row row
  nodes-row (slots.Due place ∷ row) = ap (λ ns. place ∷ ns) (nodes-row row)

  nodes-at : (rows : List (List Slot)) (n : ℕ)
      → slice_index_or (map nodes_in (map (map (spot_for worked)) rows)) n [] ≡ dues_in (slice_index_or rows n [])
  nodes-at [] n = refl
  nodes-at (row ∷ rows) zero = nodes-row row
  nodes-at (row ∷ rows) (suc n) = nodes-at rows n

  pub figure-here : (ds : List Due) (n : ℕ) → n < length ds
      → slice_get (figures_of worked ds) n ≡ Some (worked (slice_index (numbers_of ds) n))
  figure-here [] n low = absurd (omega (arith, low))
  figure-here (due ∷ ds) zero low = refl
  figure-here (due ∷ ds) (suc n) low = figure-here ds n (omega (arith, low))

length-map : {A B : Type 0} (f : A → B) (xs : List A) → length (map f xs) ≡ length xs
length-map f [] = refl
length-map f (x ∷ xs) = let more = length-map f xs in omega (arith, more)

-- a round is one by whatever lists have the same sources
module _ (count other : ℕ) (sources these dependants : ℕ → List ℕ) (starts : List ℕ) (counts : count ≡ other)
    (same : (n : ℕ) → sources n ≡ these n) (is : IsRound count sources dependants starts) where
  round-same : IsRound other these dependants starts
  round-same = record {
    within = λ n m h.
        let w = is.within n m (subst (λ xs. 0 < times m xs) (sym (same n)) h) in
        let a = w.0 in let b = w.1 in (omega (arith, a, counts), omega (arith, b, counts));
    once = λ n m. subst (λ xs. times m xs ≤ 1) (same n) (is.once n m);
    pairs = λ n m. is.pairs n m ∙ ap (times m) (same n);
    low = λ n h. let l = is.low n h in omega (arith, l, counts);
    single = is.single;
    free = λ n h. sym (same n) ∙ is.free n h;
    begins = λ n l none. is.begins n (omega (arith, l, counts)) (same n ∙ none);
    rank = is.rank;
    falls = λ n m h. is.falls n m (subst (λ xs. 0 < times m xs) (sym (same n)) h);
  }

-- no node has more dependants than there are nodes
module _ (count : ℕ) (sources dependants : ℕ → List ℕ) (starts : List ℕ) (is : IsRound count sources dependants starts) where
  few-dependants : (m : ℕ) → length (dependants m) ≤ count
  few-dependants m =
      let all = length-below (λ (x : ℕ). x) (dependants m) count
      (λ x h. let pair = is.pairs x m in (is.within x m (omega (arith, h, pair))).0) in
      let most = sum_below-most (λ x. times x (dependants m)) count
      (λ x. let pair = is.pairs x m in let once = is.once x m in omega (arith, pair, once)) in
      omega (arith, all, most)

each-few : (rows : List (List ℕ)) (most : ℕ) → ((m : ℕ) → length (slice_index_or rows m []) < most)
    → AllByRecursion (λ row. length row < most) rows
each-few [] most each = tt
each-few (row ∷ rows) most each = (each 0, each-few rows most (λ m. each (suc m)))

few-rows : (worked : ℕ → Ends) (numbers : List ℕ) (most : ℕ) (dues : List Due)
    → AllByRecursion (λ (due : Due). length due.sources.items < most) dues
    → AllByRecursion (λ row. length row < most) (map (map (spot_for worked)) (slots_with numbers dues))
few-rows worked numbers most [] few = tt
few-rows worked numbers most (due ∷ dues) few =
    let a = length-map (spot_for worked) (map (slot_of numbers) due.sources.items) in
    let b = length-map (slot_of numbers) due.sources.items in
    let low = few.0 in
    (omega (arith, a, b, low), few-rows worked numbers most dues few.1)

-- ---- the round

module _ (worked : ℕ → Ends) (is_known : ℕ → Type 0) (is_due : Due → Type 0) (dues : List Due) (lists : Lists)
    (is : IsGraphOf is_known is_due dues lists) where
  abbrev pub round : BoardRound
  round = round_for worked dues lists

  as-dues : IsRound (length dues) (sources_at lists) (rank_at lists.dependants) lists.starts
  as-dues = is-round dues (length dues + 2) lists (schedule is_known is_due dues is.workable) is.workable.single is.of

  rows-count : length lists.slots ≡ length dues
  rows-count = let same = ap length is.of.slots in let count = length-slots dues dues in omega (arith, same, count)

  pub places-count : length round.places ≡ length dues
  places-count = let long = length-map (map (spot_for worked)) lists.slots in let count = rows-count in omega (arith, long, count)

  pub round-forms : IsBoardRound round
  round-forms = record {
    form = round-same (length dues) (length (map nodes_in round.places)) (sources_at lists)
        (λ n. slice_index_or (map nodes_in round.places) n []) (rank_at lists.dependants) lists.starts
        (let long = length-map nodes_in round.places in let count = places-count in omega (arith, long, count))
        (λ n. sym (nodes-at worked lists.slots n)) as-dues;
    long = let figures = length-map (λ (due : Due). worked due.number) dues in let count = places-count in omega (arith, figures, count);
    known =
        let long = is.of.dependants.long in
        let rows = length-slots dues dues in
        let count = places-count in omega (arith, long, rows, count);
    few = let count = places-count in let low = is.few in omega (arith, count, low);
    few_places = subst (λ rows. AllByRecursion (λ row. length row < 2 ^ 32) (map (map (spot_for worked)) rows)) (sym is.of.slots)
        (few-rows worked (numbers_of dues) (2 ^ 32) dues is.few_sources);
    few_dependants = each-few lists.dependants (2 ^ 32)
        (λ m. let count = few-dependants (length dues) (sources_at lists) (rank_at lists.dependants) lists.starts as-dues m in
        let low = is.few in omega (arith, count, low));
  }

  pub round-worked : IsRoundWorked (λ n got. worked (number_at dues n)) round
  round-worked = λ n got low given. let count = places-count in figure-here worked dues n (omega (arith, low, count))

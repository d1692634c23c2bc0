-- The lists that a round's dues give are those of a round.
use Rattle.std.proofs.Common.{◌≡◌, ◌⊎◌, ℕ, ◌+◌, ◌<◌, ◌≤◌, suc, zero, Bool, true, false, nat_eq, List, [], ◌∷◌, ◌++◌, length, map, Option, Some, None, position, get_or, slice_get, slice_index_or, if◌then◌else◌, refl, sym, ap, subst, ◌∙◌, inl, inr, arith}
use Rattle.std.specs.List.{AllByRecursion, IsDistinct}
use Rattle.std.proofs.lemmas.Bool.{true≢false}
use Rattle.std.proofs.lemmas.Bool.Decides.{eqb_tells}
use Rattle.std.proofs.lemmas.Map.Keys.{IsDistinct-tail}
use Rattle.scr_board.specs.Counts.{one_if, times}
use Rattle.scr_board.specs.Rounds.{IsRound}
use Rattle.scr_board.proofs.Members.{get-below}
use Rattle.scr_reachability.specs.declared.ranks.Due.{Due}
use Rattle.scr_reachability.specs.Dues.{IsSchedule}
use Rattle.scr_reachability.specs.Levels.{IsRank, number_at, numbers_of, rank_within, sources_of}
use Rattle.scr_reachability.specs.Ranks.{rank_at}
use Rattle.scr_reachability.proofs.Members.{IsMember, any-from_member, apart, same_number}
use Rattle.scr_reachability.proofs.Ranking.{ends_at, number_member, number_placed, place_within, rank-source, sources_here}
use Rattle.scr_subgraph.specs.declared.round.Slot.{Slot}
use Rattle.scr_subgraph.specs.declared.round.Slot.TheVariants as slots
use Rattle.scr_subgraph.specs.Naming.{begun, dues_in, is_start, named, named_in}
use Rattle.scr_subgraph.proofs.Entering.{length-slots}
use Rattle.scr_subgraph.specs.Slots.{IsRoundOf, Lists, slot_of, slot_or, slots_of, slots_with, sources_at}

-- ---- how often a number stands in a list

times-append : (n : ℕ) (xs ys : List ℕ) → times n (xs ++ ys) ≡ times n xs + times n ys
times-append n [] ys = omega arith
times-append n (x ∷ xs) ys = let later = times-append n xs ys in omega (arith, later)

-- a due is named as often as it has the other for a source
times-named_in : (x place m : ℕ) (row : List Slot) → times x (named_in place m row) ≡ (if nat_eq x place then times m (dues_in row) else 0)
times-named_in x place m [] = by (nat_eq x place)
  where
    by : (b : Bool) → ◌≡◌ {A = ℕ} 0 (if b then 0 else 0)
    by true = refl
    by false = refl
times-named_in x place m (slots.Kept number ∷ row) = times-named_in x place m row
times-named_in x place m (slots.Due source ∷ row) =
    times-append x (if nat_eq source m then place ∷ [] else []) (named_in place m row)
    ∙ ap (λ n. times x (if nat_eq source m then place ∷ [] else []) + n) (times-named_in x place m row)
    ∙ by (nat_eq x place) (nat_eq source m) (nat_eq m source) (turned source m) refl
  where
    turned : (a b : ℕ) → nat_eq a b ≡ nat_eq b a
    turned a b = pick (eqb_tells a b) (eqb_tells b a)
      where
        pick : ((nat_eq a b ≡ true) × (a ≡ b)) ⊎ ((nat_eq a b ≡ false) × (a ≡ b → ⊥))
            → ((nat_eq b a ≡ true) × (b ≡ a)) ⊎ ((nat_eq b a ≡ false) × (b ≡ a → ⊥)) → nat_eq a b ≡ nat_eq b a
        pick (inl t) (inl u) = t.0 ∙ sym u.0
        pick (inl t) (inr g) = absurd (g.1 (sym t.1))
        pick (inr f) (inl u) = absurd (f.1 (sym u.1))
        pick (inr f) (inr g) = f.0 ∙ sym g.0

    by : (a b c : Bool) → b ≡ c → nat_eq x place ≡ a
        → times x (if b then place ∷ [] else []) + (if a then times m (dues_in row) else 0)
        ≡ (if a then one_if c + times m (dues_in row) else 0)
    by true b c same is = ap (λ d. times x (if d then place ∷ [] else []) + times m (dues_in row)) same ∙ one c
      where
        one : (d : Bool) → times x (if d then place ∷ [] else []) + times m (dues_in row) ≡ one_if d + times m (dues_in row)
        one true = ap (λ e. (one_if e + 0) + times m (dues_in row)) is ∙ omega arith
        one false = refl
    by false b c same is = none b
      where
        none : (d : Bool) → times x (if d then place ∷ [] else []) + 0 ≡ 0
        none true = ap (λ e. (one_if e + 0) + 0) is ∙ omega arith
        none false = refl

-- nothing before the first place is named
named-before : (x m : ℕ) (rows : List (List Slot)) (k : ℕ) → x < k → times x (named m rows k) ≡ 0
named-before x m [] k l = refl
named-before x m (row ∷ rows) k l =
    let a = times-append x (named_in k m row) (named m rows (suc k)) in
    let b = times-named_in x k m row ∙ ap (λ c. if c then times m (dues_in row) else 0) (other (eqb_tells x k)) in
    let d = named-before x m rows (suc k) (omega (arith, l)) in
    omega (arith, a, b, d)
  where
    other : ((nat_eq x k ≡ true) × (x ≡ k)) ⊎ ((nat_eq x k ≡ false) × (x ≡ k → ⊥)) → nat_eq x k ≡ false
    other (inl t) = let e = t.1 in absurd (omega (arith, e, l))
    other (inr f) = f.0

abbrev row_at : List (List Slot) → ℕ → List Slot
row_at rows n = slice_index_or rows n []

times-named : (m n : ℕ) (rows : List (List Slot)) (k : ℕ) → times (k + n) (named m rows k) ≡ times m (dues_in (row_at rows n))
times-named m n [] k = refl
times-named m zero (row ∷ rows) k =
    let a = times-append (k + 0) (named_in k m row) (named m rows (suc k)) in
    let b = times-named_in (k + 0) k m row
    ∙ ap (λ c. if c then times m (dues_in row) else 0) (ap (λ i. nat_eq i k) zero-right ∙ same_number k) in
    let d = named-before (k + 0) m rows (suc k) (omega arith) in
    omega (arith, a, b, d)
  where
    zero-right : k + 0 ≡ k
    zero-right = omega arith
times-named m (suc n) (row ∷ rows) k =
    let a = times-append (k + suc n) (named_in k m row) (named m rows (suc k)) in
    let b = times-named_in (k + suc n) k m row
    ∙ ap (λ c. if c then times m (dues_in row) else 0) (other (eqb_tells (k + suc n) k)) in
    let d = ap (λ i. times i (named m rows (suc k))) next ∙ times-named m n rows (suc k) in
    omega (arith, a, b, d)
  where
    next : k + suc n ≡ suc k + n
    next = omega arith

    other : ((nat_eq (k + suc n) k ≡ true) × (k + suc n ≡ k)) ⊎ ((nat_eq (k + suc n) k ≡ false) × (k + suc n ≡ k → ⊥)) → nat_eq (k + suc n) k ≡ false
    other (inl t) = let e = t.1 in absurd (omega (arith, e))
    other (inr f) = f.0

-- ---- the rows of dues

-- a due that is named in a row is one of the sources, at its place
named-source : (numbers sources : List ℕ) (m : ℕ) → 0 < times m (dues_in (map (slot_of numbers) sources))
    → (s : ℕ) × IsMember s sources × (position (nat_eq s) numbers ≡ Some m)
named-source numbers [] m h = absurd (omega (arith, h))
named-source numbers (s ∷ ss) m h = by (position (nat_eq s) numbers) refl h (named-source numbers ss m)
  where
    Found : List ℕ → Type 0
    Found xs = (t : ℕ) × IsMember t xs × (position (nat_eq t) numbers ≡ Some m)

    further : Found ss → Found (s ∷ ss)
    further on = (on.0, inr on.1, on.2)

    by : (found : Option ℕ) → position (nat_eq s) numbers ≡ found
        → 0 < times m (dues_in (slot_or s found ∷ map (slot_of numbers) ss))
        → (0 < times m (dues_in (map (slot_of numbers) ss)) → Found ss) → Found (s ∷ ss)
    by None e g later = further (later g)
    by (Some place) e g later = pick (eqb_tells m place)
      where
        pick : ((nat_eq m place ≡ true) × (m ≡ place)) ⊎ ((nat_eq m place ≡ false) × (m ≡ place → ⊥)) → Found (s ∷ ss)
        pick (inl t) = (s, inl refl, e ∙ ap Some (sym t.1))
        pick (inr f) =
            further (later (let l = subst (λ b. 0 < one_if b + times m (dues_in (map (slot_of numbers) ss))) f.0 g in omega (arith, l)))

module _ (dues : List Due) where
  abbrev numbers : List ℕ
  numbers = numbers_of dues

  -- a row whose sources differ names no due twice
  named-once : (sources : List ℕ) (m : ℕ) → IsDistinct nat_eq sources → times m (dues_in (map (slot_of numbers) sources)) ≤ 1
  named-once [] m h = omega arith
  named-once (s ∷ ss) m h = by (position (nat_eq s) numbers) refl (named-once ss m (IsDistinct-tail nat_eq s ss h))
    where
      by : (found : Option ℕ) → position (nat_eq s) numbers ≡ found → times m (dues_in (map (slot_of numbers) ss)) ≤ 1
          → times m (dues_in (slot_or s found ∷ map (slot_of numbers) ss)) ≤ 1
      by None e later = later
      by (Some place) e later = pick (eqb_tells m place)
        where
          rest : ℕ
          rest = times m (dues_in (map (slot_of numbers) ss))

          twice : m ≡ place → 0 < rest → ⊥
          twice is g =
              let on = named-source numbers ss m g in
              let a = number_placed dues s place e in
              let b = number_placed dues on.0 m on.2 in
              let same : s ≡ on.0 = sym a ∙ ap (number_at dues) (sym is) ∙ b in
              apart s ss h (subst (λ x. IsMember x ss) (sym same) on.1)

          none : (n : ℕ) → (0 < n → ⊥) → 1 + n ≤ 1
          none zero g = omega arith
          none (suc n) g = absurd (g (omega arith))

          pick : ((nat_eq m place ≡ true) × (m ≡ place)) ⊎ ((nat_eq m place ≡ false) × (m ≡ place → ⊥)) → one_if (nat_eq m place) + rest ≤ 1
          pick (inl t) = subst (λ b. one_if b + rest ≤ 1) (sym t.0) (none rest (twice t.1))
          pick (inr f) = subst (λ b. one_if b + rest ≤ 1) (sym f.0) (omega (arith, later))

  -- the row at a place is that of the due there
  row_of_due : (ds : List Due) (n : ℕ) → 0 < length (row_at (slots_with numbers ds) n)
      → (due : Due) × (slice_get ds n ≡ Some due) × (row_at (slots_with numbers ds) n ≡ map (slot_of numbers) due.sources.items)
  row_of_due [] n l = absurd (omega (arith, l))
  row_of_due (d ∷ ds) zero l = (d, refl, refl)
  row_of_due (d ∷ ds) (suc n) l = row_of_due ds n l

  once_rows : (ds : List Due) (n m : ℕ) → AllByRecursion (λ (due : Due). IsDistinct nat_eq due.sources.items) ds
      → times m (dues_in (row_at (slots_with numbers ds) n)) ≤ 1
  once_rows [] n m all = omega arith
  once_rows (d ∷ ds) zero m all = named-once d.sources.items m all.0
  once_rows (d ∷ ds) (suc n) m all = once_rows ds n m all.1

some-row : (row : List Slot) (m : ℕ) → 0 < times m (dues_in row) → 0 < length row
some-row [] m h = absurd (omega (arith, h))
some-row (slot ∷ row) m h = omega arith

-- ---- the starts

start-none : (row : List Slot) → is_start row ≡ true → dues_in row ≡ []
start-none [] h = refl
start-none (slots.Kept number ∷ row) h = start-none row h
start-none (slots.Due place ∷ row) h = absurd (true≢false (sym h))

none-start : (row : List Slot) → dues_in row ≡ [] → is_start row ≡ true
none-start [] h = refl
none-start (slots.Kept number ∷ row) h = none-start row h
none-start (slots.Due place ∷ row) h = absurd (cons≢nil place (dues_in row) h)
  where
    cons≢nil : (x : ℕ) (xs : List ℕ) → x ∷ xs ≡ [] → ⊥
    cons≢nil x xs e = let l : length (x ∷ xs) ≡ 0 = ap length e in omega (arith, l)

begun-in : (rows : List (List Slot)) (k n : ℕ) → 0 < times n (begun rows k)
    → (j : ℕ) × (n ≡ k + j) × (j < length rows) × (is_start (row_at rows j) ≡ true)
begun-in [] k n h = absurd (omega (arith, h))
begun-in (row ∷ rows) k n h = by (is_start row) refl h (begun-in rows (suc k) n)
  where
    Found : List (List Slot) → ℕ → Type 0
    Found rs from = (j : ℕ) × (n ≡ from + j) × (j < length rs) × (is_start (row_at rs j) ≡ true)

    further : Found rows (suc k) → Found (row ∷ rows) k
    further on = let e = on.1 in let l = on.2 in (suc on.0, omega (arith, e), omega (arith, l), on.3)

    by : (b : Bool) → is_start row ≡ b → 0 < times n (if b then k ∷ begun rows (suc k) else begun rows (suc k))
        → (0 < times n (begun rows (suc k)) → Found rows (suc k)) → Found (row ∷ rows) k
    by false e g later = further (later g)
    by true e g later = pick (eqb_tells n k)
      where
        pick : ((nat_eq n k ≡ true) × (n ≡ k)) ⊎ ((nat_eq n k ≡ false) × (n ≡ k → ⊥)) → Found (row ∷ rows) k
        pick (inl t) = let is = t.1 in (0, omega (arith, is), omega arith, e)
        pick (inr f) = further (later (let l = subst (λ b. 0 < one_if b + times n (begun rows (suc k))) f.0 g in omega (arith, l)))

begun-all : (rows : List (List Slot)) (k j : ℕ) → j < length rows → is_start (row_at rows j) ≡ true → 0 < times (k + j) (begun rows k)
begun-all [] k j l e = absurd (omega (arith, l))
begun-all (row ∷ rows) k zero l e =
    subst (λ b. 0 < times (k + 0) (if b then k ∷ begun rows (suc k) else begun rows (suc k))) (sym e)
    (let here : nat_eq (k + 0) k ≡ true = ap (λ i. nat_eq i k) zero-right ∙ same_number k in
    subst (λ b. 0 < one_if b + times (k + 0) (begun rows (suc k))) (sym here) (omega arith))
  where
    zero-right : k + 0 ≡ k
    zero-right = omega arith
begun-all (row ∷ rows) k (suc j) l e = by (is_start row) (subst (λ i. 0 < times i (begun rows (suc k))) next (begun-all rows (suc k) j (omega (arith, l)) e))
  where
    next : suc k + j ≡ k + suc j
    next = omega arith

    by : (b : Bool) → 0 < times (k + suc j) (begun rows (suc k)) → 0 < times (k + suc j) (if b then k ∷ begun rows (suc k) else begun rows (suc k))
    by true h = omega (arith, h)
    by false h = h

begun-once : (rows : List (List Slot)) (k n : ℕ) → times n (begun rows k) ≤ 1
begun-once [] k n = omega arith
begun-once (row ∷ rows) k n = by (is_start row) (begun-once rows (suc k) n)
  where
    by : (b : Bool) → times n (begun rows (suc k)) ≤ 1 → times n (if b then k ∷ begun rows (suc k) else begun rows (suc k)) ≤ 1
    by false h = h
    by true h = pick (eqb_tells n k) (zero-or (times n (begun rows (suc k))))
      where
        zero-or : (i : ℕ) → (i ≡ 0) ⊎ (0 < i)
        zero-or zero = inl refl
        zero-or (suc i) = inr (omega arith)

        pick : ((nat_eq n k ≡ true) × (n ≡ k)) ⊎ ((nat_eq n k ≡ false) × (n ≡ k → ⊥))
            → (times n (begun rows (suc k)) ≡ 0) ⊎ (0 < times n (begun rows (suc k)))
            → one_if (nat_eq n k) + times n (begun rows (suc k)) ≤ 1
        pick (inl t) (inl z) = subst (λ b. one_if b + times n (begun rows (suc k)) ≤ 1) (sym t.0) (omega (arith, z))
        pick (inl t) (inr g) = let on = begun-in rows (suc k) n g in let a = on.1 in let b = t.1 in absurd (omega (arith, a, b))
        pick (inr f) z = subst (λ b. one_if b + times n (begun rows (suc k)) ≤ 1) (sym f.0) (omega (arith, h))

-- ---- all together

get_or-at : (ds : List Due) (n : ℕ) (due : Due) → slice_get ds n ≡ Some due → due ≡ get_or ds n due
get_or-at [] n due e = cc
get_or-at (d ∷ ds) zero due e = let same : d ≡ due = cc in sym same
get_or-at (d ∷ ds) (suc n) due e = get_or-at ds n due e

module _ (dues : List Due) (levels : ℕ) (round : Lists) (schedule : IsSchedule dues levels)
    (single : AllByRecursion (λ (due : Due). IsDistinct nat_eq due.sources.items) dues) (is : IsRoundOf dues round) where
  abbrev rows : List (List Slot)
  rows = slots_of dues

  at : (n : ℕ) → sources_at round n ≡ dues_in (row_at rows n)
  at n = ap (λ rs. dues_in (row_at rs n)) is.slots

  -- what it takes to be a source of the due at a place
  pub record IsFrom (n m : ℕ) : Type 0 where
    pub due : Due
    pub there : slice_get dues n ≡ Some due
    pub source : ℕ
    pub listed : IsMember source due.sources.items
    pub placed : position (nat_eq source) (numbers_of dues) ≡ Some m

  from : (n m : ℕ) → 0 < times m (sources_at round n) → IsFrom n m
  from n m h =
      let g : 0 < times m (dues_in (row_at rows n)) = subst (λ xs. 0 < times m xs) (at n) h in
      let on = row_of_due dues dues n (some-row (row_at rows n) m g) in
      let s = named-source (numbers_of dues) on.0.sources.items m (subst (λ row. 0 < times m (dues_in row)) on.2 g) in
      record { due = on.0; there = on.1; source = s.0; listed = s.1; placed = s.2 }

  rank_of : (n : ℕ) → n < length dues → IsRank dues (number_at dues n) (rank_within dues levels (number_at dues n))
  rank_of n l = record { levels = levels; ends = ends_at dues levels n schedule l; is = refl }

  lower : (n m : ℕ) → 0 < times m (sources_at round n)
      → rank_within dues levels (number_at dues m) < rank_within dues levels (number_at dues n)
  lower n m h =
      let f = from n m h in
      let n_within : n < length dues = get-below dues n f.due f.there in
      let m_within = place_within dues f.source m f.placed in
      let named = number_placed dues f.source m f.placed in
      let own : sources_of dues (number_at dues n) ≡ f.due.sources.items =
      sources_here dues n f.due f.due.sources.items schedule.once n_within (get_or-at dues n f.due f.there)
      (ap (λ (x : Due). x.sources.items) (get_or-at dues n f.due f.there)) in
      rank-source dues (number_at dues n) (number_at dues m) _ _ (rank_of n n_within)
      (subst (λ s. IsMember s (sources_of dues (number_at dues n))) (sym named) (subst (IsMember f.source) (sym own) f.listed))
      (any-from_member (number_at dues m) (numbers_of dues) (number_member dues m m_within)) (rank_of m m_within)

  pub is-round : IsRound (length dues) (sources_at round) (rank_at round.dependants) round.starts
  is-round = record {
    within = λ n m h. let f = from n m h in (get-below dues n f.due f.there, place_within dues f.source m f.placed);
    once = λ n m. subst (λ xs. times m xs ≤ 1) (sym (at n)) (once_rows dues dues n m single);
    pairs = λ n m.
        let zero-left : 0 + n ≡ n = omega arith in
        ap (times n) (is.dependants.each m) ∙ ap (λ i. times i (named m rows 0)) (sym zero-left) ∙ times-named m n rows 0
        ∙ ap (times m) (sym (at n));
    low = λ n h. let b = begun-in rows 0 n (started n h) in let e = b.1 in let l = b.2 in
        let count = length-slots dues dues in omega (arith, e, l, count);
    single = λ n. subst (λ xs. times n xs ≤ 1) (sym is.starts) (begun-once rows 0 n);
    free = λ n h. at n ∙ start-none (row_at rows n) (begun-at n (begun-in rows 0 n (started n h)));
    begins = λ n l e.
        let count = length-slots dues dues in
        let zero-left : 0 + n ≡ n = omega arith in
        subst (λ xs. 0 < times n xs) (sym is.starts)
        (subst (λ i. 0 < times i (begun rows 0)) zero-left
        (begun-all rows 0 n (omega (arith, l, count)) (none-start (row_at rows n) (sym (at n) ∙ e))));
    rank = λ n. rank_within dues levels (number_at dues n);
    falls = lower;
  }
    where
      started : (n : ℕ) → 0 < times n round.starts → 0 < times n (begun rows 0)
      started n h = subst (λ xs. 0 < times n xs) is.starts h

      begun-at : (n : ℕ) → (j : ℕ) × (n ≡ 0 + j) × (j < length rows) × (is_start (row_at rows j) ≡ true) → is_start (row_at rows n) ≡ true
      begun-at n on = let e = on.1 in let same : on.0 ≡ n = omega (arith, e) in subst (λ i. is_start (row_at rows i) ≡ true) same on.3

-- Each step on the board is allowed: whatever the board is when the word changes, the pass goes on, and the rule holds.
use Rattle.std.proofs.Common.{◌≡◌, ℕ, zero, suc, ◌+◌, ◌*◌, ◌-◌, ◌/◌, ◌%◌, ◌^◌, ◌<◌, ◌≤◌, ◌⊎◌, Bool, true, false, nat_eq, if◌then◌else◌, List, [], ◌∷◌, ◌++◌, Option, Some, None, length, set, slice_get, refl, sym, ap, ◌∙◌, subst, inl, inr, arith}
use Rattle.std.specs.Prelude.{slice_index, ⊤}
use Rattle.std.proofs.lemmas.List.{map-append, map-set, set-get_or}
use mathlib.Core.Option.{some, some-ne-none}
use lib.ListN.{get_elem?}
use Rattle.atomic_table.specs.Table.{Act, Allows, Joins, Me, Splits, Step, Valid, carried_after, keeps, stepped}
use Rattle.atomic_table.specs.Table as table
use Rattle.atomic_table.proofs.Lists.{set_again, set_else}
use Rattle.scr_board.specs.declared.lists.Progress.{Progress}
use Rattle.scr_board.specs.declared.lists.Round.{Round}
use Rattle.scr_board.specs.Counts.{times, total}
use Rattle.scr_board.specs.Rounds.{IsFormed, count_of, dependants_of, sources_of, word_of}
use Rattle.scr_board.specs.States.{State, deliveries, fresh, holds, named, spent, stored_of}
use Rattle.scr_board.specs.Events.{MayLoad, deliver, delivered, delivers, draw, drawn, draws, enters, first, gives, join, joined, joins, load, split, split_off, splits, store, stored, writes}
use Rattle.scr_board.specs.Sound.{IsAtEnd, IsRun, IsSound, goes_on, opens}
use Rattle.scr_board.proofs.Totals.{each_at, each_set, each_snoc, total_part}
use Rattle.scr_board.proofs.Standing.{is_source, named_once, put_worked, some_left, source_worked}
use Rattle.scr_board.proofs.Running.{run_sound}
use Rattle.scr_board.proofs.Ending.{all_put, count_put, few_named, few_starts, named_node, ticket_most}
use Rattle.scr_board.specs.declared.views.View.{View}
use Rattle.scr_board.specs.Plays.{AreNamedOnce, CanRead, Sat, begun, drew, gave, loaded, wrote}
use Rattle.scr_board.specs.Rule.{AreAllWorked, AreOpening, AreWordsOf, Carries, Holds, IsRunning, IsUnopened}
use Rattle.scr_board.specs.Views.{blank, count_at, opened, progress_of, view_delivered, view_drawn, view_fresh, view_joined, view_split, view_stored, word_at}
use Rattle.scr_board.proofs.BoardRunning.{alone, carries, has_pass, opened_before, proceeds, shown_delivered, shown_drawn, shown_stored, sound_of}

-- a step of a seat: its new view, an act on slots, and what the step tells
abbrev Goes : table.State ⊤ View → ℕ → Sat → ℕ → ℕ → (Sat → Type 0) → Type 0
Goes s id me i x told = (w : View) × (a : Act ⊤) × Valid s.homes me.1 a × Holds (stepped s i x id me.1 w a) × told (w, carried_after me.1 a)

-- what was put there stands there
here : (ps : List Progress) (id : ℕ) (p q : Progress) → get_elem? ps id ≡ some p → get_elem? (set ps id q) id ≡ some q
here [] id p q e = absurd (some-ne-none p (sym e))
here (x ∷ ps) zero p q e = refl
here (x ∷ ps) (suc id) p q e = here ps id p q e

told_once : (round : Round) (form : IsFormed round) (workers : ℕ) (s : State) (sound : IsSound round workers s) (id : ℕ) (p : Progress)
    → get_elem? s.passes id ≡ some p → AreNamedOnce round p
told_once round form workers s sound id p at = record {
  once = λ n. let all = named_once round form workers s sound n in let part = total_part (named n) s.passes id p at in omega (arith, all, part);
  few = few_named round form workers s sound id p at;
}

-- ---- draw

share-draws : (o : Option ℕ) (p : Progress) → (draws o p).share ≡ p.share
share-draws (Some n) p = refl
share-draws None p = refl

pub draw_allowed : (slots id : ℕ) (me : Sat) (st : Step ⊤) → 0 < me.0.progress.share → me.0.progress.marked ≡ false
    → Allows Holds slots id me 0 (λ n. (n + 1) % 2 ^ 64) (drew st me)
unfolding Holds
draw_allowed slots id me st part unmarked s h len at low = by h
  where
    by : IsUnopened s.words s.views ⊎ IsRunning s.words s.views
        → Goes s id me 0 ((slice_index s.words 0 + 1) % 2 ^ 64) (drew st me (slice_index s.words 0))
    by (inl unopened) = absurd (opened_before s.words s.views id me.0 unopened at part)
    by (inr r) =
        let has = has_pass s.words s.views r id me.0 at part in
        let c = carries s.words s.views r id me.0 at part in
        let run = goes_on r.state (drawn r.round r.state id me.0.progress) r.run (draw id me.0.progress has unmarked part) in
        let sound = run_sound r.round r.workers r.form r.some (drawn r.round r.state id me.0.progress) run in
        let starts = few_starts r.round r.form in
        let most = ticket_most r.round r.workers r.state (sound_of s.words s.views r) in
        let is = r.shown.ticket in
        let few = r.few in
        let few_workers = r.most in
        let next : (slice_index s.words 0 + 1) % 2 ^ 64 ≡ r.state.ticket + 1 = omega (arith, starts, most, is, few, few_workers) in
        let place : draws (slice_get r.round.starts r.state.ticket) me.0.progress ≡ draws (slice_get me.0.round.starts (slice_index s.words 0)) me.0.progress
        = ap (λ t. draws (slice_get r.round.starts t) me.0.progress) is
        ∙ ap (λ (R : Round). draws (slice_get R.starts (slice_index s.words 0)) me.0.progress) (sym c.1) in
        let on = proceeds s.words s.views r id me.0 at part 0 ((slice_index s.words 0 + 1) % 2 ^ 64) (view_drawn (slice_index s.words 0) me.0)
        (drawn r.round r.state id me.0.progress) run
        (shown_drawn r.round s.words r.state r.shown id ((slice_index s.words 0 + 1) % 2 ^ 64) me.0.progress next)
        (ap (set r.state.passes id) place)
        (let same = share-draws (slice_get me.0.round.starts (slice_index s.words 0)) me.0.progress in omega (arith, same, part))
        refl refl in
        let told = told_once r.round r.form r.workers (drawn r.round r.state id me.0.progress) sound id (draws (slice_get r.round.starts r.state.ticket) me.0.progress)
        (here r.state.passes id me.0.progress (draws (slice_get r.round.starts r.state.ticket) me.0.progress) has) in
        let told' = subst (AreNamedOnce me.0.round) place
        (subst (λ (R : Round). AreNamedOnce R (draws (slice_get r.round.starts r.state.ticket) me.0.progress)) (sym c.1) told) in
        (view_drawn (slice_index s.words 0) me.0, keeps, tt, inr on, (refl, told'))

-- ---- load

pub load_allowed : (slots id : ℕ) (me : Sat) (st : Step ⊤) (n j : ℕ) → st.word ≡ word_at n j → 0 < me.0.progress.share
    → CanRead me.0.round me.0.progress n → j < 4 → Allows Holds slots id me (word_at n j) (λ x. x) (loaded st me)
unfolding Holds
load_allowed slots id me st n j where_is part can low s h len at bound = by h
  where
    node : (st.word - 1) / 5 ≡ n
    node = omega (arith, where_is, low)

    number : (st.word - 1) % 5 - 1 ≡ j
    number = omega (arith, where_is, low)

    by : IsUnopened s.words s.views ⊎ IsRunning s.words s.views
        → Goes s id me (word_at n j) (slice_index s.words (word_at n j)) (loaded st me (slice_index s.words (word_at n j)))
    by (inl unopened) = absurd (opened_before s.words s.views id me.0 unopened at part)
    by (inr r) =
        let has = has_pass s.words s.views r id me.0 at part in
        let c = carries s.words s.views r id me.0 at part in
        let is = ap (λ (R : Round). word_of R n j) (sym c.1) in
        let found = word has c.1 can in
        let told = found.1 ∙ is ∙ ap (λ i. word_of me.0.round i j) (sym node) ∙ ap (word_of me.0.round ((st.word - 1) / 5)) (sym number) in
        let same = subst (λ vs. IsRunning (set s.words (word_at n j) (slice_index s.words (word_at n j))) vs) (sym (set_again s.views id me.0 at))
        (subst (λ ws. IsRunning ws s.views) (sym (set-get_or s.words (word_at n j) 0)) (again (goes_on r.state r.state r.run
        (load id me.0.progress n j has (may c.1 can) low)))) in
        (me.0, keeps, tt, inr same, (refl, sym (r.shown.word n j found.0 low) ∙ told))
      where
        -- a load is an event that changes nothing
        again : IsRun r.round r.workers r.state → IsRunning s.words s.views
        again run = record r { run = run }

        may : me.0.round ≡ r.round → CanRead me.0.round me.0.progress n → MayLoad r.round me.0.progress n
        may round_is (inl put) = inl (omega (arith, put))
        may round_is (inr source) = inr (source.0, source.1, subst (λ (R : Round). 0 < times n (sources_of R source.0)) round_is source.2)

        word : get_elem? r.state.passes id ≡ some me.0.progress → me.0.round ≡ r.round → CanRead me.0.round me.0.progress n
            → (n < count_of r.round) × (r.state.word n j ≡ word_of r.round n j)
        word has round_is (inl put) =
            let there : 0 < total (named n) r.state.passes
            = let some_part = total_part (named n) r.state.passes id me.0.progress has in omega (arith, put, some_part) in
            (named_node r.round r.form r.workers r.state (sound_of s.words s.views r) n there, put_worked r.round r.form r.workers r.state (sound_of s.words s.views r) id me.0.progress n j has put low)
        word has round_is (inr source) =
            let there : 0 < total (named source.0) r.state.passes
            = let name = source.1 in let some_part = total_part (named source.0) r.state.passes id me.0.progress has in omega (arith, name, some_part) in
            let from : 0 < times n (sources_of r.round source.0) = subst (λ (R : Round). 0 < times n (sources_of R source.0)) round_is source.2 in
            ((r.form.within source.0 n from).1, source_worked r.round r.form r.workers r.state (sound_of s.words s.views r) source.0 n j from there low)

-- ---- store

pub store_allowed : (slots id : ℕ) (me : Sat) (st : Step ⊤) (n j x : ℕ) → st.word ≡ word_at n j → 0 < me.0.progress.share
    → 0 < holds n me.0.progress.hand → stored_of n me.0.progress.hand ≡ j → j < 4 → x ≡ word_of me.0.round n j
    → Allows Holds slots id me (word_at n j) (λ _. x) (λ _. wrote st me x)
unfolding Holds
store_allowed slots id me st n j x where_is part held stored_is low value s h len at bound = by h
  where
    node : (st.word - 1) / 5 ≡ n
    node = omega (arith, where_is, low)

    by : IsUnopened s.words s.views ⊎ IsRunning s.words s.views → Goes s id me (word_at n j) x (wrote st me x)
    by (inl unopened) = absurd (opened_before s.words s.views id me.0 unopened at part)
    by (inr r) =
        let has = has_pass s.words s.views r id me.0 at part in
        let c = carries s.words s.views r id me.0 at part in
        let last : stored_of n me.0.progress.hand < 4 = omega (arith, stored_is, low) in
        let run = goes_on r.state (stored r.round r.state id me.0.progress n) r.run (store id me.0.progress n has held last) in
        let sound = run_sound r.round r.workers r.form r.some (stored r.round r.state id me.0.progress n) run in
        let there : 0 < total (named n) r.state.passes
        = let some_part = total_part (named n) r.state.passes id me.0.progress has in omega (arith, held, some_part) in
        let in_round = named_node r.round r.form r.workers r.state (sound_of s.words s.views r) n there in
        let same : x ≡ word_of r.round n (stored_of n me.0.progress.hand)
        = value ∙ ap (λ (R : Round). word_of R n j) c.1 ∙ ap (word_of r.round n) (sym stored_is) in
        let shown = shown_stored r.round s.words r.state r.shown id x n me.0.progress in_round last same in
        let shown' = subst (λ i. AreWordsOf r.round (set s.words (word_at n i) x) (stored r.round r.state id me.0.progress n)) stored_is shown in
        let on = proceeds s.words s.views r id me.0 at part (word_at n j) x (view_stored n me.0)
        (stored r.round r.state id me.0.progress n) run shown' refl part refl refl in
        let told = told_once r.round r.form r.workers (stored r.round r.state id me.0.progress n) sound id (writes n me.0.progress)
        (here r.state.passes id me.0.progress (writes n me.0.progress) has) in (
          view_stored n me.0,
          keeps,
          tt,
          inr on,
          (ap {B = Sat} (λ i. (view_stored i me.0, me.1)) (sym node), subst (λ (R : Round). AreNamedOnce R (writes n me.0.progress)) (sym c.1) told),
        )

-- ---- deliver

share-delivers : (n k d left : ℕ) (p : Progress) → (delivers n k d left p).share ≡ p.share
share-delivers n k d left p = by (nat_eq left 1)
  where
    by : (b : Bool) → (if b then enters d (gives n k p) else gives n k p).share ≡ p.share
    by true = refl
    by false = refl

pub deliver_allowed : (slots id : ℕ) (me : Sat) (st : Step ⊤) (n k d : ℕ) → 0 < me.0.progress.share → 0 < times n me.0.progress.put
    → slice_get (dependants_of me.0.round n) k ≡ Some d → deliveries n k me.0.progress ≡ 0
    → Allows Holds slots id me (count_at d) (λ l. (l + (2 ^ 64 - 1)) % 2 ^ 64) (gave n k st me)
unfolding Holds
deliver_allowed slots id me st n k d part put place new s h len at bound = by h
  where
    by : IsUnopened s.words s.views ⊎ IsRunning s.words s.views
        → Goes s id me (count_at d) ((slice_index s.words (count_at d) + (2 ^ 64 - 1)) % 2 ^ 64) (gave n k st me (slice_index s.words (count_at d)))
    by (inl unopened) = absurd (opened_before s.words s.views id me.0 unopened at part)
    by (inr r) =
        let has = has_pass s.words s.views r id me.0 at part in
        let c = carries s.words s.views r id me.0 at part in
        let place' : slice_get (dependants_of r.round n) k ≡ Some d = subst (λ (R : Round). slice_get (dependants_of R n) k ≡ Some d) c.1 place in
        let source = is_source r.round r.form r.workers r.state (sound_of s.words s.views r) id me.0.progress has n k d put place' new in
        let in_round = (r.form.within d n source).0 in
        let some_source = some_left r.round r.form r.workers r.state (sound_of s.words s.views r) id me.0.progress has n k d put place' new in
        let run = goes_on r.state (delivered r.state id me.0.progress n k d) r.run (deliver id me.0.progress n k d has put place' new) in
        let sound = run_sound r.round r.workers r.form r.some (delivered r.state id me.0.progress n k d) run in
        let left_is : r.state.left d ≡ slice_index s.words (count_at d) = r.shown.left d in_round in
        let less : (slice_index s.words (count_at d) + (2 ^ 64 - 1)) % 2 ^ 64 ≡ r.state.left d - 1 = omega (arith, some_source, left_is, bound) in
        let shown = shown_delivered r.round s.words r.state r.shown id ((slice_index s.words (count_at d) + (2 ^ 64 - 1)) % 2 ^ 64) n k d me.0.progress in_round less in
        let after : delivers n k d (r.state.left d) me.0.progress ≡ delivers n k d (slice_index s.words (count_at d)) me.0.progress
        = ap (λ l. delivers n k d l me.0.progress) left_is in
        let on = proceeds s.words s.views r id me.0 at part (count_at d) ((slice_index s.words (count_at d) + (2 ^ 64 - 1)) % 2 ^ 64)
        (view_delivered n k d (slice_index s.words (count_at d)) me.0) (delivered r.state id me.0.progress n k d) run shown
        (ap (set r.state.passes id) after)
        (let same = share-delivers n k d (slice_index s.words (count_at d)) me.0.progress in omega (arith, same, part)) refl refl in
        let told = told_once r.round r.form r.workers (delivered r.state id me.0.progress n k d) sound id (delivers n k d (r.state.left d) me.0.progress)
        (here r.state.passes id me.0.progress (delivers n k d (r.state.left d) me.0.progress) has) in
        let told' = subst (AreNamedOnce me.0.round) after (subst (λ (R : Round). AreNamedOnce R (delivers n k d (r.state.left d) me.0.progress)) (sym c.1) told) in
        (view_delivered n k d (slice_index s.words (count_at d)) me.0, keeps, tt, inr on, (d, place, refl, told'))

-- ---- split and join

pub split_allowed : (id : ℕ) (v : View) → 1 < v.progress.share → v.progress.marked ≡ false → Splits Holds id v (view_split v) (view_fresh v)
unfolding Holds
split_allowed id v parts unmarked s h at = by h
  where
    part : 0 < v.progress.share
    part = omega (arith, parts)

    by : IsUnopened s.words s.views ⊎ IsRunning s.words s.views
        → Holds record { words = s.words; homes = s.homes; views = set s.views id (view_split v) ++ view_fresh v ∷ [] }
    by (inl unopened) = absurd (opened_before s.words s.views id v unopened at part)
    by (inr r) =
        let has = has_pass s.words s.views r id v at part in
        let c = carries s.words s.views r id v at part in
        inr (record {
          round = r.round;
          workers = r.workers;
          state = split r.state id v.progress;
          form = r.form;
          few = r.few;
          most = r.most;
          some = r.some;
          run = goes_on r.state (split r.state id v.progress) r.run (split_off id v.progress has unmarked parts);
          shown = record { long = r.shown.long; ticket = r.shown.ticket; left = r.shown.left; word = r.shown.word };
          passes =
              ap (λ ps. set ps id (splits v.progress) ++ fresh 1 ∷ []) r.passes
              ∙ ap (λ ps. ps ++ fresh 1 ∷ []) (sym (map-set progress_of s.views id (view_split v)))
              ∙ sym (map-append progress_of (set s.views id (view_split v)) (view_fresh v ∷ []));
          carried = each_snoc (Carries r.round r.workers) (set s.views id (view_split v)) (view_fresh v)
              (each_set (Carries r.round r.workers) s.views id (view_split v) r.carried (inr (omega (arith, parts), c.1, c.2)))
              (inr (omega arith, c.1, c.2));
        })

pub join_allowed : (id other : ℕ) (v w : View) → 0 < v.progress.share → 0 < w.progress.share → v.progress.marked ≡ true → w.progress.marked ≡ true
    → Joins Holds id v other w (view_joined v w) (blank [])
unfolding Holds
join_allowed id other v w part part_too marked marked_too s h at apart there = by h
  where
    beside : get_elem? s.views other ≡ some w
    beside = sym (set_else s.views id other (view_joined v w) apart) ∙ there

    by : IsUnopened s.words s.views ⊎ IsRunning s.words s.views
        → Holds record { words = s.words; homes = s.homes; views = set (set s.views id (view_joined v w)) other (blank []) }
    by (inl unopened) = absurd (opened_before s.words s.views id v unopened at part)
    by (inr r) =
        let has = has_pass s.words s.views r id v at part in
        let has_too = has_pass s.words s.views r other w beside part_too in
        let c = carries s.words s.views r id v at part in
        inr (record {
          round = r.round;
          workers = r.workers;
          state = joined r.state id v.progress other w.progress;
          form = r.form;
          few = r.few;
          most = r.most;
          some = r.some;
          run = goes_on r.state (joined r.state id v.progress other w.progress) r.run
              (join id other v.progress w.progress has has_too apart marked marked_too part part_too);
          shown = record { long = r.shown.long; ticket = r.shown.ticket; left = r.shown.left; word = r.shown.word };
          passes =
              ap (λ ps. set (set ps id (joins v.progress w.progress)) other spent) r.passes
              ∙ ap (λ ps. set ps other spent) (sym (map-set progress_of s.views id (view_joined v w)))
              ∙ sym (map-set progress_of (set s.views id (view_joined v w)) other (blank []));
          carried = each_set (Carries r.round r.workers) (set s.views id (view_joined v w)) other (blank [])
              (each_set (Carries r.round r.workers) s.views id (view_joined v w) r.carried (inr (omega (arith, part), c.1, c.2)))
              (inl refl);
        })

-- ---- first and final

pub first_allowed : (slots id : ℕ) (words : List ℕ) (c : List (ℕ × ⊤)) (round : Round) (workers : ℕ) (st : Step ⊤) → IsFormed round → count_of round < 2 ^ 32
    → 0 < workers → workers ≤ 64 → AreOpening round words
    → Allows Holds slots id (blank words, c) 0 (λ n. n) (begun round workers st (blank words, c))
unfolding Holds
first_allowed slots id words c round workers st form few some_workers most opening s h len at bound = by h
  where
    by : IsUnopened s.words s.views ⊎ IsRunning s.words s.views
        → Goes s id (blank words, c) 0 (slice_index s.words 0) (begun round workers st (blank words, c) (slice_index s.words 0))
    by (inr r) = absurd (none (each_at (Carries r.round r.workers) s.views id (blank words) r.carried at))
      where
        none : Carries r.round r.workers (blank words) → ⊥
        none (inl e) =
            let empty = ap (λ (v : View). length v.opening) e in
            let long = opening.long in
            omega (arith, empty, long)
        none (inr p) = let part = p.0 in omega (arith, part)
    by (inl unopened) =
        let only = alone (blank s.words) (blank words) id (subst (λ vs. get_elem? vs id ≡ some (blank words)) unopened at) in
        let same : s.words ≡ words = ap (λ (v : View). v.opening) only.1 in
        let r : IsRunning s.words (opened round workers ∷ []) = begins s.words (subst (AreOpening round) (sym same) opening) in
        let views : set s.views id (opened round workers) ≡ opened round workers ∷ []
        = ap (λ vs. set vs id (opened round workers)) unopened ∙ ap (λ i. set (blank s.words ∷ []) i (opened round workers)) only.0 in
        let on = subst (λ vs. IsRunning (set s.words 0 (slice_index s.words 0)) vs) (sym views)
        (subst (λ ws. IsRunning ws (opened round workers ∷ [])) (sym (set-get_or s.words 0 0)) r) in
        (opened round workers, keeps, tt, inr on, refl)
      where
        begins : (ws : List ℕ) → AreOpening round ws → IsRunning ws (opened round workers ∷ [])
        begins ws open_words =
            let start : State = record {
              ticket = 0;
              left = λ n. length (sources_of round n);
              word = λ n j. slice_index ws (word_at n j);
              passes = fresh workers ∷ [];
            } in
            record {
              round = round;
              workers = workers;
              state = start;
              form = form;
              few = few;
              most = most;
              some = some_workers;
              run = goes_on start start (opens start (record { ticket = refl; left = λ n. refl; passes = refl })) (first 0 (fresh workers) refl);
              shown = record {
                long = open_words.long;
                ticket = sym open_words.ticket;
                left = λ n lt. sym (open_words.left n lt);
                word = λ n j lt low. refl;
              };
              passes = refl;
              carried = (inr (some_workers, refl, refl), tt);
            }

pub final_worked : (s : table.State ⊤ View) (id : ℕ) (v : View) → Holds s → get_elem? s.views id ≡ some v → 0 < v.progress.share
    → v.progress.share ≡ v.workers → IsAtEnd v.round v.progress → AreAllWorked v.round s.words v.progress.put
unfolding Holds
final_worked s id v h at part whole end = by h
  where
    by : IsUnopened s.words s.views ⊎ IsRunning s.words s.views → AreAllWorked v.round s.words v.progress.put
    by (inl unopened) = absurd (opened_before s.words s.views id v unopened at part)
    by (inr r) =
        let has = has_pass s.words s.views r id v at part in
        let c = carries s.words s.views r id v at part in
        let end' : IsAtEnd r.round v.progress = subst (λ (R : Round). IsAtEnd R v.progress) c.1 end in
        let whole' = whole ∙ c.2 in
        let each : (n : ℕ) → n < count_of r.round → times n v.progress.put ≡ 1
        = all_put r.round r.form r.workers r.state (sound_of s.words s.views r) id v.progress has end' whole' in
        subst (λ (R : Round). AreAllWorked R s.words v.progress.put) (sym c.1) (record {
          listed = λ n j lt low.
              let put : 0 < times n v.progress.put = let one = each n lt in omega (arith, one) in
              sym (r.shown.word n j lt low) ∙ put_worked r.round r.form r.workers r.state (sound_of s.words s.views r) id v.progress n j has put low;
          each = each;
          count = count_put r.round r.form r.workers r.state (sound_of s.words s.views r) id v.progress has end' whole';
        })

-- ---- the same, as the calls say it

pub loaded_word : (round : Round) (n j : ℕ) → j < 4 → word_of round ((5 * n + 2 + j - 1) / 5) ((5 * n + 2 + j - 1) % 5 - 1) ≡ word_of round n j
loaded_word round n j low =
    let node : (5 * n + 2 + j - 1) / 5 ≡ n = omega (arith, low) in
    let number : (5 * n + 2 + j - 1) % 5 - 1 ≡ j = omega (arith, low) in
    ap (λ i. word_of round i ((5 * n + 2 + j - 1) % 5 - 1)) node ∙ ap (word_of round n) number

pub stored_node : (me : Sat) (n j : ℕ) → j < 4 → ◌≡◌ {A = Sat} (view_stored ((5 * n + 2 + j - 1) / 5) me.0, me.1) (view_stored n me.0, me.1)
stored_node me n j low = let node : (5 * n + 2 + j - 1) / 5 ≡ n = omega (arith, low) in ap {B = Sat} (λ i. (view_stored i me.0, me.1)) node

module _ (me new : Sat) (st : Step ⊤) (found node place n k d : ℕ) (a : node ≡ n) (b : place ≡ k)
    (at : slice_get (dependants_of me.0.round n) k ≡ Some d) (told : gave node place st me found new) where
  gave_same : told.0 ≡ d
  gave_same =
      let e : Some told.0 ≡ Some d
      = sym told.1 ∙ ap (λ i. slice_get (dependants_of me.0.round i) place) a ∙ ap (λ i. slice_get (dependants_of me.0.round n) i) b ∙ at in
      cc

  pub gave_node : new ≡ (view_delivered n k d found me.0, me.1)
  gave_node = told.2 ∙ ap {B = Sat} (λ i. (view_delivered i place told.0 found me.0, me.1)) a ∙ ap {B = Sat} (λ i. (view_delivered n i told.0 found me.0, me.1)) b
      ∙ ap {B = Sat} (λ i. (view_delivered n k i found me.0, me.1)) gave_same

  pub gave_once : AreNamedOnce new.0.round new.0.progress
  gave_once = told.3

-- the same where the delivery is told by other names
pub aim_allowed : (slots id : ℕ) (me : Sat) (st : Step ⊤) (node place n k d : ℕ) → node ≡ n → place ≡ k → 0 < me.0.progress.share
    → 0 < times n me.0.progress.put → slice_get (dependants_of me.0.round n) k ≡ Some d → deliveries n k me.0.progress ≡ 0
    → Allows Holds slots id me (count_at d) (λ l. (l + (2 ^ 64 - 1)) % 2 ^ 64) (gave node place st me)
aim_allowed slots id me st node place n k d a b part put at new =
    subst (λ i. Allows Holds slots id me (count_at d) (λ l. (l + (2 ^ 64 - 1)) % 2 ^ 64) (gave i place st me)) (sym a)
    (subst (λ i. Allows Holds slots id me (count_at d) (λ l. (l + (2 ^ 64 - 1)) % 2 ^ 64) (gave n i st me)) (sym b)
    (deliver_allowed slots id me st n k d part put at new))

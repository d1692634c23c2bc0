-- How a step goes on in a board that is running.
use Rattle.std.proofs.Common.{◌≡◌, ℕ, zero, suc, ◌+◌, ◌-◌, ◌<◌, ◌≢◌, ◌⊎◌, Bool, true, false, nat_eq, if◌then◌else◌, List, [], ◌∷◌, length, set, get_or, refl, sym, ap, ◌∙◌, subst, inl, inr, arith}
use Rattle.std.proofs.lemmas.List.{length-set, get_or-set_same, get_or-set_other, map-set}
use Rattle.std.proofs.lemmas.Bool.Decides.{eqb_tells}
use mathlib.Core.Option.{some, some-injective, some-ne-none}
use lib.ListN.{get_elem?}
use Rattle.atomic_table.proofs.Lists.{at_map}
use Rattle.scr_board.specs.declared.lists.Progress.{Progress}
use Rattle.scr_board.specs.declared.lists.Round.{Round}
use Rattle.scr_board.specs.Rounds.{count_of, word_of}
use Rattle.scr_board.specs.States.{State, stored_of}
use Rattle.scr_board.specs.Events.{delivered, drawn, replaced, stored}
use Rattle.scr_board.specs.Sound.{IsRun, IsSound}
use Rattle.scr_board.proofs.Running.{run_sound}
use Rattle.scr_board.proofs.Totals.{each_at, each_set}
use Rattle.scr_board.specs.declared.views.View.{View}
use Rattle.scr_board.specs.Views.{blank, count_at, progress_of, word_at}
use Rattle.scr_board.specs.Rule.{AreWordsOf, Carries, IsRunning, IsUnopened}

-- one item alone
pub alone : {A : Type 0} (x y : A) (i : ℕ) → get_elem? (x ∷ []) i ≡ some y → (i ≡ 0) × (x ≡ y)
alone x y zero e = (refl, some-injective x y e)
alone x y (suc i) e = absurd (some-ne-none y (sym e))

-- so each state of the board is sound
pub sound_of : (words : List ℕ) (views : List View) (r : IsRunning words views) → IsSound r.round r.workers r.state
sound_of words views r = run_sound r.round r.workers r.form r.some r.state r.run

-- a seat with a share stands only in a board that is running
pub opened_before : (words : List ℕ) (views : List View) (id : ℕ) (v : View) → IsUnopened words views → get_elem? views id ≡ some v
    → 0 < v.progress.share → ⊥
opened_before words views id v unopened at part =
    let only = alone (blank words) v id (subst (λ vs. get_elem? vs id ≡ some v) unopened at) in
    let none = ap (λ (u : View). u.progress.share) only.1 in
    omega (arith, none, part)

module _ (words : List ℕ) (views : List View) (r : IsRunning words views) (id : ℕ) (v : View) (at : get_elem? views id ≡ some v)
    (part : 0 < v.progress.share) where
  -- it carries the round
  pub carries : (0 < v.progress.share) × (v.round ≡ r.round) × (v.workers ≡ r.workers)
  carries = by (each_at (Carries r.round r.workers) views id v r.carried at)
    where
      by : Carries r.round r.workers v → (0 < v.progress.share) × (v.round ≡ r.round) × (v.workers ≡ r.workers)
      by (inl e) = let none = ap (λ (u : View). u.progress.share) e in absurd (omega (arith, none, part))
      by (inr c) = c

  pub has_pass : get_elem? r.state.passes id ≡ some v.progress
  has_pass = ap (λ ps. get_elem? ps id) r.passes ∙ at_map progress_of views id v at

  -- the board goes on with the state after an event that the words show, in which this pass alone has changed
  pub proceeds : (i x : ℕ) (w : View) (t : State) → IsRun r.round r.workers t → AreWordsOf r.round (set words i x) t
      → t.passes ≡ set r.state.passes id w.progress → 0 < w.progress.share → w.round ≡ v.round → w.workers ≡ v.workers
      → IsRunning (set words i x) (set views id w)
  proceeds i x w t run shown passes some_part same_round same_workers = record {
    round = r.round;
    workers = r.workers;
    state = t;
    form = r.form;
    few = r.few;
    most = r.most;
    run = run;
    some = r.some;
    shown = shown;
    passes = passes ∙ ap (λ ps. set ps id w.progress) r.passes ∙ sym (map-set progress_of views id w);
    carried = each_set (Carries r.round r.workers) views id w r.carried
        (inr (some_part, same_round ∙ carries.1, same_workers ∙ carries.2));
  }

-- ---- the words after a step

module _ (round : Round) (words : List ℕ) (s : State) (shown : AreWordsOf round words s) where
  long : 0 < length words
  long = let is = shown.long in omega (arith, is)

  pub shown_drawn : (id x : ℕ) (p : Progress) → x ≡ s.ticket + 1 → AreWordsOf round (set words 0 x) (drawn round s id p)
  shown_drawn id x p e = record {
    long = length-set words 0 x ∙ shown.long;
    ticket = sym e ∙ sym (get_or-set_same words 0 x 0 long);
    left = λ n lt. shown.left n lt ∙ sym (get_or-set_other words 0 (count_at n) x 0 (λ same. omega (arith, same)));
    word = λ n j lt low. shown.word n j lt low ∙ sym (get_or-set_other words 0 (word_at n j) x 0 (λ same. omega (arith, same)));
  }

  pub shown_stored : (id x n : ℕ) (p : Progress) → n < count_of round → stored_of n p.hand < 4 → x ≡ word_of round n (stored_of n p.hand)
      → AreWordsOf round (set words (word_at n (stored_of n p.hand)) x) (stored round s id p n)
  shown_stored id x n p node last e = record {
    long = length-set words at x ∙ shown.long;
    ticket = shown.ticket ∙ sym (get_or-set_other words at 0 x 0 (λ same. omega (arith, same)));
    left = λ m lt. shown.left m lt ∙ sym (get_or-set_other words at (count_at m) x 0 (λ same. omega (arith, same, last)));
    word = λ m i lt low. word m i lt low (eqb_tells m n) (eqb_tells i (stored_of n p.hand));
  }
    where
      at : ℕ
      at = word_at n (stored_of n p.hand)

      Word : ℕ → ℕ → Bool → Bool → ℕ
      Word m i b c = if b then (if c then word_of round n (stored_of n p.hand) else s.word n i) else s.word m i

      -- a word that was not stored
      old : (m i : ℕ) → m < count_of round → i < 4 → ((m ≡ n) × (i ≡ stored_of n p.hand) → ⊥) → s.word m i ≡ get_or (set words at x) (word_at m i) 0
      old m i lt low apart = shown.word m i lt low ∙ sym (get_or-set_other words at (word_at m i) x 0
          (λ same. apart (omega (arith, same, last, low), omega (arith, same, last, low))))

      word : (m i : ℕ) → m < count_of round → i < 4 → ((nat_eq m n ≡ true) × (m ≡ n)) ⊎ ((nat_eq m n ≡ false) × (m ≢ n))
          → ((nat_eq i (stored_of n p.hand) ≡ true) × (i ≡ stored_of n p.hand)) ⊎ ((nat_eq i (stored_of n p.hand) ≡ false) × (i ≢ stored_of n p.hand))
          → Word m i (nat_eq m n) (nat_eq i (stored_of n p.hand)) ≡ get_or (set words at x) (word_at m i) 0
      word m i lt low (inl t) (inl u) =
          ap (λ b. Word m i b (nat_eq i (stored_of n p.hand))) t.0 ∙ ap (λ c. Word m i true c) u.0 ∙ sym e
          ∙ sym (get_or-set_same words at x 0 (let is = shown.long in omega (arith, is, node, last)))
          ∙ ap (λ y. get_or (set words at x) (word_at y (stored_of n p.hand)) 0) (sym t.1)
          ∙ ap (λ y. get_or (set words at x) (word_at m y) 0) (sym u.1)
      word m i lt low (inl t) (inr g) =
          let ne = g.1 in
          ap (λ b. Word m i b (nat_eq i (stored_of n p.hand))) t.0 ∙ ap (λ c. Word m i true c) g.0
          ∙ ap (λ y. s.word y i) (sym t.1) ∙ old m i lt low (λ both. ne both.1)
      word m i lt low (inr f) u =
          let ne = f.1 in
          ap (λ b. Word m i b (nat_eq i (stored_of n p.hand))) f.0 ∙ old m i lt low (λ both. ne both.0)

  pub shown_delivered : (id x n k d : ℕ) (p : Progress) → d < count_of round → x ≡ s.left d - 1
      → AreWordsOf round (set words (count_at d) x) (delivered s id p n k d)
  shown_delivered id x n k d p node e = record {
    long = length-set words (count_at d) x ∙ shown.long;
    ticket = shown.ticket ∙ sym (get_or-set_other words (count_at d) 0 x 0 (λ same. omega (arith, same)));
    left = λ m lt. left m lt (eqb_tells m d);
    word = λ m i lt low. shown.word m i lt low ∙ sym (get_or-set_other words (count_at d) (word_at m i) x 0 (λ same. omega (arith, same, low)));
  }
    where
      left : (m : ℕ) → m < count_of round → ((nat_eq m d ≡ true) × (m ≡ d)) ⊎ ((nat_eq m d ≡ false) × (m ≢ d))
          → replaced s.left d (s.left d - 1) m ≡ get_or (set words (count_at d) x) (count_at m) 0
      left m lt (inl t) =
          ap (λ b. if b then s.left d - 1 else s.left m) t.0 ∙ sym e
          ∙ sym (get_or-set_same words (count_at d) x 0 (let is = shown.long in omega (arith, is, node)))
          ∙ ap (λ y. get_or (set words (count_at d) x) (count_at y) 0) (sym t.1)
      left m lt (inr f) =
          let ne = f.1 in
          ap (λ b. if b then s.left d - 1 else s.left m) f.0 ∙ shown.left m lt
          ∙ sym (get_or-set_other words (count_at d) (count_at m) x 0 (λ same. ne (omega (arith, same))))

-- Sums over figures at distinct numbers, of which some became others one after another.
use Rattle.std.proofs.Common.{◌≡◌, ◌⊎◌, inl, inr, ℕ, ℤ, ◌+◌, ◌<◌, ◌≤◌, ◌||◌, ◌+ℤ◌, ◌≤ℤ◌, Bool, true, false, nat_eq, List, [], ◌∷◌, Option, Some, None, length, map, pos, set, drop, get_or, slice_get, Contains, refl, sym, ap, ap₂, subst, ◌∙◌, arith}
use Rattle.std.specs.List.{IsDistinct, list_any}
use Rattle.std.specs.Option.{option_map_or}
use Rattle.std.specs.Int.Signed.{le_z_yes}
use Rattle.std.proofs.lemmas.Bool.{cases_Bool, eqb-true, eq-eqb, or_parts}
use Rattle.std.proofs.lemmas.Int.{ints}
use Rattle.std.proofs.lemmas.List.{at_drop_all, at_drop_more}
use Rattle.scr_funds.proofs.Members.{IsMember, IsMember-from_Contains, IsMember-map, IsMember-mapped, Contains-any, Contains-from_IsMember, at_member, not_contains-any}
use Rattle.scr_num.specs.Rounding.{Ends, add_ends, ends, exact_ends}
use Rattle.scr_num.specs.Sums.{sum_ends}
use Rattle.scr_partial_sums.specs.Figures.{ends_at}
use Rattle.scr_partial_sums.specs.Written.{is_open_at}
use Rattle.scr_partial_sums.specs.declared.figure.Figure.{Figure}
use Rattle.scr_tree.specs.Order.{undone}
use Rattle.scr_tree.specs.Renewed.{family_numbers, sum_at}
use Rattle.scr_tree.specs.Together.{any_close}
use Rattle.scr_tree.specs.declared.journal.Former.{Former}
use Rattle.scr_tree.proofs.Journaled.{set-here, set-other, undone-long}

-- ---- a number among those of a family

module _ (firsts : List ℕ) (family number own : ℕ) (is : own + family ≡ number) (found : Bool)
    (all : found ≡ list_any (λ first. nat_eq first own) firsts) where
  pub among-yes : found ≡ true → Contains (family_numbers family firsts) number
  among-yes told =
      Contains-from_IsMember (family_numbers family firsts) number
      (subst (λ n. IsMember n (family_numbers family firsts)) is
      (IsMember-mapped (λ first. first + family) firsts own (IsMember-from_Contains firsts own (Contains-any firsts own (sym all ∙ told)))))

  pub among-not : found ≡ false → Contains (family_numbers family firsts) number → ⊥
  among-not told has =
      let s = IsMember-map (λ first. first + family) firsts number (IsMember-from_Contains (family_numbers family firsts) number has) in
      let at : s.0 + family ≡ number = s.2 in
      let same : s.0 ≡ own = omega (arith, at, is) in
      not_contains-any firsts own (sym all ∙ told) (subst (λ n. Contains firsts n) same (Contains-from_IsMember firsts s.0 s.1))

pub among-none : (firsts : List ℕ) (family number : ℕ) → number < family → Contains (family_numbers family firsts) number → ⊥
among-none firsts family number low has =
    let s = IsMember-map (λ first. first + family) firsts number (IsMember-from_Contains (family_numbers family firsts) number has) in
    let at : s.0 + family ≡ number = s.2 in
    absurd (omega (arith, at, low))

-- ---- one figure becomes another

module _ (figures : List Figure) (n : ℕ) (f : Figure) where
  -- the figures at other numbers stay
  pub ends-kept : (ns : List ℕ) → (IsMember n ns → ⊥) → map (ends_at (set figures n f)) ns ≡ map (ends_at figures) ns
  ends-kept [] none = refl
  ends-kept (m ∷ ns) none =
      ap₂ (λ (e : Ends) (es : List Ends). e ∷ es)
      (ap (λ found. option_map_or (λ (g : Figure). ends g.span) found (exact_ends (pos 0))) (set-other figures n m f (λ same. none (inl (sym same)))))
      (ends-kept ns (λ h. none (inr h)))

  pub close-kept : (ns : List ℕ) → (IsMember n ns → ⊥) → any_close (set figures n f) ns ≡ any_close figures ns
  close-kept [] none = refl
  close-kept (m ∷ ns) none =
      ap₂ (λ (x : Bool) (y : Bool). x || y)
      (ap (λ found. option_map_or (λ (g : Figure). g.close) found false) (set-other figures n m f (λ same. none (inl (sym same)))))
      (close-kept ns (λ h. none (inr h)))

  settled-one : (m : ℕ) → is_open_at (set figures n f) m ≡ false → is_open_at figures n ≡ false → is_open_at figures m ≡ false
  settled-one m now here = by (cases_Bool (nat_eq m n))
    where
      by : (nat_eq m n ≡ true) ⊎ (nat_eq m n ≡ false) → is_open_at figures m ≡ false
      by (inl same) = ap (is_open_at figures) (eqb-true m n same) ∙ here
      by (inr other) =
          sym (ap (λ found. option_map_or (λ (g : Figure). g.close) found false)
          (set-other figures n m f (λ e. let clash : true ≡ false = sym (eq-eqb m n e) ∙ other in absurd (cc)))) ∙ now

  -- the one that was rested on no open choice
  pub close-lost : (ns : List ℕ) → any_close (set figures n f) ns ≡ false → is_open_at figures n ≡ false → any_close figures ns ≡ false
  close-lost [] none here = refl
  close-lost (m ∷ ns) none here =
      let parts = or_parts (is_open_at (set figures n f) m) (any_close (set figures n f) ns) none in
      ap₂ (λ (x : Bool) (y : Bool). x || y) (settled-one m parts.0 here) (close-lost ns parts.1 here)

-- what stands in front differs from all behind
distinct-first : (m n : ℕ) (ns : List ℕ) → IsDistinct nat_eq (m ∷ ns) → IsMember n ns → m ≡ n → ⊥
unfolding IsDistinct
distinct-first m n ns once h same =
    let apart : nat_eq m n ≡ false = at_member (λ y. nat_eq m y ≡ false) ns n once.0 h in
    let clash : true ≡ false = sym (eq-eqb m n same) ∙ apart in absurd (cc)

distinct-rest : (m : ℕ) (ns : List ℕ) → IsDistinct nat_eq (m ∷ ns) → IsDistinct nat_eq ns
unfolding IsDistinct
distinct-rest m ns once = once.1

-- ---- what they come to at one end

three : (x y z : ℤ) → (x +ℤ y) +ℤ z ≡ x +ℤ (y +ℤ z)
three x y z = omega (arith, ints)

turned : (x y z : ℤ) → (x +ℤ y) +ℤ z ≡ (z +ℤ y) +ℤ x
turned x y z = omega (arith, ints)

module _ (side : Ends → ℤ) (adds : (a b : Ends) → side (add_ends a b) ≡ side a +ℤ side b) where
  -- one of them was taken out and another put in
  pub swapped : (figures : List Figure) (n : ℕ) (was now : Figure) (ns : List ℕ) → slice_get figures n ≡ Some now → n < length figures
      → IsDistinct nat_eq ns → IsMember n ns
      → side (sum_at (set figures n was) ns) +ℤ side (ends now.span) ≡ side (sum_at figures ns) +ℤ side (ends was.span)
  swapped figures n was now [] here low once h = absurd h
  swapped figures n was now (m ∷ ns) here low once (inl same) =
      let value : Option Figure → Ends = λ found. option_map_or (λ (g : Figure). ends g.span) found (exact_ends (pos 0)) in
      let old : ends_at (set figures n was) m ≡ ends was.span =
      ap (λ k. value (slice_get (set figures n was) k)) (sym same) ∙ ap value (set-here figures n was low) in
      let new : ends_at figures m ≡ ends now.span = ap (λ k. value (slice_get figures k)) (sym same) ∙ ap value here in
      let rest : sum_at (set figures n was) ns ≡ sum_at figures ns =
      ap sum_ends (ends-kept figures n was ns (λ h. distinct-first m n ns once h (sym same))) in
      ap (λ x. x +ℤ side (ends now.span))
      (adds (ends_at (set figures n was) m) (sum_at (set figures n was) ns) ∙ ap₂ (λ (e s : Ends). side e +ℤ side s) old rest)
      ∙ turned (side (ends was.span)) (side (sum_at figures ns)) (side (ends now.span))
      ∙ ap (λ x. x +ℤ side (ends was.span))
      (sym (adds (ends_at figures m) (sum_at figures ns) ∙ ap (λ (e : Ends). side e +ℤ side (sum_at figures ns)) new))
  swapped figures n was now (m ∷ ns) here low once (inr h) =
      let value : Option Figure → Ends = λ found. option_map_or (λ (g : Figure). ends g.span) found (exact_ends (pos 0)) in
      let first : ends_at (set figures n was) m ≡ ends_at figures m =
      ap value (set-other figures n m was (distinct-first m n ns once h)) in
      let rest = swapped figures n was now ns here low (distinct-rest m ns once) h in
      ap (λ x. x +ℤ side (ends now.span))
      (adds (ends_at (set figures n was) m) (sum_at (set figures n was) ns)
      ∙ ap (λ (e : Ends). side e +ℤ side (sum_at (set figures n was) ns)) first)
      ∙ three (side (ends_at figures m)) (side (sum_at (set figures n was) ns)) (side (ends now.span))
      ∙ ap (λ x. side (ends_at figures m) +ℤ x) rest
      ∙ sym (three (side (ends_at figures m)) (side (sum_at figures ns)) (side (ends was.span)))
      ∙ ap (λ x. x +ℤ side (ends was.span)) (sym (adds (ends_at figures m) (sum_at figures ns)))

exchanged-is : (old new was now before after : ℤ) → old ≡ before → new +ℤ was ≡ old +ℤ now → before +ℤ now ≡ after +ℤ was → new ≡ after
exchanged-is old new was now before after is told swap = omega (arith, ints, is, told, swap)

-- ---- the low ends come to no more than the high ones

at-zero : pos 0 ≤ℤ pos 0
at-zero = le_z_yes tt

ordered-at : (figures : List Figure) (n : ℕ) → (ends_at figures n).low ≤ℤ (ends_at figures n).high
ordered-at figures n = by (slice_get figures n)
  where
    by : (found : Option Figure) → (option_map_or (λ (g : Figure). ends g.span) found (exact_ends (pos 0))).low
        ≤ℤ (option_map_or (λ (g : Figure). ends g.span) found (exact_ends (pos 0))).high
    by None = at-zero
    by (Some figure) = figure.span.ordered

both-ordered : (a b x y : ℤ) → a ≤ℤ b → x ≤ℤ y → (a +ℤ x) ≤ℤ (b +ℤ y)
both-ordered a b x y one other = omega (arith, ints, one, other)

pub sum-ordered : (figures : List Figure) (ns : List ℕ) → (sum_at figures ns).low ≤ℤ (sum_at figures ns).high
sum-ordered figures [] = at-zero
sum-ordered figures (n ∷ ns) =
    both-ordered (ends_at figures n).low (ends_at figures n).high (sum_at figures ns).low (sum_at figures ns).high
    (ordered-at figures n) (sum-ordered figures ns)

-- ---- the former figures, one after another

module _ (former : List Former) (figures : List Figure) where
  -- the table before those from a place on were written
  abbrev pub since : ℕ → List Figure
  since place = undone (drop place former) figures

  pub since-next : (place : ℕ) (d : Former) → place < length former
      → since place ≡ set (since (place + 1)) (get_or former place d).number (get_or former place d).figure
  since-next place d low = at_drop_more (λ rest. undone rest figures) former place d low

  pub since-all : (place : ℕ) → length former ≤ place → since place ≡ figures
  since-all place past = at_drop_all (λ rest. undone rest figures) former place past

  pub since-long : (place : ℕ) → length (since place) ≡ length figures
  since-long place = undone-long (drop place former) figures

  -- what stood at a number
  pub stood-here : (place : ℕ) (d : Former) (number : ℕ) → place < length former → number < length figures → (get_or former place d).number ≡ number
      → slice_get (since place) number ≡ Some (get_or former place d).figure
  stood-here place d number low within same =
      let was = get_or former place d in
      ap (λ table. slice_get table number) (since-next place d low)
      ∙ ap (λ k. slice_get (set (since (place + 1)) k was.figure) number) same
      ∙ set-here (since (place + 1)) number was.figure (let long = since-long (place + 1) in omega (arith, within, long))

  pub stood-later : (place : ℕ) (d : Former) (number : ℕ) → place < length former → ((get_or former place d).number ≡ number → ⊥)
      → slice_get (since place) number ≡ slice_get (since (place + 1)) number
  stood-later place d number low other =
      let was = get_or former place d in
      ap (λ table. slice_get table number) (since-next place d low)
      ∙ set-other (since (place + 1)) was.number number was.figure (λ same. other (sym same))

  -- ---- what distinct numbers come to once one more is written

  module _ (ns : List ℕ) where
    -- both ends are the sums of theirs, and none of them rests on an open choice
    pub record IsSoFar (place : ℕ) (low high : ℤ) : Type 0 where
      pub low_is : low ≡ (sum_at (since place) ns).low
      pub high_is : high ≡ (sum_at (since place) ns).high
      pub settled : any_close (since place) ns ≡ false

    pub moved-over : (place : ℕ) (low high low_same high_same : ℤ) → low_same ≡ low → high_same ≡ high → IsSoFar place low high
        → IsSoFar place low_same high_same
    moved-over place low high low_same high_same one other so = record {
      low_is = one ∙ so.low_is;
      high_is = other ∙ so.high_is;
      settled = so.settled;
    }

    module _ (place : ℕ) (d : Former) (low high : ℤ) (here : place < length former) (so : IsSoFar place low high) where
      abbrev was : Former
      was = get_or former place d

      pub passed-over : (Contains ns was.number → ⊥) → IsSoFar (place + 1) low high
      passed-over none =
          let apart : IsMember was.number ns → ⊥ = λ h. none (Contains-from_IsMember ns was.number h) in
          let same : sum_at (since place) ns ≡ sum_at (since (place + 1)) ns =
          ap (λ table. sum_at table ns) (since-next place d here)
          ∙ ap sum_ends (ends-kept (since (place + 1)) was.number was.figure ns apart) in
          record {
            low_is = so.low_is ∙ ap (λ (e : Ends). e.low) same;
            high_is = so.high_is ∙ ap (λ (e : Ends). e.high) same;
            settled = sym (ap (λ table. any_close table ns) (since-next place d here)
                ∙ close-kept (since (place + 1)) was.number was.figure ns apart) ∙ so.settled;
          }

      pub taken-over : IsDistinct nat_eq ns → (now : Figure) (next_low next_high : ℤ) → Contains ns was.number → was.number < length figures
          → slice_get (since (place + 1)) was.number ≡ Some now → now.close ≡ false
          → next_low +ℤ was.figure.span.low ≡ low +ℤ now.span.low → next_high +ℤ was.figure.span.high ≡ high +ℤ now.span.high
          → IsSoFar (place + 1) next_low next_high
      taken-over once now next_low next_high has within stood settled_now told_low told_high =
          let table = since (place + 1) in
          let h = IsMember-from_Contains ns was.number has in
          let long : was.number < length table = (let same = since-long (place + 1) in omega (arith, within, same)) in
          let then : sum_at (since place) ns ≡ sum_at (set table was.number was.figure) ns = ap (λ t. sum_at t ns) (since-next place d here) in
          record {
            low_is = exchanged-is low next_low was.figure.span.low now.span.low (sum_at (set table was.number was.figure) ns).low
                (sum_at table ns).low (so.low_is ∙ ap (λ (e : Ends). e.low) then) told_low
                (swapped (λ (e : Ends). e.low) (λ a b. refl) table was.number was.figure now ns stood long once h);
            high_is = exchanged-is high next_high was.figure.span.high now.span.high (sum_at (set table was.number was.figure) ns).high
                (sum_at table ns).high (so.high_is ∙ ap (λ (e : Ends). e.high) then) told_high
                (swapped (λ (e : Ends). e.high) (λ a b. refl) table was.number was.figure now ns stood long once h);
            settled = close-lost table was.number was.figure ns
                (sym (ap (λ t. any_close t ns) (since-next place d here)) ∙ so.settled)
                (ap (λ found. option_map_or (λ (g : Figure). g.close) found false) stood ∙ settled_now);
          }

    -- at the end they are those of today
    module _ (place : ℕ) (low high : ℤ) (past : length former ≤ place) (so : IsSoFar place low high) where
      today : sum_at (since place) ns ≡ sum_at figures ns
      today = ap (λ table. sum_at table ns) (since-all place past)

      pub sides-ordered : low ≤ℤ high
      sides-ordered =
          subst (λ x. x ≤ℤ high) (sym so.low_is)
          (subst (λ x. (sum_at (since place) ns).low ≤ℤ x) (sym so.high_is) (sum-ordered (since place) ns))

      pub all-over : record { low = low; high = high } ≡ sum_at figures ns
      all-over =
          ap₂ (λ (x y : ℤ). let r : Ends = record { low = x; high = y } in r)
          (so.low_is ∙ ap (λ (e : Ends). e.low) today) (so.high_is ∙ ap (λ (e : Ends). e.high) today)

      pub all-settled : any_close figures ns ≡ false
      all-settled = sym (ap (λ table. any_close table ns) (since-all place past)) ∙ so.settled

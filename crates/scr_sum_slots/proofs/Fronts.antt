-- Lists that have some parts more, or fewer, at the end.
use Rattle.std.proofs.Common.{◌≡◌, ◌≢◌, ◌⊎◌, inl, inr, ℕ, ◌+◌, ◌-◌, min, Result, Ok, Err, OnErr, ◌<◌, ◌≤◌, ◌++◌, [], ◌∷◌, length, get_or, Some, slice_get, refl, sym, ap, subst, ◌∙◌, arith}
use Rattle.std.proofs.lemmas.Bool.{cases_eq, cases_lt}
use Rattle.std.proofs.lemmas.List.{get_or_append_left, length_push}
use Rattle.std.proofs.lemmas.Option.{get_or_from_slice_get, slice_get-get_or, slice_get_within}
use Rattle.scr_sum_tree.specs.declared.blocks.Level.{Level}
use Rattle.scr_sum_tree.specs.declared.blocks.Level.TheVariants as levels
use Rattle.scr_sum_slots.specs.Parts.{FREE, Parted, count_of, key_of, slot_of, slots_in}
use Rattle.scr_sum_slots.specs.Moves.{AreSame, Came, IsFront, KeepsOthers, KeepsParts, Made, Moved}
use Rattle.scr_sum_slots.specs.declared.parts.Part.{Part}

pub key-some : (list : ℕ) (level : Level) → key_of list level ≢ FREE
key-some list levels.First e = omega (arith, e)
key-some list levels.Second e = omega (arith, e)

pub key-list : (list other : ℕ) (level at : Level) → key_of list level ≡ key_of other at → list ≡ other
key-list list other levels.First levels.First e = omega (arith, e)
key-list list other levels.First levels.Second e = absurd (omega (arith, e))
key-list list other levels.Second levels.First e = absurd (omega (arith, e))
key-list list other levels.Second levels.Second e = omega (arith, e)

pub levels-apart : (list : ℕ) → key_of list levels.First ≢ key_of list levels.Second
levels-apart list e = omega (arith, e)

-- every list of parts has its slots
pub record Still (before now : Parted) : Type 0 where
  pub slots : (key : ℕ) → key ≢ FREE → slots_in key now ≡ slots_in key before

pub still-same : (a b : Parted) → AreSame a b → Still a b
still-same a b same = record { slots = λ key _. same.slots key }

pub still-made : (a b : Parted) → Made a b → Still a b
still-made a b made = record { slots = made.others }

pub front-still : (key : ℕ) (a b : Parted) → key ≢ FREE → Still a b → IsFront key a b
front-still key a b ne still = record {
  more = omega (arith, ap length (still.slots key ne));
  others = λ other _ some. still.slots other some;
  kept = λ part slot is.
      ap (λ xs. slice_get xs part.index) (still.slots (key_of part.list part.level) (key-some part.list part.level)) ∙ is;
}

pub front-trans : (key : ℕ) (a b c : Parted) → IsFront key a b → IsFront key b c → IsFront key a c
front-trans key a b c one two = record {
  more = omega (arith, one.more, two.more);
  others = λ other apart some. two.others other apart some ∙ one.others other apart some;
  kept = λ part slot is. two.kept part slot (one.kept part slot is);
}

pub front-self : (key : ℕ) (a : Parted) → IsFront key a a
front-self key a = record {
  more = omega arith;
  others = λ other apart some. refl;
  kept = λ part slot is. is;
}

-- one slot joined a list, or left it
front-push : (key slot : ℕ) (a b : Parted) → slots_in key b ≡ slots_in key a ++ slot ∷ []
    → ((other : ℕ) → other ≢ key → other ≢ FREE → slots_in other b ≡ slots_in other a) → IsFront key a b
front-push key slot a b joined others = record {
  more = omega (arith, ap length joined, length_push (slots_in key a) slot);
  others = others;
  kept = kept;
}
  where
    kept : KeepsParts a b
    kept part s is = by (cases_eq (key_of part.list part.level) key)
      where
        own : ℕ
        own = key_of part.list part.level

        by : (own ≡ key) ⊎ (own ≢ key) → slot_of part b ≡ Some s
        by (inl e) =
            let there : slice_get (slots_in key a) part.index ≡ Some s = subst (λ k. slice_get (slots_in k a) part.index ≡ Some s) e is in
            let low = slice_get_within (slots_in key a) part.index s there in
            ap (λ k. slice_get (slots_in k b) part.index) e
            ∙ slice_get-get_or (slots_in key b) part.index 0 (omega (arith, low, ap length joined, length_push (slots_in key a) slot))
            ∙ ap (λ xs. Some (get_or xs part.index 0)) joined
            ∙ ap Some (get_or_append_left (slots_in key a) (slot ∷ []) 0 part.index low
            ∙ get_or_from_slice_get (slots_in key a) part.index s 0 there)
        by (inr ne) = ap (λ xs. slice_get xs part.index) (others own ne (key-some part.list part.level)) ∙ is

pub front-joined : (key : ℕ) (a b : Parted) → Moved FREE key a b → IsFront key a b
front-joined key a b moved = front-push key moved.slot a b moved.joined (λ other apart some. moved.others other some apart)

pub front-left : (key : ℕ) (a b : Parted) → Moved key FREE a b → IsFront key b a
front-left key a b moved = front-push key moved.slot b a moved.left (λ other apart some. sym (moved.others other apart some))

pub count-joined : (key : ℕ) (a b : Parted) → Moved FREE key a b → length (slots_in key b) ≡ length (slots_in key a) + 1
count-joined key a b moved = ap length moved.joined ∙ length_push (slots_in key a) moved.slot

pub count-left : (key : ℕ) (a b : Parted) → Moved key FREE a b → length (slots_in key b) + 1 ≡ length (slots_in key a)
count-left key a b moved = sym (ap length moved.left ∙ length_push (slots_in key b) moved.slot)

-- a part comes once there is a free slot
pub came : (list : ℕ) (level : Level) (a b c : Parted) → Still a b → Moved FREE (key_of list level) b c → Came list level a c
came list level a b c still moved =
    let key : ℕ = key_of list level in (
      front-trans key a b c (front-still key a b (key-some list level) still) (front-joined key b c moved),
      count-joined key b c moved ∙ ap (λ xs. length xs + 1) (still.slots key (key-some list level)),
    )

-- ---- counts

-- the others have as many parts
pub front-counts : (list : ℕ) (level : Level) (a b : Parted) → IsFront (key_of list level) a b
    → (other : ℕ) (at : Level) → (key_of other at ≢ key_of list level) → count_of other at b ≡ count_of other at a
front-counts list level a b front other at apart = ap length (front.others (key_of other at) apart (key-some other at))

pub front-others : (list : ℕ) (level : Level) (a b : Parted) → IsFront (key_of list level) a b → KeepsOthers list a b
front-others list level a b front other at ne =
    front-counts list level a b front other at (λ e. ne (key-list other list at level e))

-- what is in a list that was cut to no less than it had before is there still
pub kept-cut : (a b c : Parted) → KeepsParts a b → KeepsParts c b
    → ((list : ℕ) (level : Level) → count_of list level a ≤ count_of list level c) → KeepsParts a c
kept-cut a b c ab cb more part slot is =
    let key : ℕ = key_of part.list part.level in
    let low = slice_get_within (slots_in key a) part.index slot is in
    let long = more part.list part.level in
    let there : slot_of part c ≡ Some (get_or (slots_in key c) part.index 0) =
    slice_get-get_or (slots_in key c) part.index 0 (omega (arith, low, long)) in
    let both = sym (cb part (get_or (slots_in key c) part.index 0) there) ∙ ab part slot is in
    there ∙ both

pub still-trans : (a b c : Parted) → Still a b → Still b c → Still a c
still-trans a b c one two = record { slots = λ key some. two.slots key some ∙ one.slots key some }

-- where each part keeps its slot no list gets shorter
pub kept-count : (a b : Parted) → KeepsParts a b → (list : ℕ) (level : Level) → count_of list level a ≤ count_of list level b
kept-count a b kept list level = by (cases_lt 0 (count_of list level a))
  where
    by : (0 < count_of list level a) ⊎ (count_of list level a ≤ 0) → count_of list level a ≤ count_of list level b
    by (inl some) =
        let last : ℕ = count_of list level a - 1 in
        let part : Part = record { list = list; level = level; index = last } in
        let there : slot_of part a ≡ Some (get_or (slots_in (key_of list level) a) last 0) =
        slice_get-get_or (slots_in (key_of list level) a) last 0 (omega (arith, some)) in
        let low = slice_get_within (slots_in (key_of list level) b) last (get_or (slots_in (key_of list level) a) last 0)
        (kept part (get_or (slots_in (key_of list level) a) last 0) there) in
        omega (arith, low, some)
    by (inr none) = omega (arith, none)

-- parts that came, and went again
module _ (list : ℕ) (a mid cut now : Parted) (kept : KeepsParts a mid) (others : KeepsOthers list a mid)
    (one : IsFront (key_of list levels.First) cut mid) (two : IsFront (key_of list levels.Second) now cut)
    (first : count_of list levels.First cut ≡ min (count_of list levels.First mid) (count_of list levels.First a))
    (second : count_of list levels.Second now ≡ min (count_of list levels.Second cut) (count_of list levels.Second a)) where
  pub as-before : (level : Level) → count_of list level now ≡ count_of list level a
  as-before levels.First =
      let same = front-counts list levels.Second now cut two list levels.First (levels-apart list) in
      let more = kept-count a mid kept list levels.First in
      omega (arith, same, more, first)
  as-before levels.Second =
      let same = front-counts list levels.First cut mid one list levels.Second (λ e. levels-apart list (sym e)) in
      let more = kept-count a mid kept list levels.Second in
      omega (arith, same, more, second)

  counts : (other : ℕ) (level : Level) → count_of other level a ≤ count_of other level now
  counts other level = by (cases_eq other list)
    where
      by : (other ≡ list) ⊎ (other ≢ list) → count_of other level a ≤ count_of other level now
      by (inl e) =
          subst (λ l. count_of l level a ≤ count_of l level now) (sym e) (let same = as-before level in omega (arith, same))
      by (inr ne) =
          let to_mid = others other level ne in
          let to_cut = front-others list levels.First cut mid one other level ne in
          let to_now = front-others list levels.Second now cut two other level ne in
          omega (arith, to_mid, to_cut, to_now)

  pub all-kept : KeepsParts a now
  all-kept = kept-cut a mid now kept (λ part slot is. one.kept part slot (two.kept part slot is)) counts

module _ {A E P : Type 0} where
  pub on-err : (result : Result A E) → P → OnErr result P
  on-err (Ok x) p = tt
  on-err (Err e) p = p

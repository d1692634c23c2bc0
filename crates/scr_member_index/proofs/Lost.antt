-- Parts that went come back with their slots.
use Rattle.std.proofs.Common.{◌≡◌, ◌≢◌, inl, inr, ℕ, zero, suc, ◌+◌, ◌-◌, ◌^◌, ◌<◌, ◌≤◌, ◌++◌, List, length, reverse, refl, sym, ap, subst, ◌∙◌, arith}
use Rattle.scr_sum_tree.specs.Blocks.{blocks_at}
use Rattle.scr_sum_tree.specs.declared.blocks.Level.{Level}
use Rattle.scr_sum_tree.specs.declared.blocks.Level.TheVariants as levels
use Rattle.scr_member_lists.specs.Seatings.{NOWHERE, roll_in}
use Rattle.scr_member_lists.specs.declared.seats.Seats.{Seats}
use Rattle.scr_sum_slots.specs.Moves.{HaveGone, KeepsOthers, KeepsRoom}
use Rattle.scr_sum_slots.specs.Firsts.{FirstLists, firsts_in}
use Rattle.scr_member_index.proofs.Counting.{list-apart}
use Rattle.scr_sum_slots.specs.Parts.{FREE, Parted, count_of, key_of, slots_in}
use Rattle.scr_sum_slots.proofs.Freed.{come-back, free-count, freed-none}
use Rattle.scr_sheet.specs.declared.keys.Table.{Table}
use Rattle.scr_member_index.specs.Lists.{list_in}
use Rattle.scr_member_index.specs.Parting.{AreSameSlots, CanRegain, CanRegainAll, HasLost, HasLostIn, HaveLost, IsCut}

pub none-gone : (list : ℕ) (parts : Parted) → HaveGone list 0 0 parts parts
none-gone list parts = record { between = parts; one = freed-none (key_of list levels.First) parts; two = freed-none (key_of list levels.Second) parts }

gone-as : (list f s g t : ℕ) (old new : Parted) → f ≡ g → s ≡ t → HaveGone list f s old new → HaveGone list g t old new
gone-as list f s g t old new e d gone =
    subst (λ (n : ℕ). HaveGone list g n old new) d (subst (λ (n : ℕ). HaveGone list n s old new) e gone)

module _ (list members : ℕ) (old new : Parted) where
  pub lost-some : IsCut list members old new
      → HaveGone list (count_of list levels.First old - blocks_at members levels.First) (count_of list levels.Second old - blocks_at members levels.Second) old new
      → KeepsOthers list old new → (2 ^ 31 ≤ list → (level : Level) → count_of list level old ≡ 0) → HasLost list old new
  lost-some cut gone others small = record {
    gone = gone-as list _ _ _ _ old new (is levels.First) (is levels.Second) gone;
    fewer = λ level. (let now = cut level in omega (arith, now));
    others = others;
    small = small;
  }
    where
      is : (level : Level) → count_of list level old - blocks_at members level ≡ count_of list level old - count_of list level new
      is level = let now = cut level in omega (arith, now)

pub lost-none : (list : ℕ) (parts : Parted) → (2 ^ 31 ≤ list → (level : Level) → count_of list level parts ≡ 0) → HasLost list parts parts
lost-none list parts small = record {
  gone = gone-as list 0 0 (count_of list levels.First parts - count_of list levels.First parts) (count_of list levels.Second parts - count_of list levels.Second parts)
      parts parts (omega arith) (omega arith) (none-gone list parts);
  fewer = λ level. omega arith;
  others = λ other level ne. refl;
  small = small;
}

-- ---- back

module _ (list members : ℕ) (before now : Parted) (can : CanRegain list members before now) where
  at : (level : Level) → blocks_at members level - count_of list level now ≡ count_of list level before - count_of list level now
  at level = ap (λ n. n - count_of list level now) (sym (can.counts level))

  pub regain-free : (blocks_at members levels.First - count_of list levels.First now) + (blocks_at members levels.Second - count_of list levels.Second now)
      ≤ length (slots_in FREE now)
  regain-free =
      let gone = can.lost.gone in
      let one = free-count (key_of list levels.First) (count_of list levels.First before - count_of list levels.First now) before gone.between gone.one in
      let two = free-count (key_of list levels.Second) (count_of list levels.Second before - count_of list levels.Second now) gone.between now gone.two in
      let first = at levels.First in
      let second = at levels.Second in
      omega (arith, one, two, first, second)

  pub regained : (after : Parted)
      → HaveGone list (blocks_at members levels.First - count_of list levels.First now) (blocks_at members levels.Second - count_of list levels.Second now) after now
      → AreSameSlots before after
  regained after came =
      come-back list (count_of list levels.First before - count_of list levels.First now) (count_of list levels.Second before - count_of list levels.Second now)
      before now after can.lost.gone
      (gone-as list _ _ _ _ after now (at levels.First) (at levels.Second) came)

  -- a list that is too far has lost none
  pub regained-none : 2 ^ 31 ≤ list → AreSameSlots before now
  regained-none far =
      come-back list 0 0 before now now
      (gone-as list _ _ 0 0 before now (zero_at levels.First) (zero_at levels.Second) can.lost.gone)
      (none-gone list now)
    where
      zero_at : (level : Level) → count_of list level before - count_of list level now ≡ 0
      zero_at level = let none = can.lost.small far level in omega (arith, none)

-- ---- seat by seat

module _ (table : Table) (seats : Seats) where
  pub lost-start : (parts : Parted) → HaveLost table seats 0 parts parts
  lost-start parts = λ key. refl

  pub lost-more : (s : ℕ) (old mid new : Parted) → HaveLost table seats s old mid → HasLostIn table seats s mid new → HaveLost table seats (s + 1) old new
  lost-more s old mid new were is = subst (λ (n : ℕ). HaveLost table seats n old new) (next s) (mid, were, is)
    where
      next : (s : ℕ) → suc s ≡ s + 1
      next s = omega arith

-- ---- and back, the last first

-- what went of a list went also to parts with the same slots
lost-same : (list : ℕ) (before mid now : Parted) → HasLost list before mid → AreSameSlots mid now → HasLost list before now
lost-same list before mid now lost same = record {
  gone = gone-as list _ _ _ _ before now (ap (λ n. count_of list levels.First before - n) (sym (count levels.First))) (ap (λ n. count_of list levels.Second before - n) (sym (count levels.Second))) (record {
    between = lost.gone.between;
    one = lost.gone.one;
    two = record {
      freed = lost.gone.two.freed;
      count = lost.gone.two.count;
      left = lost.gone.two.left ∙ ap (λ xs. xs ++ reverse lost.gone.two.freed) (sym (same (key_of list levels.Second)));
      free = same FREE ∙ lost.gone.two.free;
      others = λ other apart some. same other ∙ lost.gone.two.others other apart some;
    };
  });
  fewer = λ level. (let few = lost.fewer level in let is = count level in omega (arith, few, is));
  others = λ other level ne. ap length (same (key_of other level)) ∙ lost.others other level ne;
  small = lost.small;
}
  where
    count : (level : Level) → count_of list level now ≡ count_of list level mid
    count level = ap length (same (key_of list level))

module _ (table : Table) (firsts : FirstLists) (seats : Seats) where
  lost-others : (s : ℕ) (before now : Parted) → HaveLost table seats s before now → (list : ℕ)
      → ((seat : ℕ) → seat < s → roll_in seat seats ≢ NOWHERE → list ≢ list_in table (roll_in seat seats))
      → (level : Level) → count_of list level now ≡ count_of list level before
  lost-others zero before now lost list apart level = ap length (lost (key_of list level))
  lost-others (suc s) before now lost list apart level =
      by lost.2 ∙ lost-others s before lost.0 lost.1 list (λ seat low. apart seat (omega (arith, low))) level
    where
      by : HasLostIn table seats s lost.0 now → count_of list level now ≡ count_of list level lost.0
      by (inl none) = ap length (none.1 (key_of list level))
      by (inr some) = some.1.others list level (apart s (omega arith) some.0)

  -- so far back
  pub record BackTo (start : Parted) (s : ℕ) (now : Parted) : Type 0 where
    pub rest : (before : Parted) → CanRegainAll table firsts seats before start → (mid : Parted) × HaveLost table seats s before mid × AreSameSlots mid now
    pub room : KeepsRoom start now

  pub back-start : (start : Parted) (s : ℕ) → s ≡ 11 → BackTo start s start
  back-start start s all = record {
    rest = λ before can. (start, subst (λ (n : ℕ). HaveLost table seats n before start) (sym all) can.lost, λ key. refl);
    room = λ key. omega arith;
  }

  module _ (start : Parted) (s : ℕ) (few : s < 11) (now : Parted) (back : BackTo start (suc s) now) where
    module _ (before : Parted) (can : CanRegainAll table firsts seats before start) where
      pub lost-here : (mid : Parted) × HaveLost table seats s before mid × HasLostIn table seats s mid now
      lost-here = by ((back.rest before can).1).2
        where
          far : Parted
          far = (back.rest before can).0

          mid : Parted
          mid = ((back.rest before can).1).0

          by : HasLostIn table seats s mid far → (mid : Parted) × HaveLost table seats s before mid × HasLostIn table seats s mid now
          by (inl none) = (mid, ((back.rest before can).1).1, inl (none.0, λ key. (back.rest before can).2 key ∙ none.1 key))
          by (inr some) = (mid, ((back.rest before can).1).1, inr (some.0, lost-same (list_in table (roll_in s seats)) mid far now some.1 (back.rest before can).2))

      pub can-here : roll_in s seats ≢ NOWHERE → CanRegain (list_in table (roll_in s seats)) (length (firsts_in (roll_in s seats) firsts)) lost-here.0 now
      can-here real = by lost-here.2
        where
          list : ℕ
          list = list_in table (roll_in s seats)

          apart : (seat : ℕ) → seat < s → roll_in seat seats ≢ NOWHERE → list ≢ list_in table (roll_in seat seats)
          apart seat low some = list-apart table (roll_in s seats) (roll_in seat seats) ne
            where
              ne : roll_in s seats ≢ roll_in seat seats
              ne e =
                  let one = can.own seat (omega (arith, low, few)) some in
                  let two = can.own s few real in
                  let same = ap can.seat_of e in
                  omega (arith, one, two, same, low)

          count : (level : Level) → count_of list level lost-here.0 ≡ blocks_at (length (firsts_in (roll_in s seats) firsts)) level
          count level = lost-others s before lost-here.0 lost-here.1 list apart level ∙ can.counts s few real level

          by : HasLostIn table seats s lost-here.0 now → CanRegain list (length (firsts_in (roll_in s seats) firsts)) lost-here.0 now
          by (inl none) = absurd (real none.0)
          by (inr some) = record {
            lost = some.1;
            counts = count;
            room = λ level. (
                let was = can.counts s few real level in
                let one = can.room (key_of list level) in
                let two = back.room (key_of list level) in
                omega (arith, was, one, two));
          }

    pub can-number : (before : Parted) → CanRegainAll table firsts seats before start → (number : ℕ) (numbers : List ℕ) → number ≡ roll_in s seats → number ≢ NOWHERE
        → numbers ≡ firsts_in number firsts → (mid : Parted) × CanRegain (list_in table number) (length numbers) mid now
    can-number before can number numbers is some listed = (
      (lost-here before can).0,
      subst (λ (n : ℕ). CanRegain (list_in table number) n (lost-here before can).0 now) (sym (ap length listed))
          (subst (λ (n : ℕ). CanRegain (list_in table n) (length (firsts_in n firsts)) (lost-here before can).0 now) (sym is)
          (can-here before can (λ e. some (is ∙ e)))),
    )

    pub back-passed : (new : Parted) → roll_in s seats ≡ NOWHERE → new ≡ now → BackTo start s new
    back-passed new none same = subst (BackTo start s) (sym same) (record {
      rest = λ before can. ((lost-here before can).0, (lost-here before can).1, still before can (lost-here before can).2);
      room = back.room;
    })
      where
        still : (before : Parted) (can : CanRegainAll table firsts seats before start) → HasLostIn table seats s (lost-here before can).0 now
            → AreSameSlots (lost-here before can).0 now
        still before can (inl free) = free.1
        still before can (inr some) = absurd (some.0 none)

    pub back-one : (new : Parted) (number : ℕ) (numbers : List ℕ) → number ≡ roll_in s seats → number ≢ NOWHERE → numbers ≡ firsts_in number firsts
        → ((before : Parted) → CanRegain (list_in table number) (length numbers) before now → AreSameSlots before new) → KeepsRoom now new → BackTo start s new
    back-one new number numbers is some listed regained room = record {
      rest = λ before can. (
        (lost-here before can).0,
        (lost-here before can).1,
        regained (lost-here before can).0
            (subst (λ (n : ℕ). CanRegain (list_in table number) n (lost-here before can).0 now) (sym (ap length listed))
            (subst (λ (n : ℕ). CanRegain (list_in table n) (length (firsts_in n firsts)) (lost-here before can).0 now) (sym is)
            (can-here before can (λ e. some (is ∙ e))))),
      );
      room = λ key. (let one = back.room key in let two = room key in omega (arith, one, two));
    }

  pub back-done : (start : Parted) (s : ℕ) (now : Parted) → s ≡ 0 → BackTo start s now → (before : Parted) → CanRegainAll table firsts seats before start
      → AreSameSlots before now
  back-done start s now none back before can key =
      let rest = (subst (λ (n : ℕ). BackTo start n now) none back).rest before can in
      rest.2 key ∙ rest.1 key

  pub one-down : (start now : Parted) (s : ℕ) → 0 < s → BackTo start s now → BackTo start (suc (s - 1)) now
  one-down start now s some back = subst (λ (n : ℕ). BackTo start n now) (same s some) back
    where
      same : (s : ℕ) → 0 < s → s ≡ suc (s - 1)
      same s some = omega (arith, some)

-- Parts that go one by one, and come back.
use Rattle.std.proofs.Common.{◌≡◌, ◌≢◌, ◌⊎◌, inl, inr, ℕ, ◌+◌, ◌-◌, ◌<◌, ◌≤◌, ◌++◌, List, [], ◌∷◌, length, reverse, refl, sym, ap, ap₂, subst, ◌∙◌, arith}
use Rattle.std.proofs.lemmas.Bool.{cases_eq}
use Rattle.std.proofs.lemmas.List.{append-nil, append_assoc, length-append, length_push, reverse-append}
use Rattle.scr_sum_tree.specs.declared.blocks.Level.{Level}
use Rattle.scr_sum_tree.specs.declared.blocks.Level.TheVariants as levels
use Rattle.scr_sum_slots.specs.Parts.{FREE, Parted, count_of, key_of, room_in, slots_in}
use Rattle.scr_sum_slots.specs.Moves.{Freed, HaveGone, IsFront, KeepsRoom, Moved}
use Rattle.scr_sum_slots.proofs.Fronts.{front-counts, key-some, levels-apart}

pub freed-none : (key : ℕ) (a : Parted) → Freed key 0 a a
freed-none key a = record {
  freed = [];
  count = refl;
  left = sym (append-nil (slots_in key a));
  free = sym (append-nil (slots_in FREE a));
  others = λ other apart some. refl;
}

-- one more goes
pub freed-more : (key many : ℕ) (a b c : Parted) → Freed key many a b → Moved key FREE b c → Freed key (many + 1) a c
freed-more key many a b c gone moved = record {
  freed = gone.freed ++ moved.slot ∷ [];
  count = length_push gone.freed moved.slot ∙ ap (λ n. n + 1) gone.count;
  left = gone.left ∙ ap (λ xs. xs ++ reverse gone.freed) moved.left
      ∙ append_assoc (slots_in key c) (moved.slot ∷ []) (reverse gone.freed)
      ∙ ap (λ xs. slots_in key c ++ xs) (sym (reverse-append gone.freed (moved.slot ∷ [])));
  free = moved.joined ∙ ap (λ xs. xs ++ moved.slot ∷ []) gone.free ∙ append_assoc (slots_in FREE a) gone.freed (moved.slot ∷ []);
  others = λ other apart some. moved.others other apart some ∙ gone.others other apart some;
}

-- one more comes back
pub freed-back : (key many : ℕ) (a b c : Parted) → Freed key many b a → Moved FREE key b c → Freed key (many + 1) c a
freed-back key many a b c gone moved = record {
  freed = moved.slot ∷ gone.freed;
  count = (let long = gone.count in omega (arith, long));
  left = moved.joined ∙ ap (λ xs. xs ++ moved.slot ∷ []) gone.left
      ∙ append_assoc (slots_in key a) (reverse gone.freed) (moved.slot ∷ [])
      ∙ ap (λ xs. slots_in key a ++ xs) (sym (reverse-append (moved.slot ∷ []) gone.freed));
  free = gone.free ∙ ap (λ xs. xs ++ gone.freed) moved.left ∙ append_assoc (slots_in FREE c) (moved.slot ∷ []) gone.freed;
  others = λ other apart some. gone.others other apart some ∙ sym (moved.others other some apart);
}

pub room-trans : (a b c : Parted) → KeepsRoom a b → KeepsRoom b c → KeepsRoom a c
room-trans a b c one two = λ key. (let x = one key in let y = two key in omega (arith, x, y))

-- how many slots are free then
pub free-count : (key many : ℕ) (a b : Parted) → Freed key many a b → length (slots_in FREE b) ≡ length (slots_in FREE a) + many
free-count key many a b gone =
    ap length gone.free ∙ length-append (slots_in FREE a) gone.freed ∙ ap (λ n. length (slots_in FREE a) + n) gone.count

-- while parts come back there is a slot for the next, and room
module _ (list : ℕ) (level : Level) (many counter : ℕ) (a b : Parted) (low : counter < many - count_of list level a)
    (gone : Freed (key_of list level) counter b a) where
  pub still-free : many - count_of list level a ≤ length (slots_in FREE a) → 0 < length (slots_in FREE b)
  still-free enough = let all = free-count (key_of list level) counter b a gone in omega (arith, enough, all, low)

  pub still-room : many ≤ count_of list level a + room_in (key_of list level) a → count_of list level b ≡ count_of list level a + counter → KeepsRoom a b
      → 0 < room_in (key_of list level) b
  still-room room count kept = let all = kept (key_of list level) in omega (arith, room, count, all, low)

-- ---- both levels

pub gone-both : (list one two : ℕ) (a mid now : Parted) → Freed (key_of list levels.First) (count_of list levels.First a - one) a mid
    → IsFront (key_of list levels.First) mid a → Freed (key_of list levels.Second) (count_of list levels.Second mid - two) mid now
    → HaveGone list (count_of list levels.First a - one) (count_of list levels.Second a - two) a now
gone-both list one two a mid now firsts front seconds = record {
  between = mid;
  one = firsts;
  two = subst (λ (n : ℕ). Freed (key_of list levels.Second) (n - two) mid now)
      (sym (front-counts list levels.First mid a front list levels.Second (λ e. levels-apart list (sym e)))) seconds;
}

module _ (list one two : ℕ) (a mid : Parted) (seconds : Freed (key_of list levels.Second) (two - count_of list levels.Second a) mid a)
    (front : IsFront (key_of list levels.Second) a mid) where
  same-firsts : count_of list levels.First mid ≡ count_of list levels.First a
  same-firsts = front-counts list levels.Second a mid front list levels.First (levels-apart list)

  pub back-both : (now : Parted) → Freed (key_of list levels.First) (one - count_of list levels.First mid) now mid
      → HaveGone list (one - count_of list levels.First a) (two - count_of list levels.Second a) now a
  back-both now firsts = record {
    between = mid;
    one = subst (λ (n : ℕ). Freed (key_of list levels.First) (one - n) now mid) same-firsts firsts;
    two = seconds;
  }

  pub free-firsts : (one - count_of list levels.First a) + (two - count_of list levels.Second a) ≤ length (slots_in FREE a)
      → one - count_of list levels.First mid ≤ length (slots_in FREE mid)
  free-firsts enough =
      let all = free-count (key_of list levels.Second) (two - count_of list levels.Second a) mid a seconds in
      omega (arith, enough, all, same-firsts)

  pub room-firsts : one ≤ count_of list levels.First a + room_in (key_of list levels.First) a → KeepsRoom a mid
      → one ≤ count_of list levels.First mid + room_in (key_of list levels.First) mid
  room-firsts room kept = let all = kept (key_of list levels.First) in omega (arith, room, all)

-- ---- what comes back is what went

split-same : {X : Type 0} (xs ys us vs : List X) → xs ++ us ≡ ys ++ vs → length us ≡ length vs → (xs ≡ ys) × (us ≡ vs)
split-same [] [] us vs e long = (refl, e)
split-same [] (y ∷ ys) us vs e long = let all = ap length e in absurd (omega (arith, all, long, length-append ys vs))
split-same (x ∷ xs) [] us vs e long = let all = ap length e in absurd (omega (arith, all, long, length-append xs us))
split-same {X} (x ∷ xs) (y ∷ ys) us vs e long =
    let head : x ≡ y = cc in
    let tail : xs ++ us ≡ ys ++ vs = cc in
    let rest = split-same xs ys us vs tail long in
    (ap₂ (λ (z : X) (zs : List X). z ∷ zs) head rest.0, rest.1)

freed-same : (key many : ℕ) (a b one two : Parted) → key ≢ FREE → ((k : ℕ) → slots_in k one ≡ slots_in k two) → Freed key many a one → Freed key many b two
    → (k : ℕ) → slots_in k a ≡ slots_in k b
freed-same key many a b one two some same x y k = by (cases_eq k key) (cases_eq k FREE)
  where
    split : (slots_in FREE a ≡ slots_in FREE b) × (x.freed ≡ y.freed)
    split = split-same (slots_in FREE a) (slots_in FREE b) x.freed y.freed (sym x.free ∙ same FREE ∙ y.free) (x.count ∙ sym y.count)

    by : (k ≡ key) ⊎ (k ≢ key) → (k ≡ FREE) ⊎ (k ≢ FREE) → slots_in k a ≡ slots_in k b
    by (inl e) f =
        ap (λ n. slots_in n a) e ∙ x.left ∙ ap₂ (λ (xs ys : List ℕ). xs ++ reverse ys) (same key) split.1 ∙ sym y.left ∙ sym (ap (λ n. slots_in n b) e)
    by (inr ne) (inl f) = ap (λ n. slots_in n a) f ∙ split.0 ∙ sym (ap (λ n. slots_in n b) f)
    by (inr ne) (inr nf) = sym (x.others k ne nf) ∙ same k ∙ y.others k ne nf

pub come-back : (list firsts seconds : ℕ) (before now after : Parted) → HaveGone list firsts seconds before now → HaveGone list firsts seconds after now
    → (key : ℕ) → slots_in key after ≡ slots_in key before
come-back list firsts seconds before now after went came =
    freed-same (key_of list levels.First) firsts after before came.between went.between (key-some list levels.First)
    (freed-same (key_of list levels.Second) seconds came.between went.between now now (key-some list levels.Second) (λ k. refl) came.two went.two)
    came.one went.one

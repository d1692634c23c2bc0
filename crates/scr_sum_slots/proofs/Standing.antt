-- Each slot stands at one place of one list, and knows it: still so where the last slot of a list goes to the end of another.
use Rattle.std.proofs.Common.{◌≡◌, ◌≢◌, ◌⊎◌, inl, inr, ℕ, ◌+◌, ◌<◌, ◌≤◌, ◌++◌, [], ◌∷◌, length, get_or, set, refl, sym, ap, subst, ◌∙◌, arith}
use Rattle.std.specs.Prelude.{◌==◌, if◌then◌else◌}
use Rattle.std.proofs.lemmas.Bool.{cases_eq, cases_lt, ne_eqb}
use Rattle.std.proofs.lemmas.List.{get_or-set_other, get_or-set_same, get_or_append_left, get_or_push, length-set, length_push}
use Rattle.scr_sum_slots.specs.Parts.{FREE, Parted, owner_at, size_of, slot_at, slots_in}
use Rattle.scr_sum_slots.specs.Kept.{AreKept, IsHeld, IsListed}
use Rattle.scr_sum_slots.specs.declared.parts.Owner.{Owner}
use Rattle.scr_sum_slots.proofs.Pigeons.{no-more}
use Rattle.scr_sum_slots.proofs.Views.{size-is}

abbrev pub at-place : ℕ → ℕ → Owner
at-place key place = record { list = key; index = place }

-- ---- a slot goes from one list to another

module _ (before now : Parted) (kept : AreKept before) (from to slot : ℕ) (apart : from ≢ to)
    (left : slots_in from before ≡ slots_in from now ++ slot ∷ []) (joined : slots_in to now ≡ slots_in to before ++ slot ∷ [])
    (others : (key : ℕ) → key ≢ from → key ≢ to → slots_in key now ≡ slots_in key before)
    (owner : now.owner ≡ set before.owner slot (at-place to (length (slots_in to before)))) where
  abbrev last : ℕ
  last = length (slots_in from now)

  long-from : length (slots_in from before) ≡ last + 1
  long-from = ap length left ∙ length_push (slots_in from now) slot

  long-to : length (slots_in to now) ≡ length (slots_in to before) + 1
  long-to = ap length joined ∙ length_push (slots_in to before) slot

  slot-last : slot_at from last before ≡ slot
  slot-last = ap (λ xs. get_or xs last 0) left ∙ get_or_push (slots_in from now) slot 0 last refl

  stood : IsHeld before.owner from last slot
  stood = subst (IsHeld before.owner from last) slot-last (kept.held from last (omega (arith, long-from)))

  pub size-same : length now.owner ≡ length before.owner
  size-same = ap length owner ∙ length-set before.owner slot (at-place to (length (slots_in to before)))

  own-now : owner_at slot now.owner ≡ at-place to (length (slots_in to before))
  own-now = ap (owner_at slot) owner ∙ get_or-set_same before.owner slot (at-place to (length (slots_in to before))) (at-place 0 0) stood.within

  other-now : (s : ℕ) → s ≢ slot → owner_at s now.owner ≡ owner_at s before.owner
  other-now s ne = ap (owner_at s) owner ∙ get_or-set_other before.owner slot s (at-place to (length (slots_in to before))) (at-place 0 0) ne

  -- any other place
  held-still : (key place s : ℕ) → IsHeld before.owner key place s → (key ≡ from → place ≡ last → ⊥) → IsHeld now.owner key place s
  held-still key place s held ne = record {
    within = let low = held.within in omega (arith, low, size-same);
    is = other-now s different ∙ held.is;
  }
    where
      different : s ≢ slot
      different e =
          let one : at-place key place ≡ at-place from last = sym held.is ∙ ap (λ n. owner_at n before.owner) e ∙ stood.is in
          ne (ap (λ (o : Owner). o.list) one) (ap (λ (o : Owner). o.index) one)

  -- what stands in a list now, at another place than the new one, stood there
  was-from : (place : ℕ) → place < last → slot_at from place now ≡ slot_at from place before
  was-from place l = sym (ap (λ xs. get_or xs place 0) left ∙ get_or_append_left (slots_in from now) (slot ∷ []) 0 place l)

  was-to : (place : ℕ) → place < length (slots_in to before) → slot_at to place now ≡ slot_at to place before
  was-to place l = ap (λ xs. get_or xs place 0) joined ∙ get_or_append_left (slots_in to before) (slot ∷ []) 0 place l

  was-other : (key place : ℕ) → key ≢ from → key ≢ to → slot_at key place now ≡ slot_at key place before
  was-other key place a b = ap (λ xs. get_or xs place 0) (others key a b)

  slot-now : slot_at to (length (slots_in to before)) now ≡ slot
  slot-now = ap (λ xs. get_or xs (length (slots_in to before)) 0) joined ∙ get_or_push (slots_in to before) slot 0 (length (slots_in to before)) refl

  held-now : (key place : ℕ) → place < length (slots_in key now) → IsHeld now.owner key place (slot_at key place now)
  held-now key place low = by (cases_eq key to) (cases_eq key from) (cases_lt place (length (slots_in to before)))
    where
      by : (key ≡ to) ⊎ (key ≢ to) → (key ≡ from) ⊎ (key ≢ from)
          → (place < length (slots_in to before)) ⊎ (length (slots_in to before) ≤ place) → IsHeld now.owner key place (slot_at key place now)
      by (inl e) f (inl inside) =
          subst (λ k. IsHeld now.owner k place (slot_at k place now)) (sym e)
          (subst (IsHeld now.owner to place) (sym (was-to place inside))
          (held-still to place (slot_at to place before) (kept.held to place inside) (λ same _. apart (sym same))))
      by (inl e) f (inr past) =
          let here : place ≡ length (slots_in to before) =
          let l = subst (λ k. place < length (slots_in k now)) e low in omega (arith, l, long-to, past) in
          subst (λ k. IsHeld now.owner k place (slot_at k place now)) (sym e)
          (subst (λ p. IsHeld now.owner to p (slot_at to p now)) (sym here)
          (subst (IsHeld now.owner to (length (slots_in to before))) (sym slot-now)
          (record { within = let l = stood.within in omega (arith, l, size-same); is = own-now })))
      by (inr ne) (inl e) p =
          let inside : place < last = subst (λ k. place < length (slots_in k now)) e low in
          subst (λ k. IsHeld now.owner k place (slot_at k place now)) (sym e)
          (subst (IsHeld now.owner from place) (sym (was-from place inside))
          (held-still from place (slot_at from place before) (kept.held from place (omega (arith, inside, long-from)))
          (λ _ same. omega (arith, same, inside))))
      by (inr ne) (inr other) p =
          subst (IsHeld now.owner key place) (sym (was-other key place other ne))
          (held-still key place (slot_at key place before)
          (kept.held key place (subst (λ xs. place < length xs) (others key other ne) low)) (λ same _. other same))

  listed-still : (s : ℕ) (o : Owner) → s ≢ slot → IsListed before s o → IsListed now s o
  listed-still s o different is = by (cases_eq o.list to) (cases_eq o.list from)
    where
      by : (o.list ≡ to) ⊎ (o.list ≢ to) → (o.list ≡ from) ⊎ (o.list ≢ from) → IsListed now s o
      by (inl e) f =
          let inside : o.index < length (slots_in to before) = subst (λ k. o.index < length (slots_in k before)) e is.within in
          record {
            within = subst (λ k. o.index < length (slots_in k now)) (sym e) (omega (arith, inside, long-to));
            is = ap (λ k. slot_at k o.index now) e ∙ was-to o.index inside ∙ ap (λ k. slot_at k o.index before) (sym e) ∙ is.is;
          }
      by (inr ne) (inl e) =
          let low : o.index < length (slots_in from before) = subst (λ k. o.index < length (slots_in k before)) e is.within in
          let there : slot_at from o.index before ≡ s = ap (λ k. slot_at k o.index before) (sym e) ∙ is.is in
          let not-last : o.index ≢ last = λ same. different (sym there ∙ ap (λ p. slot_at from p before) same ∙ slot-last) in
          let inside : o.index < last = omega (arith, low, long-from, not-last) in
          record {
            within = subst (λ k. o.index < length (slots_in k now)) (sym e) inside;
            is = ap (λ k. slot_at k o.index now) e ∙ was-from o.index inside ∙ there;
          }
      by (inr ne) (inr other) = record {
        within = subst (λ xs. o.index < length xs) (sym (others o.list other ne)) is.within;
        is = was-other o.list o.index other ne ∙ is.is;
      }

  listed-now : (s : ℕ) → s < size_of now → IsListed now s (owner_at s now.owner)
  listed-now s low = by (cases_eq s slot)
    where
      by : (s ≡ slot) ⊎ (s ≢ slot) → IsListed now s (owner_at s now.owner)
      by (inl e) =
          subst (λ n. IsListed now n (owner_at n now.owner)) (sym e)
          (subst (IsListed now slot) (sym own-now) (record { within = omega (arith, long-to); is = slot-now }))
      by (inr ne) =
          subst (IsListed now s) (sym (other-now s ne))
          (listed-still s (owner_at s before.owner) ne
          (kept.listed s (omega (arith, low, size-same, size-is now, size-is before))))

  pub kept-moved : AreKept now
  kept-moved = record { held = held-now; listed = listed-now }

-- ---- the lists stay

module _ (before now : Parted) (kept : AreKept before) (slots : (key : ℕ) → slots_in key now ≡ slots_in key before) (owner : now.owner ≡ before.owner) where
  pub kept-same : AreKept now
  kept-same = record {
    held = λ key place low.
        subst (λ os. IsHeld os key place (slot_at key place now)) (sym owner)
        (subst (λ xs. IsHeld before.owner key place (get_or xs place 0)) (sym (slots key))
        (kept.held key place (subst (λ xs. place < length xs) (slots key) low)));
    listed = λ s low.
        subst (λ os. IsListed now s (owner_at s os)) (sym owner)
        (let was = kept.listed s (omega (arith, low, size-is now, size-is before, ap length owner)) in
        record {
          within = subst (λ xs. (owner_at s before.owner).index < length xs) (sym (slots (owner_at s before.owner).list)) was.within;
          is = ap (λ xs. get_or xs (owner_at s before.owner).index 0) (slots (owner_at s before.owner).list) ∙ was.is;
        });
  }

-- ---- a slot more, the only free one

module _ (before now : Parted) (kept : AreKept before) (none : slots_in FREE before ≡ [])
    (free : slots_in FREE now ≡ slots_in FREE before ++ length before.owner ∷ [])
    (others : (key : ℕ) → key ≢ FREE → slots_in key now ≡ slots_in key before)
    (owner : now.owner ≡ before.owner ++ at-place 0 0 ∷ []) where
  alone : slots_in FREE now ≡ length before.owner ∷ []
  alone = free ∙ ap (λ xs. xs ++ length before.owner ∷ []) none

  size-more : length now.owner ≡ length before.owner + 1
  size-more = ap length owner ∙ length_push before.owner (at-place 0 0)

  old-owner : (s : ℕ) → s < length before.owner → owner_at s now.owner ≡ owner_at s before.owner
  old-owner s low = ap (owner_at s) owner ∙ get_or_append_left before.owner (at-place 0 0 ∷ []) (at-place 0 0) s low

  new-owner : owner_at (length before.owner) now.owner ≡ at-place 0 0
  new-owner = ap (owner_at (length before.owner)) owner ∙ get_or_push before.owner (at-place 0 0) (at-place 0 0) (length before.owner) refl

  made-held : (key place : ℕ) → place < length (slots_in key now) → IsHeld now.owner key place (slot_at key place now)
  made-held key place low = by (cases_eq key FREE)
    where
      by : (key ≡ FREE) ⊎ (key ≢ FREE) → IsHeld now.owner key place (slot_at key place now)
      by (inl e) =
          let first : place ≡ 0 = let l = subst (λ k. place < length (slots_in k now)) e low in omega (arith, l, ap length alone) in
          subst (λ k. IsHeld now.owner k place (slot_at k place now)) (sym e)
          (subst (λ p. IsHeld now.owner FREE p (slot_at FREE p now)) (sym first)
          (subst (λ xs. IsHeld now.owner FREE 0 (get_or xs 0 0)) (sym alone) (record { within = omega (arith, size-more); is = new-owner })))
      by (inr ne) =
          let was = kept.held key place (subst (λ xs. place < length xs) (others key ne) low) in
          subst (λ xs. IsHeld now.owner key place (get_or xs place 0)) (sym (others key ne)) (record {
            within = let l = was.within in omega (arith, l, size-more);
            is = old-owner (slot_at key place before) was.within ∙ was.is;
          })

  made-listed : (s : ℕ) → s < size_of now → IsListed now s (owner_at s now.owner)
  made-listed s low = by (cases_lt s (length before.owner))
    where
      by : (s < length before.owner) ⊎ (length before.owner ≤ s) → IsListed now s (owner_at s now.owner)
      by (inl inside) =
          let was = kept.listed s (omega (arith, inside, size-is before)) in
          let o : Owner = owner_at s before.owner in
          let ne : o.list ≢ FREE = λ e. let l = subst (λ k. o.index < length (slots_in k before)) e was.within in
          absurd (omega (arith, l, ap length none)) in
          subst (IsListed now s) (sym (old-owner s inside)) (record {
            within = subst (λ xs. o.index < length xs) (sym (others o.list ne)) was.within;
            is = ap (λ xs. get_or xs o.index 0) (others o.list ne) ∙ was.is;
          })
      by (inr past) =
          let here : s ≡ length before.owner = omega (arith, low, size-is now, size-more, past) in
          subst (λ n. IsListed now n (owner_at n now.owner)) (sym here)
          (subst (IsListed now (length before.owner)) (sym new-owner) (record {
            within = omega (arith, ap length alone);
            is = ap (λ xs. get_or xs 0 0) alone;
          }))

  pub kept-made : AreKept now
  kept-made = record { held = made-held; listed = made-listed }

-- ---- how many are free

-- the place of a slot among the free ones, and the place behind them of any other
abbrev freed : ℕ → Owner → ℕ
freed most o = if o.list == FREE then o.index else most

freed-other : (most key place : ℕ) → key ≢ FREE → freed most (at-place key place) ≡ most
freed-other most key place ne = ap (λ t. if t then place else most) (ne_eqb key FREE ne)

module _ (parts : Parted) (kept : AreKept parts) (key : ℕ) (ne : key ≢ FREE) (some : 0 < length (slots_in key parts)) where
  abbrev most : ℕ
  most = length (slots_in FREE parts)

  abbrev own : ℕ
  own = slot_at key 0 parts

  held-own : IsHeld parts.owner key 0 own
  held-own = kept.held key 0 some

  abbrev each : ℕ → ℕ
  each k = get_or (slots_in FREE parts ++ own ∷ []) k 0

  abbrev place : ℕ → ℕ
  place s = freed most (owner_at s parts.owner)

  each-free : (k : ℕ) → k < most → each k ≡ slot_at FREE k parts
  each-free k inside = get_or_append_left (slots_in FREE parts) (own ∷ []) 0 k inside

  each-own : (k : ℕ) → most ≡ k → each k ≡ own
  each-own k here = get_or_push (slots_in FREE parts) own 0 k here

  low : (k : ℕ) → k < most + 1 → each k < length parts.owner
  low k l = by (cases_lt k most)
    where
      by : (k < most) ⊎ (most ≤ k) → each k < length parts.owner
      by (inl inside) = subst (λ n. n < length parts.owner) (sym (each-free k inside)) (kept.held FREE k inside).within
      by (inr past) = subst (λ n. n < length parts.owner) (sym (each-own k (omega (arith, l, past)))) held-own.within

  leads : (k : ℕ) → k < most + 1 → place (each k) ≡ k
  leads k l = by (cases_lt k most)
    where
      by : (k < most) ⊎ (most ≤ k) → place (each k) ≡ k
      by (inl inside) = ap place (each-free k inside) ∙ ap (freed most) (kept.held FREE k inside).is
      by (inr past) =
          let here : most ≡ k = omega (arith, l, past) in
          ap place (each-own k here) ∙ ap (freed most) held-own.is ∙ freed-other most key 0 ne ∙ here

  -- not all slots are free where one stands in another list
  pub free-few : length (slots_in FREE parts) < size_of parts
  free-few = let all = no-more (length parts.owner) (most + 1) each place low leads in omega (arith, all, size-is parts)

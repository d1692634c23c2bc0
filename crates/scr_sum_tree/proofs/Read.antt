-- What adds up a member, and what adds up a Block, exactly.
use Rattle.std.proofs.Common.{◌≡◌, ◌↔◌, ℕ, ◌+◌, ◌-◌, ◌*◌, ◌/◌, ◌%◌, ◌<◌, ◌≤◌, ◌⊎◌, inl, inr, Bool, true, false, cond, leb, ltb, Contains, List, Option, Some, None, length, get_or, slice_get, map, refl, sym, ap, ◌∙◌, arith}
use Rattle.std.specs.List.{range_with_len}
use Rattle.std.proofs.lemmas.Bool.Decides.{nat_tests}
use Rattle.std.proofs.lemmas.List.{length-map, get_or-map}
use Rattle.std.proofs.lemmas.List.FromFn.{length-map-range_with_len, get_or-map-range_with_len}
use Rattle.std.proofs.lemmas.Option.{slice_get-get_or, slice_get_cases, slice_get_within, get_or_from_slice_get, none-some}
use Rattle.scr_sum_tree.specs.Blocks.{HasEachOnce, firsts, is_block, part, parts, seconds}
use Rattle.scr_sum_tree.specs.Readers.{AreApart, IsReader, added_by, reader_of_block, reader_of_member}
use Rattle.scr_sum_tree.specs.declared.blocks.Level.{Level}
use Rattle.scr_sum_tree.specs.declared.blocks.Level.TheVariants as levels
use Rattle.scr_sum_tree.specs.declared.readers.Reader.{Reader}
use Rattle.scr_sum_tree.specs.declared.readers.Reader.TheVariants as readers
use Rattle.scr_sum_tree.proofs.BlockTests.{Decides-is_block_over}
use Rattle.scr_sum_tree.proofs.BlockChanges.{settled}
use Rattle.scr_sum_tree.proofs.PartLemmas.{length-part, get_or-part}

-- a Block for no reader, and a reader as two numbers
abbrev kind_of : Reader → ℕ
kind_of readers.Whole = 0
kind_of (readers.Block levels.First i) = 1
kind_of (readers.Block levels.Second i) = 2

abbrev index_of : Reader → ℕ
index_of readers.Whole = 0
index_of (readers.Block level i) = i

-- ---- what stands where

-- two places with one element are one place
one-place : {X : Type 0} (xs : List X) → HasEachOnce xs → (j k : ℕ) → j < length xs → k < length xs → slice_get xs j ≡ slice_get xs k → j ≡ k
one-place xs once j k inside inside' same = settled (ltb j k)
    (λ e. absurd (once j k (grind (arith, nat_tests, e)) inside' same))
    (λ e. settled (ltb k j)
    (λ d. absurd (once k j (grind (arith, nat_tests, d)) inside (sym same)))
    (λ d. grind (arith, nat_tests, e, d)))

module _ {X : Type 0} (zs : List X) (z : X) where
  -- a part has what the list has at its places
  in-part : (i : ℕ) → Contains (part i zs) z → (k : ℕ) × (k < length zs) × (i ≡ k / 32) × (get_or zs k z ≡ z)
  in-part i h = (
    32 * i + h.0,
    omega (arith, h.1, length-part i zs),
    omega (arith, h.1, length-part i zs),
    sym (get_or-part i h.0 zs z (omega (arith, h.1, length-part i zs))) ∙ h.2,
  )

  of-part : (i k : ℕ) → k < length zs → i ≡ k / 32 → get_or zs k z ≡ z → Contains (part i zs) z
  of-part i k inside at is = (
    k % 32,
    omega (arith, inside, at, length-part i zs),
    get_or-part i (k % 32) zs z (omega arith) ∙ ap (λ n. get_or zs n z) (omega (arith, at)) ∙ is,
  )

module _ {Node : Type 0} (f : ℕ → Node) (n : ℕ) (z : Node) where
  -- the nodes of all numbers below one
  in-range : Contains (map f (range_with_len 0 n)) z → (k : ℕ) × (k < n) × (f k ≡ z)
  in-range h =
      let inside : h.0 < n = omega (arith, h.1, length-map-range_with_len f 0 n) in
      (h.0, inside, sym (get_or-map-range_with_len f 0 n h.0 h.0 z inside (omega arith)) ∙ h.2)

  of-range : (k : ℕ) → k < n → f k ≡ z → Contains (map f (range_with_len 0 n)) z
  of-range k inside is = (k, omega (arith, inside, length-map-range_with_len f 0 n), get_or-map-range_with_len f 0 n k k z inside (omega arith) ∙ is)

  in-range-part : (i : ℕ) → Contains (part i (map f (range_with_len 0 n))) z → (k : ℕ) × (k < n) × (i ≡ k / 32) × (f k ≡ z)
  in-range-part i h =
      let at = in-part (map f (range_with_len 0 n)) z i h in
      let inside : at.0 < n = omega (arith, at.1, length-map-range_with_len f 0 n) in
      (at.0, inside, at.2, sym (get_or-map-range_with_len f 0 n at.0 at.0 z inside (omega arith)) ∙ at.3)

  of-range-part : (i k : ℕ) → k < n → i ≡ k / 32 → f k ≡ z → Contains (part i (map f (range_with_len 0 n))) z
  of-range-part i k inside at is = of-part (map f (range_with_len 0 n)) z i k (omega (arith, inside, length-map-range_with_len f 0 n)) at
      (get_or-map-range_with_len f 0 n k k z inside (omega arith) ∙ is)

-- ---- there are these readers

pub member-reader : (count place : ℕ) → place < count → IsReader count (reader_of_member count place)
member-reader count place inside = at (leb count 32) refl
  where
    at : (t : Bool) → leb count 32 ≡ t → IsReader count (cond t readers.Whole (readers.Block levels.First (place / 32)))
    at true e = tt
    at false e = (Decides-is_block_over count (place / 32)).1 (grind (arith, nat_tests, e), omega (arith, inside))

pub block-reader : (count : ℕ) (level : Level) (i : ℕ) → is_block count level i ≡ true → IsReader count (reader_of_block count level i)
block-reader count levels.First i there = at (leb (parts count) 32) refl
  where
    at : (t : Bool) → leb (parts count) 32 ≡ t → IsReader count (cond t readers.Whole (readers.Block levels.Second (i / 32)))
    at true e = tt
    at false e = let within = (Decides-is_block_over count i).0 there in
        (Decides-is_block_over (parts count) (i / 32)).1 (grind (arith, nat_tests, e), omega (arith, within.1))
block-reader count levels.Second i there = tt

-- ---- what they add up

module _ {Name Node : Type 0} (member : Name → Node) (block : Level → ℕ → Node) (apart : AreApart member block) (list : List Name) where
  abbrev count : ℕ
  count = length list

  abbrev top : Bool → Bool → List Node
  top s t = cond s (map member list) (cond t (firsts block count) (seconds block count))

  module _ (once : HasEachOnce list) (place : ℕ) (name : Name) (is : slice_get list place ≡ Some name) where
    inside : place < count
    inside = slice_get_within list place name is

    here : get_or (map member list) place (member name) ≡ member name
    here = get_or-map member list place name (member name) inside ∙ ap member (get_or_from_slice_get list place name name is)

    there-alone : (k : ℕ) → k < count → get_or (map member list) k (member name) ≡ member name → k ≡ place
    there-alone k within at = one-place list once k place within inside
        (slice_get-get_or list k name within
        ∙ ap Some (apart.members (get_or list k name) name (sym (get_or-map member list k name (member name) within) ∙ at))
        ∙ sym is)

    at-top : (s : Bool) → leb count 32 ≡ s → (t : Bool) → Contains (top s t) (member name)
        ↔ (readers.Whole ≡ cond s readers.Whole (readers.Block levels.First (place / 32)))
    at-top true e t = (λ h. refl, λ h. (place, omega (arith, inside, length-map list member), here))
    at-top false e true = (
      λ h. let at = in-range (block levels.First) (parts count) (member name) h in absurd (apart.others name levels.First at.0 (sym at.2)),
      λ h. let never = ap kind_of h in absurd (omega (arith, never)),
    )
    at-top false e false = (
      λ h. let at = in-range (block levels.Second) (parts (parts count)) (member name) h in absurd (apart.others name levels.Second at.0 (sym at.2)),
      λ h. let never = ap kind_of h in absurd (omega (arith, never)),
    )

    pub member-read : (reader : Reader) → IsReader count reader
        → Contains (added_by member block list reader) (member name) ↔ (reader ≡ reader_of_member count place)
    member-read readers.Whole reads = at-top (leb count 32) refl (leb (parts count) 32)
    member-read (readers.Block levels.First i) reads = by (leb count 32) refl
      where
        by : (s : Bool) → leb count 32 ≡ s → Contains (part i (map member list)) (member name)
            ↔ (readers.Block levels.First i ≡ cond s readers.Whole (readers.Block levels.First (place / 32)))
        by true e = let within = (Decides-is_block_over count i).0 reads in absurd (grind (arith, nat_tests, e, within.0))
        by false e = (
          λ h. let at = in-part (map member list) (member name) i h in
              let same = there-alone at.0 (omega (arith, at.1, length-map list member)) at.3 in
              ap (readers.Block levels.First) (at.2 ∙ ap (λ n. n / 32) same),
          λ h. of-part (map member list) (member name) i place (omega (arith, inside, length-map list member)) (ap index_of h) here,
        )
    member-read (readers.Block levels.Second i) reads = by (leb count 32)
      where
        by : (s : Bool) → Contains (part i (firsts block count)) (member name)
            ↔ (readers.Block levels.Second i ≡ cond s readers.Whole (readers.Block levels.First (place / 32)))
        by s = (
          λ h. let at = in-range-part (block levels.First) (parts count) (member name) i h in absurd (apart.others name levels.First at.0 (sym at.3)),
          λ h. absurd (never s (ap kind_of h)),
        )
          where
            never : (s : Bool) → 2 ≡ kind_of (cond s readers.Whole (readers.Block levels.First (place / 32))) → ⊥
            never true e = omega (arith, e)
            never false e = omega (arith, e)

  -- no Block is a member
  no-member : (level : Level) (i j : ℕ) → Contains (part j (map member list)) (block level i) → ⊥
  no-member level i j h = by (slice_get list at.0) refl
    where
      at : (k : ℕ) × (k < length (map member list)) × (j ≡ k / 32) × (get_or (map member list) k (block level i) ≡ block level i)
      at = in-part (map member list) (block level i) j h

      by : (found : Option Name) → slice_get list at.0 ≡ found → ⊥
      by (Some name) e = apart.others name level i
          (ap member (sym (get_or_from_slice_get list at.0 name name e)) ∙ sym (get_or-map member list at.0 name (block level i) (slice_get_within list at.0 name e)) ∙ at.3)
      by None e = absurd (none-past (slice_get_cases list at.0).1)
        where
          none-past : ((x : Name) × (at.0 < length list) × (slice_get list at.0 ≡ Some x) × (get_or list at.0 x ≡ x)) ⊎ ((length list ≤ at.0) × (slice_get list at.0 ≡ None)) → ⊥
          none-past (inl found) = none-some found.0 (sym e ∙ found.2)
          none-past (inr past) = omega (arith, past.0, at.1, length-map list member)

  first-read : (i : ℕ) → is_block count levels.First i ≡ true → (reader : Reader) → IsReader count reader
      → Contains (added_by member block list reader) (block levels.First i) ↔ (reader ≡ reader_of_block count levels.First i)
  first-read i there readers.Whole reads = by (leb count 32) refl (leb (parts count) 32)
    where
      within : (32 < count) × (i < parts count)
      within = (Decides-is_block_over count i).0 there

      by : (s : Bool) → leb count 32 ≡ s → (t : Bool) → Contains (top s t) (block levels.First i)
          ↔ (readers.Whole ≡ cond t readers.Whole (readers.Block levels.Second (i / 32)))
      by true e t = absurd (grind (arith, nat_tests, e, within.0))
      by false e true = (λ h. refl, λ h. of-range (block levels.First) (parts count) (block levels.First i) i within.1 refl)
      by false e false = (
        λ h. let at = in-range (block levels.Second) (parts (parts count)) (block levels.First i) h in absurd (apart.apart i at.0 (sym at.2)),
        λ h. let never = ap kind_of h in absurd (omega (arith, never)),
      )
  first-read i there (readers.Block levels.First j) reads = by (leb (parts count) 32)
    where
      never : (t : Bool) → 1 ≡ kind_of (cond t readers.Whole (readers.Block levels.Second (i / 32))) → ⊥
      never true e = omega (arith, e)
      never false e = omega (arith, e)

      by : (t : Bool) → Contains (part j (map member list)) (block levels.First i)
          ↔ (readers.Block levels.First j ≡ cond t readers.Whole (readers.Block levels.Second (i / 32)))
      by t = (λ h. absurd (no-member levels.First i j h), λ h. absurd (never t (ap kind_of h)))
  first-read i there (readers.Block levels.Second j) reads = by (leb (parts count) 32) refl
    where
      within : (32 < count) × (i < parts count)
      within = (Decides-is_block_over count i).0 there

      by : (t : Bool) → leb (parts count) 32 ≡ t → Contains (part j (firsts block count)) (block levels.First i)
          ↔ (readers.Block levels.Second j ≡ cond t readers.Whole (readers.Block levels.Second (i / 32)))
      by true e = let many = (Decides-is_block_over (parts count) j).0 reads in absurd (grind (arith, nat_tests, e, many.0))
      by false e = (
        λ h. let at = in-range-part (block levels.First) (parts count) (block levels.First i) j h in
            ap (readers.Block levels.Second) (at.2 ∙ ap (λ n. n / 32) (apart.firsts at.0 i at.3)),
        λ h. of-range-part (block levels.First) (parts count) (block levels.First i) j i within.1 (ap index_of h) refl,
      )

  second-read : (i : ℕ) → is_block count levels.Second i ≡ true → (reader : Reader) → IsReader count reader
      → Contains (added_by member block list reader) (block levels.Second i) ↔ (reader ≡ readers.Whole)
  second-read i there readers.Whole reads = by (leb count 32) refl (leb (parts count) 32) refl
    where
      within : (32 < parts count) × (i < parts (parts count))
      within = (Decides-is_block_over (parts count) i).0 there

      by : (s : Bool) → leb count 32 ≡ s → (t : Bool) → leb (parts count) 32 ≡ t → Contains (top s t) (block levels.Second i) ↔ (readers.Whole ≡ readers.Whole)
      by true e t d = absurd (grind (arith, nat_tests, e, within.0))
      by false e true d = absurd (grind (arith, nat_tests, d, within.0))
      by false e false d = (λ h. refl, λ h. of-range (block levels.Second) (parts (parts count)) (block levels.Second i) i within.1 refl)
  second-read i there (readers.Block levels.First j) reads =
      (λ h. absurd (no-member levels.Second i j h), λ h. let never = ap kind_of h in absurd (omega (arith, never)))
  second-read i there (readers.Block levels.Second j) reads = (
    λ h. let at = in-range-part (block levels.First) (parts count) (block levels.Second i) j h in absurd (apart.apart at.0 i at.3),
    λ h. let never = ap kind_of h in absurd (omega (arith, never)),
  )

  pub block-read : (level : Level) (i : ℕ) → is_block count level i ≡ true → (reader : Reader) → IsReader count reader
      → Contains (added_by member block list reader) (block level i) ↔ (reader ≡ reader_of_block count level i)
  block-read levels.First i there reader reads = first-read i there reader reads
  block-read levels.Second i there reader reads = second-read i there reader reads

-- ---- nothing else is added up

module _ {Name Node : Type 0} (member : Name → Node) (block : Level → ℕ → Node) (list : List Name) where
  -- the figure of a member, or a Block that the list has
  abbrev pub IsOfMember : Node → Type 0
  IsOfMember z = (name : Name) × Contains list name × (member name ≡ z)

  abbrev pub IsOwn : Node → Type 0
  IsOwn z = IsOfMember z ⊎ ((level : Level) × (i : ℕ) × (is_block (length list) level i ≡ true) × (block level i ≡ z))

  -- what stands in the list of the figures of members is that of one
  own-member : (z : Node) (k : ℕ) → k < length (map member list) → get_or (map member list) k z ≡ z → IsOfMember z
  own-member z k inside at = by (slice_get_cases list k).1
    where
      by : ((x : Name) × (k < length list) × (slice_get list k ≡ Some x) × (get_or list k x ≡ x)) ⊎ ((length list ≤ k) × (slice_get list k ≡ None)) → IsOfMember z
      by (inl found) = (
        found.0,
        (k, found.1, found.3),
        sym (get_or-map member list k found.0 z found.1 ∙ ap member found.3) ∙ at,
      )
      by (inr past) = absurd (omega (arith, past.0, inside, length-map list member))

  own-first : (z : Node) (k : ℕ) → 32 < length list → k < parts (length list) → block levels.First k ≡ z → IsOwn z
  own-first z k many inside is = inr (levels.First, k, (Decides-is_block_over (length list) k).1 (many, inside), is)

  own-second : (z : Node) (k : ℕ) → 32 < parts (length list) → k < parts (parts (length list)) → block levels.Second k ≡ z → IsOwn z
  own-second z k many inside is = inr (levels.Second, k, (Decides-is_block_over (parts (length list)) k).1 (many, inside), is)

  -- a part of the members, and of the Blocks of the first level
  pub members-only : (i : ℕ) (z : Node) → Contains (part i (map member list)) z → IsOfMember z
  members-only i z h = let at = in-part (map member list) z i h in own-member z at.0 at.1 at.3

  pub firsts-only : (i : ℕ) (z : Node) → Contains (part i (firsts block (length list))) z → (k : ℕ) × (k < parts (length list)) × (block levels.First k ≡ z)
  firsts-only i z h = let at = in-range-part (block levels.First) (parts (length list)) z i h in (at.0, at.1, at.3)

  pub added-only : (reader : Reader) → IsReader (length list) reader → (z : Node) → Contains (added_by member block list reader) z → IsOwn z
  added-only readers.Whole reads z h = by (leb (length list) 32) refl (leb (parts (length list)) 32) refl h
    where
      by : (s : Bool) → leb (length list) 32 ≡ s → (t : Bool) → leb (parts (length list)) 32 ≡ t
          → Contains (cond s (map member list) (cond t (firsts block (length list)) (seconds block (length list)))) z → IsOwn z
      by true e t d h = inl (own-member z h.0 h.1 h.2)
      by false e true d h =
          let at = in-range (block levels.First) (parts (length list)) z h in
          own-first z at.0 (grind (arith, nat_tests, e)) at.1 at.2
      by false e false d h =
          let at = in-range (block levels.Second) (parts (parts (length list))) z h in
          own-second z at.0 (grind (arith, nat_tests, d)) at.1 at.2
  added-only (readers.Block levels.First i) reads z h = inl (members-only i z h)
  added-only (readers.Block levels.Second i) reads z h =
      let at = firsts-only i z h in
      let within = (Decides-is_block_over (parts (length list)) i).0 reads in
      own-first z at.0 (omega (arith, within.0)) at.1 at.2

-- Which Blocks change where a member comes or leaves, exactly.
use Rattle.std.proofs.Common.{◌≡◌, ℕ, ◌+◌, ◌-◌, ◌*◌, ◌/◌, ◌%◌, ◌<◌, ◌≤◌, ◌≢◌, ◌⊎◌, inl, inr, Bool, true, false, eqb, ◌&&◌, ◌||◌, Decides, List, [], ◌∷◌, ◌++◌, Some, None, length, get_or, slice_get, map, refl, sym, ap, subst, ◌∙◌, arith}
use Rattle.std.specs.Prelude.{IsTrue}
use Rattle.std.specs.Option.{option_map}
use Rattle.std.specs.List.{range_with_len}
use Rattle.std.proofs.lemmas.Bool.Decides.{Decides-and, Decides-or, Decides-eqb}
use Rattle.std.proofs.lemmas.List.{length-map, length_push, map_push}
use Rattle.std.proofs.lemmas.List.FromFn.{length-map-range_with_len, map-range_with_len_more}
use Rattle.std.proofs.lemmas.Option.{slice_get-get_or, slice_get-map, slice_get_cases, get_or_from_slice_get}
use Rattle.scr_sum_tree.specs.Blocks.{HasEachOnce, part, parts, is_block_over, firsts}
use Rattle.scr_sum_tree.specs.ChangedBlocks.{IsChangedBlock, Leaves, grew, came, went}
use Rattle.scr_sum_tree.specs.declared.blocks.Level.{Level}
use Rattle.scr_sum_tree.specs.declared.blocks.Level.TheVariants as levels
use Rattle.scr_sum_tree.proofs.BlockTests.{Decides-is_block_over}
use Rattle.scr_sum_tree.proofs.PartLemmas.{length-part, get_or-part, part-push, part-grows, part-same}

-- a Block is there before or after, and not the same
abbrev Differs : {X : Type 0} → Bool → Bool → List X → List X → Type 0
Differs live live' xs ys = IsTrue (live || live') × ((live ≡ live') × (xs ≡ ys) → ⊥)

Differs-flip : {X : Type 0} (live live' : Bool) (xs ys : List X) → Differs live live' xs ys → Differs live' live ys xs
Differs-flip live live' xs ys h = (turn live live' h.0, λ s. h.1 (sym s.0, sym s.1))
  where
    turn : (a b : Bool) → IsTrue (a || b) → IsTrue (b || a)
    turn true true t = t
    turn true false t = t
    turn false true t = t
    turn false false t = t

-- what holds in either case
pub settled : {P : Type 0} (t : Bool) → (t ≡ true → P) → (t ≡ false → P) → P
settled true holds fails = holds refl
settled false holds fails = fails refl

-- one of two Blocks is there
one_there : {P : Type 0} (a b : Bool) → IsTrue (a || b) → (a ≡ true → P) → (b ≡ true → P) → P
one_there true b h left_ right_ = left_ refl
one_there false true h left_ right_ = right_ refl
one_there false false h left_ right_ = absurd (cc)

first_there : (a b : Bool) → a ≡ true → IsTrue (a || b)
first_there true b e = refl
first_there false b e = absurd (cc)

last_there : (a b : Bool) → b ≡ true → IsTrue (a || b)
last_there true b e = refl
last_there false b e = e

-- a test that fails tells numbers apart
pub unequal : (a b : ℕ) → eqb a b ≡ false → a ≢ b
unequal a b e same = let equal = (Decides-eqb a b).1 same in absurd (cc)

-- ---- what the tests tell

pub grew-tells : (count i : ℕ) → Decides (grew count i) (((32 < count + 1) × (i < parts (count + 1))) × ((count ≡ 32) ⊎ (i ≡ count / 32)))
grew-tells count i = Decides-and (is_block_over (count + 1) i) (eqb count 32 || eqb i (count / 32)) (Decides-is_block_over (count + 1) i)
    (Decides-or (eqb count 32) (eqb i (count / 32)) (Decides-eqb count 32) (Decides-eqb i (count / 32)))

pub went-tells : (count place i : ℕ) → Decides (went count place levels.First i)
    (((32 < count) × (i < parts count)) × ((count ≡ 33) ⊎ ((i ≡ place / 32) ⊎ (i ≡ (count - 1) / 32))))
went-tells count place i = Decides-and (is_block_over count i) (eqb count 33 || (eqb i (place / 32) || eqb i ((count - 1) / 32)))
    (Decides-is_block_over count i)
    (Decides-or (eqb count 33) (eqb i (place / 32) || eqb i ((count - 1) / 32)) (Decides-eqb count 33)
    (Decides-or (eqb i (place / 32)) (eqb i ((count - 1) / 32)) (Decides-eqb i (place / 32)) (Decides-eqb i ((count - 1) / 32))))

-- ---- one comes last

module _ {X : Type 0} (xs zs : List X) (y : X) (count : ℕ) (pushed : zs ≡ xs ++ y ∷ []) (long : length xs ≡ count) (i : ℕ) where
  grown-differs : (count ≡ 32) ⊎ (i ≡ count / 32) → is_block_over (count + 1) i ≡ true
      → (is_block_over count i ≡ is_block_over (count + 1) i) × (part i xs ≡ part i zs) → ⊥
  grown-differs (inl begins) there same =
      let before = (Decides-is_block_over count i).0 (same.0 ∙ there) in omega (arith, before.0)
  grown-differs (inr at) there same = part-grows i xs y (at ∙ ap (λ n. n / 32) (sym long)) (ap (part i) (sym pushed) ∙ sym same.1)

  grown-stays : (32 < count + 1) × (i < parts (count + 1)) → count ≢ 32 → i ≢ count / 32
      → (is_block_over count i ≡ is_block_over (count + 1) i) × (part i xs ≡ part i zs)
  grown-stays there going other = (
    (Decides-is_block_over count i).1 (omega (arith, there.0), omega (arith, there.1, other)) ∙ sym ((Decides-is_block_over (count + 1) i).1 there),
    sym (ap (part i) pushed ∙ part-push i xs y (omega (arith, there.1, other, long))),
  )

  pub grown-told : Decides (grew count i) (Differs (is_block_over count i) (is_block_over (count + 1) i) (part i xs) (part i zs))
  grown-told = (
    λ t. let tells = (grew-tells count i).0 t in
        let there : is_block_over (count + 1) i ≡ true = (Decides-is_block_over (count + 1) i).1 tells.0 in
        (last_there (is_block_over count i) (is_block_over (count + 1) i) there, grown-differs tells.1 there),
    λ h. (grew-tells count i).1 (
      now h,
      settled (eqb count 32) (λ e. inl ((Decides-eqb count 32).0 e))
          (λ e. settled (eqb i (count / 32)) (λ d. inr ((Decides-eqb i (count / 32)).0 d))
          (λ d. absurd (h.1 (grown-stays (now h) (unequal count 32 e) (unequal i (count / 32) d))))),
    ),
  )
    where
      now : Differs (is_block_over count i) (is_block_over (count + 1) i) (part i xs) (part i zs) → (32 < count + 1) × (i < parts (count + 1))
      now h = one_there (is_block_over count i) (is_block_over (count + 1) i) h.0
          (λ e. let was = (Decides-is_block_over count i).0 e in (omega (arith, was.0), omega (arith, was.1)))
          (λ e. (Decides-is_block_over (count + 1) i).0 e)

-- ---- the second level, which only the length decides

module _ {Node : Type 0} (block : Level → ℕ → Node) (few many : ℕ) (more : many ≡ few + 1) (i : ℕ) where
  abbrev SecondDiffers : Type 0
  SecondDiffers = Differs (is_block_over (parts few) i) (is_block_over (parts many) i) (part i (firsts block few)) (part i (firsts block many))

  second_begins : few % 32 ≡ 0 → Decides (grew (few / 32) i) SecondDiffers
  second_begins whole =
      subst (λ n. Decides (grew n i) SecondDiffers) before
      (subst (λ n. Decides (grew (parts few) i) (Differs (is_block_over (parts few) i) (is_block_over n i) (part i (firsts block few)) (part i (firsts block many)))) (sym after)
      (grown-told (firsts block few) (firsts block many) (block levels.First (parts few)) (parts few) pushed
      (length-map-range_with_len (block levels.First) 0 (parts few)) i))
    where
      before : parts few ≡ few / 32
      before = omega arith

      after : parts many ≡ parts few + 1
      after = omega arith

      pushed : firsts block many ≡ firsts block few ++ block levels.First (parts few) ∷ []
      pushed = ap (λ n. map (block levels.First) (range_with_len 0 n)) after ∙ map-range_with_len_more (block levels.First) 0 (parts few) (parts few) (omega arith)

  second_stays : few % 32 ≢ 0 → SecondDiffers → ⊥
  second_stays within differs = differs.1 (ap (λ n. is_block_over n i) same, ap (λ n. part i (map (block levels.First) (range_with_len 0 n))) same)
    where
      same : parts few ≡ parts many
      same = omega arith

  pub second-told : Decides (came few levels.Second i) SecondDiffers
  second-told = settled (eqb (few % 32) 0)
      (λ e. let begins = second_begins ((Decides-eqb (few % 32) 0).0 e) in
      (λ t. begins.0 (sym (ap (λ s. s && grew (few / 32) i) e) ∙ t), λ h. ap (λ s. s && grew (few / 32) i) e ∙ begins.1 h))
      (λ e. (
        λ t. let never : false ≡ true = sym (ap (λ s. s && grew (few / 32) i) e) ∙ t in absurd (cc),
        λ h. absurd (second_stays (λ z. let yes_ = (Decides-eqb (few % 32) 0).1 z in absurd (cc)) h),
      ))

-- ---- a member comes

module _ {Name Node : Type 0} (member : Name → Node) (block : Level → ℕ → Node) where
  changed-first : (before after : List Name) (i : ℕ)
      → Differs (is_block_over (length before) i) (is_block_over (length after) i) (part i (map member before)) (part i (map member after))
      → IsChangedBlock member block before after levels.First i
  changed-first before after i h = record { live = h.0; changed = λ s. h.1 (s.live, s.sources) }

  first-changed : (before after : List Name) (i : ℕ) → IsChangedBlock member block before after levels.First i
      → Differs (is_block_over (length before) i) (is_block_over (length after) i) (part i (map member before)) (part i (map member after))
  first-changed before after i h = (h.live, λ s. h.changed (record { live = s.0; sources = s.1 }))

  changed-second : (before after : List Name) (i : ℕ)
      → Differs (is_block_over (parts (length before)) i) (is_block_over (parts (length after)) i) (part i (firsts block (length before))) (part i (firsts block (length after)))
      → IsChangedBlock member block before after levels.Second i
  changed-second before after i h = record { live = h.0; changed = λ s. h.1 (s.live, s.sources) }

  second-changed : (before after : List Name) (i : ℕ) → IsChangedBlock member block before after levels.Second i
      → Differs (is_block_over (parts (length before)) i) (is_block_over (parts (length after)) i) (part i (firsts block (length before))) (part i (firsts block (length after)))
  second-changed before after i h = (h.live, λ s. h.changed (record { live = s.0; sources = s.1 }))

  pub came-told : (roll : List Name) (name : Name) (level : Level) (i : ℕ)
      → Decides (came (length roll) level i) (IsChangedBlock member block roll (roll ++ name ∷ []) level i)
  came-told roll name levels.First i =
      let told = subst (λ n. Decides (grew (length roll) i) (Differs (is_block_over (length roll) i) (is_block_over n i) (part i (map member roll)) (part i (map member (roll ++ name ∷ [])))))
      (sym (length_push roll name))
      (grown-told (map member roll) (map member (roll ++ name ∷ [])) (member name) (length roll) (map_push member roll name) (length-map roll member) i) in
      (λ t. changed-first roll (roll ++ name ∷ []) i (told.0 t), λ h. told.1 (first-changed roll (roll ++ name ∷ []) i h))
  came-told roll name levels.Second i =
      let told = second-told block (length roll) (length (roll ++ name ∷ [])) (length_push roll name) i in
      (λ t. changed-second roll (roll ++ name ∷ []) i (told.0 t), λ h. told.1 (second-changed roll (roll ++ name ∷ []) i h))

-- ---- a member leaves

-- the figures of members leave with them
figures-leave : {Name Node : Type 0} (member : Name → Node) (place : ℕ) (before after : List Name) → Leaves place before after
    → Leaves place (map member before) (map member after)
figures-leave member place before after leaves = record {
  within = omega (arith, leaves.within, length-map before member);
  fewer = length-map before member ∙ leaves.fewer ∙ ap (λ n. n + 1) (sym (length-map after member));
  taken = λ inside. slice_get-map member after place ∙ ap (option_map member) (leaves.taken (omega (arith, inside, length-map after member)))
      ∙ sym (slice_get-map member before (length after)) ∙ ap (slice_get (map member before)) (sym (length-map after member));
  kept = λ k inside other. slice_get-map member after k ∙ ap (option_map member) (leaves.kept k (omega (arith, inside, length-map after member)) other)
      ∙ sym (slice_get-map member before k);
}

module _ {X : Type 0} (xs ys : List X) (place : ℕ) (leaves : Leaves place xs ys) (once : HasEachOnce xs) where
  -- what stands at a place then
  taken-at : (d : X) → place < length ys → get_or ys place d ≡ get_or xs (length ys) d
  taken-at d inside =
      sym (get_or_from_slice_get xs (length ys) (get_or ys place d) d (sym (leaves.taken inside) ∙ slice_get-get_or ys place d inside))

  kept-at : (k : ℕ) (d : X) → k ≢ place → k < length ys → get_or ys k d ≡ get_or xs k d
  kept-at k d other inside =
      sym (get_or_from_slice_get xs k (get_or ys k d) d (sym (leaves.kept k inside other) ∙ slice_get-get_or ys k d inside))

  -- the part of the last has one less
  last-differs : (i : ℕ) → i ≡ (length xs - 1) / 32 → part i xs ≡ part i ys → ⊥
  last-differs i at same = omega (arith, leaves.fewer, length-part i xs, length-part i ys, ap length same)

  -- that of the place has another in it
  place-differs : (i : ℕ) → i ≡ place / 32 → i ≢ (length xs - 1) / 32 → part i xs ≡ part i ys → ⊥
  place-differs i at other same = by (slice_get_cases xs place).1
    where
      before : place < length ys
      before = omega (arith, leaves.fewer, leaves.within, at, other)

      whole : 32 * i + place % 32 ≡ place
      whole = omega (arith, at)

      inside : (zs : List X) (d : X) → get_or zs place d ≡ get_or (part i zs) (place % 32) d
      inside zs d = sym (get_or-part i (place % 32) zs d (omega arith) ∙ ap (λ n. get_or zs n d) whole)

      twice : (d : X) → slice_get xs place ≡ slice_get xs (length ys)
      twice d =
          slice_get-get_or xs place d leaves.within
          ∙ ap Some (inside xs d ∙ ap (λ zs. get_or zs (place % 32) d) same ∙ sym (inside ys d) ∙ taken-at d before)
          ∙ sym (slice_get-get_or xs (length ys) d (omega (arith, leaves.fewer)))

      by : ((x : X) × (place < length xs) × (slice_get xs place ≡ Some x) × (get_or xs place x ≡ x)) ⊎ ((length xs ≤ place) × (slice_get xs place ≡ None)) → ⊥
      by (inl found) = once place (length ys) before (omega (arith, leaves.fewer)) (twice found.0)
      by (inr past) = omega (arith, leaves.within, past.0)

  left-differs : (i : ℕ) → (length xs ≡ 33) ⊎ ((i ≡ place / 32) ⊎ (i ≡ (length xs - 1) / 32)) → is_block_over (length xs) i ≡ true
      → (is_block_over (length xs) i ≡ is_block_over (length ys) i) × (part i xs ≡ part i ys) → ⊥
  left-differs i (inl ends) there same =
      let after = (Decides-is_block_over (length ys) i).0 (sym same.0 ∙ there) in omega (arith, after.0, leaves.fewer)
  left-differs i (inr (inl at)) there same = settled (eqb i ((length xs - 1) / 32))
      (λ e. last-differs i ((Decides-eqb i ((length xs - 1) / 32)).0 e) same.1)
      (λ e. place-differs i at (λ z. let yes_ = (Decides-eqb i ((length xs - 1) / 32)).1 z in absurd (cc)) same.1)
  left-differs i (inr (inr at)) there same = last-differs i at same.1

  left-stays : (i : ℕ) → (32 < length xs) × (i < parts (length xs)) → length xs ≢ 33 → i ≢ place / 32 → i ≢ (length xs - 1) / 32
      → (is_block_over (length xs) i ≡ is_block_over (length ys) i) × (part i xs ≡ part i ys)
  left-stays i there going elsewhere earlier = (
    (Decides-is_block_over (length xs) i).1 there
        ∙ sym ((Decides-is_block_over (length ys) i).1 (omega (arith, there.0, leaves.fewer), omega (arith, there.1, earlier, leaves.fewer))),
    part-same i xs ys (omega (arith, long, leaves.fewer)) long
        (λ k d h. sym (kept-at (32 * i + k) d (omega (arith, elsewhere, h)) (omega (arith, long, h)))),
  )
    where
      long : 32 * i + 32 ≤ length ys
      long = omega (arith, there.1, earlier, leaves.fewer)

  went-first : (i : ℕ) → Decides (went (length xs) place levels.First i)
      (Differs (is_block_over (length xs) i) (is_block_over (length ys) i) (part i xs) (part i ys))
  went-first i = (
    λ t. let tells = (went-tells (length xs) place i).0 t in
        let there : is_block_over (length xs) i ≡ true = (Decides-is_block_over (length xs) i).1 tells.0 in
        (first_there (is_block_over (length xs) i) (is_block_over (length ys) i) there, left-differs i tells.1 there),
    λ h. (went-tells (length xs) place i).1 (
      was h,
      settled (eqb (length xs) 33) (λ e. inl ((Decides-eqb (length xs) 33).0 e))
          (λ e. settled (eqb i (place / 32)) (λ d. inr (inl ((Decides-eqb i (place / 32)).0 d)))
          (λ d. settled (eqb i ((length xs - 1) / 32)) (λ l. inr (inr ((Decides-eqb i ((length xs - 1) / 32)).0 l)))
          (λ l. absurd (h.1 (left-stays i (was h) (unequal (length xs) 33 e) (unequal i (place / 32) d) (unequal i ((length xs - 1) / 32) l)))))),
    ),
  )
    where
      was : Differs (is_block_over (length xs) i) (is_block_over (length ys) i) (part i xs) (part i ys) → (32 < length xs) × (i < parts (length xs))
      was h = one_there (is_block_over (length xs) i) (is_block_over (length ys) i) h.0
          (λ e. (Decides-is_block_over (length xs) i).0 e)
          (λ e. let after = (Decides-is_block_over (length ys) i).0 e in (omega (arith, after.0, leaves.fewer), omega (arith, after.1, leaves.fewer)))

module _ {Name Node : Type 0} (member : Name → Node) (block : Level → ℕ → Node) (list after : List Name) (place : ℕ)
    (leaves : Leaves place list after) (once : HasEachOnce (map member list)) where
  less : length list - 1 ≡ length after
  less = omega (arith, leaves.fewer)

  pub went-told : (level : Level) (i : ℕ) → Decides (went (length list) place level i) (IsChangedBlock member block list after level i)
  went-told levels.First i =
      let told = subst (λ n. Decides (went n place levels.First i) (Differs (is_block_over n i) (is_block_over (length after) i) (part i (map member list)) (part i (map member after))))
      (length-map list member)
      (subst (λ n. Decides (went (length (map member list)) place levels.First i) (Differs (is_block_over (length (map member list)) i) (is_block_over n i) (part i (map member list)) (part i (map member after))))
      (length-map after member)
      (went-first (map member list) (map member after) place (figures-leave member place list after leaves) once i)) in
      (λ t. changed-first member block list after i (told.0 t), λ h. told.1 (first-changed member block list after i h))
  went-told levels.Second i =
      let told = second-told block (length after) (length list) leaves.fewer i in
      let same : came (length after) levels.Second i ≡ went (length list) place levels.Second i = ap (λ n. came n levels.Second i) (sym less) in (
        λ t. changed-second member block list after i
            (Differs-flip (is_block_over (parts (length after)) i) (is_block_over (parts (length list)) i)
            (part i (firsts block (length after))) (part i (firsts block (length list))) (told.0 (same ∙ t))),
        λ h. sym same ∙ told.1 (Differs-flip (is_block_over (parts (length list)) i) (is_block_over (parts (length after)) i)
            (part i (firsts block (length list))) (part i (firsts block (length after))) (second-changed member block list after i h)),
      )

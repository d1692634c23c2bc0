-- What a reader adds up, each once.
use Rattle.std.proofs.Common.{◌≡◌, ◌⊎◌, inl, inr, ℕ, ◌+◌, ◌*◌, ◌<◌, ◌≤◌, Bool, true, false, cond, leb, List, Some, None, length, get_or, slice_get, map, sym, ap, ◌∙◌, arith}
use Rattle.std.specs.List.{range_with_len}
use Rattle.std.specs.Option.{option_map}
use Rattle.std.proofs.lemmas.List.{length-map}
use Rattle.std.proofs.lemmas.List.FromFn.{length-map-range_with_len, get_or-map-range_with_len}
use Rattle.std.proofs.lemmas.Option.{same_Some, slice_get-get_or, slice_get-map, slice_get_cases}
use Rattle.scr_sum_tree.specs.Blocks.{HasEachOnce, firsts, part, parts, seconds}
use Rattle.scr_sum_tree.specs.Readers.{AreApart, added_by}
use Rattle.scr_sum_tree.specs.declared.blocks.Level.{Level}
use Rattle.scr_sum_tree.specs.declared.blocks.Level.TheVariants as levels
use Rattle.scr_sum_tree.specs.declared.readers.Reader.{Reader}
use Rattle.scr_sum_tree.specs.declared.readers.Reader.TheVariants as readers
use Rattle.scr_sum_tree.proofs.PartLemmas.{length-part, get_or-part}

module _ {X : Type 0} where
  -- an element of a list at a place
  found : (xs : List X) (k : ℕ) → k < length xs → (x : X) × (slice_get xs k ≡ Some x) × (get_or xs k x ≡ x)
  found xs k inside = by (slice_get_cases xs k).1
    where
      by : ((x : X) × (k < length xs) × (slice_get xs k ≡ Some x) × (get_or xs k x ≡ x)) ⊎ ((length xs ≤ k) × (slice_get xs k ≡ None))
          → (x : X) × (slice_get xs k ≡ Some x) × (get_or xs k x ≡ x)
      by (inl h) = (h.0, h.2, h.3)
      by (inr past) = absurd (omega (arith, past.0, inside))

module _ {X Y : Type 0} (f : X → Y) (apart : (a b : X) → f a ≡ f b → a ≡ b) where
  pub once-map : (xs : List X) → HasEachOnce xs → HasEachOnce (map f xs)
  once-map xs once j k before inside same =
      once j k before within (x.1 ∙ ap Some (apart x.0 y.0 figures) ∙ sym y.1)
    where
      within : k < length xs
      within = omega (arith, inside, length-map xs f)

      x : (x : X) × (slice_get xs j ≡ Some x) × (get_or xs j x ≡ x)
      x = found xs j (omega (arith, before, within))

      y : (x : X) × (slice_get xs k ≡ Some x) × (get_or xs k x ≡ x)
      y = found xs k within

      figures : f x.0 ≡ f y.0
      figures = same_Some (f x.0) (f y.0)
          (ap (option_map f) (sym x.1) ∙ sym (slice_get-map f xs j) ∙ same ∙ slice_get-map f xs k ∙ ap (option_map f) y.1)

once-range : {Y : Type 0} (f : ℕ → Y) → ((i j : ℕ) → f i ≡ f j → i ≡ j) → (n : ℕ) → HasEachOnce (map f (range_with_len 0 n))
once-range f apart n j k before inside same = omega (arith, before, apart j k figures)
  where
    within : k < n
    within = omega (arith, inside, length-map-range_with_len f 0 n)

    at : (i : ℕ) → i < n → slice_get (map f (range_with_len 0 n)) i ≡ Some (f i)
    at i h = slice_get-get_or (map f (range_with_len 0 n)) i (f 0) (omega (arith, h, length-map-range_with_len f 0 n))
        ∙ ap Some (get_or-map-range_with_len f 0 n i i (f 0) h (omega arith))

    figures : f j ≡ f k
    figures = same_Some (f j) (f k) (sym (at j (omega (arith, before, within))) ∙ same ∙ at k within)

once-part : {X : Type 0} (i : ℕ) (xs : List X) → HasEachOnce xs → HasEachOnce (part i xs)
once-part i xs once j k before inside same =
    once (32 * i + j) (32 * i + k) (omega (arith, before)) (omega (arith, inside, length-part i xs))
    (sym (at j (omega (arith, before, inside))) ∙ same ∙ at k inside)
  where
    at : (n : ℕ) → n < length (part i xs) → slice_get (part i xs) n ≡ slice_get xs (32 * i + n)
    at n h =
        let x = found (part i xs) n h in
        x.1 ∙ sym (slice_get-get_or xs (32 * i + n) x.0 (omega (arith, h, length-part i xs))
        ∙ ap Some (sym (get_or-part i n xs x.0 (omega (arith, h, length-part i xs))) ∙ x.2))

pub added-once : {Name Node : Type 0} (member : Name → Node) (block : Level → ℕ → Node) → AreApart member block → (list : List Name)
    → HasEachOnce list → (reader : Reader) → HasEachOnce (added_by member block list reader)
added-once member block apart list once readers.Whole = by (leb (length list) 32) (leb (parts (length list)) 32)
  where
    by : (s t : Bool) → HasEachOnce (cond s (map member list) (cond t (firsts block (length list)) (seconds block (length list))))
    by true t = once-map member apart.members list once
    by false true = once-range (block levels.First) apart.firsts (parts (length list))
    by false false = once-range (block levels.Second) apart.seconds (parts (parts (length list)))
added-once member block apart list once (readers.Block levels.First i) = once-part i (map member list) (once-map member apart.members list once)
added-once member block apart list once (readers.Block levels.Second i) =
    once-part i (firsts block (length list)) (once-range (block levels.First) apart.firsts (parts (length list)))

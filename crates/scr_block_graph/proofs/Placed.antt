-- What stands at a place of what is left of a sum, and of what a Block adds up.
use Rattle.std.proofs.Common.{◌≡◌, ℕ, ◌+◌, ◌*◌, ◌-◌, ◌<◌, ◌≤◌, Bool, true, false, cond, leb, ltb, List, ◌++◌, Some, None, length, get_or, slice_get, map, min, refl, sym, ap, ◌∙◌, arith}
use Rattle.std.specs.List.{range_with_len}
use Rattle.std.proofs.lemmas.Bool.Decides.{nat_tests}
use Rattle.std.proofs.lemmas.List.{length-append}
use Rattle.std.proofs.lemmas.List.FromFn.{length-map-range_with_len, get_or-map-range_with_len}
use Rattle.std.proofs.lemmas.Option.{slice_get-get_or, slice_get_past}
use Rattle.scr_sum_tree.specs.Blocks.{blocks_at, blocks_over, firsts, part, parts, seconds, tops}
use Rattle.scr_sum_tree.specs.declared.blocks.Level.{Level}
use Rattle.scr_sum_tree.specs.declared.blocks.Level.TheVariants as levels
use Rattle.scr_sum_tree.proofs.PartLemmas.{get_or-part, length-part}
use Rattle.scr_block_graph.proofs.Once.{at-place, behind, in-front}

-- ---- numbers in order

module _ {X : Type 0} (f : ℕ → X) (n k : ℕ) where
  pub range-there : k < n → slice_get (map f (range_with_len 0 n)) k ≡ Some (f k)
  range-there h =
      slice_get-get_or (map f (range_with_len 0 n)) k (f k) (omega (arith, h, length-map-range_with_len f 0 n))
      ∙ ap Some (get_or-map-range_with_len f 0 n k k (f k) h (omega arith))

  pub range-past : n ≤ k → slice_get (map f (range_with_len 0 n)) k ≡ None
  range-past h = slice_get_past (map f (range_with_len 0 n)) k (omega (arith, h, length-map-range_with_len f 0 n))

-- ---- parts

module _ {X : Type 0} (xs : List X) (i k : ℕ) where
  pub part-there : (own : ℕ) → own ≡ 32 * i + k → k < 32 → own < length xs → slice_get xs own ≡ slice_get (part i xs) k
  part-there own is few inside =
      let x = at-place xs own inside in
      x.1
      ∙ ap Some (sym (get_or-part i k xs x.0 few ∙ ap (λ n. get_or xs n x.0) (sym is) ∙ x.2))
      ∙ sym (slice_get-get_or (part i xs) k x.0 (omega (arith, is, few, inside, length-part i xs)))

  pub part-none : min 32 (length xs - 32 * i) ≤ k → slice_get (part i xs) k ≡ None
  part-none past = slice_get_past (part i xs) k (omega (arith, past, length-part i xs))

-- ---- lists one behind another

pub second-past : {X : Type 0} (xs ys : List X) (k : ℕ) → length xs ≤ k → slice_get (xs ++ ys) k ≡ slice_get ys (k - length xs)
second-past xs ys k past = by (ltb (k - length xs) (length ys)) refl
  where
    here : length xs + (k - length xs) ≡ k
    here = omega (arith, past)

    by : (t : Bool) → ltb (k - length xs) (length ys) ≡ t → slice_get (xs ++ ys) k ≡ slice_get ys (k - length xs)
    by true e = ap (slice_get (xs ++ ys)) (sym here) ∙ behind xs ys (k - length xs) (grind (arith, nat_tests, e))
    by false e =
        let beyond : length ys ≤ k - length xs = grind (arith, nat_tests, e) in
        slice_get_past (xs ++ ys) k (omega (arith, beyond, here, length-append xs ys)) ∙ sym (slice_get_past ys (k - length xs) beyond)

-- ---- what is left at the top

-- a list has no Blocks of a level where those below are at most 32
over-none : (n : ℕ) → blocks_over n ≡ 0 → leb n 32 ≡ true
over-none n none = by (ltb 32 n) refl
  where
    by : (t : Bool) → ltb 32 n ≡ t → leb n 32 ≡ true
    by true e = absurd (omega (arith, sym (ap (λ t. cond t (parts n) 0) e) ∙ none, more e))
      where
        more : ltb 32 n ≡ true → 32 < n
        more e = grind (arith, nat_tests, e)
    by false e = grind (arith, nat_tests, e)

over-some : (n : ℕ) → 0 < blocks_over n → (leb n 32 ≡ false) × (blocks_over n ≡ parts n)
over-some n some = by (ltb 32 n) refl
  where
    by : (t : Bool) → ltb 32 n ≡ t → (leb n 32 ≡ false) × (blocks_over n ≡ parts n)
    by true e = (grind (arith, nat_tests, e), ap (λ t. cond t (parts n) 0) e)
    by false e = absurd (omega (arith, some, ap (λ t. cond t (parts n) 0) e))

module _ {Name Node : Type 0} (member : Name → Node) (block : Level → ℕ → Node) (list : List Name) where
  abbrev top : Bool → Bool → List Node
  top s t = cond s (map member list) (cond t (firsts block (length list)) (seconds block (length list)))

  pub tops-members : blocks_at (length list) levels.First ≡ 0 → tops member block list ≡ map member list
  tops-members none = ap (λ s. top s (leb (parts (length list)) 32)) (over-none (length list) none)

  pub tops-firsts : 0 < blocks_at (length list) levels.First → blocks_at (length list) levels.Second ≡ 0
      → tops member block list ≡ map (block levels.First) (range_with_len 0 (blocks_at (length list) levels.First))
  tops-firsts some none =
      let over = over-some (length list) some in
      (λ i. top (over.0 i) (over-none (parts (length list)) none i))
      ∙ ap (λ n. map (block levels.First) (range_with_len 0 n)) (sym over.1)

  pub tops-seconds : 0 < blocks_at (length list) levels.First → 0 < blocks_at (length list) levels.Second
      → tops member block list ≡ map (block levels.Second) (range_with_len 0 (blocks_at (length list) levels.Second))
  tops-seconds some more =
      let over = over-some (length list) some in
      let above = over-some (parts (length list)) more in
      (λ i. top (over.0 i) (above.0 i))
      ∙ ap (λ n. map (block levels.Second) (range_with_len 0 n)) (sym above.1)

-- by the numbers of Blocks
module _ {Name Node : Type 0} (member : Name → Node) (block : Level → ℕ → Node) (names list : List Name) (same : names ≡ list) (first second : ℕ)
    (firsts-are : first ≡ blocks_at (length names) levels.First) (seconds-are : second ≡ blocks_at (length names) levels.Second) where
  first-is : first ≡ blocks_at (length list) levels.First
  first-is = firsts-are ∙ ap (λ l. blocks_at (length l) levels.First) same

  second-is : second ≡ blocks_at (length list) levels.Second
  second-is = seconds-are ∙ ap (λ l. blocks_at (length l) levels.Second) same

  pub at-members : first ≡ 0 → map member names ≡ tops member block list
  at-members none = ap (map member) same ∙ sym (tops-members member block list (sym first-is ∙ none))

  pub at-firsts : 0 < first → second ≡ 0 → map (block levels.First) (range_with_len 0 first) ≡ tops member block list
  at-firsts some none =
      ap (λ n. map (block levels.First) (range_with_len 0 n)) first-is
      ∙ sym (tops-firsts member block list (omega (arith, some, first-is)) (sym second-is ∙ none))

  pub at-seconds : 0 < first → 0 < second → map (block levels.Second) (range_with_len 0 second) ≡ tops member block list
  at-seconds some more =
      ap (λ n. map (block levels.Second) (range_with_len 0 n)) second-is
      ∙ sym (tops-seconds member block list (omega (arith, some, first-is)) (omega (arith, more, second-is)))

-- ---- one list behind another, of which the first is so long

module _ {X : Type 0} (xs ys : List X) (k n : ℕ) (long : length xs ≡ n) where
  pub front-of : k < n → slice_get xs k ≡ slice_get (xs ++ ys) k
  front-of h = sym (in-front xs ys k (omega (arith, long, h)))

  pub behind-of : n ≤ k → slice_get ys (k - n) ≡ slice_get (xs ++ ys) k
  behind-of h = ap (λ m. slice_get ys (k - m)) (sym long) ∙ sym (second-past xs ys k (omega (arith, long, h)))

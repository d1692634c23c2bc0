-- The lists of the Blocks that change: just those, each once, and few.
use Rattle.std.proofs.Common.{◌≡◌, ℕ, zero, suc, ◌+◌, ◌-◌, ◌/◌, ◌%◌, ◌<◌, ◌≤◌, ◌≢◌, ◌⊎◌, inl, inr, Bool, false, cond, eqb, ltb, leb, ◌&&◌, Decides, Contains, List, [], ◌∷◌, length, get_or, refl, sym, ap, subst, ◌∙◌, arith}
use Rattle.std.specs.List.{IsDistinct}
use Rattle.std.proofs.lemmas.Bool.Decides.{Decides-eqb, Decides-like, nat_tests}
use Rattle.scr_sum_tree.specs.Blocks.{parts}
use Rattle.scr_sum_tree.specs.ChangedBlocks.{grew, came, went, grown, coming, leaving}
use Rattle.scr_sum_tree.specs.declared.blocks.Level.{Level}
use Rattle.scr_sum_tree.specs.declared.blocks.Level.TheVariants as levels
use Rattle.scr_sum_tree.proofs.BlockChanges.{grew-tells, went-tells, settled, unequal}

-- ---- what stands in short lists

none : (i : ℕ) → Contains {X = ℕ} [] i → ⊥
none i h = omega (arith, h.1)

first : (a i : ℕ) (xs : List ℕ) → a ≡ i → Contains (a ∷ xs) i
first a i xs e = (0, omega arith, e)

later : (a i : ℕ) (xs : List ℕ) → Contains xs i → Contains (a ∷ xs) i
later a i xs h = (suc h.0, omega (arith, h.1), h.2)

either : (a i : ℕ) (xs : List ℕ) → Contains (a ∷ xs) i → (a ≡ i) ⊎ Contains xs i
either a i xs h = by h.0 h.1 h.2
  where
    by : (k : ℕ) → k < length (a ∷ xs) → get_or (a ∷ xs) k i ≡ i → (a ≡ i) ⊎ Contains xs i
    by zero within at = inl at
    by (suc k) within at = inr (k, omega (arith, within), at)

one : (a i : ℕ) → Contains (a ∷ []) i → a ≡ i
one a i h = by (either a i [] h)
  where
    by : (a ≡ i) ⊎ Contains [] i → a ≡ i
    by (inl e) = e
    by (inr n) = absurd (none i n)

two : (a b i : ℕ) → Contains (a ∷ b ∷ []) i → (a ≡ i) ⊎ (b ≡ i)
two a b i h = by (either a i (b ∷ []) h)
  where
    by : (a ≡ i) ⊎ Contains (b ∷ []) i → (a ≡ i) ⊎ (b ≡ i)
    by (inl e) = inl e
    by (inr n) = inr (one b i n)

-- 0 and 1 are all below 2
below_two : (i : ℕ) → i < 2 → Contains (0 ∷ 1 ∷ []) i
below_two zero h = first 0 0 (1 ∷ []) refl
below_two (suc zero) h = later 0 1 (1 ∷ []) (first 1 1 [] refl)
below_two (suc (suc i)) h = absurd (omega (arith, h))

-- ---- one comes last

module _ (count : ℕ) where
  abbrev over : Bool → Bool → List ℕ
  over s t = cond s [] (cond t (0 ∷ 1 ∷ []) (count / 32 ∷ []))

  -- the list is one of three
  grown-is : (P : List ℕ → Type 0) → (count < 32 → P []) → (count ≡ 32 → P (0 ∷ 1 ∷ [])) → (32 < count → P (count / 32 ∷ [])) → P (grown count)
  grown-is P few begins many = settled (ltb count 32)
      (λ e. subst P (sym (ap (λ s. over s (eqb count 32)) e)) (few (grind (arith, nat_tests, e))))
      (λ e. settled (eqb count 32)
      (λ d. subst P (sym (λ i. over (e i) (d i))) (begins ((Decides-eqb count 32).0 d)))
      (λ d. subst P (sym (λ i. over (e i) (d i))) (many (grind (arith, nat_tests, e, d)))))

  grown-listed : (i : ℕ) → Decides (grew count i) (Contains (grown count) i)
  grown-listed i = Decides-like (grew count i)
      (λ h. grown-is (λ xs. Contains xs i)
      (λ few. absurd (omega (arith, h.0, few)))
      (λ begins. below_two i (omega (arith, h.0, begins)))
      (λ many. first (count / 32) i [] (sym (at h.1 many))))
      (λ h. grown-is (λ xs. Contains xs i → ((32 < count + 1) × (i < parts (count + 1))) × ((count ≡ 32) ⊎ (i ≡ count / 32)))
      (λ few n. absurd (none i n))
      (λ begins n. ((omega (arith, begins), low begins (two 0 1 i n)), inl begins))
      (λ many n. ((omega (arith, many), omega (arith, many, one (count / 32) i n)), inr (sym (one (count / 32) i n)))) h)
      (grew-tells count i)
    where
      at : (count ≡ 32) ⊎ (i ≡ count / 32) → 32 < count → i ≡ count / 32
      at (inl e) many = absurd (omega (arith, e, many))
      at (inr e) many = e

      low : count ≡ 32 → (0 ≡ i) ⊎ (1 ≡ i) → i < parts (count + 1)
      low begins (inl e) = omega (arith, begins, e)
      low begins (inr e) = omega (arith, begins, e)

  grown-once : IsDistinct eqb (grown count)
  unfolding IsDistinct
  grown-once = grown-is (IsDistinct eqb) (λ h. tt) (λ h. ((refl, tt), (tt, tt))) (λ h. (tt, tt))

  grown-few : length (grown count) ≤ 2
  grown-few = grown-is (λ xs. length xs ≤ 2) (λ h. omega arith) (λ h. omega arith) (λ h. omega arith)

  -- more than one only where the level begins
  grown-one : count ≢ 32 → length (grown count) ≤ 1
  grown-one other = grown-is (λ xs. length xs ≤ 1) (λ h. omega arith) (λ h. absurd (other h)) (λ h. omega arith)

-- the second level's list is one of two
second-is : (P : List ℕ → Type 0) (count : ℕ) → (count % 32 ≡ 0 → P (grown (count / 32))) → (count % 32 ≢ 0 → P []) → P (coming count levels.Second)
second-is P count whole within = settled (eqb (count % 32) 0)
    (λ e. subst P (sym (ap (λ s. cond s (grown (count / 32)) []) e)) (whole ((Decides-eqb (count % 32) 0).0 e)))
    (λ e. subst P (sym (ap (λ s. cond s (grown (count / 32)) []) e)) (within (unequal (count % 32) 0 e)))

pub coming-listed : (count : ℕ) (level : Level) (i : ℕ) → Decides (came count level i) (Contains (coming count level) i)
coming-listed count levels.First i = grown-listed count i
coming-listed count levels.Second i = settled (eqb (count % 32) 0)
    (λ e. subst (λ s. Decides (s && grew (count / 32) i) (Contains (cond s (grown (count / 32)) []) i)) (sym e) (grown-listed (count / 32) i))
    (λ e. subst (λ s. Decides (s && grew (count / 32) i) (Contains (cond s (grown (count / 32)) []) i)) (sym e) ((λ t. absurd (cc)), λ n. absurd (none i n)))

pub coming-once : (count : ℕ) (level : Level) → IsDistinct eqb (coming count level)
unfolding IsDistinct
coming-once count levels.First = grown-once count
coming-once count levels.Second = second-is (IsDistinct eqb) count (λ whole. grown-once (count / 32)) (λ within. tt)

pub coming-few : (count : ℕ) → length (coming count levels.First) + length (coming count levels.Second) ≤ 3
coming-few count = second-is (λ xs. length (grown count) + length xs ≤ 3) count
    (λ whole. settled (eqb count 32)
    (λ e. omega (arith, grown-few count, grown-one (count / 32) (other ((Decides-eqb count 32).0 e))))
    (λ e. omega (arith, grown-one count (unequal count 32 e), grown-few (count / 32))))
    (λ within. omega (arith, grown-few count))
  where
    other : count ≡ 32 → count / 32 ≢ 32
    other e h = omega (arith, e, h)

-- ---- one leaves

module _ (count place : ℕ) where
  abbrev out : Bool → Bool → Bool → List ℕ
  out s t u = cond s [] (cond t (0 ∷ 1 ∷ []) (cond u (place / 32 ∷ []) (place / 32 ∷ (count - 1) / 32 ∷ [])))

  -- the list is one of four
  gone-is : (P : List ℕ → Type 0) → (count ≤ 32 → P []) → (count ≡ 33 → P (0 ∷ 1 ∷ []))
      → (33 < count → place / 32 ≡ (count - 1) / 32 → P (place / 32 ∷ []))
      → (33 < count → place / 32 ≢ (count - 1) / 32 → P (place / 32 ∷ (count - 1) / 32 ∷ [])) → P (leaving count place levels.First)
  gone-is P few ends own both = settled (leb count 32)
      (λ e. subst P (sym (ap (λ s. out s (eqb count 33) (eqb (place / 32) ((count - 1) / 32))) e)) (few (grind (arith, nat_tests, e))))
      (λ e. settled (eqb count 33)
      (λ d. subst P (sym (λ i. out (e i) (d i) (eqb (place / 32) ((count - 1) / 32)))) (ends ((Decides-eqb count 33).0 d)))
      (λ d. settled (eqb (place / 32) ((count - 1) / 32))
      (λ c. subst P (sym (λ i. out (e i) (d i) (c i))) (own (grind (arith, nat_tests, e, d)) ((Decides-eqb (place / 32) ((count - 1) / 32)).0 c)))
      (λ c. subst P (sym (λ i. out (e i) (d i) (c i))) (both (grind (arith, nat_tests, e, d)) (unequal (place / 32) ((count - 1) / 32) c)))))

  Goes : ℕ → Type 0
  Goes i = ((32 < count) × (i < parts count)) × ((count ≡ 33) ⊎ ((i ≡ place / 32) ⊎ (i ≡ (count - 1) / 32)))

  gone-listed : place < count → (i : ℕ) → Decides (went count place levels.First i) (Contains (leaving count place levels.First) i)
  unfolding Goes
  gone-listed inside i = Decides-like (went count place levels.First i) to (λ h. from h) (went-tells count place i)
    where
      same : 33 < count → place / 32 ≡ (count - 1) / 32 → (count ≡ 33) ⊎ ((i ≡ place / 32) ⊎ (i ≡ (count - 1) / 32)) → place / 32 ≡ i
      same many e (inl n) = absurd (omega (arith, many, n))
      same many e (inr (inl n)) = sym n
      same many e (inr (inr n)) = e ∙ sym n

      other : 33 < count → (count ≡ 33) ⊎ ((i ≡ place / 32) ⊎ (i ≡ (count - 1) / 32)) → Contains (place / 32 ∷ (count - 1) / 32 ∷ []) i
      other many (inl n) = absurd (omega (arith, many, n))
      other many (inr (inl n)) = first (place / 32) i ((count - 1) / 32 ∷ []) (sym n)
      other many (inr (inr n)) = later (place / 32) i ((count - 1) / 32 ∷ []) (first ((count - 1) / 32) i [] (sym n))

      to : ((32 < count) × (i < parts count)) × ((count ≡ 33) ⊎ ((i ≡ place / 32) ⊎ (i ≡ (count - 1) / 32))) → Contains (leaving count place levels.First) i
      to h = gone-is (λ xs. Contains xs i)
          (λ few. absurd (omega (arith, h.0, few)))
          (λ ends. below_two i (omega (arith, h.0, ends)))
          (λ many e. first (place / 32) i [] (same many e h.1))
          (λ many e. other many h.1)

      low : count ≡ 33 → (0 ≡ i) ⊎ (1 ≡ i) → i < parts count
      low ends (inl e) = omega (arith, ends, e)
      low ends (inr e) = omega (arith, ends, e)

      pair : 33 < count → (place / 32 ≡ i) ⊎ ((count - 1) / 32 ≡ i) → Goes i
      pair many (inl e) = ((omega (arith, many), omega (arith, many, e, inside)), inr (inl (sym e)))
      pair many (inr e) = ((omega (arith, many), omega (arith, many, e)), inr (inr (sym e)))

      from : Contains (leaving count place levels.First) i → Goes i
      from h = gone-is (λ xs. Contains xs i → Goes i)
          (λ few n. absurd (none i n))
          (λ ends n. ((omega (arith, ends), low ends (two 0 1 i n)), inl ends))
          (λ many e n. pair many (inl (one (place / 32) i n)))
          (λ many e n. pair many (two (place / 32) ((count - 1) / 32) i n)) h

  gone-once : IsDistinct eqb (leaving count place levels.First)
  unfolding IsDistinct
  gone-once = gone-is (IsDistinct eqb) (λ h. tt) (λ h. ((refl, tt), (tt, tt))) (λ h e. (tt, tt))
      (λ h e. ((differ (place / 32) ((count - 1) / 32) e, tt), (tt, tt)))
    where
      differ : (a b : ℕ) → a ≢ b → eqb a b ≡ false
      differ a b n = grind (arith, nat_tests, n)

  gone-few : length (leaving count place levels.First) ≤ 2
  gone-few = gone-is (λ xs. length xs ≤ 2) (λ h. omega arith) (λ h. omega arith) (λ h e. omega arith) (λ h e. omega arith)

pub leaving-listed : (count place : ℕ) → place < count → (level : Level) (i : ℕ) → Decides (went count place level i) (Contains (leaving count place level) i)
leaving-listed count place inside levels.First i = gone-listed count place inside i
leaving-listed count place inside levels.Second i = coming-listed (count - 1) levels.Second i

pub leaving-once : (count place : ℕ) (level : Level) → IsDistinct eqb (leaving count place level)
leaving-once count place levels.First = gone-once count place
leaving-once count place levels.Second = coming-once (count - 1) levels.Second

pub leaving-few : (count place : ℕ) → length (leaving count place levels.First) + length (leaving count place levels.Second) ≤ 4
leaving-few count place = omega (arith, gone-few count place, second)
  where
    second : length (coming (count - 1) levels.Second) ≤ 2
    second = second-is (λ xs. length xs ≤ 2) (count - 1) (λ h. grown-few ((count - 1) / 32)) (λ h. omega arith)

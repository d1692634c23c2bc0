-- Where a member comes or leaves and what is left at the top stays, a Block changes that the list has then.
use Rattle.std.proofs.Common.{◌≡◌, ◌⊎◌, inl, inr, ℕ, ◌+◌, ◌-◌, ◌/◌, ◌%◌, ◌<◌, ◌≤◌, Bool, true, false, cond, ◌&&◌, leb, refl, ap, ◌∙◌, arith}
use Rattle.std.proofs.lemmas.Bool.{cases_lt}
use Rattle.std.proofs.lemmas.Bool.Decides.{Decides-eqb, nat_tests}
use Rattle.scr_sum_tree.specs.Blocks.{is_block, parts, top_count}
use Rattle.scr_sum_tree.specs.ChangedBlocks.{came, went}
use Rattle.scr_sum_tree.specs.declared.blocks.Level.{Level}
use Rattle.scr_sum_tree.specs.declared.blocks.Level.TheVariants as levels
use Rattle.scr_sum_tree.proofs.BlockChanges.{grew-tells, went-tells}
use Rattle.scr_sum_tree.proofs.BlockTests.{Decides-is_block_over}

-- ---- how many are left at the top

abbrev over : ℕ → Bool → Bool → ℕ
over count s t = cond s count (cond t (parts count) (parts (parts count)))

abbrev Tops : ℕ → Type 0
Tops count = ((count ≤ 32) × (top_count count ≡ count))
    ⊎ ((32 < count) × (parts count ≤ 32) × (top_count count ≡ parts count))
    ⊎ ((32 < count) × (32 < parts count) × (top_count count ≡ parts (parts count)))

tops-cases : (count : ℕ) → Tops count
tops-cases count = by (leb count 32) refl (leb (parts count) 32) refl
  where
    by : (s : Bool) → leb count 32 ≡ s → (t : Bool) → leb (parts count) 32 ≡ t → Tops count
    by true e t d = inl (grind (arith, nat_tests, e), ap (λ s. over count s (leb (parts count) 32)) e)
    by false e true d =
        inr (inl (grind (arith, nat_tests, e), grind (arith, nat_tests, d), ap (λ s. over count s (leb (parts count) 32)) e ∙ ap (over count false) d))
    by false e false d =
        inr (inr (grind (arith, nat_tests, e), grind (arith, nat_tests, d), ap (λ s. over count s (leb (parts count) 32)) e ∙ ap (over count false) d))

-- ---- one comes

module _ (count : ℕ) (same : top_count count ≡ top_count (count + 1)) where
  more : 32 < count + 1
  more = by (tops-cases count) (tops-cases (count + 1))
    where
      by : Tops count → Tops (count + 1) → 32 < count + 1
      by (inl a) (inl b) = absurd (omega (arith, a.1, b.1, same))
      by (inr (inl a)) (inl b) = omega (arith, a.0)
      by (inr (inr a)) (inl b) = omega (arith, a.0)
      by a (inr (inl b)) = b.0
      by a (inr (inr b)) = b.0

  pub comes : (level : Level) × (i : ℕ) × (came count level i ≡ true) × (is_block (count + 1) level i ≡ true)
  comes = (
    levels.First,
    count / 32,
    (grew-tells count (count / 32)).1 ((more, omega arith), inr refl),
    (Decides-is_block_over (count + 1) (count / 32)).1 (more, omega arith),
  )

-- ---- one leaves

module _ (count place : ℕ) (within : place < count) (same : top_count count ≡ top_count (count - 1)) where
  many : 32 < count - 1
  many = by (tops-cases count) (tops-cases (count - 1))
    where
      by : Tops count → Tops (count - 1) → 32 < count - 1
      by (inl a) (inl b) = absurd (omega (arith, within, a.1, b.1, same))
      by (inr (inl a)) (inl b) = absurd (omega (arith, a.0, b.0, a.2, b.1, same))
      by (inr (inr a)) (inl b) = absurd (omega (arith, a.1, b.0))
      by a (inr (inl b)) = b.0
      by a (inr (inr b)) = b.0

  -- the last Block of the first level goes, and the level above stays as long
  deep : parts (count - 1) < parts count → (32 < parts (count - 1)) × (parts (parts count) ≡ parts (parts (count - 1)))
  deep fewer = by (tops-cases count) (tops-cases (count - 1))
    where
      by : Tops count → Tops (count - 1) → (32 < parts (count - 1)) × (parts (parts count) ≡ parts (parts (count - 1)))
      by (inl a) b = absurd (omega (arith, a.0, many))
      by (inr (inl a)) (inl b) = absurd (omega (arith, b.0, many))
      by (inr (inr a)) (inl b) = absurd (omega (arith, b.0, many))
      by (inr (inl a)) (inr (inl b)) = absurd (omega (arith, fewer, a.2, b.2, same))
      by (inr (inl a)) (inr (inr b)) = absurd (omega (arith, fewer, a.1, b.1))
      by (inr (inr a)) (inr (inl b)) = absurd (omega (arith, fewer, a.1, b.1, a.2, b.2, same))
      by (inr (inr a)) (inr (inr b)) = (b.1, omega (arith, a.2, b.2, same))

  pub leaves : (level : Level) × (i : ℕ) × (went count place level i ≡ true) × (is_block (count - 1) level i ≡ true)
  leaves = by (cases_lt (place / 32) (parts (count - 1)))
    where
      by : (place / 32 < parts (count - 1)) ⊎ (parts (count - 1) ≤ place / 32)
          → (level : Level) × (i : ℕ) × (went count place level i ≡ true) × (is_block (count - 1) level i ≡ true)
      by (inl inside) = (
        levels.First,
        place / 32,
        (went-tells count place (place / 32)).1 ((omega (arith, many), omega (arith, within)), inr (inl refl)),
        (Decides-is_block_over (count - 1) (place / 32)).1 (many, inside),
      )
      by (inr past) =
          let last : (count - 1) % 32 ≡ 0 = omega (arith, within, past, many) in
          let fewer : parts (count - 1) < parts count = omega (arith, last, many) in
          let stays = deep fewer in
          let first = (Decides-eqb ((count - 1) % 32) 0).1 last in (
            levels.Second,
            ((count - 1) / 32) / 32,
            both first ((grew-tells ((count - 1) / 32) (((count - 1) / 32) / 32)).1
                ((omega (arith, last, stays.0), omega arith), inr refl)),
            (Decides-is_block_over (parts (count - 1)) (((count - 1) / 32) / 32)).1 (stays.0, omega (arith, last, many, stays.1)),
          )
        where
          both : {a b : Bool} → a ≡ true → b ≡ true → (a && b) ≡ true
          both e d = λ k. e k && d k

-- What the tests of Blocks tell.
use Rattle.std.proofs.Common.{◌≡◌, ℕ, ◌<◌, Bool, true, false, cond, ltb, Decides, refl, sym, ap, ◌∙◌, arith}
use Rattle.std.proofs.lemmas.Bool.Decides.{Decides-ltb, nat_tests}
use Rattle.scr_sum_tree.specs.Blocks.{parts, blocks_over, is_block_over}

-- how many Blocks there are, where there are any
pub over-many : (count : ℕ) → 32 < count → blocks_over count ≡ parts count
over-many count many = ap (λ t. cond t (parts count) 0) ((Decides-ltb 32 count).1 many)

pub Decides-is_block_over : (count i : ℕ) → Decides (is_block_over count i) ((32 < count) × (i < parts count))
Decides-is_block_over count i = by (ltb 32 count) refl
  where
    at : (t : Bool) → ltb 32 count ≡ t → is_block_over count i ≡ ltb i (cond t (parts count) 0)
    at t e = ap (λ s. ltb i (cond s (parts count) 0)) e

    by : (t : Bool) → ltb 32 count ≡ t → Decides (is_block_over count i) ((32 < count) × (i < parts count))
    by true e = (
      λ h. ((Decides-ltb 32 count).0 e, (Decides-ltb i (parts count)).0 (sym (at true e) ∙ h)),
      λ h. at true e ∙ (Decides-ltb i (parts count)).1 h.1,
    )
    by false e = (
      λ h. absurd (omega (arith, (Decides-ltb i 0).0 (sym (at false e) ∙ h))),
      λ h. absurd (grind (arith, nat_tests, e, h.0)),
    )

-- Of a sum that is read before and after, those Blocks change that the laws of Blocks tell.
use Rattle.std.proofs.Common.{◌≡◌, ◌↔◌, Bool, true, ◌&&◌, ◌||◌, length, refl, sym, ap, subst, ◌∙◌, false}
use Rattle.std.specs.Prelude.{IsTrue}
use Rattle.scr_factors.specs.Values.{FactorValues}
use Rattle.scr_sum_tree.specs.Blocks.{is_block}
use Rattle.scr_sum_tree.specs.ChangedBlocks.{IsChangedBlock}
use Rattle.scr_block_graph.specs.Changed.{IsChangedIn}
use Rattle.scr_block_graph.specs.Graph.{Rolled, block_point, member_point, reads, roll_in}
use Rattle.scr_block_graph.specs.declared.point.Block.{Block}
use Rattle.scr_block_graph.specs.declared.point.Point.TheVariants as points

module _ (factors : FactorValues) (before after : Rolled) (block : Block)
    (was : reads before.sheet block.sum ≡ true) (is : reads after.sheet block.sum ≡ true) where
  abbrev there : Bool
  there = is_block (length (roll_in before block.sum)) block.level block.index

  abbrev there-now : Bool
  there-now = is_block (length (roll_in after block.sum)) block.level block.index

  has : (reads before.sheet block.sum && there) ≡ there
  has = ap (λ t. t && there) was

  has-now : (reads after.sheet block.sum && there-now) ≡ there-now
  has-now = ap (λ t. t && there-now) is

  pub block-changed : IsChangedIn factors before after (points.Block block)
      ↔ IsChangedBlock (member_point block.sum) (block_point block.sum) (roll_in before block.sum) (roll_in after block.sum) block.level block.index
  block-changed = (
    λ h. record {
      live = subst (λ t. IsTrue (t || there-now)) has (subst (λ t. IsTrue ((reads before.sheet block.sum && there) || t)) has-now h.live);
      changed = λ same. h.changed (record { live = has ∙ same.live ∙ sym has-now; own = refl; sources = same.sources });
    },
    λ h. record {
      live = subst (λ t. IsTrue (t || (reads after.sheet block.sum && there-now))) (sym has) (subst (λ t. IsTrue (there || t)) (sym has-now) h.live);
      changed = λ same. h.changed (record { live = sym has ∙ same.live ∙ has-now; sources = same.sources });
    },
  )

-- ---- a sum that is read before or after alone

-- of two tests of which one fails, one holds where the other does
left-holds : (a b x y : Bool) → a ≡ true → b ≡ false → ((a && x) || (b && y)) ≡ x
left-holds true false true y r s = refl
left-holds true false false y r s = refl
left-holds true true x y r s = absurd (cc)
left-holds false b x y r s = absurd (cc)

right-holds : (a b x y : Bool) → a ≡ false → b ≡ true → ((a && x) || (b && y)) ≡ y
right-holds false true x y r s = refl
right-holds false false x y r s = absurd (cc)
right-holds true b x y r s = absurd (cc)

differ : (a b x y : Bool) → a ≡ true → b ≡ false → x ≡ true → (a && x) ≡ (b && y) → ⊥
differ true false true y r s t e = absurd (cc)
differ true false false y r s t e = absurd (cc)
differ true true x y r s t e = absurd (cc)
differ false b x y r s t e = absurd (cc)

module _ (factors : FactorValues) (before after : Rolled) (block : Block) where
  pub block-ends : reads before.sheet block.sum ≡ true → reads after.sheet block.sum ≡ false
      → IsChangedIn factors before after (points.Block block)
      ↔ (is_block (length (roll_in before block.sum)) block.level block.index ≡ true)
  block-ends was is = (
    λ h. sym (left-holds (reads before.sheet block.sum) (reads after.sheet block.sum) there there-now was is) ∙ h.live,
    λ has. record {
      live = left-holds (reads before.sheet block.sum) (reads after.sheet block.sum) there there-now was is ∙ has;
      changed = λ same. differ (reads before.sheet block.sum) (reads after.sheet block.sum) there there-now was is has same.live;
    },
  )
    where
      there : Bool
      there = is_block (length (roll_in before block.sum)) block.level block.index

      there-now : Bool
      there-now = is_block (length (roll_in after block.sum)) block.level block.index

  pub block-begins : reads before.sheet block.sum ≡ false → reads after.sheet block.sum ≡ true
      → IsChangedIn factors before after (points.Block block)
      ↔ (is_block (length (roll_in after block.sum)) block.level block.index ≡ true)
  block-begins was is = (
    λ h. sym (right-holds (reads before.sheet block.sum) (reads after.sheet block.sum) there there-now was is) ∙ h.live,
    λ has. record {
      live = right-holds (reads before.sheet block.sum) (reads after.sheet block.sum) there there-now was is ∙ has;
      changed = λ same. differ (reads after.sheet block.sum) (reads before.sheet block.sum) there-now there is was has (sym same.live);
    },
  )
    where
      there : Bool
      there = is_block (length (roll_in before block.sum)) block.level block.index

      there-now : Bool
      there-now = is_block (length (roll_in after block.sum)) block.level block.index

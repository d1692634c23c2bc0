use Rattle.std.proofs.Common.{◌≡◌, ℕ, Some, sym, ap, ap₂, subst, ◌∙◌}
use Rattle.scr_sum_tree.specs.declared.blocks.Level.{Level}
use Rattle.scr_sum_tree.specs.declared.blocks.Level.TheVariants as levels
use Rattle.scr_sum_slots.specs.Parts.{AreOwn, Parted, part_at, slot_of}
use Rattle.scr_sum_slots.specs.declared.parts.Part.{Part}
use Rattle.scr_sum_slots.proofs.Views.{no-some, one-some}
use Rattle.scr_tree.specs.First.{BeginsAt}
use Rattle.scr_tree.proofs.graph.Numbers.list_begun.Goals as goal

-- the first part of the list that begins at the slot
first-part : (parts own : Parted) → parts ≡ own → AreOwn parts → (slot list : ℕ) → BeginsAt own slot list
    → part_at slot parts ≡ Some (record { list = list; level = levels.First; index = 0 })
first-part parts own same are slot list begins =
    are.own (record { list = list; level = levels.First; index = 0 }) slot (subst (λ p. BeginsAt p slot list) (sym same) begins)

pub returns-in_err-part-clause-absent : goal.returns-in_err-part-clause-absent
returns-in_err-part-clause-absent c = λ none list begins.
    no-some
    (c.in_err-part.ensures
    ∙ first-part c.parts-parts.result.now c.args.self.now.lists.now.parts c.parts-parts.ensures c.len-slots.ensures.own c.args.slot list begins)

pub returns-in-First-clause-there : goal.returns-in-First-clause-there
returns-in-First-clause-there c =
    let part = c.in_ok-part.part in
    let parts = c.args.self.now.lists.now.parts in
    ap₂ (λ (l : Level) (i : ℕ). slot_of (record { list = part.list; level = l; index = i }) parts) (sym c.in-First.is) (sym c.if-part-eq0.true)
    ∙ (subst AreOwn c.parts-parts.ensures c.len-slots.ensures.own).back c.args.slot part
    (subst (λ p. part_at c.args.slot p ≡ Some part) c.parts-parts.ensures (sym c.in_ok-part.ensures))

pub returns-in_default-clause-absent : goal.returns-in_default-clause-absent
returns-in_default-clause-absent c = λ none list begins.
    c.if-part-eq0.false
    (ap (λ (p : Part). p.index)
    (one-some (c.in_ok-part.ensures
    ∙ first-part c.parts-parts.result.now c.args.self.now.lists.now.parts c.parts-parts.ensures c.len-slots.ensures.own c.args.slot list begins)))

pub returns-in_default-2-clause-absent : goal.returns-in_default-2-clause-absent
returns-in_default-2-clause-absent c = λ none list begins.
    let level : c.in_ok-part.part.level ≡ levels.First =
    ap (λ (p : Part). p.level)
    (one-some (c.in_ok-part.ensures
    ∙ first-part c.parts-parts.result.now c.args.self.now.lists.now.parts c.parts-parts.ensures c.len-slots.ensures.own c.args.slot list begins)) in
    let clash : levels.Second ≡ levels.First = sym c.in_default.is ∙ level in
    absurd (cc)

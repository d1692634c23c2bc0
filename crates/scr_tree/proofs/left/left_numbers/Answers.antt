use Rattle.std.proofs.Common.{◌≡◌, ◌+◌, Vec, ℕ, sym, ap, subst, ◌∙◌, arith}
use Rattle.std.specs.Global.{Global}
use Rattle.scr_tree.proofs.LeftNumbers.{AreLeftBelow, below-all, below-dead, below-live, below-none}
use Rattle.scr_tree.proofs.left.left_numbers.Goals as goal
use Rattle.scr_tree.proofs.left.left_numbers.Goals.{then-is_left_at+in_ok-push, else-is_left_at}

pub loop-number-init : goal.loop-number-init
loop-number-init c = below-none c.args.numbers c.new-list.result.items c.new-list.ensures.items

pub loop-number-preserved : goal.loop-number-preserved
loop-number-preserved c =
    let numbers = c.args.numbers in
    let number = c.loop-number.number in
    let list = c.loop-number.list.items in
    let so = c.loop-number.invariant in
    elim c.if-is_left_at.branch [
      | then-is_left_at+in_ok-push w ↦
          below-live numbers number list so c.if-is_left_at.list.items (c.is_left_at.ensures.there w.if-is_left_at.true)
          (ap (λ (v : Vec ℕ Global). v.items) w.list-is ∙ w.in_ok-push.ensures.items)
      | else-is_left_at w ↦
          subst (λ items. AreLeftBelow numbers (number + 1) items) (sym (ap (λ (v : Vec ℕ Global). v.items) w.list-is))
          (below-dead numbers number list so (c.is_left_at.ensures.absent w.if-is_left_at.false))
    ]

pub returns : goal.returns
returns c =
    let end : c.loop-number.number ≡ 153 = omega (arith, c.loop-number-test.false, c.loop-number.auto.number-end) in
    below-all c.args.numbers c.requires.numbers c.loop-number.list.items
    (subst (λ n. AreLeftBelow c.args.numbers n c.loop-number.list.items) end c.loop-number.invariant)

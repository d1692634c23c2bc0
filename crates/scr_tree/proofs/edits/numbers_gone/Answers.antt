use Rattle.std.proofs.Common.{Some, refl, sym, subst}
use Rattle.scr_tree.specs.Changed.{AreGone}
use Rattle.scr_tree.proofs.edits.numbers_gone.Goals as goal

pub returns-in_ok-linked_numbers-in-Goes : goal.returns-in_ok-linked_numbers-in-Goes
returns-in_ok-linked_numbers-in-Goes c =
    let numbers = c.in_ok-linked_numbers-in-Goes.field-0 in
    subst (λ step. AreGone step c.args.edit.now c.args.sheet.now c.args.places.now c.args.touched.now (Some numbers)) (sym c.in-Goes.is)
    (numbers, refl, c.in_ok-linked_numbers-in-Goes.ensures.once, c.in_ok-linked_numbers-in-Goes.ensures.starts)

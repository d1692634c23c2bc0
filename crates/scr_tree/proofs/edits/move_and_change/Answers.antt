use Rattle.std.proofs.Common.{ap, subst, ◌∙◌}
use Rattle.scr_sum_slots.specs.Parts.{AreOwn}
use Rattle.scr_reachability.specs.Marks.{MarkedNumbers}
use Rattle.scr_tree.proofs.Followed.{can-follow-lists, can-put-back, is-moved, undone-lists}
use Rattle.scr_tree.proofs.TakenUp.{err-so}
use Rattle.scr_tree.proofs.edits.move_and_change.Goals as goal

pub follow_lists-requires : goal.follow_lists-requires
follow_lists-requires g c =
    can-follow-lists c.args.footing.factors.now c.args.footing.book.now c.args.taken c.args.gone c.args.state.now c.requires c.sheet.ensures.valid
    c.group_seats.ensures.kept

pub change-requires-after_bounds : goal.change-requires-after_bounds
change-requires-after_bounds g c κs within =
    is-moved c.args.footing.factors.now c.args.footing.book.now c.args.taken c.args.gone c.args.state.now c.requires c.sheet.ensures.valid
    c.group_seats.ensures.kept c.in_ok-moved.moved c.follow_lists.new.state c.in_ok-moved.ensures.ok c.len.ensures.apart c.len.ensures.within
    (subst AreOwn c.parts.ensures c.len-2.ensures.own)

pub returns-in_err-moved-clause-err : goal.returns-in_err-moved-clause-err
returns-in_err-moved-clause-err g c = err-so _ _ c.in_err-moved.ensures.err

pub returns-in_err-moved-clause-marks : goal.returns-in_err-moved-clause-marks
returns-in_err-moved-clause-marks g c = ap (λ (m : MarkedNumbers). m.list) c.follow_lists.ensures.marks ∙ c.requires.marks

pub put_lists_back-requires : goal.put_lists_back-requires
put_lists_back-requires g c = (
  c.args.state.now.lists,
  can-put-back c.args.footing.book.now c.args.taken.stood.now c.in_ok-moved.moved c.args.state.now c.follow_lists.new.state c.change.new.state
      c.in_ok-moved.ensures.ok c.in-Err.ensures.err,
)

pub returns-in-Err-clause-err : goal.returns-in-Err-clause-err
returns-in-Err-clause-err g c =
    undone-lists c.args.footing.book.now c.args.taken.stood.now c.in_ok-moved.moved c.args.state.now c.follow_lists.new.state c.change.new.state
    c.put_lists_back.new.state c.in_ok-moved.ensures.ok c.in-Err.ensures.err c.put_lists_back.ensures.others
    (c.put_lists_back.ensures.lists c.args.state.now.lists
    (can-put-back c.args.footing.book.now c.args.taken.stood.now c.in_ok-moved.moved c.args.state.now c.follow_lists.new.state c.change.new.state
    c.in_ok-moved.ensures.ok c.in-Err.ensures.err))

pub returns-in-Err-clause-marks : goal.returns-in-Err-clause-marks
returns-in-Err-clause-marks g c = ap (λ (m : MarkedNumbers). m.list) c.put_lists_back.ensures.others.marks ∙ c.change.ensures.marks

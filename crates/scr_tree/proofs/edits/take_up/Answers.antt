use Rattle.scr_tree.proofs.Followed.{can-go-back, can-take, followed, keeps-placed, kept-back}
use Rattle.scr_tree.proofs.TakenUp.{err-so}
use Rattle.scr_tree.proofs.edits.take_up.Goals as goal

pub follow-requires : goal.follow-requires
follow-requires g c =
    can-take c.args.footing.factors.now c.args.footing.book.now c.args.taken c.args.gone c.args.state.now c.requires

pub move_and_change-requires-after_bounds : goal.move_and_change-requires-after_bounds
move_and_change-requires-after_bounds g c κs within =
    followed c.args.footing.factors.now c.args.footing.book.now c.args.taken c.args.gone c.args.state.now c.follow.new.places
    c.requires c.in_ok-follow.ensures.ok c.ceiling_after-state.result c.ceiling_after-state.ensures

pub returns-in_err-follow-clause-err : goal.returns-in_err-follow-clause-err
returns-in_err-follow-clause-err g c =
    err-so _ _
    (keeps-placed c.args.footing.factors.now c.args.footing.book.now c.args.taken c.args.state.now c.follow.new.places
    c.in_err-follow.ensures.err)

pub take_back-requires : goal.take_back-requires
take_back-requires g c =
    can-go-back c.args.footing.factors.now c.requires.before c.args.footing.book.now c.args.taken c.requires.by
    c.args.state.now c.requires.state_before c.follow.new.places c.in_ok-follow.ensures.ok _ c.move_and_change.new.state c.in-Err.ensures.err

pub returns-in-Err-clause-err : goal.returns-in-Err-clause-err
returns-in-Err-clause-err g c = λ before by is marks. (
  kept-back c.args.footing.factors.now before c.args.footing.book.now c.args.taken by c.args.state.now is c.follow.new.places
      c.in_ok-follow.ensures.ok _ c.move_and_change.new.state c.in-Err.ensures.err c.take_back.new.places c.take_back.ensures,
  c.move_and_change.ensures.marks,
)

use Rattle.scr_sum_slots.proofs.Fronts.{on-err}
use Rattle.scr_member_index.proofs.Seated.{cut-same}
use Rattle.scr_member_index.proofs.parting.extend.Goals as goal

pub returns-then-is_err-clause-err : goal.returns-then-is_err-clause-err
returns-then-is_err-clause-err c =
    let change = c.args.change.now in
    let part = c.extend_all-extended.ensures.part in
    on-err c.extend_all-extended.result
    (cut-same change.table c.args.firsts.now change.before change.after c.requires.own.0 c.requires.own.1 part.0 part.1
    c.args.parts.now c.extend_all-extended.new.parts c.cut.new.parts c.requires.parts part.2 c.cut.ensures.cut c.extend_all-extended.ensures.kept c.cut.ensures.kept)

pub returns-then-is_err-clause-kept : goal.returns-then-is_err-clause-kept
returns-then-is_err-clause-kept c =
    let change = c.args.change.now in
    let part = c.extend_all-extended.ensures.part in
    (cut-same change.table c.args.firsts.now change.before change.after c.requires.own.0 c.requires.own.1 part.0 part.1
    c.args.parts.now c.extend_all-extended.new.parts c.cut.new.parts c.requires.parts part.2 c.cut.ensures.cut c.extend_all-extended.ensures.kept c.cut.ensures.kept).kept

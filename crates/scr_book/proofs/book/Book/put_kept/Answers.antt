use Rattle.scr_book.specs.declared.undo.Undo.{Undo}
use Rattle.scr_book.proofs.BookMoves.{fits-now, leads-back, lists-back}
use Rattle.scr_book.proofs.book.Book.put_kept.Goals as goal

pub returns-clause-back : goal.returns-clause-back
returns-clause-back c =
    let undo : Undo = record { before = c.in_ok-before.before; standing = c.standing-standing.result } in
    leads-back c.args.edit.now undo c.self.inside.ledger c.sheet.result.now c.self.inside.rolls c.args.self.now c.put.new.self c.self.view_is
    c.sheet.ensures.sheet c.in_ok-put.ensures.ok c.standing-standing.ensures c.in_ok-before.ensures.back

pub returns-clause-rolls_back : goal.returns-clause-rolls_back
returns-clause-rolls_back c =
    let undo : Undo = record { before = c.in_ok-before.before; standing = c.standing-standing.result } in
    lists-back c.args.edit.now undo c.self.inside.ledger c.sheet.result.now c.self.inside.rolls c.args.self.now c.put.new.self c.self.view_is
    c.sheet.ensures.sheet c.in_ok-put.ensures.ok c.standing-standing.ensures c.in_ok-put.ensures.returns

pub returns-clause-fits : goal.returns-clause-fits
returns-clause-fits c =
    let undo : Undo = record { before = c.in_ok-before.before; standing = c.standing-standing.result } in
    fits-now c.args.edit.now undo c.self.inside.ledger c.sheet.result.now c.self.inside.rolls c.args.self.now c.put.new.self c.self.view_is
    c.sheet.ensures.sheet c.in_ok-put.ensures.ok c.standing-standing.ensures c.in_ok-before.ensures.back c.in_ok-before.ensures.fits
    c.in_ok-put.ensures.goes_back

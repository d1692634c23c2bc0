use Rattle.std.proofs.Common.{◌<◌, ap, subst, sym, ◌∙◌}
use Rattle.scr_num.specs.Rounding.{ends}
use Rattle.scr_board.specs.Rounds.{word_of}
use Rattle.scr_board.specs.States.{holds, stored_of}
use Rattle.scr_board.specs.declared.views.View.{View}
use Rattle.scr_board.specs.Passes.{view}
use Rattle.scr_board.specs.Views.{view_stored}
use Rattle.scr_board.proofs.Passing.{held_fourth, held_second, held_third, listed, pass_put, stored_all, stored_first, stored_fourth, stored_second, stored_third}
use Rattle.scr_board.proofs.board.Board.put.Goals as goal

pub store_word-requires-clause-stored : goal.store_word-requires-clause-stored
store_word-requires-clause-stored c = stored_first (view c.args.pass.now) c.args.n c.requires.pass.unstored c.requires.hand

pub store_word-requires-clause-value : goal.store_word-requires-clause-value
store_word-requires-clause-value c = listed (view c.args.pass.now) c.args.n (ends c.args.span) (record { low = c.halves-first.ensures.within; high = c.halves-third.ensures.within; ordered = c.args.span.ordered }) c.requires.worked 0 _ c.halves-first.ensures.upper

pub store_word-requires-2-clause-hand : goal.store_word-requires-2-clause-hand
store_word-requires-2-clause-hand c = subst (λ (w : View). 0 < holds c.args.n w.progress.hand) (sym c.store_word.ensures.view)
    (held_second (view c.args.pass.now) c.args.n c.requires.pass.unstored c.requires.hand)

pub store_word-requires-2-clause-stored : goal.store_word-requires-2-clause-stored
store_word-requires-2-clause-stored c = ap (λ (w : View). stored_of c.args.n w.progress.hand) c.store_word.ensures.view
    ∙ stored_second (view c.args.pass.now) c.args.n c.requires.pass.unstored c.requires.hand

pub store_word-requires-2-clause-value : goal.store_word-requires-2-clause-value
store_word-requires-2-clause-value c = listed (view c.args.pass.now) c.args.n (ends c.args.span) (record { low = c.halves-first.ensures.within; high = c.halves-third.ensures.within; ordered = c.args.span.ordered }) c.requires.worked 1 _ c.halves-first.ensures.lower
    ∙ sym (ap (λ (w : View). word_of w.round c.args.n 1) c.store_word.ensures.view)

pub store_word-requires-3-clause-hand : goal.store_word-requires-3-clause-hand
store_word-requires-3-clause-hand c =
    subst (λ (w : View). 0 < holds c.args.n w.progress.hand) (sym (c.store_word-2.ensures.view ∙ ap (view_stored c.args.n) c.store_word.ensures.view))
    (held_third (view c.args.pass.now) c.args.n c.requires.pass.unstored c.requires.hand)

pub store_word-requires-3-clause-stored : goal.store_word-requires-3-clause-stored
store_word-requires-3-clause-stored c =
    ap (λ (w : View). stored_of c.args.n w.progress.hand) (c.store_word-2.ensures.view ∙ ap (view_stored c.args.n) c.store_word.ensures.view)
    ∙ stored_third (view c.args.pass.now) c.args.n c.requires.pass.unstored c.requires.hand

pub store_word-requires-3-clause-value : goal.store_word-requires-3-clause-value
store_word-requires-3-clause-value c = listed (view c.args.pass.now) c.args.n (ends c.args.span) (record { low = c.halves-first.ensures.within; high = c.halves-third.ensures.within; ordered = c.args.span.ordered }) c.requires.worked 2 _ c.halves-third.ensures.upper
    ∙ sym (ap (λ (w : View). word_of w.round c.args.n 2) (c.store_word-2.ensures.view ∙ ap (view_stored c.args.n) c.store_word.ensures.view))

pub store_word-requires-4-clause-hand : goal.store_word-requires-4-clause-hand
store_word-requires-4-clause-hand c =
    subst (λ (w : View). 0 < holds c.args.n w.progress.hand)
    (sym (c.store_word-3.ensures.view ∙ ap (view_stored c.args.n) (c.store_word-2.ensures.view ∙ ap (view_stored c.args.n) c.store_word.ensures.view)))
    (held_fourth (view c.args.pass.now) c.args.n c.requires.pass.unstored c.requires.hand)

pub store_word-requires-4-clause-stored : goal.store_word-requires-4-clause-stored
store_word-requires-4-clause-stored c =
    ap (λ (w : View). stored_of c.args.n w.progress.hand)
    (c.store_word-3.ensures.view ∙ ap (view_stored c.args.n) (c.store_word-2.ensures.view ∙ ap (view_stored c.args.n) c.store_word.ensures.view))
    ∙ stored_fourth (view c.args.pass.now) c.args.n c.requires.pass.unstored c.requires.hand

pub store_word-requires-4-clause-value : goal.store_word-requires-4-clause-value
store_word-requires-4-clause-value c = listed (view c.args.pass.now) c.args.n (ends c.args.span) (record { low = c.halves-first.ensures.within; high = c.halves-third.ensures.within; ordered = c.args.span.ordered }) c.requires.worked 3 _ c.halves-third.ensures.lower
    ∙ sym (ap (λ (w : View). word_of w.round c.args.n 3)
    (c.store_word-3.ensures.view ∙ ap (view_stored c.args.n) (c.store_word-2.ensures.view ∙ ap (view_stored c.args.n) c.store_word.ensures.view)))

pub returns-clause-put : goal.returns-clause-put
returns-clause-put c =
    c.store_word-4.ensures.view
    ∙ ap (view_stored c.args.n)
    (c.store_word-3.ensures.view ∙ ap (view_stored c.args.n) (c.store_word-2.ensures.view ∙ ap (view_stored c.args.n) c.store_word.ensures.view))
    ∙ stored_all (view c.args.pass.now) c.args.n c.requires.pass.unstored c.requires.hand

pub returns-clause-pass : goal.returns-clause-pass
returns-clause-pass c = pass_put c.args.self.now c.args.pass.now _ c.requires.pass c.store_word-4.ensures.seat c.args.n
    (c.store_word-4.ensures.view
    ∙ ap (view_stored c.args.n)
    (c.store_word-3.ensures.view ∙ ap (view_stored c.args.n) (c.store_word-2.ensures.view ∙ ap (view_stored c.args.n) c.store_word.ensures.view))
    ∙ stored_all (view c.args.pass.now) c.args.n c.requires.pass.unstored c.requires.hand)

-- The seat of the block tells where the ends stand, if they are written.
use Rattle.std.proofs.Common.{◌≡◌, ℕ, ◌+◌, ◌*◌, ◌%◌, List, ap, ◌∙◌, arith}
use Rattle.scr_links.specs.Chains.{EndsByList, ends_at, ends_in, written_at}
use Rattle.scr_links.specs.declared.chains.Ends.{Ends}
use Rattle.scr_links.proofs.Blocks.{past-none}
use Rattle.scr_links.proofs.list_ends.ListEnds.at.Goals as goal

found : (c : goal.After-written) → c.written.result ≡ ends_in c.self.inside.seats.items c.self.inside.ends.items c.args.list
found c =
    c.written.ensures
    ∙ ap (λ (ends : List Ends). written_at ends (c.at-seat.result * 4 + c.args.list % 4)) c.deref.ensures.value
    ∙ ap (λ (seat : ℕ). written_at c.self.inside.ends.items (seat * 4 + c.args.list % 4)) c.at-seat.ensures

pub returns-clause-at : goal.returns-clause-at
returns-clause-at c = found c ∙ ap (λ (v : EndsByList). ends_at v c.args.list) c.self.view_is

pub returns-clause-past : goal.returns-clause-past
returns-clause-past c = λ high.
    let room = ap (λ (v : EndsByList). v.room) c.self.view_is in
    found c ∙ past-none c.self.inside.seats.items c.self.inside.ends.items c.self.invariant.seated
    (omega (arith, c.self.invariant.blocks, c.self.invariant.few)) c.args.list
    (omega (arith, c.self.invariant.blocks, room, high))

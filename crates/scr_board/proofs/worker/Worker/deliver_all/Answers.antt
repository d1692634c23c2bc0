use Rattle.std.proofs.Common.{◌+◌, ◌++◌, ◌∷◌, [], List, ℕ, if◌then◌else◌, ap, arith, length, refl, subst, sym, ◌∙◌}
use Rattle.scr_board.specs.declared.lists.Round.{Round}
use Rattle.scr_board.specs.Rounds.{dependants_of}
use Rattle.scr_board.specs.declared.board.Pass.{Pass}
use Rattle.scr_board.specs.Passes.{progress}
use Rattle.scr_board.specs.Working.{IsDelivering}
use Rattle.scr_board.proofs.Delivered.{delivered_all, delivered_then, last_none, last_some, pass_seat, put_kept, room_left}
use Rattle.scr_board.proofs.Seats.{row_few, row_of}
use Rattle.scr_board.proofs.worker.Worker.deliver_all.Goals as goal
use Rattle.scr_board.proofs.worker.Worker.deliver_all.Goals.{in-None, in-Some}

pub overflow_cast-count : goal.overflow_cast-count
overflow_cast-count g c =
    let seat = c.requires.ready.of_board.seat in
    let put = c.requires.put in
    let node = seat.nodes c.args.n (omega (arith, put)) in
    let row = ap (λ (xs : List ℕ). length xs) (row_of c.args.self.now.board.now c.args.pass.now.seat seat c.args.n) in
    let few = row_few c.args.self.now.board.now c.args.pass.now.seat seat c.args.n node in
    let kept = ap (λ (xs : List ℕ). length xs) c.row.ensures in
    omega (arith, row, few, kept)

pub returns-clause-between : goal.returns-clause-between
returns-clause-between g c =
    let seat = c.requires.ready.of_board.seat in
    let put = c.requires.put in
    let node = seat.nodes c.args.n (omega (arith, put)) in
    let row = ap (λ (xs : List ℕ). length xs)
    (row_of c.args.self.now.board.now c.args.pass.now.seat seat c.args.n ∙ ap (λ (R : Round). dependants_of R c.args.n) c.requires.ready.lists) in
    let kept = ap (λ (xs : List ℕ). length xs) c.row.ensures in
    let end = c.loop-k-test.false in
    delivered_all c.args.self.now.board.now (g.G.Graph.round c.args.self.now.graph.now) c.loop-k.pass c.args.n c.loop-k.k c.loop-k.invariant.delivering
    (omega (arith, row, kept, end))

pub push_reserved-requires : goal.push_reserved-requires
push_reserved-requires g c =
    let drawn = c.deliver.ensures.delivered in
    let before = c.loop-k.invariant.delivering in
    let told = sym drawn.4 ∙ c.in-Some.is in
    let room = room_left c.args.self.now.board.now (g.G.Graph.round c.args.self.now.graph.now) c.loop-k.pass c.deliver.new.pass c.args.n c.loop-k.k drawn.0 drawn.1 c.in-Some.dependant
    before drawn.3 told c.deliver.ensures.once in
    let same = ap (λ v. v.len) c.deliver.ensures.room.hand in
    let same_room = ap (λ v. v.cap) c.deliver.ensures.room.hand in
    let ok = c.loop-k.pass.hand.ok in
    let nodes = before.ready.nodes in
    omega (arith, room, same, same_room, ok, nodes)

pub loop-k-preserved : goal.loop-k-preserved
loop-k-preserved g c =
    let board = c.args.self.now.board.now in
    let round = g.G.Graph.round c.args.self.now.graph.now in
    let n = c.args.n in
    let k = c.loop-k.k in
    let old = c.loop-k.pass in
    let told = c.deliver.ensures.delivered in
    let left = told.0 in
    let d = told.1 in
    let before = c.loop-k.invariant.delivering in
    let room = c.deliver.ensures.room in
    elim c.match-deliver.branch [
      | in-Some w ↦
          let new : Pass = record { seat = c.deliver.new.pass.seat; hand = w.push_reserved.new.self; got = c.deliver.new.pass.got; apart = c.deliver.new.pass.apart } in
          let pass = pass_seat board c.deliver.new.pass new c.deliver.ensures.pass refl in
          let last = last_some left d w.in-Some.dependant (sym told.4 ∙ w.in-Some.is) in
          let capacity = w.push_reserved.ensures.capacity ∙ ap (λ v. v.cap) room.hand in
          let items =
          w.push_reserved.ensures.items ∙ ap (λ v. v.items ++ w.in-Some.dependant ∷ []) room.hand ∙ ap (λ x. old.hand.items ++ x ∷ []) (sym last.1)
          ∙ sym (ap (λ b. if b then old.hand.items ++ d ∷ [] else old.hand.items) last.0) in
          record {
            delivering = subst (λ (p : Pass). IsDelivering board round p n (k + 1)) (sym w.pass-is)
                (delivered_then board round old new n k before pass left d told.2 told.3 c.deliver.ensures.once room.got capacity items);
            put = ap (λ (p : Pass). (progress p).put) w.pass-is
                ∙ put_kept board round old new n k before pass left d told.2 told.3 c.deliver.ensures.once room.got capacity items ∙ c.loop-k.invariant.put;
          }
      | in-None w ↦
          let new = c.deliver.new.pass in
          let last = last_none left d (sym told.4 ∙ w.in-None.is) in
          let capacity = ap (λ v. v.cap) room.hand in
          let items = ap (λ v. v.items) room.hand ∙ sym (ap (λ b. if b then old.hand.items ++ d ∷ [] else old.hand.items) last) in
          record {
            delivering = subst (λ (p : Pass). IsDelivering board round p n (k + 1)) (sym w.pass-is)
                (delivered_then board round old new n k before c.deliver.ensures.pass left d told.2 told.3 c.deliver.ensures.once room.got capacity items);
            put = ap (λ (p : Pass). (progress p).put) w.pass-is
                ∙ put_kept board round old new n k before c.deliver.ensures.pass left d told.2 told.3 c.deliver.ensures.once room.got capacity items
                ∙ c.loop-k.invariant.put;
          }
    ]

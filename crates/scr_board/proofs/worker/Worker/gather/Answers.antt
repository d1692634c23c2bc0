use Rattle.std.proofs.Common.{◌++◌, ◌∷◌, ◌≤◌, [], List, Some, ap, arith, length, map, refl, sym, ◌∙◌}
use Rattle.std.specs.Prelude.{option_map, vec_capacity}
use Rattle.std.proofs.lemmas.List.{length_push, map-append}
use Rattle.scr_num.specs.Rounding.{ends}
use Rattle.scr_board.specs.declared.board.Pass.{Pass}
use Rattle.scr_board.specs.Places.{spot_of}
use Rattle.scr_board.specs.BoardRounds.{Spot, given, places_at}
use Rattle.scr_board.proofs.Delivered.{pass_seat, taken_again, taken_node}
use Rattle.scr_board.proofs.Rows.{each_row, get-past_end, get-within, grown, take-past, take-zero}
use Rattle.scr_board.proofs.worker.Worker.gather.Goals as goal

pub place-requires-clause-node : goal.place-requires-clause-node
place-requires-clause-node g c = taken_node c.args.self.now.board.now (g.G.Graph.round c.args.self.now.graph.now) c.args.pass.now c.args.n c.requires.taken

pub returns-in-None-clause-got : goal.returns-in-None-clause-got
returns-in-None-clause-got g c =
    let round = g.G.Graph.round c.args.self.now.graph.now in
    let past = get-past_end (places_at round c.args.n) c.loop-k.k (sym c.place.ensures ∙ ap (option_map spot_of) c.in-None.is) in
    c.loop-k.invariant.got ∙ ap (λ row. map (given round.worked) row) (take-past (places_at round c.args.n) c.loop-k.k past)

pub loop-k-init : goal.loop-k-init
loop-k-init g c =
    let board = c.args.self.now.board.now in
    let round = g.G.Graph.round c.args.self.now.graph.now in
    let old = c.args.pass.now in
    let new : Pass = record { seat = old.seat; hand = old.hand; got = c.clear.new.self; apart = old.apart } in
    record {
      taken = taken_again board round old new c.args.n c.requires.taken (pass_seat board old new c.requires.taken.ready.of_board refl) refl refl
          c.clear.ensures.capacity;
      same = refl;
      got = ap (λ xs. map Some (map ends xs)) c.clear.ensures.items ∙ sym (ap (map (given round.worked)) (take-zero (places_at round c.args.n)));
      many = ap (λ xs. length xs) c.clear.ensures.items;
    }

pub figure_at-span-requires : goal.figure_at-span-requires
figure_at-span-requires g c =
    record { taken = (c.args.n, c.loop-k.k, c.loop-k.invariant.taken, sym c.place.ensures ∙ ap (option_map spot_of) c.in-Some.is) }

pub push_reserved-requires : goal.push_reserved-requires
push_reserved-requires g c =
    let round = g.G.Graph.round c.args.self.now.graph.now in
    let taken = c.loop-k.invariant.taken in
    let node = taken_node c.args.self.now.board.now round c.loop-k.pass c.args.n taken in
    let within = get-within (places_at round c.args.n) c.loop-k.k (spot_of c.in-Some.place) (sym c.place.ensures ∙ ap (option_map spot_of) c.in-Some.is) in
    let room = each_row (λ (row : List Spot). length row ≤ vec_capacity c.loop-k.pass.got) round.places c.args.n taken.ready.places node in
    let same = ap (λ v. v.len) c.figure_at-span.ensures.room.got in
    let same_room = ap (λ v. v.cap) c.figure_at-span.ensures.room.got in
    let ok = c.loop-k.pass.got.ok in
    let many = c.loop-k.invariant.many in
    omega (arith, within, room, same, same_room, ok, many)

pub loop-k-preserved : goal.loop-k-preserved
loop-k-preserved g c =
    let board = c.args.self.now.board.now in
    let round = g.G.Graph.round c.args.self.now.graph.now in
    let old = c.loop-k.pass in
    let found = c.figure_at-span.new.pass in
    let new : Pass = record { seat = found.seat; hand = found.hand; got = c.push_reserved.new.self; apart = found.apart } in
    let at = sym c.place.ensures ∙ ap (option_map spot_of) c.in-Some.is in
    let span = c.figure_at-span.result in
    let items = c.push_reserved.ensures.items ∙ ap (λ v. v.items ++ span ∷ []) c.figure_at-span.ensures.room.got in
    let many = c.loop-k.invariant.many in
    let long = length_push old.got.items span in
    let count = ap (λ xs. length xs) items in
    record {
      taken = taken_again board round old new c.args.n c.loop-k.invariant.taken (pass_seat board found new c.figure_at-span.ensures.pass refl)
          c.figure_at-span.ensures.same c.figure_at-span.ensures.room.hand (c.push_reserved.ensures.capacity ∙ ap (λ v. v.cap) c.figure_at-span.ensures.room.got);
      same = c.figure_at-span.ensures.same ∙ c.loop-k.invariant.same;
      got =
          ap (λ xs. map Some (map ends xs)) items ∙ ap (map Some) (map-append ends old.got.items (span ∷ []))
          ∙ grown Some (given round.worked) (map ends old.got.items) (ends span) (places_at round c.args.n) c.loop-k.k (spot_of c.in-Some.place) at
          c.loop-k.invariant.got c.figure_at-span.ensures.given;
      many = omega (arith, many, long, count);
    }

use Rattle.std.proofs.Common.{ℕ, List, Some, None, map, sym, ap, ◌∙◌}
use Rattle.std.specs.Prelude.{if◌then◌else◌}
use Rattle.std.specs.List.{position_or_len}
use Rattle.scr_tables.specs.Names.{same_name}
use Rattle.scr_ids.specs.Ranges.{first}
use Rattle.scr_member_lists.specs.Seatings.{free, seats_of}
use Rattle.scr_member_lists.proofs.SeatLists.{named-at, place-of}
use Rattle.scr_book.proofs.RollLaws.{own-before}
use Rattle.scr_member_index.proofs.standing.row_at.Goals as goal

pub returns-in-Some-clause-seats : goal.returns-in-Some-clause-seats
returns-in-Some-clause-seats g c =
    let names : List (List ℕ) = map g.R.Row.name_of c.args.rows.now in
    let named = named-at g.R.Row.name_of c.args.rows.now c.in-Some.row c.args.name.now c.in-Some.ensures.place in
    c.seats.ensures
    ∙ sym (own-before names c.args.seating.now c.requires.seated c.len-count.ensures.apart c.in-Some.row named.0 c.args.name.now named.1)
    ∙ ap (λ b. if b then seats_of names c.args.seating.now.seats c.args.name.now else free) c.in-Some.ensures.there

pub returns-in-Some-clause-first : goal.returns-in-Some-clause-first
returns-in-Some-clause-first g c =
    let names : List (List ℕ) = map g.R.Row.name_of c.args.rows.now in
    let named = named-at g.R.Row.name_of c.args.rows.now c.in-Some.row c.args.name.now c.in-Some.ensures.place in
    let own : ℕ = first c.args.places.now c.args.table (position_or_len (same_name c.args.name.now) names) in
    ap (λ n. Some n)
    (c.first.ensures.first
    ∙ ap (first c.args.places.now c.args.table) (sym (place-of names c.in-Some.row c.args.name.now c.len-count.ensures.apart named.0 named.1)))
    ∙ ap (λ b. if b then Some own else None) c.in-Some.ensures.there

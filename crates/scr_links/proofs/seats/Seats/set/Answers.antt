-- The seat of the block is another, in either width.
use Rattle.std.proofs.Common.{rules, ◌≡◌, ◌<◌, min, set, vec_capacity, ap, sym, ◌∙◌, arith}
use Rattle.scr_links.specs.Seats.{Seating, short_none}
use Rattle.scr_links.specs.SeatsInside.{seating, seating_of}
use Rattle.scr_links.specs.declared.seats.Kept.TheVariants.{Short}
use Rattle.scr_links.proofs.ShortSeats.{long_set}
use Rattle.scr_links.proofs.seats.Seats.set.Goals as goal
use Rattle.scr_links.proofs.seats.Seats.set.Goals.{in-Short, in-Long}

pub returns-clause-items : goal.returns-clause-items
returns-clause-items c = elim c.match-self.branch [
  | in-Short w ↦
      let was : c.args.self.now ≡ seating_of (Short w.in-Short.seats) = sym c.self.view_is ∙ ap seating_of w.in-Short.is in
      let low : c.args.seat < min short_none (vec_capacity w.in-Short.seats) =
      omega (arith, c.requires.seat, ap (λ (v : Seating). v.room) was) in
      ap (λ inside. (seating inside).items) w.self-inside-is
      ∙ long_set w.in-Short.seats.items c.args.block c.args.seat (vec_capacity w.in-Short.seats) low
      ∙ ap (λ (v : Seating). set v.items c.args.block c.args.seat) (sym was)
  | in-Long w ↦ search rules
]

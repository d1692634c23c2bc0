-- Those that are new are of blocks that are not written, in either width.
use Rattle.std.proofs.Common.{rules, ◌≡◌, ◌+◌, ◌-◌, ◌++◌, length, map, replicate, ap, sym, ◌∙◌}
use Rattle.scr_links.specs.Chains.{none}
use Rattle.scr_links.specs.Seats.{Seating, long_seat}
use Rattle.scr_links.specs.SeatsInside.{seating, seating_of}
use Rattle.scr_links.specs.declared.seats.Kept.TheVariants.{Short}
use Rattle.scr_links.proofs.ShortSeats.{long_filled}
use Rattle.scr_links.proofs.seats.Seats.fill.Goals as goal
use Rattle.scr_links.proofs.seats.Seats.fill.Goals.{in-Short, in-Long}

pub returns-clause-filled : goal.returns-clause-filled
returns-clause-filled c = elim c.match-self.branch [
  | in-Short w ↦
      let was : c.args.self.now ≡ seating_of (Short w.in-Short.seats) = sym c.self.view_is ∙ ap seating_of w.in-Short.is in
      ap (λ inside. (seating inside).items) w.self-inside-is
      ∙ ap (map long_seat) w.fill_up.ensures.filled
      ∙ long_filled w.in-Short.seats.items c.args.block
      ∙ ap (λ (v : Seating). v.items ++ replicate (c.args.block + 1 - length v.items) none) (sym was)
  | in-Long w ↦ search rules
]

use Rattle.std.proofs.Common.{ap, sym, ◌∙◌}
use Rattle.scr_ids.specs.Ranges.{Numbered, RangeList, count, roll_at}
use Rattle.scr_ids.specs.Kept.{numbered_of}
use Rattle.scr_ids.proofs.Views.{count-is, live-made}
use Rattle.scr_ids.proofs.places.Places.count.Goals as goal

pub returns-clause-count : goal.returns-clause-count
returns-clause-count c =
    c.live.ensures ∙ ap (λ (r : RangeList). r.live) (c.roll_of.ensures ∙ ap (λ rs. roll_at rs c.args.table) c.deref.ensures.value)
    ∙ sym (count-is (numbered_of c.self.inside) c.args.table) ∙ ap (λ (v : Numbered). count v c.args.table) c.self.view_is

pub returns-clause-within : goal.returns-clause-within
returns-clause-within c = live-made c.self.inside c.self.invariant c.args.self.now c.self.view_is c.args.table

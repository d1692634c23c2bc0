use Rattle.std.proofs.Common.{ap, length, sym, ◌∙◌}
use Rattle.scr_ids.specs.Ranges.{Numbered, RangeList, made, roll_at}
use Rattle.scr_ids.specs.Kept.{numbered_of}
use Rattle.scr_ids.proofs.Views.{made-is}
use Rattle.scr_ids.proofs.places.Places.made.Goals as goal

pub returns : goal.returns
returns c =
    c.len.ensures ∙ ap (λ (r : RangeList). length r.firsts) (c.roll_of.ensures ∙ ap (λ rs. roll_at rs c.args.table) c.deref.ensures.value)
    ∙ sym (made-is (numbered_of c.self.inside) c.args.table) ∙ ap (λ (v : Numbered). made v c.args.table) c.self.view_is

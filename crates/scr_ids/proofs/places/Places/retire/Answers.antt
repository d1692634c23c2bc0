use Rattle.std.proofs.Common.{ap, refl, subst, arith}
use Rattle.scr_ids.specs.Ranges.{Numbered, count, made}
use Rattle.scr_ids.specs.Moves.{Retired}
use Rattle.scr_ids.specs.Kept.{numbered_of}
use Rattle.scr_ids.specs.declared.places.Places.TheInside.{Inside}
use Rattle.scr_ids.proofs.Views.{count-is, first-same, kept-live, live-made, made-same, others-same}
use Rattle.scr_ids.proofs.places.Places.retire.Goals as goal

abbrev after : goal.After-set_live → Inside
after c = record { rolls = c.set_live.new.rolls; runs = c.self.inside.runs; places = c.self.inside.places; size = c.self.inside.size }

pub invariant_of-self : goal.invariant_of-self
invariant_of-self c =
    let is = count-is (numbered_of (after c)) c.args.table in
    let view = ap (λ (v : Numbered). count v c.args.table) c.self.view_is in
    let view_made = ap (λ (v : Numbered). made v c.args.table) c.self.view_is in
    let most = live-made c.self.inside c.self.invariant c.args.self.now c.self.view_is c.args.table in
    kept-live c.self.inside (after c) c.self.invariant c.args.table c.set_live.ensures.others c.set_live.ensures.firsts refl refl refl
    (omega (arith, c.requires, c.count-live.ensures.count, c.set_live.ensures.live, is, view, view_made, most))

pub returns : goal.returns
returns c =
    let a = numbered_of c.self.inside in
    let b = numbered_of (after c) in
    let is = count-is b c.args.table in
    let view = ap (λ (v : Numbered). count v c.args.table) c.self.view_is in
    subst (λ (v : Numbered). Retired c.args.table v b) c.self.view_is (record {
      others = others-same a b c.args.table c.set_live.ensures.others;
      one_less = omega (arith, c.requires, c.count-live.ensures.count, c.set_live.ensures.live, is, view);
      ranges = made-same a b c.args.table c.set_live.ensures.others c.set_live.ensures.firsts;
      firsts = first-same a b c.args.table c.set_live.ensures.others c.set_live.ensures.firsts;
      size = refl;
    })

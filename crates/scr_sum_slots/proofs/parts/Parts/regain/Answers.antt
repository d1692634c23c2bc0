use Rattle.std.proofs.Common.{◌≡◌, ℕ, ◌-◌, ◌<◌, refl, ◌∙◌, subst, arith, rules}
use Rattle.scr_sum_slots.specs.Parts.{count_of, key_of}
use Rattle.scr_sum_slots.specs.Moves.{Freed}
use Rattle.scr_sum_slots.proofs.Freed.{freed-back, freed-none, room-trans, still-free, still-room}
use Rattle.scr_sum_slots.proofs.Fronts.{count-joined, front-joined, front-self, front-trans}
use Rattle.scr_sum_slots.proofs.parts.Parts.regain.Goals as goal

pub loop-init : goal.loop-init
loop-init c =
    let key = key_of c.args.list c.args.level in
    record {
      front = front-self key c.args.self.now;
      count = omega arith;
      gone = freed-none key c.args.self.now;
      room = λ other. omega arith;
      size = refl;
    }

pub loop-preserved : goal.loop-preserved
loop-preserved c =
    let key = key_of c.args.list c.args.level in
    record {
      front = front-trans key c.args.self.now c.loop.self c.go_back.new.self c.loop.invariant.front (front-joined key c.loop.self c.go_back.new.self c.go_back.ensures);
      count = (let more = count-joined key c.loop.self c.go_back.new.self c.go_back.ensures in let was = c.loop.invariant.count in omega (arith, more, was));
      gone = freed-back key c.loop.counter c.args.self.now c.loop.self c.go_back.new.self c.loop.invariant.gone c.go_back.ensures;
      room = room-trans c.args.self.now c.loop.self c.go_back.new.self c.loop.invariant.room c.go_back.ensures.room;
      size = c.go_back.ensures.size ∙ c.loop.invariant.size;
    }

pub go_back-requires-clause-free : goal.go_back-requires-clause-free
go_back-requires-clause-free c =
    let low : c.loop.counter < c.args.many - count_of c.args.list c.args.level c.args.self.now = search rules in
    still-free c.args.list c.args.level c.args.many c.loop.counter c.args.self.now c.loop.self low c.loop.invariant.gone c.requires.free

pub go_back-requires-clause-room : goal.go_back-requires-clause-room
go_back-requires-clause-room c =
    let low : c.loop.counter < c.args.many - count_of c.args.list c.args.level c.args.self.now = search rules in
    still-room c.args.list c.args.level c.args.many c.loop.counter c.args.self.now c.loop.self low c.loop.invariant.gone c.requires.room
    c.loop.invariant.count c.loop.invariant.room

pub returns-clause-gone : goal.returns-clause-gone
returns-clause-gone c =
    let same : c.loop.counter ≡ c.args.many - count_of c.args.list c.args.level c.args.self.now = search rules in
    subst (λ (n : ℕ). Freed (key_of c.args.list c.args.level) n c.loop.self c.args.self.now) same c.loop.invariant.gone

use Rattle.std.proofs.Common.{◌≡◌, ℕ, ◌-◌, refl, ◌∙◌, subst, arith, rules}
use Rattle.scr_sum_slots.specs.Parts.{count_of, key_of}
use Rattle.scr_sum_slots.specs.Moves.{Freed}
use Rattle.scr_sum_slots.proofs.Freed.{freed-more, freed-none, room-trans}
use Rattle.scr_sum_slots.proofs.Fronts.{count-left, front-left, front-self, front-trans}
use Rattle.scr_sum_slots.proofs.parts.Parts.cut.Goals as goal

pub loop-init : goal.loop-init
loop-init c =
    let key = key_of c.args.list c.args.level in
    record {
      front = front-self key c.args.self.now;
      count = omega arith;
      gone = freed-none key c.args.self.now;
      room = λ other. omega arith;
      size = refl;
    }

pub loop-preserved : goal.loop-preserved
loop-preserved c =
    let key = key_of c.args.list c.args.level in
    record {
      front = front-trans key c.go.new.self c.loop.self c.args.self.now (front-left key c.loop.self c.go.new.self c.go.ensures) c.loop.invariant.front;
      count = (let left = count-left key c.loop.self c.go.new.self c.go.ensures in let was = c.loop.invariant.count in omega (arith, left, was));
      gone = freed-more key c.loop.counter c.args.self.now c.loop.self c.go.new.self c.loop.invariant.gone c.go.ensures;
      room = room-trans c.args.self.now c.loop.self c.go.new.self c.loop.invariant.room c.go.ensures.room;
      size = c.go.ensures.size ∙ c.loop.invariant.size;
    }

pub returns-clause-gone : goal.returns-clause-gone
returns-clause-gone c =
    let same : c.loop.counter ≡ count_of c.args.list c.args.level c.args.self.now - c.args.many = search rules in
    subst (λ (n : ℕ). Freed (key_of c.args.list c.args.level) n c.args.self.now c.loop.self) same c.loop.invariant.gone

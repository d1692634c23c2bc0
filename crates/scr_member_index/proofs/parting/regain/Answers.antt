use Rattle.std.proofs.Common.{ℕ, refl, subst, sym}
use Rattle.scr_member_index.specs.Lists.{list_in}
use Rattle.scr_member_index.specs.Parting.{CanRegain}
use Rattle.scr_member_index.proofs.Lost.{regain-free, regained, regained-none}
use Rattle.scr_member_index.proofs.parting.regain.Goals as goal

pub grow_back-requires-clause-free : goal.grow_back-requires-clause-free
grow_back-requires-clause-free c =
    regain-free c.in-Some.list c.args.members c.requires.0 c.args.parts.now
    (subst (λ (list : ℕ). CanRegain list c.args.members c.requires.0 c.args.parts.now) (sym c.in-Some.ensures.there) c.requires.1)

pub returns-in-Some-clause-slots : goal.returns-in-Some-clause-slots
returns-in-Some-clause-slots c = λ before can.
    regained c.in-Some.list c.args.members before c.args.parts.now
    (subst (λ (list : ℕ). CanRegain list c.args.members before c.args.parts.now) (sym c.in-Some.ensures.there) can)
    c.grow_back.new.self c.grow_back.ensures.gone

pub returns-in_default-clause-slots : goal.returns-in_default-clause-slots
returns-in_default-clause-slots c = λ before can.
    regained-none (list_in c.args.table c.args.number) c.args.members before c.args.parts.now can (c.in_default.ensures.absent refl)

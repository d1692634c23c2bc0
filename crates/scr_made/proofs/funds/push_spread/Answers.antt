-- One component more.
use Rattle.std.proofs.Common.{◌≡◌, ℕ, ◌+◌, ◌*◌, ◌%◌, List, subst}
use Rattle.scr_made.specs.Made.{component, spread_component}
use Rattle.scr_made.specs.Names.{security_name}
use Rattle.scr_made.specs.Records.{Adds}
use Rattle.scr_made.specs.declared.making.TheConstants.{SECURITIES}
use Rattle.scr_made.proofs.Steps.{adds_none, adds_more}
use Rattle.scr_made.proofs.funds.push_spread.Goals as goal

pub loop-j-init : goal.loop-j-init
loop-j-init c = adds_none (spread_component c.args.first) c.args.draws.now.state c.args.list.now.items

pub loop-j-preserved : goal.loop-j-preserved
loop-j-preserved c =
    let named : c.in_ok-name.name ≡ security_name ((c.args.first + 397 * c.loop-j.j) % SECURITIES) =
    c.in_ok-name.ensures in
    adds_more c.loop-j.j (spread_component c.args.first) _ _ _ _ _ _ c.loop-j.invariant
    (subst (λ (name : List ℕ). Adds (component name) c.loop-j.draws.state c.loop-j.list.items
    c.push_component.new.draws.state c.push_component.new.list.items) named c.in_ok-push_component.ensures)

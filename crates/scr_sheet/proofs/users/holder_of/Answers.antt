use Rattle.std.proofs.Common.{◌≡◌, rules}
use Rattle.scr_tables.specs.Names.{first_in_order}
use Rattle.scr_sheet.specs.Users.{has_component, names_of_holders}
use Rattle.scr_sheet.proofs.users.holder_of.Goals as goal

pub returns : goal.returns
returns c =
    let first : c.earliest.result ≡ first_in_order (names_of_holders c.args.name.now c.args.sheet.now) = c.earliest.ensures (has_component c.args.name.now) (λ row told says. search rules) in
    search rules

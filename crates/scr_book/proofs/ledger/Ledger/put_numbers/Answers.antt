use Rattle.std.proofs.Common.{◌≡◌, refl}
use Rattle.scr_sheet.specs.Records.{applied}
use Rattle.scr_book.specs.Kept.{IsKept}
use Rattle.scr_book.specs.declared.ledger.Ledger.TheInside.{Inside}
use Rattle.scr_book.proofs.Applied.{kept-numbers}
use Rattle.scr_book.proofs.ledger.Ledger.put_numbers.Goals as goal

kept : (c : goal.After-put) → let new : Inside = record c.self.inside { sheet = record c.self.inside.sheet { numbers = c.put.new.self } } in IsKept new × (new.sheet ≡ applied c.args.edit.now c.args.self.now)
kept c = kept-numbers c.self.inside c.args.self.now c.self.view_is c.self.invariant c.args.edit.now c.requires.formed c.requires.no_fault c.requires.numbers c.put.new.self (c.put.ensures c.self.inside.sheet refl)

pub invariant_of-self : goal.invariant_of-self
invariant_of-self c = (kept c).0

pub returns : goal.returns
returns c = (kept c).1

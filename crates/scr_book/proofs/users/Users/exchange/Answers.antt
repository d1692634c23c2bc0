use Rattle.std.proofs.Common.{refl}
use Rattle.scr_book.specs.Users.{of_name, of_currency}
use Rattle.scr_book.proofs.Tallies.{counts-exchanged}
use Rattle.scr_book.proofs.users.Users.exchange.Goals as goal

pub returns : goal.returns
returns c =
    let edit = c.args.edit.now in
    let sheet = c.args.sheet.now in
    record {
      names = counts-exchanged of_name (λ n. refl) edit sheet c.used_before.result c.used_after.result c.used_before.ensures c.used_after.ensures c.renew.new.self.names c.take.new.self.names c.add.new.self.names c.renew.ensures.names c.take.ensures.names
          c.add.ensures.names;
      currencies = counts-exchanged of_currency (λ n. refl) edit sheet c.used_before.result c.used_after.result c.used_before.ensures c.used_after.ensures c.renew.new.self.currencies c.take.new.self.currencies c.add.new.self.currencies
          c.renew.ensures.currencies c.take.ensures.currencies c.add.ensures.currencies;
    }

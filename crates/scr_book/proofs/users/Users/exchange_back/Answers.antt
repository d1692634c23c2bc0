use Rattle.std.proofs.Common.{refl}
use Rattle.scr_book.specs.Users.{of_name, of_currency}
use Rattle.scr_book.proofs.TalliesBack.{counts-exchanged_back}
use Rattle.scr_book.proofs.users.Users.exchange_back.Goals as goal

pub returns : goal.returns
returns c =
    let edit = c.args.edit.now in
    let sheet = c.args.sheet.now in
    record {
      names = counts-exchanged_back of_name (λ n. refl) edit sheet c.used_after.result c.used_before.result c.used_after.ensures c.used_before.ensures c.args.self.now.names c.take.new.self.names c.count_again.new.self.names c.requires.names
          c.take.ensures.names c.count_again.ensures.names;
      currencies = counts-exchanged_back of_currency (λ n. refl) edit sheet c.used_after.result c.used_before.result c.used_after.ensures c.used_before.ensures c.args.self.now.currencies c.take.new.self.currencies c.count_again.new.self.currencies
          c.requires.currencies c.take.ensures.currencies c.count_again.ensures.currencies;
    }

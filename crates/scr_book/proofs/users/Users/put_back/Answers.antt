use Rattle.std.proofs.Common.{refl}
use Rattle.scr_book.specs.Users.{of_name, of_currency}
use Rattle.scr_book.proofs.TalliesBack.{counts-back}
use Rattle.scr_book.proofs.users.Users.put_back.Goals as goal

pub returns : goal.returns
returns c =
    let what = c.args.earlier.now in
    let sheet = c.args.sheet.now in
    record {
      names = counts-back of_name (λ n. refl) what sheet c.requires.place c.used_now.result c.used_then.result c.used_now.ensures c.used_then.ensures c.args.self.now.names c.take.new.self.names c.count_again.new.self.names c.requires.users.names
          c.take.ensures.names c.count_again.ensures.names;
      currencies = counts-back of_currency (λ n. refl) what sheet c.requires.place c.used_now.result c.used_then.result c.used_now.ensures c.used_then.ensures c.args.self.now.currencies c.take.new.self.currencies c.count_again.new.self.currencies
          c.requires.users.currencies c.take.ensures.currencies c.count_again.ensures.currencies;
    }

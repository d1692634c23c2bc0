use Rattle.scr_book.specs.Users.{of_name, of_currency}
use Rattle.scr_book.proofs.Tallies.{counts-all}
use Rattle.scr_book.proofs.users.Users.counted.Goals as goal

pub returns : goal.returns
returns c =
    let sheet = c.args.sheet.now in
    record {
      names = counts-all of_name sheet c.new.result c.add_all.new.self.names c.add_all-2.new.self.names c.add_all-3.new.self.names c.add_all-4.new.self.names c.add_all-5.new.self.names c.new.ensures c.add_all.ensures.names c.add_all-2.ensures.names
          c.add_all-3.ensures.names c.add_all-4.ensures.names c.add_all-5.ensures.names;
      currencies = counts-all of_currency sheet c.new-2.result c.add_all.new.self.currencies c.add_all-2.new.self.currencies c.add_all-3.new.self.currencies c.add_all-4.new.self.currencies c.add_all-5.new.self.currencies c.new-2.ensures
          c.add_all.ensures.currencies c.add_all-2.ensures.currencies c.add_all-3.ensures.currencies c.add_all-4.ensures.currencies c.add_all-5.ensures.currencies;
    }

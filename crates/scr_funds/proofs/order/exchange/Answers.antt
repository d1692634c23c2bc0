use Rattle.std.proofs.Common.{Vec, ℕ, set, ap, ◌∙◌}
use Rattle.std.specs.Global.{Global}
use Rattle.std.proofs.lemmas.List.{map-set}
use Rattle.scr_funds.specs.Search.{rows_of}
use Rattle.scr_funds.proofs.order.exchange.Goals as goal

pub returns-clause-after : goal.returns-clause-after
returns-clause-after c =
    map-set (λ (row : Vec ℕ Global). row.items) c.args.rows.now.items c.args.from c.replace.new.dest
    ∙ ap (λ (row : Vec ℕ Global). set (rows_of c.args.rows.now.items) c.args.from row.items) c.replace.ensures.after

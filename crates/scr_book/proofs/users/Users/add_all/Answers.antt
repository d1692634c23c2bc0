use Rattle.std.proofs.Common.{◌≡◌, List, [], ◌∷◌, subst, rules}
use Rattle.scr_counters.specs.Users.{Moves, nothing}
use Rattle.scr_book.specs.Users.{Used, of_name, of_currency, HaveCounted}
use Rattle.scr_book.proofs.Tallies.{moves-still, moves-next}
use Rattle.scr_book.proofs.users.Users.add_all.Goals as goal

pub loop-row-init : goal.loop-row-init
loop-row-init g c =
    let all : c.args.rows.now ≡ c.into_iter-row-iterator.result = search rules in
    subst (λ (rest : List _). HaveCounted g.R.Using.uses_of rest c.args.rows.now c.args.self.now c.args.self.now) all
    (record { names = moves-still _ c.args.self.now.names; currencies = moves-still _ c.args.self.now.currencies })

pub loop-row-preserved : goal.loop-row-preserved
loop-row-preserved g c =
    let uses_of = g.R.Using.uses_of in
    let step : c.loop-row.row-iterator ≡ c.in-Some.row.now ∷ c.next.new.self = search rules in
    let so_far = subst (λ (rest : List _). HaveCounted uses_of rest c.args.rows.now c.args.self.now c.loop-row.self) step c.loop-row.invariant in
    record {
      names = moves-next (λ name row. of_name name (uses_of row)) c.in-Some.row.now c.next.new.self c.args.rows.now c.args.self.now.names c.loop-row.self.names c.add.new.self.names so_far.names
          (subst (λ (u : Used). Moves nothing (λ name. of_name name u) c.loop-row.self.names c.add.new.self.names) c.uses.ensures c.add.ensures.names);
      currencies = moves-next (λ name row. of_currency name (uses_of row)) c.in-Some.row.now c.next.new.self c.args.rows.now c.args.self.now.currencies c.loop-row.self.currencies c.add.new.self.currencies so_far.currencies
          (subst (λ (u : Used). Moves nothing (λ name. of_currency name u) c.loop-row.self.currencies c.add.new.self.currencies) c.uses.ensures c.add.ensures.currencies);
    }

pub returns : goal.returns
returns g c =
    let none : c.loop-row.row-iterator ≡ [] = search rules in
    subst (λ (rest : List _). HaveCounted g.R.Using.uses_of rest c.args.rows.now c.args.self.now c.loop-row.self) none c.loop-row.invariant

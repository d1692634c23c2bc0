use Rattle.std.proofs.lemmas.List.{length-set}
use Rattle.scr_funds.proofs.Rows.{components_of-with_edges, components_of-with_components, size_of-with_edges, put_back-removed, order_none, order_removed}
use Rattle.scr_funds.proofs.laws.edges.Goals as goal

pub returns-clause-none : goal.returns-clause-none
returns-clause-none c = order_none

pub returns-clause-added : goal.returns-clause-added
returns-clause-added c = components_of-with_edges

pub returns-clause-replaced : goal.returns-clause-replaced
returns-clause-replaced c = components_of-with_components

pub returns-clause-raised : goal.returns-clause-raised
returns-clause-raised c = size_of-with_edges

pub returns-clause-as_large : goal.returns-clause-as_large
returns-clause-as_large c = λ from members all. length-set all from members

pub returns-clause-back : goal.returns-clause-back
returns-clause-back c = put_back-removed

pub returns-clause-taken_off : goal.returns-clause-taken_off
returns-clause-taken_off c = order_removed

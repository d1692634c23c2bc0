use Rattle.std.proofs.Common.{nat_eq, Contains, ◌+◌, ◌∷◌, [], sym, ap, subst, ◌∙◌, arith}
use Rattle.std.specs.Map.Iter.{deref_pair}
use Rattle.std.specs.Option.{option_map}
use Rattle.indexmap.specs.IndexMap.{insert_entry}
use Rattle.scr_funds.specs.Chains.{IsFirstShortest}
use Rattle.scr_funds.specs.Edges.{edges_in, leads_on}
use Rattle.scr_funds.specs.Search.{entered}
use Rattle.scr_funds.proofs.Members.{Contains-any, not_contains-any}
use Rattle.scr_funds.proofs.Traces.{onto-reverse}
use Rattle.scr_funds.proofs.Inner.{Searched, searched_none, searched_found, searched_next, searched_all}
use Rattle.scr_funds.proofs.search.first_chain.Goals as goal

pub loop-place-init : goal.loop-place-init
loop-place-init c = λ on.
    let edges = c.args.edges.now in
    let entries = c.in_ok-insert.ensures.entries
    ∙ ap (λ es. insert_entry nat_eq es edges.from 0) c.new-reached.ensures.empty in
    subst (λ es. Searched (edges_in edges) c.args.to (leads_on edges c.args.to) on edges.from es 0) (sym entries)
    (searched_none (edges_in edges) c.args.to (leads_on edges c.args.to) on edges.from)

pub trace-requires : goal.trace-requires
trace-requires c =
    let edges = c.args.edges.now in
    let entry = sym c.get_index.ensures.entry ∙ ap (option_map deref_pair) c.unwrap.ensures in
    let there = Contains-any c.components_of-components.result.now c.args.to
    (sym c.contains.ensures.value ∙ c.if-contains.true) in
    let way = searched_found (edges_in edges) c.args.to (leads_on edges c.args.to) c.requires edges.from
    c.loop-place.reached.entries c.loop-place.place c.unwrap.result.0.now c.unwrap.result.1.now
    (c.loop-place.invariant c.requires) (omega arith) entry
    (subst (λ row. Contains row c.args.to) c.components_of-components.ensures there) in
    (way.0, way.1)

pub returns-then-contains : goal.returns-then-contains
returns-then-contains c =
    let edges = c.args.edges.now in
    let entry = sym c.get_index.ensures.entry ∙ ap (option_map deref_pair) c.unwrap.ensures in
    let there = Contains-any c.components_of-components.result.now c.args.to
    (sym c.contains.ensures.value ∙ c.if-contains.true) in
    let way = searched_found (edges_in edges) c.args.to (leads_on edges c.args.to) c.requires edges.from
    c.loop-place.reached.entries c.loop-place.place c.unwrap.result.0.now c.unwrap.result.1.now
    (c.loop-place.invariant c.requires) (omega arith) entry
    (subst (λ row. Contains row c.args.to) c.components_of-components.ensures there) in
    subst (IsFirstShortest (edges_in edges) edges.from c.args.to)
    (ap (λ l. edges.from ∷ l) (onto-reverse way.0 (c.args.to ∷ [])) ∙ sym (c.in_ok-path.ensures way.0 way.1)) way.2

pub loop-place-preserved : goal.loop-place-preserved
loop-place-preserved c = λ on.
    let edges = c.args.edges.now in
    let entry = sym c.get_index.ensures.entry ∙ ap (option_map deref_pair) c.unwrap.ensures in
    let apart = not_contains-any c.components_of-components.result.now c.args.to
    (sym c.contains.ensures.value ∙ c.if-contains.false) in
    let next = searched_next (edges_in edges) c.args.to (leads_on edges c.args.to) on edges.from
    c.loop-place.reached.entries c.loop-place.place c.unwrap.result.0.now c.unwrap.result.1.now
    (c.loop-place.invariant on) (omega arith) entry
    (λ k. apart (subst (λ row. Contains row c.args.to) (sym c.components_of-components.ensures) k)) in
    subst
    (λ es. Searched (edges_in edges) c.args.to (leads_on edges c.args.to) on edges.from es (c.loop-place.place + 1))
    (ap (λ row. entered (leads_on edges c.args.to) c.loop-place.place row c.loop-place.reached.entries)
    (sym c.components_of-components.ensures)
    ∙ sym c.in_ok-enter.ensures) next

pub returns : goal.returns
returns c =
    let edges = c.args.edges.now in
    searched_all (edges_in edges) c.args.to (leads_on edges c.args.to) c.requires edges.from
    c.loop-place.reached.entries c.loop-place.place (c.loop-place.invariant c.requires) (omega arith)

-- An edge joins at the first free place.
use Rattle.std.proofs.Common.{ℕ, ◌<◌, ◌-◌, ◌++◌, ◌∷◌, [], ap, sym, refl, ◌∙◌, arith}
use Rattle.std.specs.Vec.{with_item}
use Rattle.scr_links.specs.Edges.{Linked, edge, linked, is_edge}
use Rattle.scr_links.specs.declared.{links.Links.TheInside.Inside, links.Pair.Pair}
use Rattle.scr_links.proofs.States.{first_free, join_low, join_in_pairs, no_source_list, no_dependant_list, not_an_edge, join_kept, join_view}
use Rattle.scr_links.proofs.links.Links.join.Goals as goal

pub remove-requires : goal.remove-requires
remove-requires c =
    first_free c.self.inside c.self.invariant c.args.self.now c.self.view_is c.requires.room
    c.first-place.result c.first-place.ensures.leads

pub index_mut-requires : goal.index_mut-requires
index_mut-requires c =
    let low = join_in_pairs c.self.inside c.self.invariant c.first-place.result
    (first_free c.self.inside c.self.invariant c.args.self.now c.self.view_is c.requires.room
    c.first-place.result c.first-place.ensures.leads) in
    omega (arith, low, c.self.inside.tables.pairs.ok)

pub append-requires-2-clause-place : goal.append-requires-2-clause-place
append-requires-2-clause-place c =
    let low = join_low c.self.inside c.self.invariant c.first-place.result
    (first_free c.self.inside c.self.invariant c.args.self.now c.self.view_is c.requires.room
    c.first-place.result c.first-place.ensures.leads) in
    omega (arith, low, c.self.invariant.in_sources)

pub append-requires-2-clause-free : goal.append-requires-2-clause-free
append-requires-2-clause-free c =
    no_source_list c.self.inside c.self.invariant c.first-place.result
    (first_free c.self.inside c.self.invariant c.args.self.now c.self.view_is c.requires.room
    c.first-place.result c.first-place.ensures.leads) _ c.remove.ensures

pub append-requires-3-clause-place : goal.append-requires-3-clause-place
append-requires-3-clause-place c =
    let low = join_low c.self.inside c.self.invariant c.first-place.result
    (first_free c.self.inside c.self.invariant c.args.self.now c.self.view_is c.requires.room
    c.first-place.result c.first-place.ensures.leads) in
    omega (arith, low, c.self.invariant.in_dependants)

pub append-requires-3-clause-free : goal.append-requires-3-clause-free
append-requires-3-clause-free c =
    no_dependant_list c.self.inside c.self.invariant c.first-place.result
    (first_free c.self.inside c.self.invariant c.args.self.now c.self.view_is c.requires.room
    c.first-place.result c.first-place.ensures.leads) _ c.remove.ensures

abbrev after : goal.After-new → Inside
after c = record {
  tables = record {
    order = c.append.new.self;
    by_source = c.append-2.new.self;
    by_dependant = c.append-3.new.self;
    pairs = with_item c.self.inside.tables.pairs c.first-place.result
        (record { source = c.args.source; dependant = c.args.dependant });
  };
  places = c.self.inside.places;
  spare = c.self.inside.spare - 1;
  size = c.self.inside.size;
}

pub invariant_of-self : goal.invariant_of-self
invariant_of-self c =
    let is_free = first_free c.self.inside c.self.invariant c.args.self.now c.self.view_is c.requires.room
    c.first-place.result c.first-place.ensures.leads in
    let size = ap (λ (v : Linked). v.size) c.self.view_is in
    let pair : Pair = record { source = c.args.source; dependant = c.args.dependant } in
    let source_low : c.args.source < c.self.inside.size = omega (arith, size, c.requires.source) in
    let dependant_low : c.args.dependant < c.self.inside.size = omega (arith, size, c.requires.dependant) in
    join_kept c.self.inside c.self.invariant c.first-place.result is_free _ c.remove.ensures pair (after c) refl
    c.append.ensures c.append-2.ensures c.append-3.ensures source_low dependant_low refl refl refl

pub returns-clause-joined : goal.returns-clause-joined
returns-clause-joined c =
    let is_free = first_free c.self.inside c.self.invariant c.args.self.now c.self.view_is c.requires.room
    c.first-place.result c.first-place.ensures.leads in
    let size = ap (λ (v : Linked). v.size) c.self.view_is in
    let pair : Pair = record { source = c.args.source; dependant = c.args.dependant } in
    let source_low : c.args.source < c.self.inside.size = omega (arith, size, c.requires.source) in
    let dependant_low : c.args.dependant < c.self.inside.size = omega (arith, size, c.requires.dependant) in
    join_view c.self.inside c.self.invariant c.first-place.result is_free _ c.remove.ensures pair (after c) refl
    c.append.ensures c.append-2.ensures c.append-3.ensures source_low dependant_low refl refl refl
    c.args.self.now c.self.view_is
    ∙ ap (λ (n : ℕ). linked (c.args.self.now.edges ++ edge c.args.source c.args.dependant n ∷ [])
    (c.args.self.now.spare - 1) c.args.self.now.size) (sym c.new.ensures)

pub returns-clause-name : goal.returns-clause-name
returns-clause-name c =
    let is_free = first_free c.self.inside c.self.invariant c.args.self.now c.self.view_is c.requires.room
    c.first-place.result c.first-place.ensures.leads in
    ap (is_edge c.args.self.now) c.new.ensures
    ∙ not_an_edge c.self.inside c.self.invariant c.first-place.result is_free _ c.remove.ensures
    c.args.self.now c.self.view_is

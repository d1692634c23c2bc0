-- An edge leaves its lists, and its place is free.
use Rattle.std.proofs.Common.{◌+◌, refl, ◌∙◌, arith}
use Rattle.std.proofs.lemmas.List.{get_or_default}
use Rattle.scr_links.specs.declared.links.Links.TheInside.{Inside}
use Rattle.scr_links.proofs.States.{stands_at, cut_low, cut_in_pairs, cut_source_list, cut_dependant_list, cut_kept, cut_view}
use Rattle.scr_links.proofs.links.Links.cut.Goals as goal

pub index-requires : goal.index-requires
index-requires c =
    let stood = stands_at c.self.inside c.args.self.now c.e.inside.place c.args.e c.self.view_is c.e.view_is
    c.requires in
    let low = cut_in_pairs c.self.inside c.self.invariant c.e.inside.place stood in
    omega (arith, low, c.self.inside.tables.pairs.ok)

pub remove-requires : goal.remove-requires
remove-requires c =
    let stood = stands_at c.self.inside c.args.self.now c.e.inside.place c.args.e c.self.view_is c.e.view_is
    c.requires in
    let low = cut_in_pairs c.self.inside c.self.invariant c.e.inside.place stood in
    let pair = c.index.ensures ∙ get_or_default c.self.inside.tables.pairs.items c.e.inside.place c.index.result.now
    (record { source = 0; dependant = 0 }) low in
    cut_source_list c.self.inside c.self.invariant c.e.inside.place stood c.index.result.now pair

pub remove-requires-2 : goal.remove-requires-2
remove-requires-2 c =
    let stood = stands_at c.self.inside c.args.self.now c.e.inside.place c.args.e c.self.view_is c.e.view_is
    c.requires in
    let low = cut_in_pairs c.self.inside c.self.invariant c.e.inside.place stood in
    let pair = c.index.ensures ∙ get_or_default c.self.inside.tables.pairs.items c.e.inside.place c.index.result.now
    (record { source = 0; dependant = 0 }) low in
    cut_dependant_list c.self.inside c.self.invariant c.e.inside.place stood c.index.result.now pair

pub remove-requires-3 : goal.remove-requires-3
remove-requires-3 c =
    stands_at c.self.inside c.args.self.now c.e.inside.place c.args.e c.self.view_is c.e.view_is c.requires

pub append-requires-clause-place : goal.append-requires-clause-place
append-requires-clause-place c =
    let stood = stands_at c.self.inside c.args.self.now c.e.inside.place c.args.e c.self.view_is c.e.view_is
    c.requires in
    let low = cut_low c.self.inside c.self.invariant c.e.inside.place stood in
    omega (arith, low, c.self.invariant.in_order, c.remove-3.ensures.places)

abbrev after : goal.After-self-1 → Inside
after c = record {
  tables = record {
    order = c.append.new.self;
    by_source = c.remove.new.self;
    by_dependant = c.remove-2.new.self;
    pairs = c.self.inside.tables.pairs;
  };
  places = c.self.inside.places;
  spare = c.self.inside.spare + 1;
  size = c.self.inside.size;
}

pub invariant_of-self : goal.invariant_of-self
invariant_of-self c =
    let stood = stands_at c.self.inside c.args.self.now c.e.inside.place c.args.e c.self.view_is c.e.view_is
    c.requires in
    let low = cut_in_pairs c.self.inside c.self.invariant c.e.inside.place stood in
    let pair = c.index.ensures ∙ get_or_default c.self.inside.tables.pairs.items c.e.inside.place c.index.result.now
    (record { source = 0; dependant = 0 }) low in
    cut_kept c.self.inside c.self.invariant c.e.inside.place stood c.index.result.now pair _
    (after c) c.remove-3.ensures refl
    c.append.ensures c.remove.ensures c.remove-2.ensures refl refl refl

pub returns : goal.returns
returns c =
    let stood = stands_at c.self.inside c.args.self.now c.e.inside.place c.args.e c.self.view_is c.e.view_is
    c.requires in
    let low = cut_in_pairs c.self.inside c.self.invariant c.e.inside.place stood in
    let pair = c.index.ensures ∙ get_or_default c.self.inside.tables.pairs.items c.e.inside.place c.index.result.now
    (record { source = 0; dependant = 0 }) low in
    cut_view c.self.inside c.self.invariant c.e.inside.place stood c.index.result.now pair _
    (after c) c.remove-3.ensures refl
    c.append.ensures c.remove.ensures c.remove-2.ensures refl refl refl c.args.self.now c.args.e c.self.view_is
    c.e.view_is

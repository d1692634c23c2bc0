use Rattle.std.proofs.Common.{subst, ◌∙◌, arith}
use Rattle.scr_sum_tree.specs.Blocks.{part}
use Rattle.scr_sum_tree.specs.declared.blocks.Level.TheVariants as levels
use Rattle.scr_nodes.proofs.Walks.{on_ok}
use Rattle.scr_block_graph.specs.Books.{rolled_of}
use Rattle.scr_block_graph.specs.Graph.{roll_in, sources_in}
use Rattle.scr_block_graph.specs.declared.point.Point.TheVariants as points
use Rattle.scr_tree.proofs.PointSources.{Pushed, below-live, blocks-are, counted-are, first-sources, members-few, members-pushed, part-firsts, second-beside}
use Rattle.scr_tree.proofs.graph.Graph.push_below.Goals as goal

pub push_members-requires : goal.push_members-requires
push_members-requires c =
    let numbers = c.args.self.now.numbers in
    let book = numbers.book.now in
    let places = numbers.places.now in
    let lists = numbers.lists.now in
    let block = c.args.block.now in
    let are = c.requires.numbers in
    let roll = roll_in (rolled_of book) block.sum in
    members-few book places lists are c.requires.valid block.sum c.member_family.result c.member_family.ensures (part block.index roll)
    (sources_in (rolled_of book) (points.Block block)) (first-sources book places lists are c.requires.valid block c.requires.live c.in-First.is)
    (below-live book places lists are c.requires.valid block c.requires.live) c.part-own.result.now
    (part-firsts book places lists are c.requires.valid block c.requires.live c.roll.result c.roll.ensures c.members-members.result.now c.part-own.result.now
    c.members-members.ensures c.part-own.ensures)
    (omega (arith, c.len-size.ensures.size))

pub returns-in-First : goal.returns-in-First
returns-in-First c =
    let numbers = c.args.self.now.numbers in
    let book = numbers.book.now in
    let places = numbers.places.now in
    let lists = numbers.lists.now in
    let block = c.args.block.now in
    let are = c.requires.numbers in
    let roll = roll_in (rolled_of book) block.sum in
    on_ok c.push_members.result _ (Pushed book places lists c.args.list.now.items c.push_members.new.list.items (sources_in (rolled_of book) (points.Block block)))
    (members-pushed book places lists are c.requires.valid block.sum c.member_family.result c.member_family.ensures (part block.index roll)
    (sources_in (rolled_of book) (points.Block block)) (first-sources book places lists are c.requires.valid block c.requires.live c.in-First.is)
    (below-live book places lists are c.requires.valid block c.requires.live) c.part-own.result.now c.args.list.now.items c.push_members.new.list.items
    (part-firsts book places lists are c.requires.valid block c.requires.live c.roll.result c.roll.ensures c.members-members.result.now c.part-own.result.now
    c.members-members.ensures c.part-own.ensures))
    c.push_members.ensures

pub push_blocks-requires-clause-count : goal.push_blocks-requires-clause-count
push_blocks-requires-clause-count c =
    let numbers = c.args.self.now.numbers in
    counted-are numbers.book.now numbers.places.now numbers.lists.now c.requires.numbers c.requires.valid c.args.block.now.sum c.roll.result c.members-members.result.now
    c.members-members.ensures c.roll.ensures

pub push_blocks-requires-clause-there : goal.push_blocks-requires-clause-there
push_blocks-requires-clause-there c =
    let numbers = c.args.self.now.numbers in
    let told = blocks-are numbers.book.now numbers.places.now numbers.lists.now c.requires.numbers c.requires.valid c.args.block.now.sum c.roll.result
    c.members-members.result.now c.members-members.ensures c.roll.ensures levels.First in
    let firsts = c.blocks_at-firsts.ensures ∙ told in
    let until = c.places-among.ensures.end in
    omega (arith, firsts, until)

pub returns-in-Second : goal.returns-in-Second
returns-in-Second c =
    let numbers = c.args.self.now.numbers in
    let book = numbers.book.now in
    let places = numbers.places.now in
    let lists = numbers.lists.now in
    let block = c.args.block.now in
    let are = c.requires.numbers in
    on_ok c.push_blocks.result _ (Pushed book places lists c.args.list.now.items c.push_blocks.new.list.items (sources_in (rolled_of book) (points.Block block)))
    (subst (Pushed book places lists c.args.list.now.items c.push_blocks.new.list.items)
    (second-beside book places lists are c.requires.valid block c.requires.live c.in-Second.is c.roll.result c.roll.ensures c.members-members.result.now
    c.members-members.ensures c.blocks_at-firsts.result c.places-among.result.start c.places-among.result.end c.blocks_at-firsts.ensures c.places-among.ensures.start
    c.places-among.ensures.end))
    c.push_blocks.ensures

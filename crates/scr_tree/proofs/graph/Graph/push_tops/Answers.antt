use Rattle.std.proofs.Common.{◌≡◌, ◌-◌, ◌<◌, true, [], length, map, IfSome, Some, append-nil, subst, sym, ap, ◌∙◌, arith}
use Rattle.std.specs.List.{range_with_len}
use Rattle.scr_sum_tree.specs.Blocks.{blocks_at}
use Rattle.scr_sum_tree.specs.declared.blocks.Level.TheVariants as levels
use Rattle.scr_nodes.proofs.Walks.{on_ok}
use Rattle.scr_reachability.specs.Linked.{AreAt}
use Rattle.scr_block_graph.specs.Books.{rolled_of}
use Rattle.scr_block_graph.specs.Graph.{block_point, member_point, reads, roll_in, tops_of}
use Rattle.scr_block_graph.specs.declared.sum.Sum.{Sum}
use Rattle.scr_tree.specs.Points.{StandsIn}
use Rattle.scr_tree.proofs.PointSources.{Pushed, blocks-are, counted-are, firsts-are, members-few, members-pushed, tops-firsts, tops-live, tops-members, tops-seconds}
use Rattle.scr_tree.proofs.graph.Graph.push_tops.Goals as goal

pub returns-in_default : goal.returns-in_default
returns-in_default c =
    let numbers = c.args.self.now.numbers in (
      [],
      sym (append-nil c.args.list.now.items),
      subst (λ o. AreAt (StandsIn numbers.book.now numbers.places.now numbers.lists.now) [] (tops_of (rolled_of numbers.book.now) o)) (sym c.in_default.is) tt,
    )

-- ---- the members, where the list does not fall into Blocks

pub push_members-requires : goal.push_members-requires
push_members-requires c =
    let numbers = c.args.self.now.numbers in
    let book = numbers.book.now in
    let places = numbers.places.now in
    let lists = numbers.lists.now in
    let sum = c.in-Some.sum in
    let roll = roll_in (rolled_of book) sum in
    let there : reads book.sheet sum ≡ true = subst (λ o. IfSome o (λ (s : Sum). reads book.sheet s ≡ true)) c.in-Some.is c.requires.reads in
    let own = firsts-are book places lists c.requires.numbers c.requires.valid sum c.roll.result c.members-members.result.now c.members-members.ensures c.roll.ensures in
    let told = blocks-are book places lists c.requires.numbers c.requires.valid sum c.roll.result c.members-members.result.now c.members-members.ensures c.roll.ensures in
    let zero : c.blocks_at-firsts.result ≡ 0 = omega (arith, c.if-firsts-eq0.true) in
    let none : blocks_at (length roll) levels.First ≡ 0 = sym (c.blocks_at-firsts.ensures ∙ told levels.First) ∙ zero in
    members-few book places lists c.requires.numbers c.requires.valid sum c.member_family.result c.member_family.ensures roll (tops_of (rolled_of book) (Some sum))
    (tops-members (member_point sum) (block_point sum) roll none) (tops-live book places lists c.requires.numbers c.requires.valid sum there) c.members-members.result.now own
    (omega (arith, c.len-size.ensures.size))

pub returns-then-firsts-eq0 : goal.returns-then-firsts-eq0
returns-then-firsts-eq0 c =
    let numbers = c.args.self.now.numbers in
    let book = numbers.book.now in
    let places = numbers.places.now in
    let lists = numbers.lists.now in
    let sum = c.in-Some.sum in
    let roll = roll_in (rolled_of book) sum in
    let there : reads book.sheet sum ≡ true = subst (λ o. IfSome o (λ (s : Sum). reads book.sheet s ≡ true)) c.in-Some.is c.requires.reads in
    let own = firsts-are book places lists c.requires.numbers c.requires.valid sum c.roll.result c.members-members.result.now c.members-members.ensures c.roll.ensures in
    let told = blocks-are book places lists c.requires.numbers c.requires.valid sum c.roll.result c.members-members.result.now c.members-members.ensures c.roll.ensures in
    let zero : c.blocks_at-firsts.result ≡ 0 = omega (arith, c.if-firsts-eq0.true) in
    let none : blocks_at (length roll) levels.First ≡ 0 = sym (c.blocks_at-firsts.ensures ∙ told levels.First) ∙ zero in
    on_ok c.push_members.result _ (Pushed book places lists c.args.list.now.items c.push_members.new.list.items (tops_of (rolled_of book) c.args.sum.now))
    (λ now.
    subst (λ o. Pushed book places lists c.args.list.now.items c.push_members.new.list.items (tops_of (rolled_of book) o)) (sym c.in-Some.is)
    (members-pushed book places lists c.requires.numbers c.requires.valid sum c.member_family.result c.member_family.ensures roll (tops_of (rolled_of book) (Some sum))
    (tops-members (member_point sum) (block_point sum) roll none) (tops-live book places lists c.requires.numbers c.requires.valid sum there)
    c.members-members.result.now c.args.list.now.items c.push_members.new.list.items own now))
    c.push_members.ensures

-- ---- the Blocks of the first level

pub push_blocks-requires-clause-count : goal.push_blocks-requires-clause-count
push_blocks-requires-clause-count c =
    let numbers = c.args.self.now.numbers in
    counted-are numbers.book.now numbers.places.now numbers.lists.now c.requires.numbers c.requires.valid c.in-Some.sum c.roll.result c.members-members.result.now
    c.members-members.ensures c.roll.ensures

pub push_blocks-requires-clause-there : goal.push_blocks-requires-clause-there
push_blocks-requires-clause-there c =
    let numbers = c.args.self.now.numbers in
    let book = numbers.book.now in
    let places = numbers.places.now in
    let lists = numbers.lists.now in
    let sum = c.in-Some.sum in
    let told = blocks-are book places lists c.requires.numbers c.requires.valid sum c.roll.result c.members-members.result.now c.members-members.ensures c.roll.ensures in
    let few = c.blocks_at-firsts.ensures ∙ told levels.First in
    omega (arith, few)

pub returns-then-seconds-eq0 : goal.returns-then-seconds-eq0
returns-then-seconds-eq0 c =
    let numbers = c.args.self.now.numbers in
    let book = numbers.book.now in
    let places = numbers.places.now in
    let lists = numbers.lists.now in
    let sum = c.in-Some.sum in
    let roll = roll_in (rolled_of book) sum in
    let told = blocks-are book places lists c.requires.numbers c.requires.valid sum c.roll.result c.members-members.result.now c.members-members.ensures c.roll.ensures in
    let firsts : c.blocks_at-firsts.result ≡ blocks_at (length roll) levels.First = c.blocks_at-firsts.ensures ∙ told levels.First in
    let seconds : c.blocks_at-seconds.result ≡ blocks_at (length roll) levels.Second = c.blocks_at-seconds.ensures ∙ told levels.Second in
    let some : 0 < blocks_at (length roll) levels.First = omega (arith, firsts, c.if-firsts-eq0.false) in
    let none : blocks_at (length roll) levels.Second ≡ 0 = omega (arith, seconds, c.if-seconds-eq0.true) in
    let all : c.blocks_at-firsts.result - 0 ≡ blocks_at (length roll) levels.First = omega (arith, firsts) in
    on_ok c.push_blocks.result _ (Pushed book places lists c.args.list.now.items c.push_blocks.new.list.items (tops_of (rolled_of book) c.args.sum.now))
    (λ now.
    subst (λ o. Pushed book places lists c.args.list.now.items c.push_blocks.new.list.items (tops_of (rolled_of book) o)) (sym c.in-Some.is)
    (subst (Pushed book places lists c.args.list.now.items c.push_blocks.new.list.items)
    (ap (λ n. map (block_point sum levels.First) (range_with_len 0 n)) all ∙ tops-firsts (member_point sum) (block_point sum) roll some none) now))
    c.push_blocks.ensures

-- ---- those of the second

pub push_blocks-requires-else-seconds-eq0-clause-count : goal.push_blocks-requires-else-seconds-eq0-clause-count
push_blocks-requires-else-seconds-eq0-clause-count c =
    let numbers = c.args.self.now.numbers in
    counted-are numbers.book.now numbers.places.now numbers.lists.now c.requires.numbers c.requires.valid c.in-Some.sum c.roll.result c.members-members.result.now
    c.members-members.ensures c.roll.ensures

pub push_blocks-requires-else-seconds-eq0-clause-there : goal.push_blocks-requires-else-seconds-eq0-clause-there
push_blocks-requires-else-seconds-eq0-clause-there c =
    let numbers = c.args.self.now.numbers in
    let book = numbers.book.now in
    let places = numbers.places.now in
    let lists = numbers.lists.now in
    let sum = c.in-Some.sum in
    let told = blocks-are book places lists c.requires.numbers c.requires.valid sum c.roll.result c.members-members.result.now c.members-members.ensures c.roll.ensures in
    let few = c.blocks_at-seconds.ensures ∙ told levels.Second in
    omega (arith, few)

pub returns-else-seconds-eq0 : goal.returns-else-seconds-eq0
returns-else-seconds-eq0 c =
    let numbers = c.args.self.now.numbers in
    let book = numbers.book.now in
    let places = numbers.places.now in
    let lists = numbers.lists.now in
    let sum = c.in-Some.sum in
    let roll = roll_in (rolled_of book) sum in
    let told = blocks-are book places lists c.requires.numbers c.requires.valid sum c.roll.result c.members-members.result.now c.members-members.ensures c.roll.ensures in
    let firsts : c.blocks_at-firsts.result ≡ blocks_at (length roll) levels.First = c.blocks_at-firsts.ensures ∙ told levels.First in
    let seconds : c.blocks_at-seconds.result ≡ blocks_at (length roll) levels.Second = c.blocks_at-seconds.ensures ∙ told levels.Second in
    let some : 0 < blocks_at (length roll) levels.First = omega (arith, firsts, c.if-firsts-eq0.false) in
    let more : 0 < blocks_at (length roll) levels.Second = omega (arith, seconds, c.if-seconds-eq0.false) in
    let all : c.blocks_at-seconds.result - 0 ≡ blocks_at (length roll) levels.Second = omega (arith, seconds) in
    on_ok c.push_blocks-else-seconds-eq0.result _ (Pushed book places lists c.args.list.now.items c.push_blocks-else-seconds-eq0.new.list.items (tops_of (rolled_of book) c.args.sum.now))
    (λ now.
    subst (λ o. Pushed book places lists c.args.list.now.items c.push_blocks-else-seconds-eq0.new.list.items (tops_of (rolled_of book) o)) (sym c.in-Some.is)
    (subst (Pushed book places lists c.args.list.now.items c.push_blocks-else-seconds-eq0.new.list.items)
    (ap (λ n. map (block_point sum levels.Second) (range_with_len 0 n)) all ∙ tops-seconds (member_point sum) (block_point sum) roll some more) now))
    c.push_blocks-else-seconds-eq0.ensures

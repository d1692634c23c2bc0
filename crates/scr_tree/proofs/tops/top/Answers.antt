use Rattle.std.proofs.Common.{◌≡◌, ◌-◌, ◌<◌, ◌^◌, Some, length, map, sym, ap, subst, ◌∙◌, arith}
use Rattle.std.specs.List.{range_with_len}
use Rattle.scr_sum_tree.specs.Blocks.{blocks_at}
use Rattle.scr_sum_tree.specs.declared.blocks.Level.TheVariants as levels
use Rattle.scr_num.specs.Sizes.{AreTogether}
use Rattle.scr_num.specs.Sums.{sum_ends}
use Rattle.scr_block_graph.specs.Books.{rolled_of}
use Rattle.scr_block_graph.specs.Graph.{block_point, member_point, roll_in, tops_of}
use Rattle.scr_tree.specs.Adding.{AreKnownAt, IsAddedUp, blocks_among, worked_of}
use Rattle.scr_tree.proofs.PointSources.{blocks-are, counted-are, firsts-are, tops-firsts, tops-seconds}
use Rattle.scr_tree.proofs.Topped.{members-open, members-within, members-worth, top-small}
use Rattle.scr_tree.proofs.tops.top.Goals as goal

-- ---- the members, where the list does not fall into Blocks

pub add_figures-requires-clause-within : goal.add_figures-requires-clause-within
add_figures-requires-clause-within c =
    let b = c.args.basis in
    let book = b.inputs.book.now in
    let of = c.requires.basis.graph.numbers_of in
    let sum = c.args.sum.now in
    let roll = roll_in (rolled_of book) sum in
    let own = firsts-are book b.places.now b.lists.now of c.requires.basis.valid sum c.roll.result c.members-members.result.now c.members-members.ensures c.roll.ensures in
    let told = blocks-are book b.places.now b.lists.now of c.requires.basis.valid sum c.roll.result c.members-members.result.now c.members-members.ensures c.roll.ensures in
    let firsts : c.blocks_at-firsts.result ≡ blocks_at (length roll) levels.First = c.blocks_at-firsts.ensures ∙ told levels.First in
    let seconds : c.blocks_at-seconds.result ≡ blocks_at (length roll) levels.Second = c.blocks_at-seconds.ensures ∙ told levels.Second in
    let none : blocks_at (length roll) levels.First ≡ 0 = (let zero = c.if-firsts-eq0.true in omega (arith, firsts, zero)) in
    members-within b c.requires.basis c.args.figures.now sum c.requires.reads c.member_family.result c.member_family.ensures c.members-members.result.now own none c.requires.known

pub add_figures-requires-clause-together : goal.add_figures-requires-clause-together
add_figures-requires-clause-together c =
    let b = c.args.basis in
    let book = b.inputs.book.now in
    let of = c.requires.basis.graph.numbers_of in
    let sum = c.args.sum.now in
    let roll = roll_in (rolled_of book) sum in
    let own = firsts-are book b.places.now b.lists.now of c.requires.basis.valid sum c.roll.result c.members-members.result.now c.members-members.ensures c.roll.ensures in
    let told = blocks-are book b.places.now b.lists.now of c.requires.basis.valid sum c.roll.result c.members-members.result.now c.members-members.ensures c.roll.ensures in
    let firsts : c.blocks_at-firsts.result ≡ blocks_at (length roll) levels.First = c.blocks_at-firsts.ensures ∙ told levels.First in
    let seconds : c.blocks_at-seconds.result ≡ blocks_at (length roll) levels.Second = c.blocks_at-seconds.ensures ∙ told levels.Second in
    let none : blocks_at (length roll) levels.First ≡ 0 = (let zero = c.if-firsts-eq0.true in omega (arith, firsts, zero)) in
    subst (AreTogether (2 ^ 124)) (sym (members-worth b c.requires.basis c.args.figures.now sum c.requires.reads c.member_family.result c.member_family.ensures c.members-members.result.now own none c.requires.known))
    (top-small b c.requires.basis c.known.ensures sum c.requires.reads)

pub returns-then-firsts-eq0 : goal.returns-then-firsts-eq0
returns-then-firsts-eq0 c =
    let b = c.args.basis in
    let book = b.inputs.book.now in
    let of = c.requires.basis.graph.numbers_of in
    let sum = c.args.sum.now in
    let roll = roll_in (rolled_of book) sum in
    let own = firsts-are book b.places.now b.lists.now of c.requires.basis.valid sum c.roll.result c.members-members.result.now c.members-members.ensures c.roll.ensures in
    let told = blocks-are book b.places.now b.lists.now of c.requires.basis.valid sum c.roll.result c.members-members.result.now c.members-members.ensures c.roll.ensures in
    let firsts : c.blocks_at-firsts.result ≡ blocks_at (length roll) levels.First = c.blocks_at-firsts.ensures ∙ told levels.First in
    let seconds : c.blocks_at-seconds.result ≡ blocks_at (length roll) levels.Second = c.blocks_at-seconds.ensures ∙ told levels.Second in
    let none : blocks_at (length roll) levels.First ≡ 0 = (let zero = c.if-firsts-eq0.true in omega (arith, firsts, zero)) in
    record {
      span = c.add_figures.ensures.span ∙ ap sum_ends (members-worth b c.requires.basis c.args.figures.now sum c.requires.reads c.member_family.result c.member_family.ensures c.members-members.result.now own none c.requires.known);
      close = c.add_figures.ensures.close ∙ members-open b c.requires.basis c.args.figures.now sum c.requires.reads c.member_family.result c.member_family.ensures c.members-members.result.now own none c.requires.known;
    }

-- ---- the Blocks of the first level

pub add_blocks-requires-clause-count : goal.add_blocks-requires-clause-count
add_blocks-requires-clause-count c =
    let b = c.args.basis in
    let book = b.inputs.book.now in
    let of = c.requires.basis.graph.numbers_of in
    let sum = c.args.sum.now in
    let roll = roll_in (rolled_of book) sum in
    let own = firsts-are book b.places.now b.lists.now of c.requires.basis.valid sum c.roll.result c.members-members.result.now c.members-members.ensures c.roll.ensures in
    let told = blocks-are book b.places.now b.lists.now of c.requires.basis.valid sum c.roll.result c.members-members.result.now c.members-members.ensures c.roll.ensures in
    let firsts : c.blocks_at-firsts.result ≡ blocks_at (length roll) levels.First = c.blocks_at-firsts.ensures ∙ told levels.First in
    let seconds : c.blocks_at-seconds.result ≡ blocks_at (length roll) levels.Second = c.blocks_at-seconds.ensures ∙ told levels.Second in
    counted-are book b.places.now b.lists.now of c.requires.basis.valid sum c.roll.result c.members-members.result.now c.members-members.ensures c.roll.ensures

pub add_blocks-requires-clause-known : goal.add_blocks-requires-clause-known
add_blocks-requires-clause-known c =
    let b = c.args.basis in
    let book = b.inputs.book.now in
    let of = c.requires.basis.graph.numbers_of in
    let sum = c.args.sum.now in
    let roll = roll_in (rolled_of book) sum in
    let own = firsts-are book b.places.now b.lists.now of c.requires.basis.valid sum c.roll.result c.members-members.result.now c.members-members.ensures c.roll.ensures in
    let told = blocks-are book b.places.now b.lists.now of c.requires.basis.valid sum c.roll.result c.members-members.result.now c.members-members.ensures c.roll.ensures in
    let firsts : c.blocks_at-firsts.result ≡ blocks_at (length roll) levels.First = c.blocks_at-firsts.ensures ∙ told levels.First in
    let seconds : c.blocks_at-seconds.result ≡ blocks_at (length roll) levels.Second = c.blocks_at-seconds.ensures ∙ told levels.Second in
    let some : 0 < blocks_at (length roll) levels.First = omega (arith, firsts, c.if-firsts-eq0.false) in
    let none : blocks_at (length roll) levels.Second ≡ 0 = omega (arith, seconds, c.if-seconds-eq0.true) in
    let all : c.blocks_at-firsts.result - 0 ≡ blocks_at (length roll) levels.First = omega (arith, firsts) in
    let are : blocks_among sum levels.First 0 c.blocks_at-firsts.result ≡ tops_of (rolled_of book) (Some sum) =
    ap (λ n. map (block_point sum levels.First) (range_with_len 0 n)) all ∙ tops-firsts (member_point sum) (block_point sum) roll some none in
    subst (AreKnownAt b c.args.figures.now) (sym are) c.requires.known

pub add_blocks-requires-clause-together : goal.add_blocks-requires-clause-together
add_blocks-requires-clause-together c =
    let b = c.args.basis in
    let book = b.inputs.book.now in
    let of = c.requires.basis.graph.numbers_of in
    let sum = c.args.sum.now in
    let roll = roll_in (rolled_of book) sum in
    let own = firsts-are book b.places.now b.lists.now of c.requires.basis.valid sum c.roll.result c.members-members.result.now c.members-members.ensures c.roll.ensures in
    let told = blocks-are book b.places.now b.lists.now of c.requires.basis.valid sum c.roll.result c.members-members.result.now c.members-members.ensures c.roll.ensures in
    let firsts : c.blocks_at-firsts.result ≡ blocks_at (length roll) levels.First = c.blocks_at-firsts.ensures ∙ told levels.First in
    let seconds : c.blocks_at-seconds.result ≡ blocks_at (length roll) levels.Second = c.blocks_at-seconds.ensures ∙ told levels.Second in
    let some : 0 < blocks_at (length roll) levels.First = omega (arith, firsts, c.if-firsts-eq0.false) in
    let none : blocks_at (length roll) levels.Second ≡ 0 = omega (arith, seconds, c.if-seconds-eq0.true) in
    let all : c.blocks_at-firsts.result - 0 ≡ blocks_at (length roll) levels.First = omega (arith, firsts) in
    let are : blocks_among sum levels.First 0 c.blocks_at-firsts.result ≡ tops_of (rolled_of book) (Some sum) =
    ap (λ n. map (block_point sum levels.First) (range_with_len 0 n)) all ∙ tops-firsts (member_point sum) (block_point sum) roll some none in
    subst (AreTogether (2 ^ 124)) (sym (ap (map (worked_of b)) are)) (top-small b c.requires.basis c.known.ensures sum c.requires.reads)

pub returns-then-seconds-eq0 : goal.returns-then-seconds-eq0
returns-then-seconds-eq0 c =
    let b = c.args.basis in
    let book = b.inputs.book.now in
    let of = c.requires.basis.graph.numbers_of in
    let sum = c.args.sum.now in
    let roll = roll_in (rolled_of book) sum in
    let own = firsts-are book b.places.now b.lists.now of c.requires.basis.valid sum c.roll.result c.members-members.result.now c.members-members.ensures c.roll.ensures in
    let told = blocks-are book b.places.now b.lists.now of c.requires.basis.valid sum c.roll.result c.members-members.result.now c.members-members.ensures c.roll.ensures in
    let firsts : c.blocks_at-firsts.result ≡ blocks_at (length roll) levels.First = c.blocks_at-firsts.ensures ∙ told levels.First in
    let seconds : c.blocks_at-seconds.result ≡ blocks_at (length roll) levels.Second = c.blocks_at-seconds.ensures ∙ told levels.Second in
    let some : 0 < blocks_at (length roll) levels.First = omega (arith, firsts, c.if-firsts-eq0.false) in
    let none : blocks_at (length roll) levels.Second ≡ 0 = omega (arith, seconds, c.if-seconds-eq0.true) in
    let all : c.blocks_at-firsts.result - 0 ≡ blocks_at (length roll) levels.First = omega (arith, firsts) in
    let are : blocks_among sum levels.First 0 c.blocks_at-firsts.result ≡ tops_of (rolled_of book) (Some sum) =
    ap (λ n. map (block_point sum levels.First) (range_with_len 0 n)) all ∙ tops-firsts (member_point sum) (block_point sum) roll some none in
    subst (λ ps. IsAddedUp b ps c.add_blocks.result) are c.add_blocks.ensures

-- ---- those of the second

pub add_blocks-requires-else-seconds-eq0-clause-count : goal.add_blocks-requires-else-seconds-eq0-clause-count
add_blocks-requires-else-seconds-eq0-clause-count c =
    let b = c.args.basis in
    let book = b.inputs.book.now in
    let of = c.requires.basis.graph.numbers_of in
    let sum = c.args.sum.now in
    let roll = roll_in (rolled_of book) sum in
    let own = firsts-are book b.places.now b.lists.now of c.requires.basis.valid sum c.roll.result c.members-members.result.now c.members-members.ensures c.roll.ensures in
    let told = blocks-are book b.places.now b.lists.now of c.requires.basis.valid sum c.roll.result c.members-members.result.now c.members-members.ensures c.roll.ensures in
    let firsts : c.blocks_at-firsts.result ≡ blocks_at (length roll) levels.First = c.blocks_at-firsts.ensures ∙ told levels.First in
    let seconds : c.blocks_at-seconds.result ≡ blocks_at (length roll) levels.Second = c.blocks_at-seconds.ensures ∙ told levels.Second in
    counted-are book b.places.now b.lists.now of c.requires.basis.valid sum c.roll.result c.members-members.result.now c.members-members.ensures c.roll.ensures

pub add_blocks-requires-else-seconds-eq0-clause-known : goal.add_blocks-requires-else-seconds-eq0-clause-known
add_blocks-requires-else-seconds-eq0-clause-known c =
    let b = c.args.basis in
    let book = b.inputs.book.now in
    let of = c.requires.basis.graph.numbers_of in
    let sum = c.args.sum.now in
    let roll = roll_in (rolled_of book) sum in
    let own = firsts-are book b.places.now b.lists.now of c.requires.basis.valid sum c.roll.result c.members-members.result.now c.members-members.ensures c.roll.ensures in
    let told = blocks-are book b.places.now b.lists.now of c.requires.basis.valid sum c.roll.result c.members-members.result.now c.members-members.ensures c.roll.ensures in
    let firsts : c.blocks_at-firsts.result ≡ blocks_at (length roll) levels.First = c.blocks_at-firsts.ensures ∙ told levels.First in
    let seconds : c.blocks_at-seconds.result ≡ blocks_at (length roll) levels.Second = c.blocks_at-seconds.ensures ∙ told levels.Second in
    let some : 0 < blocks_at (length roll) levels.First = omega (arith, firsts, c.if-firsts-eq0.false) in
    let more : 0 < blocks_at (length roll) levels.Second = omega (arith, seconds, c.if-seconds-eq0.false) in
    let all : c.blocks_at-seconds.result - 0 ≡ blocks_at (length roll) levels.Second = omega (arith, seconds) in
    let are : blocks_among sum levels.Second 0 c.blocks_at-seconds.result ≡ tops_of (rolled_of book) (Some sum) =
    ap (λ n. map (block_point sum levels.Second) (range_with_len 0 n)) all ∙ tops-seconds (member_point sum) (block_point sum) roll some more in
    subst (AreKnownAt b c.args.figures.now) (sym are) c.requires.known

pub add_blocks-requires-else-seconds-eq0-clause-together : goal.add_blocks-requires-else-seconds-eq0-clause-together
add_blocks-requires-else-seconds-eq0-clause-together c =
    let b = c.args.basis in
    let book = b.inputs.book.now in
    let of = c.requires.basis.graph.numbers_of in
    let sum = c.args.sum.now in
    let roll = roll_in (rolled_of book) sum in
    let own = firsts-are book b.places.now b.lists.now of c.requires.basis.valid sum c.roll.result c.members-members.result.now c.members-members.ensures c.roll.ensures in
    let told = blocks-are book b.places.now b.lists.now of c.requires.basis.valid sum c.roll.result c.members-members.result.now c.members-members.ensures c.roll.ensures in
    let firsts : c.blocks_at-firsts.result ≡ blocks_at (length roll) levels.First = c.blocks_at-firsts.ensures ∙ told levels.First in
    let seconds : c.blocks_at-seconds.result ≡ blocks_at (length roll) levels.Second = c.blocks_at-seconds.ensures ∙ told levels.Second in
    let some : 0 < blocks_at (length roll) levels.First = omega (arith, firsts, c.if-firsts-eq0.false) in
    let more : 0 < blocks_at (length roll) levels.Second = omega (arith, seconds, c.if-seconds-eq0.false) in
    let all : c.blocks_at-seconds.result - 0 ≡ blocks_at (length roll) levels.Second = omega (arith, seconds) in
    let are : blocks_among sum levels.Second 0 c.blocks_at-seconds.result ≡ tops_of (rolled_of book) (Some sum) =
    ap (λ n. map (block_point sum levels.Second) (range_with_len 0 n)) all ∙ tops-seconds (member_point sum) (block_point sum) roll some more in
    subst (AreTogether (2 ^ 124)) (sym (ap (map (worked_of b)) are)) (top-small b c.requires.basis c.known.ensures sum c.requires.reads)

pub returns-else-seconds-eq0 : goal.returns-else-seconds-eq0
returns-else-seconds-eq0 c =
    let b = c.args.basis in
    let book = b.inputs.book.now in
    let of = c.requires.basis.graph.numbers_of in
    let sum = c.args.sum.now in
    let roll = roll_in (rolled_of book) sum in
    let own = firsts-are book b.places.now b.lists.now of c.requires.basis.valid sum c.roll.result c.members-members.result.now c.members-members.ensures c.roll.ensures in
    let told = blocks-are book b.places.now b.lists.now of c.requires.basis.valid sum c.roll.result c.members-members.result.now c.members-members.ensures c.roll.ensures in
    let firsts : c.blocks_at-firsts.result ≡ blocks_at (length roll) levels.First = c.blocks_at-firsts.ensures ∙ told levels.First in
    let seconds : c.blocks_at-seconds.result ≡ blocks_at (length roll) levels.Second = c.blocks_at-seconds.ensures ∙ told levels.Second in
    let some : 0 < blocks_at (length roll) levels.First = omega (arith, firsts, c.if-firsts-eq0.false) in
    let more : 0 < blocks_at (length roll) levels.Second = omega (arith, seconds, c.if-seconds-eq0.false) in
    let all : c.blocks_at-seconds.result - 0 ≡ blocks_at (length roll) levels.Second = omega (arith, seconds) in
    let are : blocks_among sum levels.Second 0 c.blocks_at-seconds.result ≡ tops_of (rolled_of book) (Some sum) =
    ap (λ n. map (block_point sum levels.Second) (range_with_len 0 n)) all ∙ tops-seconds (member_point sum) (block_point sum) roll some more in
    subst (λ ps. IsAddedUp b ps c.add_blocks-else-seconds-eq0.result) are c.add_blocks-else-seconds-eq0.ensures

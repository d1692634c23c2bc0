-- A record that is taken up: rows and lists follow it, and each figure and Block that is there before and after keeps its number.
use Rattle.std.proofs.Common.{◌≡◌, ◌≢◌, ◌⊎◌, inl, inr, ◌++◌, ℕ, zero, suc, ◌+◌, ◌<◌, ◌≤◌, true, List, [], ◌∷◌, length, reverse, Option, Some, None, Vec, Global, slice_get, IfSome, refl, sym, ap, subst, ◌∙◌, arith}
use Rattle.std.proofs.lemmas.Bool.{cases_eq}
use Rattle.scr_sum_tree.specs.declared.blocks.Level.{Level}
use Rattle.scr_sum_tree.specs.declared.blocks.Level.TheVariants as levels
use Rattle.scr_links.specs.Edges.{Linked}
use Rattle.scr_factors.specs.Values.{FactorValues}
use Rattle.scr_sheet.specs.Validity.{Valid}
use Rattle.scr_sheet.specs.declared.edit.Edit.{Edit}
use Rattle.scr_sheet.specs.declared.edit.Edit.TheVariants as edits
use Rattle.scr_sheet.specs.declared.keys.Table.{Table as RowTable}
use Rattle.scr_sheet.specs.declared.keys.Table.TheVariants as row_tables
use Rattle.scr_sheet.specs.declared.sheet.BalanceSheet.{BalanceSheet}
use Rattle.scr_nodes.specs.Live.{is_live}
use Rattle.scr_nodes.specs.declared.node.Node.{Node}
use Rattle.scr_ids.specs.Moves.{IsSameBut}
use Rattle.scr_ids.specs.Ranges.{IsApart, IsWithin, Numbered, count, first}
use Rattle.scr_ids.specs.declared.table.Table.TheVariants as tables
use Rattle.scr_book.specs.RolledSheets.{RolledSheet}
use Rattle.scr_book.specs.Rolls.{AreRollsOf, number_of_roll}
use Rattle.scr_figure_ids.specs.Families.{family_of, table_of}
use Rattle.scr_figure_ids.specs.Numbers.{IsNumbered, StandsAt}
use Rattle.scr_figure_ids.specs.Records.{step_of}
use Rattle.scr_figure_ids.specs.Steps.{CanTake, CanTakeBack, LeadsTo, Takes, TakesBack}
use Rattle.scr_figure_ids.specs.declared.steps.Step.{Step}
use Rattle.scr_figure_ids.specs.declared.steps.Step.TheVariants as steps
use Rattle.scr_figure_ids.proofs.Live.{live-stands, named-once}
use Rattle.scr_figure_ids.proofs.Moved.{came-keeps, step-can, step-keeps, step-numbered, went-kept}
use Rattle.scr_figure_ids.proofs.Recorded.{record-leads}
use Rattle.scr_figure_ids.proofs.Standing.{exact, only, parts-keep, parts-numbered}
use Rattle.scr_discounts.specs.KeptRates.{known_of}
use Rattle.scr_sum_slots.specs.Moves.{Freed, KeepsParts}
use Rattle.scr_sum_slots.specs.Parts.{AreOwn, Parted, key_of, slot_of, slots_in}
use Rattle.scr_sum_slots.specs.declared.parts.Part.{Part}
use Rattle.scr_member_index.specs.Following.{AreStill}
use Rattle.scr_member_index.specs.Lists.{AreListsOf, HasLists}
use Rattle.scr_member_index.specs.Parting.{HasLost, HasLostIn, HasMoreParts, HaveLost}
use Rattle.scr_member_index.specs.Standing.{move_of, stood_of}
use Rattle.scr_member_index.specs.declared.lists.Lists.{Lists}
use Rattle.scr_member_index.specs.declared.standing.Move.{Move}
use Rattle.scr_member_index.specs.declared.standing.Stood.{Stood}
use Rattle.scr_member_lists.specs.declared.seats.Seats.{Seats}
use Rattle.scr_reachability.specs.Linked.{AreNumbers, sources_in as linked_in}
use Rattle.scr_reachability.specs.Marks.{MarkedNumbers}
use Rattle.scr_partial_sums.specs.declared.figure.Figure.{Figure}
use Rattle.scr_block_graph.specs.BlockNumbers.{BlockAt, part_of, place_of}
use Rattle.scr_block_graph.specs.Books.{rolled_of}
use Rattle.scr_block_graph.specs.Graph.{is_live_in}
use Rattle.scr_block_graph.specs.declared.point.Block.{Block}
use Rattle.scr_block_graph.specs.declared.point.Point.{Point}
use Rattle.scr_block_graph.specs.declared.point.Point.TheVariants as points
use Rattle.scr_tree.specs.Ceiling.{IsCeiling, ceiling_after}
use Rattle.scr_tree.specs.Changed.{CanFollowLists, CanPutBack, HaveFollowed, IsFollowed, IsMoved, IsRecorded, IsStateOf, IsTakenFrom, IsUndone, IsUnchanged, KeepsAllButLists, KeepsState, StandsYet}
use Rattle.scr_tree.specs.Figures.{AreSettled}
use Rattle.scr_tree.specs.Graphs.{graph_of}
use Rattle.scr_tree.specs.Points.{AreNumbersOf, IsGraphOf, StandsIn, book_reckoning, list_numbers}
use Rattle.scr_tree.specs.declared.edits.State.{State}
use Rattle.scr_tree.specs.declared.edits.Taken.{Taken}
use Rattle.scr_tree.specs.declared.reckoning.Scratch.{Scratch}
use Rattle.scr_tree.proofs.Ceiling.{ceiling-followed, ceiling-kept, no-ceiling}
use Rattle.scr_tree.proofs.PointNumbers.{have-ranges, points-numbered}
use Rattle.scr_tree.proofs.PutBack.{IsAsWas, can-go-back as step-back, less-other, linked-yet, more-other, numbers-yet, settled-yet, taken-back, takes-grown}
use Rattle.scr_tree.proofs.RowFollowed.{can-follow-row, lists-after}
use Rattle.scr_tree.proofs.TakenUp.{known-kept}

-- ---- parts that are left keep their slots

got-left : {A : Type 0} (xs ys : List A) (k : ℕ) (x : A) → slice_get xs k ≡ Some x → slice_get (xs ++ ys) k ≡ Some x
got-left [] ys k x is = let clash : None ≡ Some x = is in absurd (cc)
got-left (z ∷ xs) ys zero x is = is
got-left (z ∷ xs) ys (suc k) x is = got-left xs ys k x is

freed-keeps : (key many : ℕ) (before now : Parted) → Freed key many before now → KeepsParts now before
freed-keeps key many before now gone part slot is = by (cases_eq (key_of part.list part.level) key)
  where
    own : ℕ
    own = key_of part.list part.level

    not-free : own ≢ 0
    not-free = by part.level
      where
        by : (level : Level) → key_of part.list level ≢ 0
        by levels.First e = omega (arith, e)
        by levels.Second e = omega (arith, e)

    by : (own ≡ key) ⊎ (own ≢ key) → slot_of part before ≡ Some slot
    by (inl e) =
        ap (λ xs. slice_get xs part.index) (subst (λ n. slots_in n before ≡ slots_in n now ++ reverse gone.freed) (sym e) gone.left)
        ∙ got-left (slots_in own now) (reverse gone.freed) part.index slot is
    by (inr ne) = ap (λ xs. slice_get xs part.index) (sym (gone.others own ne not-free)) ∙ is

lost-keeps : (list : ℕ) (before now : Parted) → HasLost list before now → KeepsParts now before
lost-keeps list before now lost part slot is =
    freed-keeps _ _ before lost.gone.between lost.gone.one part slot (freed-keeps _ _ lost.gone.between now lost.gone.two part slot is)

lost-all-keep : (table : RowTable) (at : Seats) (seats : ℕ) (before now : Parted) → HaveLost table at seats before now → KeepsParts now before
lost-all-keep table at zero before now same part slot is = ap (λ xs. slice_get xs part.index) (sym (same (key_of part.list part.level))) ∙ is
lost-all-keep table at (suc seat) before now lost part slot is =
    lost-all-keep table at seat before lost.0 lost.1 part slot (one lost.2)
  where
    one : HasLostIn table at seat lost.0 now → slot_of part lost.0 ≡ Some slot
    one (inl none) = ap (λ xs. slice_get xs part.index) (sym (none.1 (key_of part.list part.level))) ∙ is
    one (inr gone) = lost-keeps _ lost.0 now gone.1 part slot is

-- a part that is there before and after a move keeps its slot
same-slot : (moved : Option Move) (old new : Lists) → CanPutBack moved old new → (part : Part) (slot other : ℕ)
    → slot_of part new.parts ≡ Some slot → slot_of part old.parts ≡ Some other → slot_of part old.parts ≡ Some slot
same-slot None old new same part slot other is was = ap (λ (l : Lists). slot_of part l.parts) (sym same) ∙ is
same-slot (Some move) old new can part slot other is was =
    let there = can.own.kept part other was in
    let yet = lost-all-keep move.table move.before 11 can.own.between new.parts can.own.lost part slot is in
    let both : Some other ≡ Some slot = sym there ∙ yet in was ∙ both

-- ---- rows

same-back : (before now : Numbered) → IsSameBut tables.Part before now → IsSameBut tables.Part now before
same-back before now same = record {
  counts = λ other f. sym (same.counts other f);
  ranges = λ other f. sym (same.ranges other f);
  firsts = λ other f k. sym (same.firsts other f k);
}

part-rows : (step : Step) (s t : BalanceSheet) (old now : Numbered) → LeadsTo step s t → Takes step old now
    → (count now tables.Part ≡ count old tables.Part) × ((k : ℕ) → first now tables.Part k ≡ first old tables.Part k)
part-rows steps.Stays s t old now leads takes = (ap (λ p. count p tables.Part) takes, λ k. ap (λ p. first p tables.Part k) takes)
part-rows (steps.Comes table) s t old now leads takes =
    let apart = (more-other table s t leads).1 in (takes.others.counts tables.Part apart, takes.others.firsts tables.Part apart)
part-rows (steps.Goes table k) s t old now leads takes =
    let apart = (less-other table k s t leads).1 in (takes.others.counts tables.Part apart, takes.others.firsts tables.Part apart)

module _ (before after : BalanceSheet) (old now : Numbered) where
  yet-after : (step : Step) → LeadsTo step before after → Takes step old now → (node : Node) (number : ℕ)
      → StandsAt after now node number → StandsYet step before old after now node number
  yet-after steps.Stays leads takes node number at = at
  yet-after (steps.Comes table) leads takes node number at = at
  yet-after (steps.Goes table k) leads takes node number at = went-kept table k before after old now leads takes node number at

  yet-before : (step : Step) → LeadsTo step before after → Takes step old now → (node : Node) (number : ℕ)
      → StandsAt before old node number → StandsYet step before old after now node number
  yet-before steps.Stays leads takes node number at = subst (λ places. StandsAt after places node number) (sym takes) (record {
    k = at.k;
    row = ap (λ names. slice_get names at.k) (leads (table_of node)) ∙ at.row;
    at = at.at;
  })
  yet-before (steps.Comes table) leads takes node number at = came-keeps table before after old now leads takes node number at
  yet-before (steps.Goes table k) leads takes node number at = at

  -- rows of parts more change nothing of it
  yet-more : (step : Step) (more : Numbered) → HasMoreParts now more → (node : Node) (number : ℕ) → StandsYet step before old after now node number
      → StandsYet step before old after more node number
  yet-more steps.Stays more has node number at = parts-keep after now more has.others node number at
  yet-more (steps.Comes table) more has node number at = parts-keep after now more has.others node number at
  yet-more (steps.Goes table k) more has node number at = at

-- ---- a record that is taken

-- the step leads from the one balance sheet to the other
pub taken-leads : (factors : FactorValues) (before after : RolledSheet) (taken : Taken) → IsTakenFrom factors before after taken
    → LeadsTo taken.step before.sheet after.sheet
taken-leads factors before after taken by =
    subst (λ step. LeadsTo step before.sheet after.sheet) (sym by.step)
    (subst (LeadsTo (step_of taken.edit.now before.sheet) before.sheet) (sym by.sheet) (record-leads taken.edit.now before.sheet))

stood-has : (edit : Edit) (book : RolledSheet) (places : Numbered) → IfSome (stood_of edit book places) (λ (stood : Stood). HasLists stood.table)
stood-has (edits.Group name kind step) book places = refl
stood-has (edits.Security name class group currency duration) book places = refl
stood-has (edits.Flows security flows) book places = refl
stood-has (edits.Fund name components) book places = refl
stood-has (edits.Liability name kind currency) book places = refl
stood-has (edits.LiabilityFlows liability projection flows) book places = refl
stood-has (edits.Remove row_tables.Security name) book places = refl
stood-has (edits.Remove row_tables.Liability name) book places = refl
stood-has (edits.Remove row_tables.Fund name) book places = refl
stood-has (edits.Remove row_tables.Group name) book places = refl
stood-has (edits.Remove table name) book places = tt
stood-has edit book places = tt

-- ---- once rows have followed

module _ (factors : FactorValues) (after : RolledSheet) (taken : Taken) (gone : Option (Vec ℕ Global)) (state : State)
    (fo : IsFollowed factors after taken gone state) (later : Valid after.sheet) (rolls : AreRollsOf after.sheet after.rolls) where
  leads : LeadsTo taken.step fo.before.sheet after.sheet
  leads = taken-leads factors fo.before after taken fo.by

  numbered-then : IsNumbered after.sheet state.places
  numbered-then = step-numbered taken.step fo.before.sheet after.sheet fo.old state.places leads fo.takes fo.graph.numbers_of.numbered

  pub can-follow-lists : CanFollowLists after taken.stood.now state
  can-follow-lists = record {
    ranges = have-ranges after.sheet state.places numbered-then;
    table = subst (λ found. IfSome found (λ (stood : Stood). HasLists stood.table)) (sym fo.stood) (stood-has taken.edit.now fo.before fo.old);
    can = λ move is.
        can-follow-row factors fo.before after taken fo.by later fo.graph.numbers_of.rolls rolls fo.old state.places fo.graph.numbers_of.numbered
        fo.takes state.lists fo.graph.numbers_of.lists_of move
        (ap (λ stood. move_of stood after state.places) (sym fo.stood) ∙ is);
  }

  -- and lists
  module _ (moved : Option Move) (new : State) (has : HaveFollowed after taken.stood.now moved state new) (apart : IsApart new.places)
      (within : IsWithin new.places) (own : AreOwn new.lists.parts) where
    numbered-now : IsNumbered after.sheet new.places
    numbered-now = parts-numbered after.sheet state.places new.places has.places.others numbered-then

    lists-now : AreListsOf after new.places new.lists
    lists-now =
        lists-after factors fo.before after taken fo.by later fo.graph.numbers_of.rolls rolls fo.old state.places fo.graph.numbers_of.numbered
        fo.takes state.lists fo.graph.numbers_of.lists_of moved state new refl refl
        (subst (λ stood. HaveFollowed after stood moved state new) fo.stood has) own

    figures-now : AreNumbers (graph_of after.sheet) (StandsAt after.sheet new.places) new.places.size
    figures-now = record {
      exact = exact after.sheet new.places apart;
      only = λ node n m. only after.sheet new.places (named-once after.sheet later) n m node;
      live = live-stands after.sheet new.places numbered-now;
      within = λ node number at. within number (table_of node) at.k (family_of node) at.at;
    }

    pub numbers-now : AreNumbersOf after new.places new.lists
    numbers-now = record {
      rolls = rolls;
      numbered = numbered-now;
      lists_of = lists-now;
      numbers = points-numbered after new.places new.lists rolls apart within own lists-now figures-now;
    }

    stood-then : (node : Node) (number : ℕ) → StandsAt after.sheet new.places node number → StandsAt after.sheet state.places node number
    stood-then = parts-keep after.sheet new.places state.places (same-back state.places new.places has.places.others)

    figure-keeps : (node : Node) (number : ℕ) → StandsAt after.sheet new.places node number → is_live fo.before.sheet node ≡ true
        → StandsAt fo.before.sheet fo.old node number
    figure-keeps node number at live =
        let was = fo.graph.numbers_of.numbers.live (points.Figure node) live in
        let same = step-keeps taken.step fo.before.sheet after.sheet fo.old state.places leads fo.takes (named-once fo.before.sheet fo.by.valid)
        (named-once after.sheet later) node was.0 number was.1 (stood-then node number at) in
        subst (StandsAt fo.before.sheet fo.old node) same was.1

    rows-of-parts : (count state.places tables.Part ≡ count fo.old tables.Part) × ((k : ℕ) → first state.places tables.Part k ≡ first fo.old tables.Part k)
    rows-of-parts = part-rows taken.step fo.before.sheet after.sheet fo.old state.places leads fo.takes

    block-keeps : (block : Block) (number : ℕ) → StandsIn after new.places new.lists (points.Block block) number
        → is_live_in (rolled_of fo.before) (points.Block block) ≡ true → StandsIn fo.before fo.old state.lists (points.Block block) number
    block-keeps block number x live =
        let was = fo.graph.numbers_of.numbers.live (points.Block block) live in
        let at : BlockAt (list_numbers fo.before.rolls) state.lists.parts fo.old block was.0 = was.1 in
        let roll : at.roll ≡ x.roll =
        (let both : Some at.roll ≡ Some x.roll = sym (fo.by.lists _ at.roll at.numbered) ∙ x.numbered in cc) in
        let there : slot_of (part_of x.roll block) state.lists.parts ≡ Some at.slot =
        subst (λ r. slot_of (part_of r block) state.lists.parts ≡ Some at.slot) roll at.part in
        let part = same-slot moved state.lists new.lists has.back (part_of x.roll block) x.slot at.slot x.part there in
        let low = fo.graph.numbers_of.lists_of.rows (part_of x.roll block) x.slot part in
        let inside : x.slot < count state.places tables.Part = (let rows = rows-of-parts.0 in omega (arith, low, rows)) in record {
          roll = x.roll;
          numbered = subst (λ r. number_of_roll _ fo.before.rolls ≡ Some r) roll at.numbered;
          slot = x.slot;
          part = part;
          at = record {
            row = low;
            family = x.at.family;
            is = ap (λ n. n + place_of block.sum) (sym (has.places.firsts x.slot inside ∙ rows-of-parts.1 x.slot)) ∙ x.at.is;
          };
        }

    keeps : (point : Point) (number : ℕ) → StandsIn after new.places new.lists point number → is_live_in (rolled_of fo.before) point ≡ true
        → StandsIn fo.before fo.old state.lists point number
    keeps (points.Figure node) number at live = figure-keeps node number at live
    keeps (points.Block block) number at live = block-keeps block number at live

    pub is-moved : IsMoved factors after taken gone new
    is-moved = record {
      before = fo.before;
      old = fo.old;
      former = state.lists;
      by = fo.by;
      gone_numbers = fo.gone_numbers;
      numbers = numbers-now;
      keeps = keeps;
      still_before = λ node number at.
          yet-more fo.before.sheet after.sheet fo.old state.places taken.step new.places has.places node number
          (yet-before fo.before.sheet after.sheet fo.old state.places taken.step leads fo.takes node number at);
      still_after = λ node number at.
          yet-more fo.before.sheet after.sheet fo.old state.places taken.step new.places has.places node number
          (yet-after fo.before.sheet after.sheet fo.old state.places taken.step leads fo.takes node number (stood-then node number at));
      grown = let rows = takes-grown taken.step fo.old state.places fo.takes in let more = has.places.size in omega (arith, rows, more);
      rates = ap known_of has.rates ∙ fo.rates;
      graph = subst (λ (links : Linked). IsGraphOf fo.before fo.old state.lists links.edges) (sym has.links) fo.graph;
      figures = subst (λ (figures : List Figure). AreSettled (book_reckoning factors (rolled_of fo.before))
          (StandsIn fo.before fo.old state.lists) figures) (sym has.figures) fo.figures;
      ceiling = subst (IsCeiling new.places new.figures) (sym has.ceiling)
          (ceiling-kept state.places new.places state.figures new.figures state.scratch.ceiling (has.places.others.counts tables.Group refl)
          (has.places.others.firsts tables.Group refl) (λ n l. ap (λ (figures : List Figure). slice_get figures n) has.figures) fo.ceiling);
      size = subst (λ (links : Linked). links.size ≤ fo.old.size) (sym has.links) fo.size;
      marks = ap (λ (m : MarkedNumbers). m.list) has.marks ∙ fo.marks;
    }

-- ---- where memory is refused

-- lists are put back once all else is as it was
pub undone-lists : (after : RolledSheet) (stood : Option Stood) (moved : Option Move) (state new mid back : State)
    → HaveFollowed after stood moved state new → IsUnchanged new mid → KeepsAllButLists mid back → AreStill state.lists back.lists
    → IsUndone state back
undone-lists after stood moved state new mid back has un keeps still = record {
  rates = keeps.rates ∙ un.rates ∙ has.rates;
  places = subst (HasMoreParts state.places) (sym (keeps.places ∙ un.places)) has.places;
  lists = still;
  figures = λ n l.
      ap (λ (figures : List Figure). slice_get figures n) keeps.figures
      ∙ un.figures n (subst (λ (figures : List Figure). n < length figures) (sym has.figures) l)
      ∙ ap (λ (figures : List Figure). slice_get figures n) has.figures;
  links = λ n.
      ap (λ (links : Linked). linked_in links.edges n) keeps.links ∙ un.links n
      ∙ ap (λ (links : Linked). linked_in links.edges n) has.links;
  size = λ small.
      let before : new.links.size ≡ state.links.size = ap (λ (links : Linked). links.size) has.links in
      let last : back.links.size ≡ mid.links.size = ap (λ (links : Linked). links.size) keeps.links in
      let places : back.places.size ≡ new.places.size = ap (λ (p : Numbered). p.size) (keeps.places ∙ un.places) in
      let grown = has.places.size in
      let low = un.size (omega (arith, small, before, grown)) in
      omega (arith, low, last, places);
}

-- the lists can be put back
pub can-put-back : (after : RolledSheet) (stood : Option Stood) (moved : Option Move) (state new mid : State)
    → HaveFollowed after stood moved state new → IsUnchanged new mid → CanPutBack moved state.lists mid.lists
can-put-back after stood moved state new mid has un = subst (CanPutBack moved state.lists) (sym un.lists) has.back

-- ---- a record that is taken up

pub can-take : (factors : FactorValues) (after : RolledSheet) (taken : Taken) (known : Option (Vec ℕ Global)) (state : State)
    → IsRecorded factors after taken known state → CanTake taken.step state.places
can-take factors after taken known state rec =
    step-can taken.step rec.before.sheet after.sheet state.places (taken-leads factors rec.before after taken rec.by)
    rec.state_before.graph.numbers_of.numbered

-- the numbers of rows follow
pub followed : (factors : FactorValues) (after : RolledSheet) (taken : Taken) (known : Option (Vec ℕ Global)) (state : State) (places : Numbered)
    → IsRecorded factors after taken known state → Takes taken.step state.places places → (ceiling : Option ℕ)
    → ceiling ≡ ceiling_after taken.step state.scratch.ceiling
    → IsFollowed factors after taken known (record state { places = places; scratch = record state.scratch { ceiling = ceiling } })
followed factors after taken known state places rec takes ceiling kept = record {
  before = rec.before;
  old = state.places;
  by = rec.by;
  gone_numbers = rec.gone_numbers;
  stood = rec.stood;
  takes = takes;
  rates = rec.state_before.rates;
  graph = rec.state_before.graph;
  figures = rec.state_before.figures;
  ceiling = subst (IsCeiling places state.figures) (sym kept)
      (ceiling-followed taken.step state.places places state.figures state.scratch.ceiling takes rec.state_before.ceiling);
  size = rec.state_before.size;
  marks = rec.marks;
}

pub can-go-back : (factors : FactorValues) (before after : RolledSheet) (taken : Taken) → IsTakenFrom factors before after taken → (state : State)
    → IsStateOf factors before state → (places : Numbered) → Takes taken.step state.places places → (scratch : Scratch) (now : State)
    → IsUndone (record state { places = places; scratch = scratch }) now → CanTakeBack taken.step now.places
can-go-back factors before after taken by state is places takes scratch now un =
    step-back before.sheet after.sheet state.places places now.places now.places is.graph.numbers_of.numbered un.places taken.step
    (taken-leads factors before after taken by) takes

-- and are taken back
pub kept-back : (factors : FactorValues) (before after : RolledSheet) (taken : Taken) → IsTakenFrom factors before after taken → (state : State)
    → IsStateOf factors before state → (places : Numbered) → Takes taken.step state.places places → (scratch : Scratch) (now : State)
    → IsUndone (record state { places = places; scratch = scratch }) now → (back : Numbered) → TakesBack taken.step now.places back
    → IsStateOf factors before (record now { places = back; scratch = record now.scratch { ceiling = None } })
kept-back factors before after taken by state is places takes scratch now un back returns = record {
  rates = ap known_of un.rates ∙ is.rates;
  graph = record {
    numbers_of = numbers-yet before state.places back state.lists now.lists was un.lists is.graph.numbers_of;
    linked = linked-yet before state.places back state.lists now.lists was un.lists is.graph.numbers_of state.links.edges now.links.edges
        is.graph.linked un.links;
  };
  figures = settled-yet before state.places back state.lists now.lists was un.lists is.graph.numbers_of (book_reckoning factors (rolled_of before))
      now.figures
      (known-kept (book_reckoning factors (rolled_of before)) (StandsIn before state.places state.lists) (λ point. Unit {0}) state.figures
      now.figures un.figures is.figures);
  ceiling = no-ceiling back now.figures None refl;
  size =
      let small = is.size in
      let more = takes-grown taken.step state.places places takes in
      let low = un.size (omega (arith, small, more)) in
      let same = size-same taken.step returns in omega (arith, low, same);
}
  where
    was : IsAsWas state.places back
    was = taken-back before.sheet after.sheet state.places places now.places back is.graph.numbers_of.numbered un.places taken.step
        (taken-leads factors before after taken by) takes returns

    -- no size changes when a step is taken back
    size-same : (step : Step) → TakesBack step now.places back → back.size ≡ now.places.size
    size-same steps.Stays t = ap (λ (p : Numbered). p.size) t
    size-same (steps.Comes table) t = t.size
    size-same (steps.Goes table k) t = t.size

pub state-placed : (factors : FactorValues) (book : RolledSheet) (state : State) (places : Numbered) → places ≡ state.places
    → IsStateOf factors book state → IsStateOf factors book (record state { places = places })
state-placed factors book state places same is =
    subst (λ (p : Numbered). IsStateOf factors book (record state { places = p })) (sym same) (record {
      rates = is.rates;
      graph = is.graph;
      figures = is.figures;
      ceiling = is.ceiling;
      size = is.size;
    })

-- the numbers did not follow
pub keeps-placed : (factors : FactorValues) (after : RolledSheet) (taken : Taken) (state : State) (places : Numbered)
    → places ≡ state.places → (before : RolledSheet)
    → KeepsState factors before after taken state (record state { places = places })
keeps-placed factors after taken state places same before =
    λ by is marks. (state-placed factors before state places same is, marks)

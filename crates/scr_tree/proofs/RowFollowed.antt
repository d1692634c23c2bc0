-- The lists that an engine keeps can follow the row of a record that the book has taken, and then they are those of the book after it.
use Rattle.std.proofs.Common.{◌≡◌, ◌≤◌, Option, Some, IfSome, sym, ap, subst, ◌∙◌}
use Rattle.scr_factors.specs.Values.{FactorValues}
use Rattle.scr_sheet.specs.Validity.{Valid}
use Rattle.scr_ids.specs.Ranges.{Numbered, count}
use Rattle.scr_ids.specs.declared.table.Table.TheVariants as ranged
use Rattle.scr_book.specs.RolledSheets.{RolledSheet}
use Rattle.scr_book.specs.Rolls.{AreRollsOf}
use Rattle.scr_figure_ids.specs.Numbers.{IsNumbered}
use Rattle.scr_figure_ids.specs.Steps.{Takes}
use Rattle.scr_figure_ids.specs.declared.steps.Step.{Step}
use Rattle.scr_member_index.specs.Following.{AreFollowed, CanFollow}
use Rattle.scr_member_index.specs.Lists.{AreListsOf}
use Rattle.scr_member_index.specs.Parting.{HasMoreParts}
use Rattle.scr_member_index.specs.Standing.{move_of, stood_of}
use Rattle.scr_member_index.specs.declared.lists.Lists.{Lists}
use Rattle.scr_member_index.specs.declared.standing.Move.{Move}
use Rattle.scr_sum_slots.specs.Parts.{AreOwn, size_of}
use Rattle.scr_tree.specs.Changed.{HaveFollowed, IsTakenFrom}
use Rattle.scr_tree.specs.declared.edits.State.{State}
use Rattle.scr_tree.specs.declared.edits.Taken.{Taken}
use Rattle.scr_tree.proofs.FollowedLists.{IsStepped, Told, can-follow, lists-then, told-move}

module _ (factors : FactorValues) (before after : RolledSheet) (taken : Taken) (by : IsTakenFrom factors before after taken) (later : Valid after.sheet)
    (kept : AreRollsOf before.sheet before.rolls) (rolls : AreRollsOf after.sheet after.rolls) (old now : Numbered)
    (numbered : IsNumbered before.sheet old) (takes : Takes taken.step old now) (lists : Lists)
    (are : AreListsOf before old lists) where
  stepped : IsStepped taken.edit.now before after old now
  stepped = record {
    valid = by.valid;
    later = later;
    sheet = by.sheet;
    was = kept;
    is = rolls;
    rolls = by.rolls;
    numbers = by.lists;
    numbered = numbered;
    takes = subst (λ (step : Step). Takes step old now) by.step takes;
  }

  abbrev TheMove : Option Move → Type 0
  TheMove = Told taken.edit.now before after old now stepped

  told : TheMove (move_of (stood_of taken.edit.now before old) after now)
  told = told-move taken.edit.now before after old now stepped

  pub can-follow-row : (move : Move) → move_of (stood_of taken.edit.now before old) after now ≡ Some move → CanFollow move lists
  can-follow-row move is = can-follow taken.edit.now before after old now stepped lists are move (subst TheMove is told)

  -- the old state has the numbers and the lists that stand above
  pub lists-after : (moved : Option Move) (state new : State) → state.places ≡ now → state.lists ≡ lists
      → HaveFollowed after (stood_of taken.edit.now before old) moved state new → AreOwn new.lists.parts → AreListsOf after new.places new.lists
  lists-after moved state new same same_lists followed own =
      lists-then taken.edit.now before after old now stepped lists are new.places
      (subst (λ (places : Numbered). HasMoreParts places new.places) same followed.places) new.lists own moved
      (subst TheMove (sym (followed.told ∙ ap (move_of (stood_of taken.edit.now before old) after) same)) told)
      (subst (λ (l : Lists). IfSome moved (λ (move : Move). AreFollowed move l new.lists × (size_of new.lists.parts ≤ count new.places ranged.Part))) same_lists followed.lists)
      (λ none. followed.still none ∙ same_lists)

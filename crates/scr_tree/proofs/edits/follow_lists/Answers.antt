use Rattle.std.proofs.Common.{◌≤◌, refl, sym, ◌∙◌, arith}
use Rattle.scr_member_index.specs.Following.{AreStill}
use Rattle.scr_member_index.specs.Parting.{HasMoreParts}
use Rattle.scr_member_index.specs.declared.lists.Lists.{Lists}
use Rattle.scr_member_index.proofs.Made.{no-more}
use Rattle.scr_ids.specs.Ranges.{Numbered}
use Rattle.scr_tree.specs.Changed.{IsUndone}
use Rattle.scr_tree.specs.declared.edits.State.{State}
use Rattle.scr_tree.proofs.TakenUp.{err-so}
use Rattle.scr_tree.proofs.edits.follow_lists.Goals as goal

-- rows of parts more change nothing else
undone : (state : State) (places : Numbered) (lists : Lists) → HasMoreParts state.places places → AreStill state.lists lists
    → IsUndone state (record state { places = places; lists = lists })
undone state places lists more still = record {
  rates = refl;
  places = more;
  lists = still;
  figures = λ number low. refl;
  links = λ number. refl;
  size = λ small. let grown : state.places.size ≤ places.size = more.size in omega (arith, small, grown);
}

pub follow-requires : goal.follow-requires
follow-requires c = c.requires.can c.in-Some.moved (sym c.move_of.ensures ∙ c.in-Some.is)

pub returns-in_err-follow-in-Some-clause-err : goal.returns-in_err-follow-in-Some-clause-err
returns-in_err-follow-in-Some-clause-err c =
    err-so c.from_residual.result _
    (undone c.args.state.now c.follow.new.places c.follow.new.self c.follow.ensures.more c.in_err-follow-in-Some.ensures.err)

pub returns-in-None-clause-ok : goal.returns-in-None-clause-ok
returns-in-None-clause-ok c = record {
  told = sym c.in-None.is ∙ c.move_of.ensures;
  lists = tt;
  still = λ none. refl;
  back = refl;
  places = no-more c.args.state.now.places;
  rates = refl;
  figures = refl;
  ceiling = refl;
  links = refl;
  marks = refl;
}

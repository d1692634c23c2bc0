use Rattle.std.proofs.Common.{Option, refl, sym, subst}
use Rattle.scr_member_index.specs.Following.{AreStill}
use Rattle.scr_member_index.specs.declared.lists.Lists.{Lists}
use Rattle.scr_member_index.specs.declared.standing.Move.{Move}
use Rattle.scr_tree.specs.Changed.{CanPutBack}
use Rattle.scr_tree.proofs.edits.put_lists_back.Goals as goal

-- lists that did not move stand as they stood
still : (lists : Lists) → AreStill lists lists
still lists = record { firsts = λ table has list. refl; parts = record { counts = λ list level. refl; kept = λ part slot is. is } }

pub take_back-requires : goal.take_back-requires
take_back-requires c =
    (c.requires.0, subst (λ (moved : Option Move). CanPutBack moved c.requires.0 c.args.state.now.lists) c.in-Some.is c.requires.1)

pub returns-in-Some-clause-lists : goal.returns-in-Some-clause-lists
returns-in-Some-clause-lists c = λ before can.
    c.take_back.ensures before (subst (λ (moved : Option Move). CanPutBack moved before c.args.state.now.lists) c.in-Some.is can)

pub returns-in_default-clause-lists : goal.returns-in_default-clause-lists
returns-in_default-clause-lists c = λ before can.
    subst (AreStill before) (sym (subst (λ (moved : Option Move). CanPutBack moved before c.args.state.now.lists) c.in_default.is can)) (still before)

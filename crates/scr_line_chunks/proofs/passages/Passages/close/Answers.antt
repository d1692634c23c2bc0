-- The passage that is ended ends with the lines.
use Rattle.std.proofs.Common.{sym, subst}
use Rattle.std.specs.Global.{Vec}
use Rattle.scr_line_chunks.specs.Passages.{AreWhole, IsWhole}
use Rattle.scr_line_chunks.proofs.Closed.{all_whole, whole_behind}
use Rattle.scr_line_chunks.proofs.passages.Passages.close.Goals as goal

pub returns-clause-whole : goal.returns-clause-whole
returns-clause-whole c =
    let lines = subst IsWhole (sym c.in_ok-extend_from_slice-2.ensures.items) (whole_behind _ _ c.requires.lines) in
    let passage = subst (λ (v : Vec _). IsWhole v.items) (sym c.replace.ensures.value) lines in
    subst AreWhole (sym c.in_ok-push.ensures.items) (all_whole _ _ c.requires.whole passage)

use Rattle.std.proofs.Common.{◌≡◌, length, Some, slice_get, sym, ap, subst, ◌∙◌, arith}
use Rattle.scr_links.specs.Edges.{Linked}
use Rattle.scr_sheet.specs.BalanceSheet.{position_name}
use Rattle.scr_sheet.specs.declared.sheet.BalanceSheet.{BalanceSheet}
use Rattle.scr_tree.proofs.Grounds.{as-long, security-alive, security-called}
use Rattle.scr_tree.specs.First.{AreLinkedTo}
use Rattle.scr_tree.specs.Turns.{turn}
use Rattle.scr_tree.proofs.FirstRows.{got-row}
use Rattle.scr_tree.proofs.Linking.{linked-over, securities-linked}
use Rattle.scr_tree.proofs.Unheld.{linked-unheld}
use Rattle.scr_tree.proofs.first_links.link_securities.Goals as goal
use Rattle.scr_tree.proofs.first_links.link_securities.Goals.{then-is_held+in_ok-link_gathered, else-is_held}

pub is_held-requires-clause-row : goal.is_held-requires-clause-row
is_held-requires-clause-row c =
    let rows = ap (λ (s : BalanceSheet). length s.securities) c.sheet-sheet.ensures.sheet in
    omega (arith, rows, c.loop-k-test.true, c.len-k-end.ensures.count)

pub link_gathered-requires-clause-live : goal.link_gathered-requires-clause-live
link_gathered-requires-clause-live c =
    security-alive c.args.ground c.requires.ground c.loop-k.k c.at.result.now
    (subst (λ (s : BalanceSheet). slice_get s.securities c.loop-k.k ≡ Some c.at.result.now) c.sheet-sheet.ensures.sheet c.at.ensures)

pub link_gathered-requires-clause-row : goal.link_gathered-requires-clause-row
link_gathered-requires-clause-row c =
    security-called c.args.ground c.requires.ground c.loop-k.k c.at.result.now
    (subst (λ (s : BalanceSheet). slice_get s.securities c.loop-k.k ≡ Some c.at.result.now) c.sheet-sheet.ensures.sheet c.at.ensures)

pub loop-k-preserved : goal.loop-k-preserved
loop-k-preserved c =
    let sheet = c.args.ground.book.now.sheet in
    let k = c.loop-k.k in
    elim c.if-is_held.branch [
      | then-is_held+in_ok-link_gathered w ↦
          securities-linked c.args.ground c.requires.ground k c.if-is_held.links
          (subst (λ (links : Linked). AreLinkedTo c.args.ground links (turn 1 k 1)) (sym w.links-is) w.in_ok-link_gathered.ensures)
      | else-is_held w ↦
          let rows = ap (λ (s : BalanceSheet). length s.securities) c.sheet-sheet.ensures.sheet in
          let row = got-row sheet.securities k (omega (arith, rows, c.loop-k-test.true, c.len-k-end.ensures.count)) in
          securities-linked c.args.ground c.requires.ground k c.if-is_held.links
          (subst (λ (links : Linked). AreLinkedTo c.args.ground links (turn 1 k 1)) (sym w.links-is)
          (linked-unheld c.args.ground c.requires.ground c.loop-k.links k row.0 row.1 (sym (c.is_held.ensures row.0 row.1) ∙ w.if-is_held.false) c.loop-k.invariant))
    ]

pub returns : goal.returns
returns c =
    let rows = ap (λ (s : BalanceSheet). length s.securities) c.sheet-sheet.ensures.sheet in
    linked-over c.args.ground c.requires.ground 1 c.loop-k.k
    (as-long position_name c.args.ground.book.now.sheet.securities c.loop-k.k
    (omega (arith, rows, c.loop-k-test.false, c.loop-k.auto.k-end, c.len-k-end.ensures.count)))
    c.loop-k.links c.loop-k.invariant

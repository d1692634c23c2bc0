use Rattle.std.proofs.Common.{rules, ◌≢◌, Some, slice_get, ap, sym, subst, ◌∙◌}
use Rattle.scr_sum_slots.proofs.Views.{no-some, one-some}
use Rattle.scr_sheet.specs.declared.{keys.Table.Table, sheet.BalanceSheet.BalanceSheet}
use Rattle.scr_sheet.specs.declared.roll.Roll.TheVariants as rolls
use Rattle.scr_tree.specs.Reading.{IsRollAt}
use Rattle.scr_tree.proofs.RollSeats.{assets-roll, class-roll, flows-roll, group-roll, lines-roll, losses-roll}
use Rattle.scr_tree.proofs.graph.Numbers.roll_in.Goals as goal

pub returns-in-0-clause-member : goal.returns-in-0-clause-member
returns-in-0-clause-member c = λ roll is.
    let sheet = c.args.self.now.book.now.sheet in
    let got = ap (λ (s : BalanceSheet). slice_get s.securities c.args.row) (sym c.sheet-sheet.ensures.sheet) ∙ c.at.ensures in
    let here = subst (λ (t : Table). IsRollAt t c.args.row c.args.seat sheet roll) c.in-Security.is is in
    ap Some (class-roll sheet c.sheet-sheet.ensures.valid c.args.row c.args.seat roll c.at.result.now got here c.in-0.is)

pub returns-in_err-security-in-2-clause-member : goal.returns-in_err-security-in-2-clause-member
returns-in_err-security-in-2-clause-member c = λ roll is.
    let sheet = c.args.self.now.book.now.sheet in
    let got = ap (λ (s : BalanceSheet). slice_get s.securities c.args.row) (sym c.sheet-sheet.ensures.sheet) ∙ c.at.ensures in
    let here = subst (λ (t : Table). IsRollAt t c.args.row c.args.seat sheet roll) c.in-Security.is is in
    let own = group-roll sheet c.sheet-sheet.ensures.valid c.args.row c.args.seat roll c.at.result.now got here c.in-2.is in
    absurd (no-some (sym c.in_err-security-in-2.was ∙ own.1))

pub returns-in_ok-security-in-2-clause-member : goal.returns-in_ok-security-in-2-clause-member
returns-in_ok-security-in-2-clause-member c = λ roll is.
    let sheet = c.args.self.now.book.now.sheet in
    let got = ap (λ (s : BalanceSheet). slice_get s.securities c.args.row) (sym c.sheet-sheet.ensures.sheet) ∙ c.at.ensures in
    let here = subst (λ (t : Table). IsRollAt t c.args.row c.args.seat sheet roll) c.in-Security.is is in
    let own = group-roll sheet c.sheet-sheet.ensures.valid c.args.row c.args.seat roll c.at.result.now got here c.in-2.is in
    ap Some (ap rolls.Group (one-some (sym c.in_ok-security-in-2.was ∙ own.1)) ∙ own.2)

pub returns-in-3-clause-member : goal.returns-in-3-clause-member
returns-in-3-clause-member c = λ roll is.
    let sheet = c.args.self.now.book.now.sheet in
    let got = ap (λ (s : BalanceSheet). slice_get s.securities c.args.row) (sym c.sheet-sheet.ensures.sheet) ∙ c.at.ensures in
    let here = subst (λ (t : Table). IsRollAt t c.args.row c.args.seat sheet roll) c.in-Security.is is in
    ap Some (assets-roll sheet c.sheet-sheet.ensures.valid c.args.row c.args.seat roll c.at.result.now got here c.in-3.is)

pub returns-in_default-seat-clause-member : goal.returns-in_default-seat-clause-member
returns-in_default-seat-clause-member c = λ roll is.
    let sheet = c.args.self.now.book.now.sheet in
    let got = ap (λ (s : BalanceSheet). slice_get s.securities c.args.row) (sym c.sheet-sheet.ensures.sheet) ∙ c.at.ensures in
    let here = subst (λ (t : Table). IsRollAt t c.args.row c.args.seat sheet roll) c.in-Security.is is in
    let zero : c.args.seat ≢ 0 = search rules in
    let one : c.args.seat ≢ 1 = search rules in
    let two : c.args.seat ≢ 2 = search rules in
    let three : c.args.seat ≢ 3 = search rules in
    ap Some (flows-roll sheet c.sheet-sheet.ensures.valid c.args.row c.args.seat roll c.at.result.now got here zero one two three)

pub returns-then-seat-eq10-clause-member : goal.returns-then-seat-eq10-clause-member
returns-then-seat-eq10-clause-member c = λ roll is.
    let sheet = c.args.self.now.book.now.sheet in
    let got = ap (λ (s : BalanceSheet). slice_get s.liabilities c.args.row) (sym c.sheet-sheet.ensures.sheet) ∙ c.at-liability.ensures in
    let here = subst (λ (t : Table). IsRollAt t c.args.row c.args.seat sheet roll) c.in-Liability.is is in
    ap Some (lines-roll sheet c.sheet-sheet.ensures.valid c.args.row c.args.seat roll c.at-liability.result.now got here c.if-seat-eq10.true)

pub returns-else-seat-eq10-clause-member : goal.returns-else-seat-eq10-clause-member
returns-else-seat-eq10-clause-member c = λ roll is.
    let sheet = c.args.self.now.book.now.sheet in
    let got = ap (λ (s : BalanceSheet). slice_get s.liabilities c.args.row) (sym c.sheet-sheet.ensures.sheet) ∙ c.at-liability.ensures in
    let here = subst (λ (t : Table). IsRollAt t c.args.row c.args.seat sheet roll) c.in-Liability.is is in
    ap Some (losses-roll sheet c.sheet-sheet.ensures.valid c.args.row c.args.seat roll c.at-liability.result.now got here c.projection_in.result
    c.if-seat-eq10.false c.projection_in.ensures)

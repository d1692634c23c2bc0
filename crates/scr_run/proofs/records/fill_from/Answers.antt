-- The next passage was applied, or one of its records was refused.
use Rattle.std.proofs.Common.{◌≡◌, ℕ, ◌+◌, ◌≤◌, List, ◌∷◌, ◌++◌, length, Ok, sym, ap, subst, ◌∙◌, arith}
use Rattle.std.specs.Vec.Iter.{into_iter_items}
use Rattle.scr_line_chunks.specs.Passages.{AreWhole, ended_lines, joined, records_behind}
use Rattle.scr_run.specs.BookFile.{sheet_from}
use Rattle.scr_run.proofs.Filling.{fault_stays, joined_from, passage_applied, passage_refused, still_short}
use Rattle.scr_run.proofs.records.fill_from.Goals as goal

pub returns-in-Err-clause-answer : goal.returns-in-Err-clause-answer
returns-in-Err-clause-answer c =
    let at = c.loop-passage in
    let rest = joined (into_iter_items c.next.new.self) ++ c.args.file.last.items in
    let steps : into_iter_items at.passage-iterator ≡ c.in-Some.passage ∷ into_iter_items c.next.new.self = c.in-Some.ensures.steps.0 in
    let whole = subst AreWhole steps at.invariant.whole in
    let left = joined_from _ _ c.in-Some.passage c.args.file.last.items steps in
    fault_stays _ _ c.in-Err.fault _ (λ refused told. sym at.invariant.sheet
    ∙ ap (λ (b : List ℕ). sheet_from (records_behind at.passed b) at.book.sheet) left
    ∙ passage_refused at.passed c.in-Some.passage.items rest whole.0 at.book.sheet refused
    (ap (λ (b : List ℕ). sheet_from (records_behind at.passed b) at.book.sheet) (sym c.as_slice.ensures.value) ∙ told)) c.in-Err.ensures.answer

pub loop-passage-preserved : goal.loop-passage-preserved
loop-passage-preserved c =
    let at = c.loop-passage in
    let rest = joined (into_iter_items c.next.new.self) ++ c.args.file.last.items in
    let steps : into_iter_items at.passage-iterator ≡ c.in-Some.passage ∷ into_iter_items c.next.new.self = c.in-Some.ensures.steps.0 in
    let whole = subst AreWhole steps at.invariant.whole in
    let left = joined_from _ _ c.in-Some.passage c.args.file.last.items steps in
    let passed : c.passed_behind-passed.result ≡ at.passed + ended_lines c.in-Some.passage.items =
    c.passed_behind-passed.ensures.passed ∙ ap (λ (b : List ℕ). at.passed + ended_lines b) c.as_slice-in-loop-passage.ensures.value in
    let applied : sheet_from (records_behind at.passed c.in-Some.passage.items) at.book.sheet ≡ Ok c.fill.new.book.sheet =
    ap (λ (b : List ℕ). sheet_from (records_behind at.passed b) at.book.sheet) (sym c.as_slice.ensures.value) ∙ c.in-Ok.ensures.answer in
    let within = subst (λ (b : List ℕ). c.passed_behind-passed.result ≤ at.passed + length b) c.as_slice-in-loop-passage.ensures.value c.passed_behind-passed.ensures.within in
    record {
      sheet = ap (λ (n : ℕ). sheet_from (records_behind n rest) c.fill.new.book.sheet) passed
          ∙ sym (passage_applied at.passed c.in-Some.passage.items rest whole.0 at.book.sheet c.fill.new.book.sheet applied)
          ∙ ap (λ (b : List ℕ). sheet_from (records_behind at.passed b) at.book.sheet) (sym left) ∙ at.invariant.sheet;
      whole = whole.1;
      short = still_short _ _ _ _ _ left at.invariant.short within;
      counted = (let was = at.invariant.counted in
          let gone = c.in-Some.ensures.steps.1 in
          let fewer = ap length steps in
          omega arith);
    }

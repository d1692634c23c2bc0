use Rattle.std.proofs.Common.{◌≡◌, ◌∙◌, ◌+◌, ◌-◌, ◌++◌, ℕ, List, None, Some, suc, drop, length, slice_get, take, sym, ap, subst, arith}
use Rattle.std.proofs.lemmas.List.{length-append}
use Rattle.scr_factors.specs.Values.{FactorValues}
use Rattle.scr_sheet.specs.declared.sheet.BalanceSheet.{BalanceSheet}
use Rattle.scr_cells.specs.Lines.{IsBlock, LineList}
use Rattle.scr_cells.specs.Table.{seen, table}
use Rattle.scr_cells.specs.declared.lines.Line.{Line}
use Rattle.scr_cells.specs.declared.table.Entry.{Entry}
use Rattle.scr_cells.proofs.Forming.{IsForming, forming-anew, forming-block, forming-ends, forming-next, forming-starts, forming-stays}
use Rattle.scr_cells.proofs.LineLists.{IsBlank, IsNext}
use Rattle.scr_cells.proofs.LiveCells.{length-table, live_at}
use Rattle.scr_cells.proofs.lines.renew.Goals as goal
use Rattle.scr_cells.proofs.lines.renew.Goals.{then-not-stays+in_ok-line+in_ok-replace+in_ok-put, else-not-stays}

pub loop-k-init : goal.loop-k-init
loop-k-init c =
    let factors = c.args.engine.now.factors in
    let sheet = c.args.engine.now.sheet in
    let lines = c.make_room.new.lines.items in
    let text = c.make_room.new.text.items in
    let all : c.len-left.result ≡ length text = (let long = c.len-left.ensures in omega (arith, long)) in
    subst (λ (left : ℕ). IsForming factors sheet lines text left 0) (sym all)
    (forming-starts factors sheet lines text
    (subst (IsBlock lines) (sym c.in_ok-make_room.ensures.text)
    (subst (λ (items : LineList). IsBlock items c.args.text.now.items) (sym c.in_ok-make_room.ensures.lines) c.requires)))

-- what is found of the former line
next : (factors : FactorValues) (sheet : BalanceSheet) (lines got : LineList) (text : List ℕ) (left k : ℕ) (entry : Entry) (line : Line)
    → (forming : IsForming factors sheet lines text left k) → got ≡ lines → slice_get table k ≡ Some (seen entry)
    → ((x : Line) → slice_get got k ≡ Some x → line ≡ x) → (slice_get got k ≡ None → IsBlank (seen entry) line)
    → IsNext forming.rest (seen entry) (drop (suc k) table) forming.back line
next factors sheet lines got text left k entry line forming is at there absent =
    forming-next factors sheet lines text left k (seen entry) line forming at
    (λ x here. there x (ap (λ (items : LineList). slice_get items k) is ∙ here))
    (λ none. absent (ap (λ (items : LineList). slice_get items k) is ∙ none))

pub overflow_sub-left : goal.overflow_sub-left
overflow_sub-left c =
    let found = next _ _ c.loop-k.lines.items _ _ _ _ c.entry_of-entry.result.now c.line_at-former.result c.loop-k.invariant c.as_slice.ensures.value
    c.entry_of-entry.ensures c.line_at-former.ensures.there c.line_at-former.ensures.absent in
    let room = found.room in
    let size = c.loop-k.invariant.size in
    omega (arith, room, size)

pub stays-requires-clause-live : goal.stays-requires-clause-live
stays-requires-clause-live c = live_at c.args.engine.now.sheet c.loop-k.k _ c.entry_of-entry.ensures

pub stays-requires-clause-family : goal.stays-requires-clause-family
stays-requires-clause-family c =
    (next _ _ c.loop-k.lines.items _ _ _ _ c.entry_of-entry.result.now c.line_at-former.result c.loop-k.invariant c.as_slice.ensures.value
    c.entry_of-entry.ensures c.line_at-former.ensures.there c.line_at-former.ensures.absent).family

pub line_of-requires-clause-live : goal.line_of-requires-clause-live
line_of-requires-clause-live c = live_at c.args.engine.now.sheet c.loop-k.k _ c.entry_of-entry.ensures

pub line_of-requires-clause-family : goal.line_of-requires-clause-family
line_of-requires-clause-family c =
    (next _ _ c.loop-k.lines.items _ _ _ _ c.entry_of-entry.result.now c.line_at-former.result c.loop-k.invariant c.as_slice.ensures.value
    c.entry_of-entry.ensures c.line_at-former.ensures.there c.line_at-former.ensures.absent).family

pub replace-requires : goal.replace-requires
replace-requires c =
    let found = next _ _ c.loop-k.lines.items _ _ _ _ c.entry_of-entry.result.now c.line_at-former.result c.loop-k.invariant c.as_slice.ensures.value
    c.entry_of-entry.ensures c.line_at-former.ensures.there c.line_at-former.ensures.absent in
    let room = found.room in
    let size = c.loop-k.invariant.size in
    let long = ap length c.loop-k.invariant.text_is ∙ length-append c.loop-k.invariant.front c.loop-k.invariant.back in
    omega (arith, room, size, long)

-- the loop's variables are those of the branch
moved : (factors : FactorValues) (sheet : BalanceSheet) (lines lines_now : LineList) (text text_now : List ℕ) (left k : ℕ) → lines_now ≡ lines
    → text_now ≡ text → IsForming factors sheet lines text left (suc k) → IsForming factors sheet lines_now text_now left (k + 1)
moved factors sheet lines lines_now text text_now left k l t forming =
    subst (λ (i : ℕ). IsForming factors sheet lines_now text_now left i) (omega arith)
    (subst (λ (text : List ℕ). IsForming factors sheet lines_now text left (suc k)) (sym t)
    (subst (λ (lines : LineList). IsForming factors sheet lines text left (suc k)) (sym l) forming))

pub loop-k-preserved : goal.loop-k-preserved
loop-k-preserved c =
    let factors = c.args.engine.now.factors in
    let sheet = c.args.engine.now.sheet in
    let lines = c.loop-k.lines.items in
    let text = c.loop-k.text.items in
    let left = c.loop-k.left in
    let k = c.loop-k.k in
    let cell = seen c.entry_of-entry.result.now in
    let former = c.line_at-former.result in
    let found = next factors sheet lines _ text left k c.entry_of-entry.result.now former c.loop-k.invariant c.as_slice.ensures.value
    c.entry_of-entry.ensures c.line_at-former.ensures.there c.line_at-former.ensures.absent in
    elim c.if-not-stays.branch [
      | then-not-stays+in_ok-line+in_ok-replace+in_ok-put w ↦ (
          moved factors sheet _ _ _ _ _ k (ap (λ v. v.items) w.lines-is) (ap (λ v. v.items) w.text-is)
          (forming-anew factors sheet lines w.put.new.lines.items text w.replace.new.text.items left k cell former w.in_ok-line.line
          c.loop-k.invariant c.entry_of-entry.ensures found w.in_ok-put.ensures
          (w.in_ok-replace.ensures ∙ ap (λ (items : List ℕ). (take (length text - (former.bytes + (left - former.bytes))) text ++ items) ++ drop (length text - (left - former.bytes)) text) (w.as_slice-then-not-stays.ensures.value ∙ w.in_ok-line.ensures.text))
          w.in_ok-line.ensures.line))
      | else-not-stays w ↦ (
          let same = c.stays.ensures w.if-not-stays.false in
          moved factors sheet _ _ _ _ _ k (ap (λ v. v.items) w.lines-is) (ap (λ v. v.items) w.text-is)
          (forming-stays factors sheet lines text left k cell former c.loop-k.invariant c.entry_of-entry.ensures found same))
    ]

pub returns-clause-block : goal.returns-clause-block
returns-clause-block c = forming-block _ _ _ _ _ _ c.loop-k.invariant

pub returns-clause-today : goal.returns-clause-today
returns-clause-today c =
    forming-ends _ _ _ _ _ _ c.loop-k.invariant (let many = length-table in let past = c.loop-k-test.false in omega (arith, many, past))
